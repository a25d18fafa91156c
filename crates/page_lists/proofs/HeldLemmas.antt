-- The pages that are held, and the lists that they are on: how these go on together.
use Rattle.std.proofs.Common.{◌≡◌, ℕ, zero, suc, ◌+◌, ◌<◌, ◌≤◌, ◌||◌, ◌&&◌, not, nat_lt, Bool, true, false, cond, eqb, List, [], ◌∷◌, ◌++◌, length, map, filter, Option, Some, None, refl, sym, ap, ◌∙◌, subst, arith, length-set, get_or-set_other}
use Rattle.std.specs.Prelude.{slice_set, replicate}
use Rattle.std.specs.Option.{IfSome}
use Rattle.std.specs.List.{AllByRecursion}
use Rattle.std.proofs.lemmas.List.{get_or-set_same}
use Rattle.std.proofs.lemmas.Bool.{and_parts, or_parts, or_from, not-true, eq-eqb, eqb-true, eqb-false, true≢false}
use Rattle.machine.specs.declared.record.Kind.{Kind}
use Rattle.machine.specs.declared.record.Kind.TheVariants.{Anon, File}
use Rattle.machine.specs.Slots.{there_and}
use Rattle.machine.specs.Pages.{Content, Memory, OfFile, Page, Pages, page_at, is_anon, is_held, is_held_in, is_number}
use Rattle.machine.specs.Generations.{Listed, Row, Gens, new_gens, of_kind, row_of, has_page, is_listed, entered, added, gens_at, with_gens, IsRow, IsGens}
use Rattle.machine.specs.Aging.{is_marked}
use Rattle.machine.specs.State.{Opening}
use Rattle.machine.specs.Lists.{HeldLists, first_order, kind_at, is_held_of, ListsHeld, AreGenerations, is_fresh, kept_row, kept_gens, Generation, Youngest, SecondYoungest, ByType, seq_in, with_page, with_fresh, hits_at, hits_kept, GoesOn, with_group}
use Rattle.page_lists.proofs.ListedLemmas.{each-filter, each-weaker, each-has, has-entered, has-filter, none-filter, rising-filter, distinct-filter, distinct-front, distinct-back, distinct-apart, distinct-append, each-entered, rising-entered, distinct-entered}

-- a page that is held before and after keeps its group and its type
pub record SamePlaces (before after : Pages) : Type 0 where
  pub same : (p : ℕ) → is_held_in before p ≡ true → is_held_in after p ≡ true → (g : ℕ) (kind : Kind) → there_and (is_held_of g kind) (page_at after p) ≡ there_and (is_held_of g kind) (page_at before p)

-- each page that is there is of a group that has lists
pub record HasLists (pages : Pages) (held : HeldLists) : Type 0 where
  pub group : (p : ℕ) → IfSome (page_at pages p) (λ page. page.group < length held.groups)

-- ---- one list that goes on

-- the pages that stay are those that were there and are kept
has-kept : (keep : ℕ → Bool) (p : ℕ) (xs : List Listed) → has_page p (filter (λ l. keep l.page) xs) ≡ (keep p && has_page p xs)
has-kept keep p [] = elim (keep p) as (λ b. false ≡ (b && false)) [ true ↦ refl | false ↦ refl ]
has-kept keep p (x ∷ xs) = by_page (eqb x.page p) refl (has-kept keep p xs) (keep x.page) refl (keep p) refl
  where
    rest : List Listed
    rest = filter (λ l. keep l.page) xs

    by_page : (b : Bool) → eqb x.page p ≡ b → has_page p rest ≡ (keep p && has_page p xs) → (c : Bool) → keep x.page ≡ c → (d : Bool) → keep p ≡ d → has_page p (cond c (x ∷ rest) rest) ≡ (d && (b || has_page p xs))
    by_page true e k true q true r = ap (λ (v : Bool). v || has_page p rest) e
    by_page true e k true q false r = absurd (true≢false (sym q ∙ ap keep (eqb-true x.page p e) ∙ r))
    by_page true e k false q true r = absurd (true≢false (sym r ∙ ap keep (sym (eqb-true x.page p e)) ∙ q))
    by_page true e k false q false r = k ∙ ap (λ (v : Bool). v && has_page p xs) r
    by_page false e k true q d r = ap (λ (v : Bool). v || has_page p rest) e ∙ k ∙ ap (λ (v : Bool). v && has_page p xs) r
    by_page false e k false q d r = k ∙ ap (λ (v : Bool). v && has_page p xs) r

-- a page enters the row of its type
has-added : (content : Content) (kind : Kind) (f seq p : ℕ) (x : Gens) → has_page p (row_of kind (added f (kind_at content) seq x)).pages ≡ ((of_kind kind (is_anon content) (not (is_anon content)) && eqb f p) || has_page p (row_of kind x).pages)
has-added Memory Anon f seq p x = has-entered f seq p x.anon.pages
has-added Memory File f seq p x = refl
has-added (OfFile file page) Anon f seq p x = refl
has-added (OfFile file page) File f seq p x = has-entered f seq p x.file.pages

-- ---- the lists of one group

row-kept : (after : Pages) (kind : Kind) (x : Gens) → row_of kind (kept_gens after x) ≡ kept_row after (row_of kind x)
row-kept after Anon x = refl
row-kept after File x = refl

gens_at-kept : (after : Pages) (groups : List Gens) (g : ℕ) → gens_at (map (kept_gens after) groups) g ≡ kept_gens after (gens_at groups g)
gens_at-kept after [] g = refl
gens_at-kept after (x ∷ groups) zero = refl
gens_at-kept after (x ∷ groups) (suc g) = gens_at-kept after groups g

length-kept : (after : Pages) (groups : List Gens) → length (map (kept_gens after) groups) ≡ length groups
length-kept after [] = refl
length-kept after (x ∷ groups) = ap suc (length-kept after groups)

-- what holds of the lists that are set, and of those that stood there, holds of those that stand there then
pub at-set : (P : Gens → Type 0) (groups : List Gens) (h g : ℕ) (x : Gens) → (h ≡ g → P x) → P (gens_at groups g) → P (gens_at (with_gens groups h x) g)
at-set P [] h g x here other = other
at-set P (y ∷ groups) zero zero x here other = here refl
at-set P (y ∷ groups) zero (suc g) x here other = other
at-set P (y ∷ groups) (suc h) zero x here other = other
at-set P (y ∷ groups) (suc h) (suc g) x here other = at-set P groups h g x (λ e. here (ap suc e)) other

-- ---- the pages

not-of : (g : ℕ) (kind : Kind) (o : Option Page) → there_and is_held o ≡ false → there_and (is_held_of g kind) o ≡ false
not-of g kind None h = refl
not-of g kind (Some page) h = ap (λ (b : Bool). b && ((eqb page.group g) && of_kind kind (is_anon page.content) (not (is_anon page.content)))) h

pub of-held : (g : ℕ) (kind : Kind) (o : Option Page) → there_and (is_held_of g kind) o ≡ true → there_and is_held o ≡ true
of-held g kind None h = h
of-held g kind (Some page) h = (and_parts (is_held page) (eqb page.group g && of_kind kind (is_anon page.content) (not (is_anon page.content))) h).0

-- a page that does not come keeps its place, if it is held then
old-place : (before after : Pages) → SamePlaces before after → (g : ℕ) (kind : Kind) (p : ℕ) → is_fresh before after p ≡ false → (is_held_in after p && there_and (is_held_of g kind) (page_at before p)) ≡ there_and (is_held_of g kind) (page_at after p)
old-place before after places g kind p none = by_held (is_held_in after p) refl (is_held_in before p) refl none
  where
    by_held : (a : Bool) → is_held_in after p ≡ a → (b : Bool) → is_held_in before p ≡ b → (a && not b) ≡ false → (a && there_and (is_held_of g kind) (page_at before p)) ≡ there_and (is_held_of g kind) (page_at after p)
    by_held true ea true eb h = sym (places.same p eb ea g kind)
    by_held true ea false eb h = absurd (true≢false h)
    by_held false ea b eb h = sym (not-of g kind (page_at after p) ea)

-- ---- how the lists go on

abbrev staying : Pages → HeldLists → List Gens
staying after held = map (kept_gens after) held.groups

module _ (before after : Pages) (held : HeldLists) (were : ListsHeld before held) where
  has-stayed : (g : ℕ) (kind : Kind) (p : ℕ) → has_page p (row_of kind (gens_at (staying after held) g)).pages ≡ (is_held_in after p && there_and (is_held_of g kind) (page_at before p))
  has-stayed g kind p =
      ap (λ (x : Gens). has_page p (row_of kind x).pages) (gens_at-kept after held.groups g)
      ∙ ap (λ (r : Row). has_page p r.pages) (row-kept after kind (gens_at held.groups g))
      ∙ has-kept (is_held_in after) p (row_of kind (gens_at held.groups g)).pages
      ∙ ap (λ (b : Bool). is_held_in after p && b) (were.rows g kind p)

  -- a page that was not held is on no list
  not-stayed : (g : ℕ) (kind : Kind) (p : ℕ) → is_held_in before p ≡ false → has_page p (row_of kind (gens_at (staying after held) g)).pages ≡ false
  not-stayed g kind p h =
      has-stayed g kind p ∙ ap (λ (b : Bool). is_held_in after p && b) (not-of g kind (page_at before p) h)
      ∙ elim (is_held_in after p) as (λ (b : Bool). (b && false) ≡ false) [ true ↦ refl | false ↦ refl ]

  has-come : (g : ℕ) (kind : Kind) (f : ℕ) (page : Page) (seq p : ℕ) → page.group < length (staying after held)
      → has_page p (row_of kind (gens_at (with_gens (staying after held) page.group (added f (kind_at page.content) seq (gens_at (staying after held) page.group))) g)).pages
      ≡ (((eqb page.group g && of_kind kind (is_anon page.content) (not (is_anon page.content))) && eqb f p) || has_page p (row_of kind (gens_at (staying after held) g)).pages)
  has-come g kind f page seq p within = by_group (eqb page.group g) refl
    where
      new : Gens
      new = added f (kind_at page.content) seq (gens_at (staying after held) page.group)

      by_group : (b : Bool) → eqb page.group g ≡ b → has_page p (row_of kind (gens_at (with_gens (staying after held) page.group new) g)).pages
          ≡ (((b && of_kind kind (is_anon page.content) (not (is_anon page.content))) && eqb f p) || has_page p (row_of kind (gens_at (staying after held) g)).pages)
      by_group true e =
          subst (λ (i : ℕ). has_page p (row_of kind (gens_at (with_gens (staying after held) page.group new) i)).pages ≡ ((of_kind kind (is_anon page.content) (not (is_anon page.content)) && eqb f p) || has_page p (row_of kind (gens_at (staying after held) i)).pages)) (eqb-true page.group g e)
          (ap (λ (x : Gens). has_page p (row_of kind x).pages) (get_or-set_same (staying after held) page.group new new_gens within) ∙ has-added page.content kind f seq p (gens_at (staying after held) page.group))
      by_group false e = ap (λ (x : Gens). has_page p (row_of kind x).pages) (get_or-set_other (staying after held) page.group g new new_gens (λ q. eqb-false page.group g e (sym q)))

  alone : (a : Bool) → ((a && true) || false) ≡ (true && a)
  alone true = refl
  alone false = refl

  beside : (a b : Bool) → ((a && false) || b) ≡ b
  beside true b = refl
  beside false b = refl

  module _ (places : SamePlaces before after) (groups : HasLists after held) (generation : Generation) where
    -- the page that comes is in the row of its group and type, and the others are in theirs
    rows-come : (f : ℕ) → ((p : ℕ) → eqb f p ≡ is_fresh before after p) → (o : Option Page) → page_at after f ≡ o → (g : ℕ) (kind : Kind) (p : ℕ)
        → has_page p (row_of kind (gens_at (with_page generation f o (staying after held)) g)).pages ≡ there_and (is_held_of g kind) (page_at after p)
    rows-come f which None e g kind p = absurd (true≢false (sym (eq-eqb f f refl) ∙ which f ∙ ap (λ (o : Option Page). there_and is_held o && not (is_held_in before f)) e))
    rows-come f which (Some page) e g kind p =
        has-come g kind f page (seq_in generation (kind_at page.content) (gens_at (staying after held) page.group)) p within
        ∙ by_page (eqb f p) refl
      where
        fresh : (is_held_in after f ≡ true) × (not (is_held_in before f) ≡ true)
        fresh = and_parts (is_held_in after f) (not (is_held_in before f)) (sym (which f) ∙ eq-eqb f f refl)

        within : page.group < length (staying after held)
        within = subst (λ (n : ℕ). page.group < n) (sym (length-kept after held.groups)) (subst (λ (o : Option Page). IfSome o (λ x. x.group < length held.groups)) e (groups.group f))

        place : Bool
        place = eqb page.group g && of_kind kind (is_anon page.content) (not (is_anon page.content))

        by_page : (b : Bool) → eqb f p ≡ b → ((place && b) || has_page p (row_of kind (gens_at (staying after held) g)).pages) ≡ there_and (is_held_of g kind) (page_at after p)
        by_page true t = subst (λ (i : ℕ). ((place && true) || has_page i (row_of kind (gens_at (staying after held) g)).pages) ≡ there_and (is_held_of g kind) (page_at after i)) (eqb-true f p t)
            (ap (λ (b : Bool). (place && true) || b) (not-stayed g kind f (not-true (is_held_in before f) fresh.1))
            ∙ alone place
            ∙ sym (ap (λ (o : Option Page). there_and (is_held_of g kind) o) e ∙ ap (λ (b : Bool). b && place) (sym (ap (λ (o : Option Page). there_and is_held o) e) ∙ fresh.0)))
        by_page false t = beside place (has_page p (row_of kind (gens_at (staying after held) g)).pages) ∙ has-stayed g kind p ∙ old-place before after places g kind p (sym (which p) ∙ t)

    rows-on : (fresh : Option ℕ) → ((p : ℕ) → is_number fresh p ≡ is_fresh before after p) → (g : ℕ) (kind : Kind) (p : ℕ)
        → has_page p (row_of kind (gens_at (with_fresh generation after fresh (staying after held)) g)).pages ≡ there_and (is_held_of g kind) (page_at after p)
    rows-on None which g kind p = has-stayed g kind p ∙ old-place before after places g kind p (sym (which p))
    rows-on (Some f) which g kind p = rows-come f which (page_at after f) refl g kind p

-- whatever changes, the lists have the pages that are held
pub held-go_on : (generation : Generation) (before after : Pages) (held held' : HeldLists) → GoesOn generation before held after held' → ListsHeld before held → SamePlaces before after → HasLists after held → ListsHeld after held'
held-go_on generation before after held held' goes were places groups = record {
  rows = λ g kind p. ap (λ (xs : List Gens). has_page p (row_of kind (gens_at xs g)).pages) goes.groups ∙ rows-on before after held were places groups generation goes.fresh goes.which g kind p;
  marked = λ p h. (let both = and_parts (is_held_in before p && is_held_in after p) (is_marked held.marks p) (sym (goes.marks p) ∙ h) in (and_parts (is_held_in before p) (is_held_in after p) both.0).1);
  counted = λ p gone. goes.hits p ∙ ap (λ (b : Bool). hits_kept generation (is_held_in before p) b (hits_at held.hits p)) gone;
}

-- ---- nothing changes

-- a count stays where its page stays, held or not
pub hits-stay : (generation : Generation) (a b : Bool) (hits : ℕ) → b ≡ a → (a ≡ false → hits ≡ 0) → hits ≡ hits_kept generation a b hits
hits-stay generation true true hits same none = refl
hits-stay generation false false hits same none = none refl
hits-stay generation true false hits same none = absurd (true≢false (sym same))
hits-stay generation false true hits same none = absurd (true≢false same)

filter-all : (test : Listed → Bool) (xs : List Listed) → AllByRecursion (λ l. test l ≡ true) xs → filter test xs ≡ xs
filter-all test [] h = refl
filter-all test (x ∷ xs) h = rw h.0 (ap (λ ys. x ∷ ys) (filter-all test xs h.1))

all-kept : (after : Pages) (groups : List Gens) → ((g : ℕ) → kept_gens after (gens_at groups g) ≡ gens_at groups g) → map (kept_gens after) groups ≡ groups
all-kept after [] h = refl
all-kept after (x ∷ groups) h = ap (λ (y : Gens). y ∷ map (kept_gens after) groups) (h 0) ∙ ap (λ (ys : List Gens). x ∷ ys) (all-kept after groups (λ g. h (suc g)))

row-still : (pages : Pages) (held : HeldLists) → ListsHeld pages held → (g : ℕ) (kind : Kind) → filter (λ l. is_held_in pages l.page) (row_of kind (gens_at held.groups g)).pages ≡ (row_of kind (gens_at held.groups g)).pages
row-still pages held were g kind =
    let row : List Listed = (row_of kind (gens_at held.groups g)).pages in
    filter-all (λ l. is_held_in pages l.page) row
    (each-weaker (λ l. has_page l.page row ≡ true) (λ l. is_held_in pages l.page ≡ true) (λ l h. of-held g kind (page_at pages l.page) (sym (were.rows g kind l.page) ∙ h)) row (each-has row))

-- no list and no mark changes, where no page does
pub goes-still : (generation : Generation) (pages pages' : Pages) (held : HeldLists) → ListsHeld pages held → pages' ≡ pages → GoesOn generation pages held pages' held
goes-still generation pages pages' held were same = subst (λ (after : Pages). GoesOn generation pages held after held) (sym same) (record {
  fresh = None;
  which = λ p. none (is_held_in pages p);
  groups = sym (all-kept pages held.groups (λ g.
      ap (λ (xs : List Listed). let x : Gens = record { max_seq = (gens_at held.groups g).max_seq; anon = record { min_seq = (gens_at held.groups g).anon.min_seq; pages = xs }; file = kept_row pages (gens_at held.groups g).file } in x) (row-still pages held were g Anon)
      ∙ ap (λ (xs : List Listed). let x : Gens = record { max_seq = (gens_at held.groups g).max_seq; anon = (gens_at held.groups g).anon; file = record { min_seq = (gens_at held.groups g).file.min_seq; pages = xs } } in x) (row-still pages held were g File)));
  size = refl;
  marks = λ p. by_mark p (is_marked held.marks p) refl;
  counts = refl;
  hits = λ p. hits-stay generation (is_held_in pages p) (is_held_in pages p) (hits_at held.hits p) refl (were.counted p);
})
  where
    none : (b : Bool) → false ≡ (b && not b)
    none true = refl
    none false = refl

    by_mark : (p : ℕ) (b : Bool) → is_marked held.marks p ≡ b → is_marked held.marks p ≡ (is_held_in pages p && is_held_in pages p && is_marked held.marks p)
    by_mark p true e = e ∙ ap (λ (b : Bool). b && b && true) (sym (were.marked p e)) ∙ ap (λ (b : Bool). is_held_in pages p && is_held_in pages p && b) (sym e)
    by_mark p false e = e ∙ unmarked (is_held_in pages p) ∙ ap (λ (b : Bool). is_held_in pages p && is_held_in pages p && b) (sym e)
      where
        unmarked : (b : Bool) → false ≡ (b && b && false)
        unmarked true = refl
        unmarked false = refl

-- ---- a group more

pub gens_at-more : (groups : List Gens) (g : ℕ) → gens_at (groups ++ new_gens ∷ []) g ≡ gens_at groups g
gens_at-more [] zero = refl
gens_at-more [] (suc g) = refl
gens_at-more (x ∷ groups) zero = refl
gens_at-more (x ∷ groups) (suc g) = gens_at-more groups g

pub held-group : (pages : Pages) (held : HeldLists) → ListsHeld pages held → ListsHeld pages (with_group held)
held-group pages held were = record {
  rows = λ g kind p. ap (λ (x : Gens). has_page p (row_of kind x).pages) (gens_at-more held.groups g) ∙ were.rows g kind p;
  marked = were.marked;
  counted = were.counted;
}

pub generations-group : (held : HeldLists) → AreGenerations held → AreGenerations (with_group held)
generations-group held sound g = subst IsGens (sym (gens_at-more held.groups g)) (sound g)

-- ---- how many groups have lists, and their numbers

length-page : (generation : Generation) (p : ℕ) (o : Option Page) (groups : List Gens) → length (with_page generation p o groups) ≡ length groups
length-page generation p None groups = refl
length-page generation p (Some page) groups = length-set groups page.group _

length-fresh : (generation : Generation) (after : Pages) (fresh : Option ℕ) (groups : List Gens) → length (with_fresh generation after fresh groups) ≡ length groups
length-fresh generation after None groups = refl
length-fresh generation after (Some p) groups = length-page generation p (page_at after p) groups

pub goes_length : (generation : Generation) (before after : Pages) (held held' : HeldLists) → GoesOn generation before held after held' → length held'.groups ≡ length held.groups
goes_length generation before after held held' goes =
    ap (λ (xs : List Gens). length xs) goes.groups ∙ length-fresh generation after goes.fresh (map (kept_gens after) held.groups) ∙ length-kept after held.groups

-- a page that enters changes no number
page-keeps : {X : Type 0} (read : Gens → X) → ((p : ℕ) (kind : Kind) (seq : ℕ) (x : Gens) → read (added p kind seq x) ≡ read x) → (generation : Generation) (p : ℕ) (o : Option Page) (groups : List Gens) (g : ℕ)
    → read (gens_at (with_page generation p o groups) g) ≡ read (gens_at groups g)
page-keeps read same generation p None groups g = refl
page-keeps read same generation p (Some page) groups g =
    at-set (λ (x : Gens). read x ≡ read (gens_at groups g)) groups page.group g (added p (kind_at page.content) (seq_in generation (kind_at page.content) (gens_at groups page.group)) (gens_at groups page.group))
    (λ e. same p (kind_at page.content) (seq_in generation (kind_at page.content) (gens_at groups page.group)) (gens_at groups page.group) ∙ ap (λ (i : ℕ). read (gens_at groups i)) e) refl

fresh-keeps : {X : Type 0} (read : Gens → X) → ((p : ℕ) (kind : Kind) (seq : ℕ) (x : Gens) → read (added p kind seq x) ≡ read x) → (generation : Generation) (after : Pages) (fresh : Option ℕ) (groups : List Gens) (g : ℕ)
    → read (gens_at (with_fresh generation after fresh groups) g) ≡ read (gens_at groups g)
fresh-keeps read same generation after None groups g = refl
fresh-keeps read same generation after (Some p) groups g = page-keeps read same generation p (page_at after p) groups g

pub goes-max : (generation : Generation) (before after : Pages) (held held' : HeldLists) → GoesOn generation before held after held' → (g : ℕ) → (gens_at held'.groups g).max_seq ≡ (gens_at held.groups g).max_seq
goes-max generation before after held held' goes g =
    ap (λ (xs : List Gens). (gens_at xs g).max_seq) goes.groups
    ∙ fresh-keeps (λ x. x.max_seq) (λ p kind seq x. refl) generation after goes.fresh (map (kept_gens after) held.groups) g
    ∙ ap (λ (x : Gens). x.max_seq) (gens_at-kept after held.groups g)

pub goes-min : (generation : Generation) (before after : Pages) (held held' : HeldLists) → GoesOn generation before held after held' → (g : ℕ) (kind : Kind) → (row_of kind (gens_at held'.groups g)).min_seq ≡ (row_of kind (gens_at held.groups g)).min_seq
goes-min generation before after held held' goes g kind =
    ap (λ (xs : List Gens). (row_of kind (gens_at xs g)).min_seq) goes.groups
    ∙ fresh-keeps (λ x. (row_of kind x).min_seq) (by_kind kind) generation after goes.fresh (map (kept_gens after) held.groups) g
    ∙ ap (λ (x : Gens). (row_of kind x).min_seq) (gens_at-kept after held.groups g) ∙ ap (λ (r : Row). r.min_seq) (row-kept after kind (gens_at held.groups g))
  where
    by_kind : (kind : Kind) (p : ℕ) (entering : Kind) (seq : ℕ) (x : Gens) → (row_of kind (added p entering seq x)).min_seq ≡ (row_of kind x).min_seq
    by_kind Anon p entering seq x = refl
    by_kind File p entering seq x = refl

-- ---- lists stay sound

kept-rows : (after : Pages) (top : ℕ) (row : Row) → IsRow top row → IsRow top (kept_row after row)
kept-rows after top row r = record {
  within = each-filter (λ l. (row.min_seq ≤ l.seq) × (l.seq ≤ top)) (λ l. is_held_in after l.page) row.pages r.within;
  rising = rising-filter (λ l. is_held_in after l.page) row.pages r.rising;
  two = r.two;
  four = r.four;
}

kept-sound : (after : Pages) (x : Gens) → IsGens x → IsGens (kept_gens after x)
kept-sound after x s =
    let stays : Listed → Bool = λ l. is_held_in after l.page in
    record {
      anon = kept-rows after x.max_seq x.anon s.anon;
      file = kept-rows after x.max_seq x.file s.file;
      distinct =
          distinct-append (filter stays x.anon.pages) (filter stays x.file.pages) (distinct-filter stays x.anon.pages (distinct-front x.anon.pages x.file.pages s.distinct))
          (distinct-filter stays x.file.pages (distinct-back x.anon.pages x.file.pages s.distinct))
          (λ p h. none-filter stays p x.file.pages (distinct-apart x.anon.pages x.file.pages s.distinct p (has-filter stays p x.anon.pages h)));
    }

row-entered : (p seq top : ℕ) (row : Row) → IsRow top row → row.min_seq ≤ seq → seq ≤ top → IsRow top (let r : Row = record { min_seq = row.min_seq; pages = entered p seq row.pages } in r)
row-entered p seq top row r low high = record {
  within = each-entered (λ l. (row.min_seq ≤ l.seq) × (l.seq ≤ top)) p seq row.pages (low, high) r.within;
  rising = rising-entered p seq row.pages r.rising;
  two = r.two;
  four = r.four;
}

-- a page that was on no list of the group enters one of its generations
pub added-sound : (p : ℕ) (kind : Kind) (seq : ℕ) (x : Gens) → IsGens x → is_listed x p ≡ false → (row_of kind x).min_seq ≤ seq → seq ≤ x.max_seq → IsGens (added p kind seq x)
added-sound p Anon seq x s none low high =
    let alone = or_parts (has_page p x.file.pages) (has_page p x.anon.pages) none in
    record {
      anon = row-entered p seq x.max_seq x.anon s.anon low high;
      file = s.file;
      distinct =
          distinct-append (entered p seq x.anon.pages) x.file.pages (distinct-entered p seq x.anon.pages alone.1 (distinct-front x.anon.pages x.file.pages s.distinct)) (distinct-back x.anon.pages x.file.pages s.distinct)
          (λ q h. by_page q (eqb p q) refl alone.0 (sym (has-entered p seq q x.anon.pages) ∙ h));
    }
  where
    by_page : (q : ℕ) (b : Bool) → eqb p q ≡ b → has_page p x.file.pages ≡ false → (eqb p q || has_page q x.anon.pages) ≡ true → has_page q x.file.pages ≡ false
    by_page q true e alone h = subst (λ (i : ℕ). has_page i x.file.pages ≡ false) (eqb-true p q e) alone
    by_page q false e alone h = distinct-apart x.anon.pages x.file.pages s.distinct q (ap (λ (b : Bool). b || has_page q x.anon.pages) (sym e) ∙ h)
added-sound p File seq x s none low high =
    let alone = or_parts (has_page p x.file.pages) (has_page p x.anon.pages) none in
    record {
      anon = s.anon;
      file = row-entered p seq x.max_seq x.file s.file low high;
      distinct =
          distinct-append x.anon.pages (entered p seq x.file.pages) (distinct-front x.anon.pages x.file.pages s.distinct) (distinct-entered p seq x.file.pages alone.0 (distinct-back x.anon.pages x.file.pages s.distinct))
          (λ q h. has-entered p seq q x.file.pages ∙ by_page q (eqb p q) refl alone.1 h ∙ distinct-apart x.anon.pages x.file.pages s.distinct q h);
    }
  where
    by_page : (q : ℕ) (b : Bool) → eqb p q ≡ b → has_page p x.anon.pages ≡ false → has_page q x.anon.pages ≡ true → (b || has_page q x.file.pages) ≡ has_page q x.file.pages
    by_page q true e alone h = absurd (true≢false (sym h ∙ subst (λ (i : ℕ). has_page i x.anon.pages ≡ false) (eqb-true p q e) alone))
    by_page q false e alone h = refl

-- a type's oldest generation is not its youngest
pub oldest-youngest : (kind : Kind) (x : Gens) → IsGens x → (row_of kind x).min_seq + 1 ≤ x.max_seq
oldest-youngest Anon x s = s.anon.two
oldest-youngest File x s = s.file.two

-- the generation that a page enters is one of its type's
pub seq-within : (generation : Generation) (kind : Kind) (x : Gens) → IsGens x → ((row_of kind x).min_seq ≤ seq_in generation kind x) × (seq_in generation kind x ≤ x.max_seq)
seq-within generation Anon x s = by_generation generation
  where
    by_generation : (generation : Generation) → (x.anon.min_seq ≤ seq_in generation Anon x) × (seq_in generation Anon x ≤ x.max_seq)
    by_generation Youngest = (let two = s.anon.two in omega arith, omega arith)
    by_generation SecondYoungest = (let two = s.anon.two in omega arith, omega arith)
    by_generation ByType = (let two = s.anon.two in omega arith, omega arith)
seq-within generation File x s = by_generation generation
  where
    by_old : (is_old : Bool) → (x.file.min_seq ≤ cond is_old (x.file.min_seq + 1) x.file.min_seq) × (cond is_old (x.file.min_seq + 1) x.file.min_seq ≤ x.max_seq)
    by_old true = (omega arith, s.file.two)
    by_old false = (omega arith, (let two = s.file.two in omega arith))

    by_generation : (generation : Generation) → (x.file.min_seq ≤ seq_in generation File x) × (seq_in generation File x ≤ x.max_seq)
    by_generation Youngest = (let two = s.file.two in omega arith, omega arith)
    by_generation SecondYoungest = (let two = s.file.two in omega arith, omega arith)
    by_generation ByType = by_old (nat_lt (x.file.min_seq + 2) x.max_seq)

page-sound : (generation : Generation) (p : ℕ) (o : Option Page) (groups : List Gens) → ((g : ℕ) → IsGens (gens_at groups g)) → ((g : ℕ) → is_listed (gens_at groups g) p ≡ false) → (g : ℕ) → IsGens (gens_at (with_page generation p o groups) g)
page-sound generation p None groups sound none g = sound g
page-sound generation p (Some page) groups sound none g =
    let x : Gens = gens_at groups page.group in
    let within = seq-within generation (kind_at page.content) x (sound page.group) in
    at-set IsGens groups page.group g (added p (kind_at page.content) (seq_in generation (kind_at page.content) x) x) (λ e. added-sound p (kind_at page.content) (seq_in generation (kind_at page.content) x) x (sound page.group) (none page.group) within.0 within.1) (sound g)

fresh-sound : (generation : Generation) (after : Pages) (fresh : Option ℕ) (groups : List Gens) → ((g : ℕ) → IsGens (gens_at groups g)) → ((p : ℕ) → is_number fresh p ≡ true → (g : ℕ) → is_listed (gens_at groups g) p ≡ false) → (g : ℕ)
    → IsGens (gens_at (with_fresh generation after fresh groups) g)
fresh-sound generation after None groups sound none g = sound g
fresh-sound generation after (Some p) groups sound none g = page-sound generation p (page_at after p) groups sound (none p (eq-eqb p p refl)) g

-- each group's lists stay sound
pub generations-go_on : (generation : Generation) (before after : Pages) (held held' : HeldLists) → GoesOn generation before held after held' → ListsHeld before held → AreGenerations held → AreGenerations held'
generations-go_on generation before after held held' goes were sound g =
    subst (λ (xs : List Gens). IsGens (gens_at xs g)) (sym goes.groups)
    (fresh-sound generation after goes.fresh (map (kept_gens after) held.groups) (λ i. subst IsGens (sym (gens_at-kept after held.groups i)) (kept-sound after (gens_at held.groups i) (sound i))) unlisted g)
  where
    unlisted : (p : ℕ) → is_number goes.fresh p ≡ true → (i : ℕ) → is_listed (gens_at (map (kept_gens after) held.groups) i) p ≡ false
    unlisted p h i =
        let fresh = and_parts (is_held_in after p) (not (is_held_in before p)) (sym (goes.which p) ∙ h) in
        let was : is_held_in before p ≡ false = not-true (is_held_in before p) fresh.1 in
        or_from (has_page p (gens_at (map (kept_gens after) held.groups) i).file.pages) (has_page p (gens_at (map (kept_gens after) held.groups) i).anon.pages) (not-stayed before after held were i File p was) (not-stayed before after held were i Anon p was)

-- ---- the opening

new-row : IsRow 3 (record { min_seq = 0; pages = [] })
new-row = record { within = tt; rising = tt; two = omega arith; four = omega arith }

pub new-sound : IsGens new_gens
new-sound = record { anon = new-row; file = new-row; distinct = tt }

first-at : (g : ℕ) → gens_at (new_gens ∷ []) g ≡ new_gens
first-at zero = refl
first-at (suc g) = refl

-- no page is held, and none is marked
pub first-held : (opening : Opening) → ListsHeld [] (first_order opening).held
first-held opening = record {
  rows = λ g kind p. ap (λ (x : Gens). has_page p (row_of kind x).pages) (first-at g) ∙ none kind p;
  marked = λ p h. absurd (true≢false (sym h ∙ unmarked (opening.frames + opening.swap) p));
  counted = λ p gone. unhit (opening.frames + opening.swap) p;
}
  where
    none : (kind : Kind) (p : ℕ) → has_page p (row_of kind new_gens).pages ≡ false
    none Anon p = refl
    none File p = refl

    unmarked : (n p : ℕ) → is_marked (replicate n false) p ≡ false
    unmarked zero p = refl
    unmarked (suc n) zero = refl
    unmarked (suc n) (suc p) = unmarked n p

    unhit : (n p : ℕ) → hits_at (replicate n 0) p ≡ 0
    unhit zero p = refl
    unhit (suc n) zero = refl
    unhit (suc n) (suc p) = unhit n p

pub first-generations : (opening : Opening) → AreGenerations (first_order opening).held
first-generations opening g = subst IsGens (sym (first-at g)) new-sound
