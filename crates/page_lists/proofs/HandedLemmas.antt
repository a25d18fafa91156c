-- Lists that go over to another group's: how they stand there, and that all lists stay sound.
use Rattle.std.proofs.Common.{◌≡◌, ◌≢◌, inl, inr, ℕ, ◌-◌, ◌<◌, ◌≤◌, ◌==◌, ◌&&◌, ◌||◌, not, nat_le, nat_lt, Bool, true, false, cond, List, [], ◌∷◌, ◌++◌, length, map, filter, Option, Some, None, refl, sym, ap, ◌∙◌, subst, arith, length-set}
use Rattle.std.specs.Prelude.{option_map}
use Rattle.std.specs.List.{AllByRecursion}
use Rattle.std.proofs.lemmas.List.{get_or-set_same, get_or-set_other}
use Rattle.std.proofs.lemmas.Bool.{and_parts, or_parts, or_from, leb-true, ltb-true, eq-eqb, eqb-true, ne_eqb}
use Rattle.machine.specs.declared.config.Placement.{Placement}
use Rattle.machine.specs.declared.config.Placement.TheVariants.{Own}
use Rattle.machine.specs.declared.record.Kind.{Kind}
use Rattle.machine.specs.declared.record.Kind.TheVariants.{Anon, File}
use Rattle.machine.specs.Slots.{there_and}
use Rattle.machine.specs.Pages.{Page, Pages, page_at, is_anon, is_held}
use Rattle.machine.specs.Lists.{HeldLists, is_held_of, ListsHeld, AreGenerations}
use Rattle.machine.specs.Step.{heir, regrouped}
use Rattle.machine.proofs.TreeLemmas.{eq_cases}
use Rattle.page_lists.proofs.RegroupedLemmas.{held-framed, heir-framed, regrouped-test}
use Rattle.machine.specs.Generations.{Listed, Row, Gens, new_gens, of_kind, row_of, has_page, is_listed, at_seq, taken_in, taken_over, emptied, handed_over, gens_at, with_gens, IsRising, AreDistinct, IsRow, IsGens}
use Rattle.machine.proofs.Values.{unlike}
use Rattle.page_lists.proofs.ListedLemmas.{each-append, each-filter, each-map, each-weaker, each-test, has_page-append, has-split, has-renumbered, has-filter, none-filter, or-behind, opposite-numbers, rising-filter, rising-append, distinct-filter, distinct-append, distinct-split, distinct-front, distinct-back, distinct-apart}

-- ---- one row

each-any : (ls : List Listed) → AllByRecursion (λ l. Unit {0}) ls
each-any [] = tt
each-any (l ∷ ls) = (tt, each-any ls)

-- pages of one number are no falling row
rising-same : (seq : ℕ) (ls : List Listed) → IsRising (map (at_seq seq) ls)
rising-same seq [] = tt
rising-same seq (l ∷ ls) = (each-map (λ k. Unit {0}) (λ k. seq ≤ k.seq) (at_seq seq) (λ k any. omega arith) ls (each-any ls), rising-same seq ls)

distinct-renumbered : (seq : ℕ) (ls : List Listed) → AreDistinct ls → AreDistinct (map (at_seq seq) ls)
distinct-renumbered seq [] h = tt
distinct-renumbered seq (l ∷ ls) h = (has-renumbered (λ k. seq) l.page ls ∙ h.0, distinct-renumbered seq ls h.1)

-- the pages that came are there, and those that were
pub has-taken : (seq q : ℕ) (more pages : List Listed) → has_page q (taken_in seq more pages) ≡ (has_page q more || has_page q pages)
has-taken seq q more pages =
    has_page-append q (filter (λ l. nat_le l.seq seq) pages) (map (at_seq seq) more ++ filter (λ l. nat_lt seq l.seq) pages)
    ∙ ap (λ b. has_page q (filter (λ l. nat_le l.seq seq) pages) || b) (has_page-append q (map (at_seq seq) more) (filter (λ l. nat_lt seq l.seq) pages) ∙ ap (λ b. b || has_page q (filter (λ l. nat_lt seq l.seq) pages)) (has-renumbered (λ k. seq) q more))
    ∙ or-behind (has_page q more) (has_page q (filter (λ l. nat_le l.seq seq) pages)) (has_page q (filter (λ l. nat_lt seq l.seq) pages)) (has_page q pages)
    (has-split (λ l. nat_le l.seq seq) (λ l. nat_lt seq l.seq) (λ l. opposite-numbers l.seq seq) q pages)

row-taken : (seq top : ℕ) (more : List Listed) (row : Row) → IsRow top row → row.min_seq ≤ seq → seq ≤ top → IsRow top (let r : Row = record { min_seq = row.min_seq; pages = taken_in seq more row.pages } in r)
row-taken seq top more row r low high =
    record {
      within = each-append between older (map (at_seq seq) more ++ younger) (each-filter between (λ l. nat_le l.seq seq) row.pages r.within)
          (each-append between (map (at_seq seq) more) younger (each-map (λ k. Unit {0}) between (at_seq seq) (λ k any. (low, high)) more (each-any more)) (each-filter between (λ l. nat_lt seq l.seq) row.pages r.within));
      rising = rising-append seq older (map (at_seq seq) more ++ younger) (each-weaker (λ l. nat_le l.seq seq ≡ true) (λ l. l.seq ≤ seq) (λ l e. leb-true l.seq seq e) older (each-test (λ l. nat_le l.seq seq) row.pages))
          (each-append (λ l. seq ≤ l.seq) (map (at_seq seq) more) younger (each-map (λ k. Unit {0}) (λ l. seq ≤ l.seq) (at_seq seq) (λ k any. omega arith) more (each-any more)) no_older)
          (rising-filter (λ l. nat_le l.seq seq) row.pages r.rising)
          (rising-append seq (map (at_seq seq) more) younger (each-map (λ k. Unit {0}) (λ l. l.seq ≤ seq) (at_seq seq) (λ k any. omega arith) more (each-any more)) no_older (rising-same seq more) (rising-filter (λ l. nat_lt seq l.seq) row.pages r.rising));
      two = r.two;
      four = r.four;
    }
  where
    between : Listed → Type 0
    between l = (row.min_seq ≤ l.seq) × (l.seq ≤ top)

    older : List Listed
    older = filter (λ l. nat_le l.seq seq) row.pages

    younger : List Listed
    younger = filter (λ l. nat_lt seq l.seq) row.pages

    no_older : AllByRecursion (λ l. seq ≤ l.seq) younger
    no_older = each-weaker (λ l. nat_lt seq l.seq ≡ true) (λ l. seq ≤ l.seq) (λ l e. let lt : seq < l.seq = ltb-true seq l.seq e in omega arith) younger (each-test (λ l. nat_lt seq l.seq) row.pages)

distinct-taken : (seq : ℕ) (more pages : List Listed) → AreDistinct more → AreDistinct pages → ((q : ℕ) → has_page q more ≡ true → has_page q pages ≡ false) → AreDistinct (taken_in seq more pages)
distinct-taken seq more pages ones others apart =
    distinct-append (filter (λ l. nat_le l.seq seq) pages) (map (at_seq seq) more ++ filter (λ l. nat_lt seq l.seq) pages) (distinct-filter (λ l. nat_le l.seq seq) pages others)
    (distinct-append (map (at_seq seq) more) (filter (λ l. nat_lt seq l.seq) pages) (distinct-renumbered seq more ones) (distinct-filter (λ l. nat_lt seq l.seq) pages others)
    (λ q h. none-filter (λ l. nat_lt seq l.seq) q pages (apart q (sym (has-renumbered (λ k. seq) q more) ∙ h))))
    (λ q h.
    has_page-append q (map (at_seq seq) more) (filter (λ l. nat_lt seq l.seq) pages)
    ∙ or_from (has_page q (map (at_seq seq) more)) (has_page q (filter (λ l. nat_lt seq l.seq) pages))
    (has-renumbered (λ k. seq) q more ∙ not_both (has_page q more) refl q (has-filter (λ l. nat_le l.seq seq) q pages h))
    (distinct-split (λ l. nat_le l.seq seq) (λ l. nat_lt seq l.seq) (λ l. opposite-numbers l.seq seq) pages others q h))
  where
    not_both : (b : Bool) → b ≡ b → (q : ℕ) → has_page q pages ≡ true → has_page q more ≡ false
    not_both b e q h = by_test (has_page q more) refl
      where
        by_test : (c : Bool) → has_page q more ≡ c → has_page q more ≡ false
        by_test true is = unlike (has_page q pages) h (apart q is)
        by_test false is = is

-- ---- the lists of one group

-- two groups that list no page both: the one's pages go over to the other
pub taken_over-sound : (from to : Gens) → IsGens from → IsGens to → ((q : ℕ) → is_listed from q ≡ true → is_listed to q ≡ false) → IsGens (taken_over from to)
taken_over-sound from to one other apart =
    record {
      anon = row-taken seq to.max_seq from.anon.pages to.anon other.anon (let two = other.anon.two in omega (arith, two)) (omega arith);
      file = row-taken seq to.max_seq from.file.pages to.file other.file (let two = other.file.two in omega (arith, two)) (omega arith);
      distinct =
          distinct-append (taken_in seq from.anon.pages to.anon.pages) (taken_in seq from.file.pages to.file.pages)
          (distinct-taken seq from.anon.pages to.anon.pages (distinct-front from.anon.pages from.file.pages one.distinct) (distinct-front to.anon.pages to.file.pages other.distinct)
          (λ q h. (or_parts (has_page q to.file.pages) (has_page q to.anon.pages) (apart q (in_anon from q h))).1))
          (distinct-taken seq from.file.pages to.file.pages (distinct-back from.anon.pages from.file.pages one.distinct) (distinct-back to.anon.pages to.file.pages other.distinct)
          (λ q h. (or_parts (has_page q to.file.pages) (has_page q to.anon.pages) (apart q (in_file from q h))).0))
          (λ q h. has-taken seq q from.file.pages to.file.pages ∙ by_anon q (has_page q from.anon.pages) refl (sym (has-taken seq q from.anon.pages to.anon.pages) ∙ h));
    }
  where
    seq : ℕ
    seq = to.max_seq - 1

    in_file : (gens : Gens) (q : ℕ) → has_page q gens.file.pages ≡ true → is_listed gens q ≡ true
    in_file gens q h = ap (λ b. b || has_page q gens.anon.pages) h

    in_anon : (gens : Gens) (q : ℕ) → has_page q gens.anon.pages ≡ true → is_listed gens q ≡ true
    in_anon gens q h = elim (has_page q gens.file.pages) as (λ b. (b || has_page q gens.anon.pages) ≡ true) [ true ↦ refl | false ↦ h ]

    by_anon : (q : ℕ) (b : Bool) → has_page q from.anon.pages ≡ b → (has_page q from.anon.pages || has_page q to.anon.pages) ≡ true → (has_page q from.file.pages || has_page q to.file.pages) ≡ false
    by_anon q true is h =
        or_from (has_page q from.file.pages) (has_page q to.file.pages) (distinct-apart from.anon.pages from.file.pages one.distinct q is)
        (or_parts (has_page q to.file.pages) (has_page q to.anon.pages) (apart q (in_anon from q is))).0
    by_anon q false is h =
        let there : has_page q to.anon.pages ≡ true = sym (ap (λ b. b || has_page q to.anon.pages) is) ∙ h in
        or_from (has_page q from.file.pages) (has_page q to.file.pages) (by_file (has_page q from.file.pages) refl there) (distinct-apart to.anon.pages to.file.pages other.distinct q there)
      where
        by_file : (c : Bool) → has_page q from.file.pages ≡ c → has_page q to.anon.pages ≡ true → has_page q from.file.pages ≡ false
        by_file true c_is there = unlike (is_listed to q) (in_anon to q there) (apart q (in_file from q c_is))
        by_file false c_is there = c_is

pub emptied-sound : (gens : Gens) → IsGens gens → IsGens (emptied gens)
emptied-sound gens h =
    record {
      anon = record { within = tt; rising = tt; two = h.anon.two; four = h.anon.four };
      file = record { within = tt; rising = tt; two = h.file.two; four = h.file.four };
      distinct = tt;
    }

-- ---- the lists of all groups

-- what stands at each group's number after the lists of one went over to another's
data At (groups : List Gens) (g parent h : ℕ) (now : Gens) : Type 0 where
  Gone : h ≡ g → now ≡ emptied (gens_at groups g) → At groups g parent h now
  Takes : h ≡ parent → now ≡ taken_over (gens_at groups g) (gens_at groups parent) → At groups g parent h now
  Stays : h ≢ g → h ≢ parent → now ≡ gens_at groups h → At groups g parent h now

handed-at : (groups : List Gens) (g parent : ℕ) → g < length groups → parent < length groups → parent ≢ g → (h : ℕ) → At groups g parent h (gens_at (handed_over g parent groups) h)
handed-at groups g parent here there apart h =
    elim (eq_cases h g) [
      | inl same ↦ Gone same (ap (gens_at (handed_over g parent groups)) same ∙ get_or-set_same first g (emptied (gens_at groups g)) new_gens (subst (λ (n : ℕ). g < n) (sym (length-set groups parent taken)) here))
      | inr other ↦
          elim (eq_cases h parent) [
            | inl same ↦ Takes same (get_or-set_other first g h (emptied (gens_at groups g)) new_gens other ∙ ap (gens_at first) same ∙ get_or-set_same groups parent taken new_gens there)
            | inr differs ↦ Stays other differs (get_or-set_other first g h (emptied (gens_at groups g)) new_gens other ∙ get_or-set_other groups parent h taken new_gens differs)
          ]
    ]
  where
    taken : Gens
    taken = taken_over (gens_at groups g) (gens_at groups parent)

    first : List Gens
    first = with_gens groups parent taken

-- no page of another group
of_none : (a k : Bool) → (a && (false && k)) ≡ false
of_none true k = refl
of_none false k = refl

-- the pages of one group are another's, with their lists
module _ (placement : Placement) (pages pages' : Pages) (held : HeldLists) (g parent : ℕ) (apart : parent ≢ g) (here : g < length held.groups) (there : parent < length held.groups) (were : ListsHeld pages held)
    (changes : (p : ℕ) → page_at pages' p ≡ option_map (regrouped placement g parent) (page_at pages p)) where
  abbrev now : HeldLists
  now = record { groups = handed_over g parent held.groups; marks = held.marks; hits = held.hits }

  abbrev of_kind_page : Kind → Page → Bool
  of_kind_page kind page = of_kind kind (is_anon page.content) (not (is_anon page.content))

  -- by either placement a held page becomes the parent's
  held_alike : (h : ℕ) (kind : Kind) (slot : Option Page) → there_and (is_held_of h kind) (option_map (regrouped placement g parent) slot) ≡ there_and (is_held_of h kind) (option_map (regrouped Own g parent) slot)
  held_alike h kind None = refl
  held_alike h kind (Some page) = by_held (is_held page) refl
    where
      by_held : (b : Bool) → is_held page ≡ b
          → (b && ((cond (page.group == g) (heir placement parent page.residence) page.group == h) && of_kind_page kind page)) ≡ (b && ((cond (page.group == g) parent page.group == h) && of_kind_page kind page))
      by_held false is = refl
      by_held true is = ap (λ (n : ℕ). (cond (page.group == g) n page.group == h) && of_kind_page kind page) (heir-framed placement parent page.residence (held-framed page.residence is))

  gone_page : (kind : Kind) (slot : Option Page) → there_and (is_held_of g kind) (option_map (regrouped Own g parent) slot) ≡ false
  gone_page kind None = refl
  gone_page kind (Some page) = by_group (page.group == g) refl
    where
      by_group : (b : Bool) → (page.group == g) ≡ b → (is_held page && ((cond b parent page.group == g) && of_kind_page kind page)) ≡ false
      by_group true is = ap (λ b. is_held page && (b && of_kind_page kind page)) (ne_eqb parent g apart) ∙ of_none (is_held page) (of_kind_page kind page)
      by_group false is = ap (λ b. is_held page && (b && of_kind_page kind page)) is ∙ of_none (is_held page) (of_kind_page kind page)

  taken_page : (kind : Kind) (slot : Option Page) → (there_and (is_held_of g kind) slot || there_and (is_held_of parent kind) slot) ≡ there_and (is_held_of parent kind) (option_map (regrouped Own g parent) slot)
  taken_page kind None = refl
  taken_page kind (Some page) = by_group (page.group == g) refl
    where
      or_none : (b : Bool) → (b || false) ≡ b
      or_none true = refl
      or_none false = refl

      by_group : (b : Bool) → (page.group == g) ≡ b
          → ((is_held page && ((page.group == g) && of_kind_page kind page)) || (is_held page && ((page.group == parent) && of_kind_page kind page))) ≡ (is_held page && ((cond b parent page.group == parent) && of_kind_page kind page))
      by_group true is =
          let elsewhere : (page.group == parent) ≡ false = ne_eqb page.group parent (λ e. apart (sym e ∙ eqb-true page.group g is)) in
          ap (λ b. (is_held page && (b && of_kind_page kind page)) || (is_held page && ((page.group == parent) && of_kind_page kind page))) is
          ∙ ap (λ b. (is_held page && of_kind_page kind page) || (is_held page && (b && of_kind_page kind page))) elsewhere
          ∙ ap (λ b. (is_held page && of_kind_page kind page) || b) (of_none (is_held page) (of_kind_page kind page)) ∙ or_none (is_held page && of_kind_page kind page)
          ∙ sym (ap (λ b. is_held page && (b && of_kind_page kind page)) (eq-eqb parent parent refl))
      by_group false is =
          ap (λ b. (is_held page && (b && of_kind_page kind page)) || (is_held page && ((page.group == parent) && of_kind_page kind page))) is
          ∙ ap (λ b. b || (is_held page && ((page.group == parent) && of_kind_page kind page))) (of_none (is_held page) (of_kind_page kind page))

  other_page : (h : ℕ) → h ≢ g → h ≢ parent → (kind : Kind) (slot : Option Page) → there_and (is_held_of h kind) slot ≡ there_and (is_held_of h kind) (option_map (regrouped Own g parent) slot)
  other_page h other differs kind None = refl
  other_page h other differs kind (Some page) = by_group (page.group == g) refl
    where
      by_group : (b : Bool) → (page.group == g) ≡ b → (is_held page && ((page.group == h) && of_kind_page kind page)) ≡ (is_held page && ((cond b parent page.group == h) && of_kind_page kind page))
      by_group true is =
          ap (λ b. is_held page && (b && of_kind_page kind page)) (ne_eqb page.group h (λ e. other (sym e ∙ eqb-true page.group g is)) ∙ sym (ne_eqb parent h (λ e. differs (sym e))))
      by_group false is = refl

  row-taken_over : (kind : Kind) (from to : Gens) (p : ℕ) → has_page p (row_of kind (taken_over from to)).pages ≡ (has_page p (row_of kind from).pages || has_page p (row_of kind to).pages)
  row-taken_over Anon from to p = has-taken (to.max_seq - 1) p from.anon.pages to.anon.pages
  row-taken_over File from to p = has-taken (to.max_seq - 1) p from.file.pages to.file.pages

  row-emptied : (kind : Kind) (from : Gens) (p : ℕ) → has_page p (row_of kind (emptied from)).pages ≡ false
  row-emptied Anon from p = refl
  row-emptied File from p = refl

  rows : (h : ℕ) (kind : Kind) (p : ℕ) → has_page p (row_of kind (gens_at now.groups h)).pages ≡ there_and (is_held_of h kind) (page_at pages' p)
  rows h kind p = by_place (handed-at held.groups g parent here there apart h) ∙ sym (held_alike h kind (page_at pages p)) ∙ sym (ap (there_and (is_held_of h kind)) (changes p))
    where
      by_place : At held.groups g parent h (gens_at now.groups h) → has_page p (row_of kind (gens_at now.groups h)).pages ≡ there_and (is_held_of h kind) (option_map (regrouped Own g parent) (page_at pages p))
      by_place (Gone same is) =
          ap (λ (x : Gens). has_page p (row_of kind x).pages) is ∙ row-emptied kind (gens_at held.groups g) p
          ∙ sym (ap (λ (x : ℕ). there_and (is_held_of x kind) (option_map (regrouped Own g parent) (page_at pages p))) same ∙ gone_page kind (page_at pages p))
      by_place (Takes same is) =
          ap (λ (x : Gens). has_page p (row_of kind x).pages) is ∙ row-taken_over kind (gens_at held.groups g) (gens_at held.groups parent) p
          ∙ ap (λ b. b || has_page p (row_of kind (gens_at held.groups parent)).pages) (were.rows g kind p) ∙ ap (λ b. there_and (is_held_of g kind) (page_at pages p) || b) (were.rows parent kind p)
          ∙ taken_page kind (page_at pages p) ∙ sym (ap (λ (x : ℕ). there_and (is_held_of x kind) (option_map (regrouped Own g parent) (page_at pages p))) same)
      by_place (Stays other differs is) = ap (λ (x : Gens). has_page p (row_of kind x).pages) is ∙ were.rows h kind p ∙ other_page h other differs kind (page_at pages p)

  -- each held page stands on the lists of its group still
  pub held-handed : ListsHeld pages' now
  held-handed = record { rows = rows; marked = λ p is. as_held p ∙ were.marked p is; counted = λ p gone. were.counted p (sym (as_held p) ∙ gone) }
    where
      as_held : (p : ℕ) → there_and is_held (page_at pages' p) ≡ there_and is_held (page_at pages p)
      as_held p = ap (there_and is_held) (changes p) ∙ regrouped-test is_held placement g parent (λ page. refl) (page_at pages p)

  -- a page on a group's lists is of the group
  listed-of : (h q : ℕ) → is_listed (gens_at held.groups h) q ≡ true → there_and (λ (page : Page). page.group == h) (page_at pages q) ≡ true
  listed-of h q is =
      by_file (has_page q (gens_at held.groups h).file.pages) refl is
    where
      of_page : (kind : Kind) (slot : Option Page) → there_and (is_held_of h kind) slot ≡ true → there_and (λ (page : Page). page.group == h) slot ≡ true
      of_page kind None e = e
      of_page kind (Some page) e = (and_parts (page.group == h) (of_kind_page kind page) (and_parts (is_held page) ((page.group == h) && of_kind_page kind page) e).1).0

      by_file : (b : Bool) → has_page q (gens_at held.groups h).file.pages ≡ b → (has_page q (gens_at held.groups h).file.pages || has_page q (gens_at held.groups h).anon.pages) ≡ true
          → there_and (λ (page : Page). page.group == h) (page_at pages q) ≡ true
      by_file true e is = of_page File (page_at pages q) (sym (were.rows h File q) ∙ e)
      by_file false e is = of_page Anon (page_at pages q) (sym (were.rows h Anon q) ∙ sym (ap (λ b. b || has_page q (gens_at held.groups h).anon.pages) e) ∙ is)

  -- no page is on the lists of both
  not_both : (q : ℕ) → is_listed (gens_at held.groups g) q ≡ true → is_listed (gens_at held.groups parent) q ≡ false
  not_both q is = by_test (is_listed (gens_at held.groups parent) q) refl
    where
      two_groups : {P : Type 0} (slot : Option Page) → there_and (λ (page : Page). page.group == g) slot ≡ true → there_and (λ (page : Page). page.group == parent) slot ≡ true → P
      two_groups None e f = unlike false e refl
      two_groups (Some page) e f = absurd (apart (sym (eqb-true page.group parent f) ∙ eqb-true page.group g e))

      by_test : (b : Bool) → is_listed (gens_at held.groups parent) q ≡ b → is_listed (gens_at held.groups parent) q ≡ false
      by_test true e = two_groups (page_at pages q) (listed-of g q is) (listed-of parent q e)
      by_test false e = e

  -- and all lists are sound
  pub generations-handed : AreGenerations held → AreGenerations now
  generations-handed sound h = by_place (handed-at held.groups g parent here there apart h)
    where
      by_place : At held.groups g parent h (gens_at now.groups h) → IsGens (gens_at now.groups h)
      by_place (Gone same is) = subst IsGens (sym is) (emptied-sound (gens_at held.groups g) (sound g))
      by_place (Takes same is) = subst IsGens (sym is) (taken_over-sound (gens_at held.groups g) (gens_at held.groups parent) (sound g) (sound parent) not_both)
      by_place (Stays other differs is) = subst IsGens (sym is) (sound h)
