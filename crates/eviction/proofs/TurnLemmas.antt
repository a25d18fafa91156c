-- One turn of the search: the first old page goes to the tail, and the others are the old ones then.
use Rattle.std.proofs.Common.{◌≡◌, ℕ, zero, suc, ◌+◌, ◌<◌, ◌≤◌, ◌≢◌, ◌&&◌, not, Bool, true, false, cond, eqb, List, [], ◌∷◌, ◌++◌, length, set, get_or, slice_get, Some, None, option_map, refl, sym, ap, ◌∙◌, subst, arith, ⊎_elim, length-append, length-set, get_or-set_other}
use Rattle.std.specs.List.{AllByRecursion}
use Rattle.std.proofs.lemmas.List.Filters.{length-filter_both}
use Rattle.std.proofs.lemmas.Bool.{eqb-false, true≢false, or_from}
use Rattle.machine.specs.declared.record.Kind.{Kind}
use Rattle.machine.specs.declared.record.Kind.TheVariants.{Anon, File}
use Rattle.machine.specs.Generations.{Listed, Row, Gens, row_of, at_seq, without, IsRow, IsGens, AreDistinct, has_page, kind_of, listed, added, isolated}
use Rattle.machine.specs.Aging.{Seen, has_mark, is_marked}
use Rattle.machine.specs.Eviction.{is_old, old_of, old_pages, in_turn, front_run, behind_run, is_below, is_nil, has_usable, usable_anon, to_tail, sent_back, passed_by, settled, settled_gens}
use Rattle.page_lists.proofs.ListedLemmas.{each-front, each-back, each-filter, none-in, in-none, has_page-without, has-filter, listed-page, rising-filter, distinct-filter}
use Rattle.page_lists.proofs.HeldLemmas.{added-sound, oldest-youngest}
use Rattle.lru_gen.proofs.KindLemmas.{each_row, in_no_row, kind_is, sound_distinct, sound_apart, sound_rows}
use Rattle.aging.proofs.PromoteLemmas.{with_pages, in-middle, moved}
use Rattle.eviction.proofs.ListLemmas.{each-in_turn, each-usable, usable, usable-first, old_of-tail, old_of-first, in_turn-first}
use Rattle.eviction.proofs.SettleLemmas.{first-of}

-- ---- a page goes to the tail

abbrev without-row : ℕ → Row → Row
without-row p row = record { min_seq = row.min_seq; pages = without p row.pages }

row-without : (p top : ℕ) (row : Row) → IsRow top row → IsRow top (without-row p row)
row-without p top row r = record {
  within = each-filter (λ l. (row.min_seq ≤ l.seq) × (l.seq ≤ top)) (λ l. not (eqb l.page p)) row.pages r.within;
  rising = rising-filter (λ l. not (eqb l.page p)) row.pages r.rising;
  two = r.two;
  four = r.four;
}

isolated-sound : (p : ℕ) (g : Gens) → IsGens g → IsGens (isolated p g)
isolated-sound p g s =
    sound_rows s g.max_seq (without-row p) (row-without p g.max_seq) (λ row d. distinct-filter (λ l. not (eqb l.page p)) row.pages d) (λ row q h. has-filter (λ l. not (eqb l.page p)) q row.pages h)

pub tail-sound : (p : ℕ) (s : Seen) → IsGens s.gens → IsGens (to_tail p s).gens
tail-sound p s g =
    let least = oldest-youngest (kind_of s.gens p) (isolated p s.gens) (isolated-sound p s.gens g) in
    added-sound p (kind_of s.gens p) s.gens.max_seq (isolated p s.gens) (isolated-sound p s.gens g)
    (or_from (has_page p (without p s.gens.file.pages)) (has_page p (without p s.gens.anon.pages)) (has_page-without p s.gens.file.pages) (has_page-without p s.gens.anon.pages)) (omega arith) (omega arith)

pub each-old_pages : (P : Listed → Type 0) (swap : Bool) (g : Gens) → AllByRecursion P (listed g) → AllByRecursion P (old_pages swap g)
each-old_pages P swap g h =
    each-in_turn P (old_of g.max_seq g.file.pages) (old_of g.max_seq (usable_anon swap g)) (each-filter P (is_old g.max_seq) g.file.pages (each-back P g.anon.pages g.file.pages h))
    (each-filter P (is_old g.max_seq) (usable_anon swap g) (each-usable P swap g.anon.pages (each-front P g.anon.pages g.file.pages h)))

-- what the turn leaves of the old pages, and that there is as much to take
pub record Turned (swap : Bool) (s : Seen) (l : Listed) (rest : List Listed) : Type 0 where
  pub old : old_pages swap (to_tail l.page s).gens ≡ rest
  pub apart : has_page l.page rest ≡ false
  pub usable : has_usable swap (to_tail l.page s).gens ≡ has_usable swap s.gens

pub is_nil-middle : (xs : List Listed) (l : Listed) (ys : List Listed) → is_nil (xs ++ l ∷ ys) ≡ false
is_nil-middle [] l ys = refl
is_nil-middle (x ∷ xs) l ys = refl

-- a page at the tail is not old, and it may be taken where those of its type may
old-tail : (k : Kind) (swap : Bool) (g : Gens) (xs : List Listed) (l : Listed) → old_pages swap (with_pages k (xs ++ at_seq g.max_seq l ∷ []) g) ≡ old_pages swap (with_pages k xs g)
old-tail File swap g xs l = ap (λ (zs : List Listed). in_turn zs (old_of g.max_seq (usable_anon swap g))) (old_of-tail g.max_seq xs l)
old-tail Anon true g xs l = ap (λ (zs : List Listed). in_turn (old_of g.max_seq g.file.pages) zs) (old_of-tail g.max_seq xs l)
old-tail Anon false g xs l = refl

usable-tail : (k : Kind) (swap : Bool) (g : Gens) (xs : List Listed) (l : Listed) → is_nil (row_of k g).pages ≡ false → has_usable swap (with_pages k (xs ++ l ∷ []) g) ≡ has_usable swap g
usable-tail File swap g xs l some = ap (λ (b : Bool). not (b && is_nil (usable_anon swap g))) (is_nil-middle xs l [] ∙ sym some)
usable-tail Anon true g xs l some = ap (λ (b : Bool). not (is_nil g.file.pages && b)) (is_nil-middle xs l [] ∙ sym some)
usable-tail Anon false g xs l some = refl

-- the first page of a row goes to the tail
from-row : (swap : Bool) (s : Seen) (l : Listed) (k : Kind) (xs : List Listed) → IsGens s.gens → (row_of k s.gens).pages ≡ l ∷ xs → Turned swap s l (old_pages swap (with_pages k xs s.gens))
from-row swap s l k xs g e =
    let x : Gens = s.gens in
    let there : has_page l.page (row_of k x).pages ≡ true = ap (λ (zs : List Listed). has_page l.page zs) e ∙ in-middle [] l xs in
    let d : AreDistinct (l ∷ xs) = subst (λ (zs : List Listed). AreDistinct zs) e (sound_distinct g k) in
    let after : (to_tail l.page s).gens ≡ with_pages k (xs ++ at_seq x.max_seq l ∷ []) x =
    ap (λ (j : Kind). added l.page j x.max_seq (isolated l.page x)) (kind_is g k l.page there) ∙ moved k x [] l xs g e in
    let none = each_row (λ j row. has_page l.page row.pages ≡ false) k (λ row. record { min_seq = row.min_seq; pages = xs }) x d.0 (λ j differs. sound_apart g k j differs l.page there) in
    record {
      old = ap (λ (y : Gens). old_pages swap y) after ∙ old-tail k swap x xs l;
      apart =
          in-none l.page _
          (each-old_pages (λ i. eqb i.page l.page ≡ false) swap (with_pages k xs x) (none-in l.page _ (listed-page (with_pages k xs x) l.page ∙ in_no_row (with_pages k xs x) l.page none)));
      usable = ap (λ (y : Gens). has_usable swap y) after ∙ usable-tail k swap x xs (at_seq x.max_seq l) (ap is_nil e);
    }

pub turned : (swap : Bool) (s : Seen) (l : Listed) (rest : List Listed) → IsGens s.gens → old_pages swap s.gens ≡ l ∷ rest → Turned swap s l rest
turned swap s l rest g e =
    let top : ℕ = s.gens.max_seq in
    let files : List Listed = old_of top s.gens.file.pages in
    let anons : List Listed = old_of top (usable_anon swap s.gens) in
    ⊎_elim
    (λ w.
    let f = old_of-first top s.gens.file.pages g.file.rising l w.0 w.1 in
    subst (λ (zs : List Listed). Turned swap s l zs) (sym (w.2 ∙ ap (λ (zs : List Listed). in_turn zs anons) f.2)) (from-row swap s l File f.0 g f.1))
    (λ w.
    let f = usable-first swap top s.gens.anon.pages g.anon.rising l w.0 w.1 in
    subst (λ (zs : List Listed). Turned swap s l zs) (sym (w.2 ∙ ap (λ (zs : List Listed). in_turn files zs) f.2)) (from-row swap s l Anon f.0 g f.1))
    (in_turn-first files anons l rest e)

-- ---- the marks of other pages

pub front_run-clear : (p : ℕ) (m : List Bool) (xs : List Listed) → AllByRecursion (λ l. eqb l.page p ≡ false) xs → front_run (has_mark (set m p false)) xs ≡ front_run (has_mark m) xs
front_run-clear p m [] h = refl
front_run-clear p m (x ∷ xs) h =
    let ne : x.page ≢ p = λ q. eqb-false x.page p h.0 q in
    rw (get_or-set_other m p x.page false false ne) (ap (λ (zs : List Listed). cond (get_or m x.page false) (x ∷ zs) []) (front_run-clear p m xs h.1))

-- ---- the search goes on

abbrev two_rows : ℕ → ℕ → List Listed → ℕ → List Listed → List Bool → Seen
two_rows top amin gs fmin fs marks = record { gens = record { max_seq = top; anon = record { min_seq = amin; pages = gs }; file = record { min_seq = fmin; pages = fs } }; marks = marks }

-- the least numbers tell nothing of what is sent back
sent-settled : (ls : List Listed) (top a a' f f' : ℕ) (gs fs : List Listed) (m : List Bool) → settled (sent_back ls (two_rows top a gs f fs m)) ≡ settled (sent_back ls (two_rows top a' gs f' fs m))
sent-settled [] top a a' f f' gs fs m = refl
sent-settled (l ∷ ls) top a a' f f' gs fs m = sent-settled ls top a a' f f' _ _ _

passed-on : (swap : Bool) (s : Seen) (l : Listed) (rest : List Listed) → Turned swap s l rest → old_pages swap s.gens ≡ l ∷ rest → has_mark s.marks l ≡ true
    → settled (passed_by swap (to_tail l.page (settled s))) ≡ settled (passed_by swap s)
passed-on swap s l rest t e k =
    let run : front_run (has_mark s.marks) (old_pages swap s.gens) ≡ l ∷ front_run (has_mark s.marks) rest = rw e (rw k refl) in
    let after : front_run (has_mark (set s.marks l.page false)) (old_pages swap (to_tail l.page s).gens) ≡ front_run (has_mark s.marks) rest =
    ap (λ (zs : List Listed). front_run (has_mark (set s.marks l.page false)) zs) t.old ∙ front_run-clear l.page s.marks rest (none-in l.page rest t.apart) in
    ap (λ (zs : List Listed). settled (sent_back zs (to_tail l.page (settled s)))) after
    ∙ sent-settled (front_run (has_mark s.marks) rest) s.gens.max_seq _ _ _ _ _ _ _
    ∙ sym (ap (λ (zs : List Listed). settled (sent_back zs s)) run)

-- at an unmarked page, and where there is none, the search is at its end
pub passed-none : (swap : Bool) (s : Seen) → front_run (has_mark s.marks) (old_pages swap s.gens) ≡ [] → passed_by swap s ≡ s
passed-none swap s e = ap (λ (zs : List Listed). sent_back zs s) e

-- ---- how many pages are marked

abbrev pub how_many : List Bool → ℕ
how_many [] = 0
how_many (b ∷ m) = cond b (how_many m + 1) (how_many m)

pub how_many-few : (m : List Bool) → how_many m ≤ length m
how_many-few [] = omega arith
how_many-few (b ∷ m) =
    let h = how_many-few m in
    elim b as (λ v. cond v (how_many m + 1) (how_many m) ≤ length (b ∷ m)) [ true ↦ omega arith | false ↦ omega arith ]

how_many-clear : (m : List Bool) (p : ℕ) → is_marked m p ≡ true → how_many (set m p false) + 1 ≡ how_many m
how_many-clear [] p h = absurd (true≢false (sym h))
how_many-clear (b ∷ m) zero h = rw h refl
how_many-clear (b ∷ m) (suc p) h =
    let k = how_many-clear m p h in
    elim b as (λ v. cond v (how_many (set m p false) + 1) (how_many (set m p false)) + 1 ≡ cond v (how_many m + 1) (how_many m)) [ true ↦ omega (arith, k) | false ↦ k ]

-- ---- how many pages are looked at

looks-less : (swap : Bool) (s : Seen) (l : Listed) (rest : List Listed) → Turned swap s l rest → old_pages swap s.gens ≡ l ∷ rest → has_mark s.marks l ≡ true
    → length (front_run (has_mark s.marks) (old_pages swap s.gens)) ≡ length (front_run (has_mark (set s.marks l.page false)) (old_pages swap (to_tail l.page s).gens)) + 1
looks-less swap s l rest t e k =
    let run : front_run (has_mark s.marks) (old_pages swap s.gens) ≡ l ∷ front_run (has_mark s.marks) rest = rw e (rw k refl) in
    let after : front_run (has_mark (set s.marks l.page false)) (old_pages swap (to_tail l.page s).gens) ≡ front_run (has_mark s.marks) rest =
    ap (λ (zs : List Listed). front_run (has_mark (set s.marks l.page false)) zs) t.old ∙ front_run-clear l.page s.marks rest (none-in l.page rest t.apart) in
    let one : length (front_run (has_mark s.marks) (old_pages swap s.gens)) ≡ length (l ∷ front_run (has_mark s.marks) rest) = ap (λ (zs : List Listed). length zs) run in
    let two : length (front_run (has_mark (set s.marks l.page false)) (old_pages swap (to_tail l.page s).gens)) ≡ length (front_run (has_mark s.marks) rest) = ap (λ (zs : List Listed). length zs) after in
    omega arith

length-runs : (test : Listed → Bool) (xs : List Listed) → length (front_run test xs) + length (behind_run test xs) ≡ length xs
length-runs test [] = omega arith
length-runs test (x ∷ xs) =
    let h = length-runs test xs in
    elim (test x) as (λ b. length (cond b (x ∷ front_run test xs) []) + length (cond b (behind_run test xs) (x ∷ xs)) ≡ length (x ∷ xs)) [ true ↦ omega arith | false ↦ omega arith ]

pub length-in_turn : (fs gs : List Listed) → length (in_turn fs gs) ≡ length fs + length gs
length-in_turn [] gs = omega arith
length-in_turn (f ∷ fs) gs =
    let h = length-in_turn fs (behind_run (is_below f.seq) gs) in
    let k = length-runs (is_below f.seq) gs in
    let a = length-append (front_run (is_below f.seq) gs) (f ∷ in_turn fs (behind_run (is_below f.seq) gs)) in
    omega arith

length-usable : (swap : Bool) (gs : List Listed) → length (usable swap gs) ≤ length gs
length-usable true gs = omega arith
length-usable false gs = omega arith

pub looks-few : (test : Listed → Bool) (swap : Bool) (g : Gens) → length (front_run test (old_pages swap g)) ≤ length (listed g)
looks-few test swap g =
    let a = length-runs test (old_pages swap g) in
    let b = length-in_turn (old_of g.max_seq g.file.pages) (old_of g.max_seq (usable_anon swap g)) in
    let c = length-filter_both (is_old g.max_seq) (λ l. not (is_old g.max_seq l)) (λ l. refl) g.file.pages in
    let d = length-filter_both (is_old g.max_seq) (λ l. not (is_old g.max_seq l)) (λ l. refl) (usable_anon swap g) in
    let e = length-usable swap g.anon.pages in
    let f = length-append g.anon.pages g.file.pages in
    omega arith

-- ---- a turn, as the loop sees it

-- what a turn at a marked page keeps, and what becomes less
pub record GoesOn (swap : Bool) (s next : Seen) : Type 0 where
  pub same : settled (passed_by swap next) ≡ settled (passed_by swap s)
  pub looks : length (front_run (has_mark s.marks) (old_pages swap s.gens)) ≡ length (front_run (has_mark next.marks) (old_pages swap next.gens)) + 1
  pub less : length (old_pages swap next.gens) < length (old_pages swap s.gens)
  pub usable : has_usable swap next.gens ≡ has_usable swap s.gens
  pub size : length next.marks ≡ length s.marks
  pub few : how_many next.marks + 1 ≡ how_many s.marks

goes-on-from : (swap : Bool) (s : Seen) (l : Listed) (rest : List Listed) → IsGens (settled_gens s.gens) → old_pages swap s.gens ≡ l ∷ rest → has_mark s.marks l ≡ true → GoesOn swap s (to_tail l.page (settled s))
goes-on-from swap s l rest g e k =
    let u = turned swap (settled s) l rest g e in
    let t : Turned swap s l rest = record { old = u.old; apart = u.apart; usable = u.usable } in
    let before : length (old_pages swap s.gens) ≡ length (l ∷ rest) = ap (λ (zs : List Listed). length zs) e in
    let after : length (old_pages swap (to_tail l.page s).gens) ≡ length rest = ap (λ (zs : List Listed). length zs) t.old in
    record {
      same = passed-on swap s l rest t e k;
      looks = looks-less swap s l rest t e k;
      less = omega arith;
      usable = u.usable;
      size = length-set s.marks l.page false;
      few = how_many-clear s.marks l.page k;
    }

-- the call that moves the page does what the definition says
at-tail : (s : Seen) (h : Gens) (p : ℕ) (kind : Kind) (next : Seen) → h ≡ settled_gens s.gens → kind ≡ kind_of s.gens p → next.gens ≡ added p kind h.max_seq (isolated p h) → next.marks ≡ set s.marks p false → next ≡ to_tail p (settled s)
at-tail s h p kind next eh ek eg em =
    let gens : next.gens ≡ added p (kind_of s.gens p) s.gens.max_seq (isolated p (settled_gens s.gens)) =
    eg ∙ ap (λ (x : Gens). added p kind x.max_seq (isolated p x)) eh ∙ ap (λ (k : Kind). added p k s.gens.max_seq (isolated p (settled_gens s.gens))) ek in
    ap (λ (x : Gens). let r : Seen = record { gens = x; marks = next.marks } in r) gens ∙ ap (λ (m : List Bool). let r : Seen = record { gens = added p (kind_of s.gens p) s.gens.max_seq (isolated p (settled_gens s.gens)); marks = m } in r) em

pub goes-on : (swap : Bool) (s : Seen) (h : Gens) (p : ℕ) (kind : Kind) (next : Seen) → h ≡ settled_gens s.gens → IsGens h → Some p ≡ option_map (λ (l : Listed). l.page) (slice_get (old_pages swap s.gens) 0) → is_marked s.marks p ≡ true
    → kind ≡ kind_of s.gens p → next.gens ≡ added p kind h.max_seq (isolated p h) → next.marks ≡ set s.marks p false → GoesOn swap s next
goes-on swap s h p kind next eh g e k ek eg em =
    let f = first-of (old_pages swap s.gens) p e in
    let g' : IsGens (settled_gens s.gens) = subst (λ (x : Gens). IsGens x) eh g in
    let k' : has_mark s.marks f.0 ≡ true = ap (λ (q : ℕ). is_marked s.marks q) f.3 ∙ k in
    let there : to_tail f.0.page (settled s) ≡ next =
    ap (λ (q : ℕ). to_tail q (settled s)) f.3 ∙ sym (at-tail s h p kind next eh ek eg em) in
    subst (λ (x : Seen). GoesOn swap s x) there (goes-on-from swap s f.0 f.1 g' f.2 k')

pub record EndsAt (swap : Bool) (s : Seen) (h : Gens) : Type 0 where
  pub seen : (let r : Seen = record { gens = h; marks = s.marks } in r) ≡ settled (passed_by swap s)
  pub looks : length (front_run (has_mark s.marks) (old_pages swap s.gens)) ≡ 0

ends-by : (swap : Bool) (s : Seen) (h : Gens) → h ≡ settled_gens s.gens → front_run (has_mark s.marks) (old_pages swap s.gens) ≡ [] → EndsAt swap s h
ends-by swap s h eh e = record {
  seen = ap (λ (x : Gens). let r : Seen = record { gens = x; marks = s.marks } in r) eh ∙ sym (ap (λ (x : Seen). settled x) (passed-none swap s e));
  looks = ap (λ (zs : List Listed). length zs) e;
}

pub ends-unmarked : (swap : Bool) (s : Seen) (h : Gens) (p : ℕ) → h ≡ settled_gens s.gens → Some p ≡ option_map (λ (l : Listed). l.page) (slice_get (old_pages swap s.gens) 0) → is_marked s.marks p ≡ false → EndsAt swap s h
ends-unmarked swap s h p eh e k =
    let f = first-of (old_pages swap s.gens) p e in
    let k' : has_mark s.marks f.0 ≡ false = ap (λ (q : ℕ). is_marked s.marks q) f.3 ∙ k in
    ends-by swap s h eh (ap (λ (zs : List Listed). front_run (has_mark s.marks) zs) f.2 ∙ rw k' refl)

pub no-first : (xs : List Listed) → None ≡ option_map (λ (l : Listed). l.page) (slice_get xs 0) → xs ≡ []
no-first [] e = refl
no-first (x ∷ xs) e = absurd (cc)

pub ends-none : (swap : Bool) (s : Seen) (h : Gens) → h ≡ settled_gens s.gens → None ≡ option_map (λ (l : Listed). l.page) (slice_get (old_pages swap s.gens) 0) → EndsAt swap s h
ends-none swap s h eh e = ends-by swap s h eh (ap (λ (zs : List Listed). front_run (has_mark s.marks) zs) (no-first (old_pages swap s.gens) e))
