-- What aging leaves: how new the pages are, that none is marked, and that there is as much to take.
use Rattle.std.proofs.Common.{◌≡◌, ℕ, zero, suc, ◌+◌, ◌<◌, ◌≤◌, ◌⊎◌, ◌&&◌, not, max, Bool, true, false, cond, eqb, List, [], ◌∷◌, ◌++◌, length, map, filter, slice_get, Option, Some, None, option_map, MatchBool, refl, sym, ap, ◌∙◌, subst, arith, ⊎_elim, inl, inr, length-append}
use Rattle.std.specs.List.{AllByRecursion}
use Rattle.std.proofs.lemmas.Bool.{lt-ltb, true≢false}
use Rattle.machine.specs.Generations.{Listed, Row, Gens, at_seq, merged, IsGens, listed}
use Rattle.machine.specs.Aging.{Seen, has_mark, is_marked, cleared, at_most_three, aged_row, aged}
use Rattle.machine.specs.Eviction.{old_of, old_pages, in_turn, front_run, is_nil, usable_anon, has_usable, to_tail, sent_back, passed_by, settled, aged_times, AgesToOld, Picks}
use Rattle.lru_gen.specs.Gens.{GensOf, sets}
use Rattle.aging.specs.Groups.{seen_at}
use Rattle.aging.proofs.GroupLemmas.{change}
use Rattle.page_lists.proofs.ListedLemmas.{each-append, each-front, each-back, each-filter, each-weaker, top-each}
use Rattle.page_lists.proofs.AgingLemmas.{each-marked, each-three, cleared-all}
use Rattle.eviction.proofs.ListLemmas.{each-usable}
use Rattle.eviction.proofs.SettleLemmas.{first-of}
use Rattle.eviction.proofs.TurnLemmas.{is_nil-middle, passed-none, each-old_pages, length-in_turn}

-- ---- the rows

each-aged_row : (P : Listed → Type 0) (top : ℕ) (m : List Bool) (row : Row) → (row.min_seq + 3 ≡ top → (l : Listed) → P l → P (at_seq (max (row.min_seq + 1) l.seq) l)) → ((l : Listed) → P l → has_mark m l ≡ true → P (at_seq (top + 1) l))
    → AllByRecursion P row.pages → AllByRecursion P (aged_row top m row).pages
each-aged_row P top m row step mark h =
    let k = each-three P top row step h in
    each-append P (filter (λ l. not (has_mark m l)) (at_most_three top row).pages) (map (at_seq (top + 1)) (filter (has_mark m) (at_most_three top row).pages)) (each-filter P (λ l. not (has_mark m l)) (at_most_three top row).pages k)
    (each-marked P (top + 1) m mark (at_most_three top row).pages k)

each-aged : (P : Listed → Type 0) (s : Seen) → ((row : Row) → row.min_seq + 3 ≡ s.gens.max_seq → (l : Listed) → P l → P (at_seq (max (row.min_seq + 1) l.seq) l)) → ((l : Listed) → P l → has_mark s.marks l ≡ true → P (at_seq (s.gens.max_seq + 1) l))
    → AllByRecursion P (listed s.gens) → AllByRecursion P (listed (aged s).gens)
each-aged P s step mark h =
    each-append P (aged s).gens.anon.pages (aged s).gens.file.pages
    (each-aged_row P s.gens.max_seq s.marks s.gens.anon (step s.gens.anon) mark (each-front P s.gens.anon.pages s.gens.file.pages h))
    (each-aged_row P s.gens.max_seq s.marks s.gens.file (step s.gens.file) mark (each-back P s.gens.anon.pages s.gens.file.pages h))

is_nil-promoted : (seq : ℕ) (m : List Bool) (xs : List Listed) → is_nil (filter (λ l. not (has_mark m l)) xs ++ map (at_seq seq) (filter (has_mark m) xs)) ≡ is_nil xs
is_nil-promoted seq m [] = refl
is_nil-promoted seq m (x ∷ xs) =
    elim (has_mark m x) as (λ b. is_nil (cond (not b) (x ∷ filter (λ l. not (has_mark m l)) xs) (filter (λ l. not (has_mark m l)) xs) ++ map (at_seq seq) (cond b (x ∷ filter (has_mark m) xs) (filter (has_mark m) xs))) ≡ false) [
      | true ↦ is_nil-middle (filter (λ l. not (has_mark m l)) xs) (at_seq seq x) (map (at_seq seq) (filter (has_mark m) xs))
      | false ↦ refl
    ]

is_nil-map : (f : Listed → Listed) (xs : List Listed) → is_nil (map f xs) ≡ is_nil xs
is_nil-map f [] = refl
is_nil-map f (x ∷ xs) = refl

is_nil-three : (b : Bool) (row : Row) → is_nil (let r : Row = cond b (merged row) row in r).pages ≡ is_nil row.pages
is_nil-three true row = is_nil-map (λ l. at_seq (max (row.min_seq + 1) l.seq) l) row.pages
is_nil-three false row = refl

is_nil-aged_row : (top : ℕ) (m : List Bool) (row : Row) → is_nil (aged_row top m row).pages ≡ is_nil row.pages
is_nil-aged_row top m row = is_nil-promoted (top + 1) m (at_most_three top row).pages ∙ is_nil-three (eqb (row.min_seq + 3) top) row

usable-aged : (swap : Bool) (s : Seen) → has_usable swap (aged s).gens ≡ has_usable swap s.gens
usable-aged true s =
    ap (λ (b : Bool). not (b && is_nil (aged s).gens.anon.pages)) (is_nil-aged_row s.gens.max_seq s.marks s.gens.file)
    ∙ ap (λ (b : Bool). not (is_nil s.gens.file.pages && b)) (is_nil-aged_row s.gens.max_seq s.marks s.gens.anon)
usable-aged false s = ap (λ (b : Bool). not (b && true)) (is_nil-aged_row s.gens.max_seq s.marks s.gens.file)

-- ---- what the loop keeps

-- no page is newer than top, there is one to take, and each has a number
pub record Holds (swap : Bool) (top : ℕ) (s : Seen) : Type 0 where
  pub low : AllByRecursion (λ l. l.seq ≤ top) (listed s.gens)
  pub still : (s.gens.max_seq + 1 ≤ top) ⊎ AllByRecursion (λ l. has_mark s.marks l ≡ false) (listed s.gens)
  pub usable : has_usable swap s.gens ≡ true

pub each-both : (P Q : Listed → Type 0) (xs : List Listed) → AllByRecursion P xs → AllByRecursion Q xs → AllByRecursion (λ l. P l × Q l) xs
each-both P Q [] h k = tt
each-both P Q (x ∷ xs) h k = ((h.0, k.0), each-both P Q xs h.1 k.1)

each-one : (P Q : Listed → Type 0) (xs : List Listed) → AllByRecursion (λ l. P l × Q l) xs → AllByRecursion P xs
each-one P Q [] h = tt
each-one P Q (x ∷ xs) h = (h.0.0, each-one P Q xs h.1)

low-aged : (top : ℕ) (s : Seen) → s.gens.max_seq ≤ top + 1 → AllByRecursion (λ l. l.seq ≤ top) (listed s.gens) → (s.gens.max_seq + 1 ≤ top) ⊎ AllByRecursion (λ l. has_mark s.marks l ≡ false) (listed s.gens)
    → AllByRecursion (λ l. l.seq ≤ top) (listed (aged s).gens)
low-aged top s few low still =
    ⊎_elim
    (λ le. each-aged (λ l. l.seq ≤ top) s (λ row e l h. (let le' : row.min_seq + 1 ≤ top = omega arith in omega arith)) (λ l h k. le) low)
    (λ none.
    each-one (λ l. l.seq ≤ top) (λ l. has_mark s.marks l ≡ false) (listed (aged s).gens)
    (each-aged (λ l. (l.seq ≤ top) × (has_mark s.marks l ≡ false)) s (λ row e l h. (let le : l.seq ≤ top = h.0 in let le' : row.min_seq + 1 ≤ top = omega arith in let both : max (row.min_seq + 1) l.seq ≤ top = omega arith in (both, h.1)))
    (λ l h k. absurd (true≢false (sym k ∙ h.1)))
    (each-both (λ l. l.seq ≤ top) (λ l. has_mark s.marks l ≡ false) (listed s.gens) low none)))
    still

unmarked-aged : (s : Seen) → AllByRecursion (λ l. has_mark (aged s).marks l ≡ false) (listed (aged s).gens)
unmarked-aged s = each-aged (λ l. is_marked (cleared (listed s.gens) s.marks) l.page ≡ false) s (λ row e l h. h) (λ l h k. h) (cleared-all (listed s.gens) s.marks)

pub holds-aged : (swap : Bool) (top : ℕ) (s : Seen) → s.gens.max_seq ≤ top + 1 → Holds swap top s → Holds swap top (aged s)
holds-aged swap top s few h = record {
  low = low-aged top s few h.low h.still;
  still = inr (unmarked-aged s);
  usable = usable-aged swap s ∙ h.usable;
}

-- the pages of a group are not newer than its youngest generation
pub holds-first : (swap : Bool) (s : Seen) → IsGens s.gens → has_usable swap s.gens ≡ true → Holds swap (s.gens.max_seq + 1) s
holds-first swap s g u =
    let more : (l : Listed) → l.seq ≤ s.gens.max_seq → l.seq ≤ s.gens.max_seq + 1 = λ l h. omega arith in
    record {
      low =
          each-append (λ l. l.seq ≤ s.gens.max_seq + 1) s.gens.anon.pages s.gens.file.pages
          (each-weaker (λ l. l.seq ≤ s.gens.max_seq) (λ l. l.seq ≤ s.gens.max_seq + 1) more s.gens.anon.pages (top-each s.gens.max_seq s.gens.anon.min_seq s.gens.anon.pages g.anon.within))
          (each-weaker (λ l. l.seq ≤ s.gens.max_seq) (λ l. l.seq ≤ s.gens.max_seq + 1) more s.gens.file.pages (top-each s.gens.max_seq s.gens.file.min_seq s.gens.file.pages g.file.within));
      still = inl (omega arith);
      usable = u;
    }

no-run : (m : List Bool) (xs : List Listed) → AllByRecursion (λ l. has_mark m l ≡ false) xs → front_run (has_mark m) xs ≡ []
no-run m [] h = refl
no-run m (x ∷ xs) h = rw h.0 refl

no-run-aged : (swap : Bool) (s : Seen) → front_run (has_mark (aged s).marks) (old_pages swap (aged s).gens) ≡ []
no-run-aged swap s = no-run (aged s).marks (old_pages swap (aged s).gens) (each-old_pages (λ l. has_mark (aged s).marks l ≡ false) swap (aged s).gens (unmarked-aged s))

passed-aged : (swap : Bool) (s : Seen) → passed_by swap (aged s) ≡ aged s
passed-aged swap s = passed-none swap (aged s) (no-run-aged swap s)

-- ---- after three times a page is old

all-old : (top high : ℕ) (xs : List Listed) → top + 1 < high → AllByRecursion (λ l. l.seq ≤ top) xs → old_of high xs ≡ xs
all-old top high [] lt h = refl
all-old top high (x ∷ xs) lt h =
    let le : x.seq ≤ top = h.0 in
    let lt' : x.seq + 1 < high = omega arith in
    rw lt-ltb (ap (λ (zs : List Listed). x ∷ zs) (all-old top high xs lt h.1))

both-nil : (fs gs : List Listed) → length (in_turn fs gs) ≡ 0 → not (is_nil fs && is_nil gs) ≡ false
both-nil [] [] e = refl
both-nil [] (g ∷ gs) e = absurd (omega arith)
both-nil (f ∷ fs) gs e = absurd (let h = length-in_turn (f ∷ fs) gs in omega arith)

pub old-there : (swap : Bool) (top : ℕ) (s : Seen) → Holds swap top s → top + 1 < s.gens.max_seq → old_pages swap s.gens ≡ [] → ⊥
old-there swap top s h lt e =
    let low : Listed → Type 0 = λ l. l.seq ≤ top in
    let anons : List Listed = usable_anon swap s.gens in
    let fs = all-old top s.gens.max_seq s.gens.file.pages lt (each-back low s.gens.anon.pages s.gens.file.pages h.low) in
    let gs = all-old top s.gens.max_seq anons lt (each-usable low swap s.gens.anon.pages (each-front low s.gens.anon.pages s.gens.file.pages h.low)) in
    let whole : in_turn s.gens.file.pages anons ≡ [] =
    sym (ap (λ (zs : List Listed). in_turn zs (old_of s.gens.max_seq anons)) fs ∙ ap (λ (zs : List Listed). in_turn s.gens.file.pages zs) gs) ∙ e in
    true≢false (sym h.usable ∙ both-nil s.gens.file.pages anons (ap (λ (zs : List Listed). length zs) whole))

-- ---- the answer

pub at-once : (swap : Bool) (from to : Seen) (p : ℕ) → to ≡ settled from → Some p ≡ option_map (λ (l : Listed). l.page) (slice_get (old_pages swap to.gens) 0) → AgesToOld swap from (Some p) to
at-once swap from to p e q =
    let q' : Some p ≡ option_map (λ (l : Listed). l.page) (slice_get (old_pages swap from.gens) 0) = subst (λ (x : Seen). Some p ≡ option_map (λ (l : Listed). l.page) (slice_get (old_pages swap x.gens) 0)) e q in
    let f = first-of (old_pages swap from.gens) p q' in
    record {
      times = 0;
      none_before = λ n lt. absurd (omega arith);
      first = f.0;
      others = f.1;
      old = f.2;
      answers = ap (λ (n : ℕ). Some n) (sym f.3);
      leaves = e;
    }

pub once-more : (swap : Bool) (from : Seen) (answer : Option ℕ) (to : Seen) → old_pages swap from.gens ≡ [] → AgesToOld swap (aged (settled from)) answer to → AgesToOld swap from answer to
once-more swap from answer to none a = record {
  times = suc a.times;
  none_before = before;
  first = a.first;
  others = a.others;
  old = a.old;
  answers = a.answers;
  leaves = a.leaves;
}
  where
    before : (n : ℕ) → n < suc a.times → old_pages swap (aged_times n from).gens ≡ []
    before zero lt = none
    before (suc n) lt = a.none_before n (omega arith)

pub from-settled : (swap : Bool) (from : Seen) (answer : Option ℕ) (to : Seen) → AgesToOld swap (settled from) answer to → AgesToOld swap from answer to
from-settled swap from answer to a = record {
  times = a.times;
  none_before = λ n lt. same-old n ∙ a.none_before n lt;
  first = a.first;
  others = a.others;
  old = same-old a.times ∙ a.old;
  answers = a.answers;
  leaves = a.leaves ∙ same-end a.times;
}
  where
    same-old : (n : ℕ) → old_pages swap (aged_times n from).gens ≡ old_pages swap (aged_times n (settled from)).gens
    same-old zero = refl
    same-old (suc n) = refl

    same-end : (n : ℕ) → settled (aged_times n (settled from)) ≡ settled (aged_times n from)
    same-end zero = refl
    same-end (suc n) = refl

pub picks-some : (swap : Bool) (from : Seen) (answer : Option ℕ) (to : Seen) → has_usable swap from.gens ≡ true → AgesToOld swap (passed_by swap from) answer to → Picks swap from answer to
picks-some swap from answer to u a = subst (λ (b : Bool). MatchBool b (AgesToOld swap (passed_by swap from) answer to) ((answer ≡ None) × (to ≡ from))) (sym u) a

-- a search answers, or it finds nothing to take
pub picks-cases : {X : Type 0} (swap : Bool) (from : Seen) (answer : Option ℕ) (to : Seen) → Picks swap from answer to → (has_usable swap from.gens ≡ true → AgesToOld swap (passed_by swap from) answer to → X) → (answer ≡ None → to ≡ from → X) → X
picks-cases {X} swap from answer to picks some none = by_usable (has_usable swap from.gens) refl picks
  where
    by_usable : (b : Bool) → has_usable swap from.gens ≡ b → MatchBool b (AgesToOld swap (passed_by swap from) answer to) ((answer ≡ None) × (to ≡ from)) → X
    by_usable true e a = some e a
    by_usable false e n = none n.0 n.1

pub usable-some : (swap : Bool) (g : Gens) → has_usable swap g ≡ true → 1 ≤ length (listed g)
usable-some swap g u = some-of swap g.anon.pages g.file.pages u
  where
    some-of : (swap : Bool) (gs fs : List Listed) → not (is_nil fs && is_nil (cond swap gs [])) ≡ true → 1 ≤ length (gs ++ fs)
    some-of swap gs (f ∷ fs) u = let h = length-append gs (f ∷ fs) in omega arith
    some-of true (x ∷ gs) [] u = let h = length-append (x ∷ gs) [] in omega arith
    some-of true [] [] u = absurd (true≢false (sym u))
    some-of false gs [] u = absurd (true≢false (sym u))

-- ---- a search after aging, and before it

pub searched : (swap : Bool) (now mid new : Seen) → mid ≡ aged now → new ≡ settled (passed_by swap mid) → new ≡ settled (aged now)
searched swap now mid new e k = k ∙ ap (λ (x : Seen). settled (passed_by swap x)) e ∙ ap (λ (x : Seen). settled x) (passed-aged swap now)

pub looks-aged : (swap : Bool) (now mid : Seen) → mid ≡ aged now → length (front_run (has_mark mid.marks) (old_pages swap mid.gens)) ≡ 0
looks-aged swap now mid e = ap (λ (x : Seen). length (front_run (has_mark x.marks) (old_pages swap x.gens))) e ∙ ap (λ (zs : List Listed). length zs) (no-run-aged swap now)

pub holds-settled : (swap : Bool) (top : ℕ) (s : Seen) → Holds swap top s → Holds swap top (settled s)
holds-settled swap top s h = record { low = h.low; still = h.still; usable = h.usable }

sent-max : (ls : List Listed) (s : Seen) → (sent_back ls s).gens.max_seq ≡ s.gens.max_seq
sent-max [] s = refl
sent-max (l ∷ ls) s = sent-max ls (to_tail l.page s)

pub passed-max : (swap : Bool) (s new : Seen) → new ≡ settled (passed_by swap s) → new.gens.max_seq ≡ s.gens.max_seq
passed-max swap s new e = ap (λ (x : Seen). x.gens.max_seq) e ∙ sent-max (front_run (has_mark s.marks) (old_pages swap s.gens)) s

-- the call that ages does what the definition says
pub aged-seen : (g : ℕ) (s t : GensOf) (m m' : List Bool) → g < length s.groups → t ≡ sets s g (aged (seen_at g s m)).gens → m' ≡ (aged (seen_at g s m)).marks → seen_at g t m' ≡ aged (seen_at g s m)
aged-seen g s t m m' h e em =
    let c = change g s t (aged (seen_at g s m)).gens h e in
    ap (λ (x : Gens). let r : Seen = record { gens = x; marks = m' } in r) c.gens ∙ ap (λ (x : List Bool). let r : Seen = record { gens = (aged (seen_at g s m)).gens; marks = x } in r) em
