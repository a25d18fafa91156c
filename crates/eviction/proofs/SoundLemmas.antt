-- A search leaves a group's lists sound, and all lists those of the pages that are held. What it says of the page that it takes.
use Rattle.std.proofs.Common.{◌≡◌, ℕ, zero, suc, ◌+◌, ◌-◌, ◌≤◌, ◌≢◌, ◌||◌, not, max, min, Bool, true, false, cond, eqb, List, [], ◌∷◌, length, map, filter, set, Option, Some, refl, sym, ap, ◌∙◌, subst, arith, inl, inr, ⊎_elim, length-set, get_or-set_other}
use Rattle.std.specs.List.{AllByRecursion}
use Rattle.std.proofs.lemmas.Bool.{cases_Bool, eqb-true, eqb-false, or_cases, true≢false}
use Rattle.machine.specs.declared.record.Kind.{Kind}
use Rattle.machine.specs.declared.record.Kind.TheVariants.{Anon, File}
use Rattle.machine.specs.Generations.{Listed, Row, Gens, new_gens, row_of, at_seq, has_page, is_listed, listed, merged, gens_at, IsRising, AreDistinct, IsRow, IsGens}
use Rattle.machine.specs.Aging.{Seen, has_mark, is_marked, at_most_three, promoted, aged_row, aged}
use Rattle.machine.specs.Eviction.{old_pages, front_run, behind_run, has_usable, to_tail, sent_back, passed_by, least_seq, settled_row, settled_gens, settled, aged_times, AgesToOld, Picks}
use Rattle.machine.specs.Pages.{Pages, page_at, is_held_in}
use Rattle.machine.specs.Slots.{there_and}
use Rattle.machine.specs.Lists.{HeldLists, seen_of, PicksOf, is_held_of, ListsHeld, AreGenerations, hits_at}
use Rattle.page_lists.proofs.ListedLemmas.{each-append, each-filter, each-map, each-weaker, none-in, has-renumbered, rising-filter, rising-append, distinct-filter, distinct-append, distinct-split}
use Rattle.page_lists.proofs.AgingLemmas.{each-marked, clear-keeps, cleared-keeps}
use Rattle.page_lists.proofs.HeldLemmas.{at-set, of-held}
use Rattle.lru_gen.proofs.KindLemmas.{sound_rows}
use Rattle.eviction.proofs.TurnLemmas.{turned, tail-sound, front_run-clear}
use Rattle.eviction.proofs.AgeLemmas.{each-both, Holds, holds-aged, holds-first, holds-settled, old-there, passed-max, picks-cases}
use Rattle.eviction.proofs.KeptLemmas.{Keeps, has-aged_row, kept-listed, kept-picks, answer-listed}

-- ---- a row that is settled

least-low : (top low : ℕ) (pages : List Listed) → low ≤ top → AllByRecursion (λ l. low ≤ l.seq) pages → low ≤ least_seq top pages
least-low top low [] le h = le
least-low top low (l ∷ ls) le h = let first : low ≤ l.seq = h.0 in omega arith

least-top : (top : ℕ) (pages : List Listed) → least_seq top pages ≤ top
least-top top [] = omega arith
least-top top (l ∷ ls) = omega arith

-- the first of a rising row has the least number
least-each : (top : ℕ) (pages : List Listed) → IsRising pages → AllByRecursion (λ l. least_seq top pages ≤ l.seq) pages
least-each top [] r = tt
least-each top (l ∷ ls) r = (omega arith, each-weaker (λ k. l.seq ≤ k.seq) (λ k. min top l.seq ≤ k.seq) (λ k h. omega arith) ls r.0)

settled-row : (top : ℕ) (row : Row) → IsRow top row → IsRow top (settled_row top row)
settled-row top row r =
    let two : row.min_seq + 1 ≤ top = r.two in
    let four : top ≤ row.min_seq + 3 = r.four in
    let low = least-low (top - 1) row.min_seq row.pages (omega arith) (each-weaker (λ l. (row.min_seq ≤ l.seq) × (l.seq ≤ top)) (λ l. row.min_seq ≤ l.seq) (λ l h. h.0) row.pages r.within) in
    let high = least-top (top - 1) row.pages in
    record {
      within = each-both (λ l. least_seq (top - 1) row.pages ≤ l.seq) (λ l. l.seq ≤ top) row.pages (least-each (top - 1) row.pages r.rising) (each-weaker (λ l. (row.min_seq ≤ l.seq) × (l.seq ≤ top)) (λ l. l.seq ≤ top) (λ l h. h.1) row.pages r.within);
      rising = r.rising;
      two = omega arith;
      four = omega arith;
    }

pub settled-sound : (g : Gens) → IsGens g → IsGens (settled_gens g)
settled-sound g s = sound_rows s g.max_seq (settled_row g.max_seq) (settled-row g.max_seq) (λ row d. d) (λ row q h. h)

-- ---- a page that goes to the tail

sent-sound : (ls : List Listed) (s : Seen) → IsGens s.gens → IsGens (sent_back ls s).gens
sent-sound [] s g = g
sent-sound (l ∷ ls) s g = sent-sound ls (to_tail l.page s) (tail-sound l.page s g)

pub passed-sound : (swap : Bool) (s : Seen) → IsGens s.gens → IsGens (passed_by swap s).gens
passed-sound swap s g = sent-sound (front_run (has_mark s.marks) (old_pages swap s.gens)) s g

-- ---- an aging

rising-one : (seq : ℕ) (xs : List Listed) → IsRising (map (at_seq seq) xs)
rising-one seq [] = tt
rising-one seq (x ∷ xs) = (each-map (λ l. Unit {0}) (λ l. seq ≤ l.seq) (at_seq seq) (λ l h. omega arith) xs (each-any xs), rising-one seq xs)
  where
    each-any : (xs : List Listed) → AllByRecursion (λ l. Unit {0}) xs
    each-any [] = tt
    each-any (x ∷ xs) = (tt, each-any xs)

rising-merged : (low : ℕ) (xs : List Listed) → IsRising xs → IsRising (map (λ l. at_seq (max low l.seq) l) xs)
rising-merged low [] r = tt
rising-merged low (x ∷ xs) r =
    (each-map (λ l. x.seq ≤ l.seq) (λ l. max low x.seq ≤ l.seq) (λ l. at_seq (max low l.seq) l) (λ l h. (let le : max low x.seq ≤ max low l.seq = omega arith in le)) xs r.0, rising-merged low xs r.1)

distinct-renumbered : (number : Listed → ℕ) (xs : List Listed) → AreDistinct xs → AreDistinct (map (λ l. at_seq (number l) l) xs)
distinct-renumbered number [] d = tt
distinct-renumbered number (x ∷ xs) d = (has-renumbered number x.page xs ∙ d.0, distinct-renumbered number xs d.1)

-- a row of three generations at most
record IsThree (top : ℕ) (row : Row) : Type 0 where
  sound : IsRow top row
  three : top ≤ row.min_seq + 2

three-row : (top : ℕ) (row : Row) → IsRow top row → IsThree top (at_most_three top row)
three-row top row r =
    elim (cases_Bool (eqb (row.min_seq + 3) top)) [
      | inl four ↦ rw four (merges (eqb-true (row.min_seq + 3) top four))
      | inr fewer ↦ rw fewer (let ne = eqb-false (row.min_seq + 3) top fewer in let four = r.four in record { sound = r; three = few row.min_seq top four ne })
    ]
  where
    few : (low top : ℕ) → top ≤ low + 3 → (low + 3 ≡ top → ⊥) → top ≤ low + 2
    few low top le ne = omega arith

    merges : row.min_seq + 3 ≡ top → IsThree top (merged row)
    merges same = record {
      sound = record {
        within = each-map (λ l. (row.min_seq ≤ l.seq) × (l.seq ≤ top)) (λ l. (row.min_seq + 1 ≤ l.seq) × (l.seq ≤ top)) (λ l. at_seq (max (row.min_seq + 1) l.seq) l) (λ l h. (let high : l.seq ≤ top = h.1 in (omega arith, omega arith))) row.pages r.within;
        rising = rising-merged (row.min_seq + 1) row.pages r.rising;
        two = omega arith;
        four = omega arith;
      };
      three = omega arith;
    }

promoted-row : (top : ℕ) (m : List Bool) (row : Row) → IsThree top row → IsRow (top + 1) (promoted (top + 1) m row)
promoted-row top m row t =
    let two : row.min_seq + 1 ≤ top = t.sound.two in
    let three : top ≤ row.min_seq + 2 = t.three in
    let un : List Listed = filter (λ l. not (has_mark m l)) row.pages in
    let ma : List Listed = map (at_seq (top + 1)) (filter (has_mark m) row.pages) in
    let wide = each-weaker (λ l. (row.min_seq ≤ l.seq) × (l.seq ≤ top)) (λ l. (row.min_seq ≤ l.seq) × (l.seq ≤ top + 1)) (λ l h. (let high : l.seq ≤ top = h.1 in (h.0, omega arith))) row.pages t.sound.within in
    let low : AllByRecursion (λ l. l.seq ≤ top + 1) un = each-weaker (λ l. (row.min_seq ≤ l.seq) × (l.seq ≤ top + 1)) (λ l. l.seq ≤ top + 1) (λ l h. h.1) un (each-filter (λ l. (row.min_seq ≤ l.seq) × (l.seq ≤ top + 1)) (λ l. not (has_mark m l)) row.pages wide) in
    let high : AllByRecursion (λ l. top + 1 ≤ l.seq) ma =
    each-map (λ l. (row.min_seq ≤ l.seq) × (l.seq ≤ top + 1)) (λ l. top + 1 ≤ l.seq) (at_seq (top + 1)) (λ l h. omega arith) (filter (has_mark m) row.pages) (each-filter (λ l. (row.min_seq ≤ l.seq) × (l.seq ≤ top + 1)) (has_mark m) row.pages wide) in
    record {
      within =
          each-append (λ l. (row.min_seq ≤ l.seq) × (l.seq ≤ top + 1)) un ma (each-filter (λ l. (row.min_seq ≤ l.seq) × (l.seq ≤ top + 1)) (λ l. not (has_mark m l)) row.pages wide)
          (each-marked (λ l. (row.min_seq ≤ l.seq) × (l.seq ≤ top + 1)) (top + 1) m (λ l h k. (omega arith, omega arith)) row.pages wide);
      rising = rising-append (top + 1) un ma low high (rising-filter (λ l. not (has_mark m l)) row.pages t.sound.rising) (rising-one (top + 1) (filter (has_mark m) row.pages));
      two = omega arith;
      four = omega arith;
    }

distinct-three : (top : ℕ) (row : Row) → AreDistinct row.pages → AreDistinct (at_most_three top row).pages
distinct-three top row d =
    elim (eqb (row.min_seq + 3) top) as (λ b. AreDistinct (let r : Row = cond b (merged row) row in r).pages) [
      | true ↦ distinct-renumbered (λ l. max (row.min_seq + 1) l.seq) row.pages d
      | false ↦ d
    ]

distinct-aged : (top : ℕ) (m : List Bool) (row : Row) → AreDistinct row.pages → AreDistinct (aged_row top m row).pages
distinct-aged top m row d =
    let xs : List Listed = (at_most_three top row).pages in
    let three = distinct-three top row d in
    let un : Listed → Bool = λ l. not (has_mark m l) in
    distinct-append (filter un xs) (map (at_seq (top + 1)) (filter (has_mark m) xs)) (distinct-filter un xs three) (distinct-renumbered (λ l. top + 1) (filter (has_mark m) xs) (distinct-filter (has_mark m) xs three))
    (λ q h. has-renumbered (λ l. top + 1) q (filter (has_mark m) xs) ∙ distinct-split un (has_mark m) (λ l. twice (has_mark m l)) xs three q h)
  where
    twice : (b : Bool) → b ≡ not (not b)
    twice true = refl
    twice false = refl

pub aged-sound : (s : Seen) → IsGens s.gens → IsGens (aged s).gens
aged-sound s g =
    let top : ℕ = s.gens.max_seq in
    sound_rows g (top + 1) (aged_row top s.marks) (λ row r. promoted-row top s.marks (at_most_three top row) (three-row top row r)) (distinct-aged top s.marks) (λ row q h. sym (has-aged_row top s.marks q row) ∙ h)

times-sound : (n : ℕ) (s : Seen) → IsGens s.gens → IsGens (aged_times n s).gens
times-sound zero s g = g
times-sound (suc n) s g = times-sound n (aged (settled s)) (aged-sound (settled s) (settled-sound s.gens g))

-- ---- the whole search

ages-sound : (swap : Bool) (from : Seen) (answer : Option ℕ) (to : Seen) → IsGens from.gens → AgesToOld swap from answer to → IsGens to.gens
ages-sound swap from answer to g a = subst (λ (x : Seen). IsGens x.gens) (sym a.leaves) (settled-sound (aged_times a.times from).gens (times-sound a.times from g))

-- a search leaves the lists of the group sound
pub picks-sound : (swap : Bool) (from : Seen) (answer : Option ℕ) (to : Seen) → IsGens from.gens → Picks swap from answer to → IsGens to.gens
picks-sound swap from answer to g picks =
    picks-cases swap from answer to picks (λ some a. ages-sound swap (passed_by swap from) answer to (passed-sound swap from g) a) (λ none same. subst (λ (x : Seen). IsGens x.gens) (sym same) g)

-- ---- the page that is taken

-- the answer is on the lists
pub picks-listed : (swap : Bool) (from : Seen) (p : ℕ) (to : Seen) → Picks swap from (Some p) to → is_listed to.gens p ≡ true
picks-listed swap from p to picks =
    picks-cases swap from (Some p) to picks (λ some a. answer-listed swap (passed_by swap from) p to a) (λ none same. absurd (cc))

-- an answer comes of a search that has usable pages
picks-ages : (swap : Bool) (from : Seen) (p : ℕ) (to : Seen) → Picks swap from (Some p) to → (has_usable swap from.gens ≡ true) × AgesToOld swap (passed_by swap from) (Some p) to
picks-ages swap from p to picks = picks-cases swap from (Some p) to picks (λ some a. (some, a)) (λ none same. absurd (cc))

-- it is the first of the pages that are old after the search
pub picks-first : (swap : Bool) (from : Seen) (p : ℕ) (to : Seen) → Picks swap from (Some p) to → (l : Listed) × (others : List Listed) × (old_pages swap to.gens ≡ l ∷ others) × (p ≡ l.page)
picks-first swap from p to picks =
    let a = (picks-ages swap from p to picks).1 in
    let same : p ≡ a.first.page = (let e : Some p ≡ Some a.first.page = a.answers in cc) in
    (a.first, a.others, ap (λ (x : Seen). old_pages swap x.gens) a.leaves ∙ a.old, same)

-- ---- a marked page

behind_run-clear : (p : ℕ) (m : List Bool) (xs : List Listed) → AllByRecursion (λ l. eqb l.page p ≡ false) xs → behind_run (has_mark (set m p false)) xs ≡ behind_run (has_mark m) xs
behind_run-clear p m [] h = refl
behind_run-clear p m (x ∷ xs) h =
    ap (λ (b : Bool). cond b (behind_run (has_mark (set m p false)) xs) (x ∷ xs)) (get_or-set_other m p x.page false false (λ q. eqb-false x.page p h.0 q))
    ∙ ap (λ (zs : List Listed). cond (is_marked m x.page) zs (x ∷ xs)) (behind_run-clear p m xs h.1)

-- after the search among the old pages those from the first unmarked one on are old, and there is as much to take
record Passed (swap : Bool) (xs : List Listed) (s end : Seen) : Type 0 where
  old : old_pages swap end.gens ≡ behind_run (has_mark s.marks) xs
  usable : has_usable swap end.gens ≡ has_usable swap s.gens

passed : (swap : Bool) (xs : List Listed) (s : Seen) → IsGens s.gens → old_pages swap s.gens ≡ xs → Passed swap xs s (sent_back (front_run (has_mark s.marks) xs) s)
passed swap [] s g e = record { old = e; usable = refl }
passed swap (x ∷ xs) s g e =
    let t = turned swap s x xs g e in
    let none = none-in x.page xs t.apart in
    let next : Seen = to_tail x.page s in
    let later = passed swap xs next (tail-sound x.page s g) t.old in
    let same = sym (front_run-clear x.page s.marks xs none) in
    elim (cases_Bool (has_mark s.marks x)) [
      | inl marked ↦
          rw marked (record {
            old = ap (λ (zs : List Listed). old_pages swap (sent_back zs next).gens) same ∙ later.old ∙ behind_run-clear x.page s.marks xs none ∙ rw marked refl;
            usable = ap (λ (zs : List Listed). has_usable swap (sent_back zs next).gens) same ∙ later.usable ∙ t.usable;
          })
      | inr fresh ↦ rw fresh (record { old = e ∙ rw fresh refl; usable = refl })
    ]

pub passed-old : (swap : Bool) (s : Seen) → IsGens s.gens → old_pages swap (passed_by swap s).gens ≡ behind_run (has_mark s.marks) (old_pages swap s.gens)
passed-old swap s g = (passed swap (old_pages swap s.gens) s g refl).old

pub passed-usable : (swap : Bool) (s : Seen) → IsGens s.gens → has_usable swap (passed_by swap s).gens ≡ has_usable swap s.gens
passed-usable swap s g = (passed swap (old_pages swap s.gens) s g refl).usable

-- the run ends at a page that fails the test, or has all
run-ends : (test : Listed → Bool) (xs : List Listed) (l : Listed) (ls : List Listed) → behind_run test xs ≡ l ∷ ls → test l ≡ false
run-ends test [] l ls e = absurd (cc)
run-ends test (x ∷ xs) l ls e =
    elim (cases_Bool (test x)) [
      | inl passes ↦ run-ends test xs l ls (rw passes at e)
      | inr fails ↦ let both : x ∷ xs ≡ l ∷ ls = rw fails at e in let same : x ≡ l = cc in ap test (sym same) ∙ fails
    ]

run-all : (test : Listed → Bool) (xs : List Listed) → behind_run test xs ≡ [] → AllByRecursion (λ l. test l ≡ true) xs
run-all test [] e = tt
run-all test (x ∷ xs) e =
    elim (cases_Bool (test x)) [
      | inl passes ↦ (passes, run-all test xs (rw passes at e))
      | inr fails ↦ let both : x ∷ xs ≡ [] = rw fails at e in absurd (cc)
    ]

-- a page that is old after the search among the old pages is answered at once
answers-first : (swap : Bool) (from : Seen) (p : ℕ) (to : Seen) (l : Listed) (ls : List Listed) → AgesToOld swap from (Some p) to → old_pages swap from.gens ≡ l ∷ ls → p ≡ l.page
answers-first swap from p to l ls a e = at_once a.times refl
  where
    at_once : (n : ℕ) → a.times ≡ n → p ≡ l.page
    at_once zero t =
        let old : old_pages swap from.gens ≡ a.first ∷ a.others = subst (λ (n : ℕ). old_pages swap (aged_times n from).gens ≡ a.first ∷ a.others) t a.old in
        let first : l ∷ ls ≡ a.first ∷ a.others = sym e ∙ old in
        let answer : Some p ≡ Some a.first.page = a.answers in
        cc
    at_once (suc n) t = let none : old_pages swap from.gens ≡ [] = a.none_before 0 (omega arith) in let both : l ∷ ls ≡ [] = sym e ∙ none in absurd (cc)

-- a marked page is the answer only where each old page is marked
pub marked-stays : (swap : Bool) (from : Seen) (p : ℕ) (to : Seen) → Picks swap from (Some p) to → IsGens from.gens → is_marked from.marks p ≡ true → AllByRecursion (λ l. has_mark from.marks l ≡ true) (old_pages swap from.gens)
marked-stays swap from p to picks g marked = by_rest (behind_run (has_mark from.marks) (old_pages swap from.gens)) refl
  where
    by_rest : (rest : List Listed) → behind_run (has_mark from.marks) (old_pages swap from.gens) ≡ rest → AllByRecursion (λ l. has_mark from.marks l ≡ true) (old_pages swap from.gens)
    by_rest [] e = run-all (has_mark from.marks) (old_pages swap from.gens) e
    by_rest (l ∷ ls) e =
        let same = answers-first swap (passed_by swap from) p to l ls (picks-ages swap from p to picks).1 (passed-old swap from g ∙ e) in
        absurd (true≢false (sym marked ∙ ap (λ (q : ℕ). is_marked from.marks q) same ∙ run-ends (has_mark from.marks) (old_pages swap from.gens) l ls e))

-- ---- how often a search ages

times-max : (n : ℕ) (s : Seen) → (aged_times n s).gens.max_seq ≡ s.gens.max_seq + n
times-max zero s = omega arith
times-max (suc n) s = let h : (aged_times n (aged (settled s))).gens.max_seq ≡ s.gens.max_seq + 1 + n = times-max n (aged (settled s)) in omega arith

times-hold : (n : ℕ) (swap : Bool) (top : ℕ) (s : Seen) → s.gens.max_seq + n ≤ top + 2 → Holds swap top s → Holds swap top (aged_times n s)
times-hold zero swap top s le h = h
times-hold (suc n) swap top s le h = times-hold n swap top (aged (settled s)) (omega arith) (holds-aged swap top (settled s) (omega arith) (holds-settled swap top s h))

few-times : (swap : Bool) (from : Seen) (answer : Option ℕ) (to : Seen) → IsGens from.gens → has_usable swap from.gens ≡ true → (a : AgesToOld swap from answer to) → a.times ≤ 3
few-times swap from answer to g u a = at_most a.times refl
  where
    at_most : (n : ℕ) → a.times ≡ n → a.times ≤ 3
    at_most zero t = omega arith
    at_most (suc zero) t = omega arith
    at_most (suc (suc zero)) t = omega arith
    at_most (suc (suc (suc zero))) t = omega arith
    at_most (suc (suc (suc (suc n)))) t =
        let top : ℕ = from.gens.max_seq + 1 in
        let high = times-max 3 from in
        absurd (old-there swap top (aged_times 3 from) (times-hold 3 swap top from (omega arith) (holds-first swap from g u)) (omega arith) (a.none_before 3 (omega arith)))

-- a search begins three generations at most
pub few-ages : (swap : Bool) (from : Seen) (answer : Option ℕ) (to : Seen) → IsGens from.gens → Picks swap from answer to → (from.gens.max_seq ≤ to.gens.max_seq) × (to.gens.max_seq ≤ from.gens.max_seq + 3)
few-ages swap from answer to g picks =
    picks-cases swap from answer to picks
    (λ some a.
    let passed = passed-max swap from (settled (passed_by swap from)) refl in
    let times = times-max a.times (passed_by swap from) in
    let few = few-times swap (passed_by swap from) answer to (passed-sound swap from g) (passed-usable swap from g ∙ some) a in
    let end : to.gens.max_seq ≡ (aged_times a.times (passed_by swap from)).gens.max_seq = ap (λ (x : Seen). x.gens.max_seq) a.leaves in
    (omega arith, omega arith))
    (λ none same. let end : to.gens.max_seq ≡ from.gens.max_seq = ap (λ (x : Seen). x.gens.max_seq) same in (omega arith, omega arith))

-- ---- a search marks no page

sent-unmarked : (ls : List Listed) (s : Seen) (p : ℕ) → is_marked s.marks p ≡ false → is_marked (sent_back ls s).marks p ≡ false
sent-unmarked [] s p h = h
sent-unmarked (l ∷ ls) s p h = sent-unmarked ls (to_tail l.page s) p (clear-keeps s.marks l.page p h)

times-unmarked : (n : ℕ) (s : Seen) (p : ℕ) → is_marked s.marks p ≡ false → is_marked (aged_times n s).marks p ≡ false
times-unmarked zero s p h = h
times-unmarked (suc n) s p h = times-unmarked n (aged (settled s)) p (cleared-keeps (listed (settled s).gens) s.marks p h)

pub picks-unmarked : (swap : Bool) (from : Seen) (answer : Option ℕ) (to : Seen) → Picks swap from answer to → (p : ℕ) → is_marked from.marks p ≡ false → is_marked to.marks p ≡ false
picks-unmarked swap from answer to picks p h =
    picks-cases swap from answer to picks
    (λ some a. ap (λ (x : Seen). is_marked x.marks p) a.leaves ∙ times-unmarked a.times (passed_by swap from) p (sent-unmarked (front_run (has_mark from.marks) (old_pages swap from.gens)) from p h))
    (λ none same. ap (λ (x : Seen). is_marked x.marks p) same ∙ h)

-- ---- the lists of all groups

keeps-row : (from to : Seen) → Keeps from to → (kind : Kind) (p : ℕ) → has_page p (row_of kind to.gens).pages ≡ has_page p (row_of kind from.gens).pages
keeps-row from to k Anon p = k.anon p
keeps-row from to k File p = k.file p

module _ (swap : Bool) (held : HeldLists) (g : ℕ) (answer : Option ℕ) (held' : HeldLists) (picked : PicksOf swap held g answer held') where
  -- no other group's lists change
  pub picked-others : (h : ℕ) → h ≢ g → gens_at held'.groups h ≡ gens_at held.groups h
  picked-others h other = ap (λ (x : HeldLists). gens_at x.groups h) picked.lists ∙ get_or-set_other held.groups g h picked.seen.gens new_gens other

  pub picked-unmarked : (p : ℕ) → is_marked held.marks p ≡ false → is_marked held'.marks p ≡ false
  picked-unmarked p h = ap (λ (x : HeldLists). is_marked x.marks p) picked.lists ∙ picks-unmarked swap (seen_of held g) answer picked.seen picked.picks p h

  pub picked-length : length held'.groups ≡ length held.groups
  picked-length = ap (λ (x : HeldLists). length x.groups) picked.lists ∙ length-set held.groups g picked.seen.gens

  -- the lists of each group stay sound
  pub picked-generations : AreGenerations held → AreGenerations held'
  picked-generations sound h =
      subst (λ (x : HeldLists). IsGens (gens_at x.groups h)) (sym picked.lists) (at-set IsGens held.groups g h picked.seen.gens (λ e. picks-sound swap (seen_of held g) answer picked.seen (sound g) picked.picks) (sound h))

  -- a search begins three generations of a group at most
  pub picked-max : AreGenerations held → (h : ℕ) → ((gens_at held.groups h).max_seq ≤ (gens_at held'.groups h).max_seq) × ((gens_at held'.groups h).max_seq ≤ (gens_at held.groups h).max_seq + 3)
  picked-max sound h =
      subst (λ (x : HeldLists). ((gens_at held.groups h).max_seq ≤ (gens_at x.groups h).max_seq) × ((gens_at x.groups h).max_seq ≤ (gens_at held.groups h).max_seq + 3)) (sym picked.lists)
      (at-set (λ x. ((gens_at held.groups h).max_seq ≤ x.max_seq) × (x.max_seq ≤ (gens_at held.groups h).max_seq + 3)) held.groups g h picked.seen.gens
      (λ e. subst (λ (i : ℕ). ((gens_at held.groups i).max_seq ≤ picked.seen.gens.max_seq) × (picked.seen.gens.max_seq ≤ (gens_at held.groups i).max_seq + 3)) e (few-ages swap (seen_of held g) answer picked.seen (sound g) picked.picks)) (omega arith, omega arith))

  -- each row has the pages that it had
  pub picked-rows : AreGenerations held → (h : ℕ) (kind : Kind) (p : ℕ) → has_page p (row_of kind (gens_at held'.groups h)).pages ≡ has_page p (row_of kind (gens_at held.groups h)).pages
  picked-rows sound h kind p =
      ap (λ (x : HeldLists). has_page p (row_of kind (gens_at x.groups h)).pages) picked.lists
      ∙ at-set (λ x. has_page p (row_of kind x).pages ≡ has_page p (row_of kind (gens_at held.groups h)).pages) held.groups g h picked.seen.gens
      (λ e. keeps-row (seen_of held g) picked.seen (kept-picks swap (seen_of held g) answer picked.seen (sound g) picked.picks) kind p ∙ ap (λ (i : ℕ). has_page p (row_of kind (gens_at held.groups i)).pages) e) refl

  -- a page that is not on the group's lists keeps its mark
  pub picked-marks : AreGenerations held → (p : ℕ) → is_listed (gens_at held.groups g) p ≡ false → is_marked held'.marks p ≡ is_marked held.marks p
  picked-marks sound p none = ap (λ (x : HeldLists). is_marked x.marks p) picked.lists ∙ (kept-picks swap (seen_of held g) answer picked.seen (sound g) picked.picks).marks p none

  pub picked-size : AreGenerations held → length held'.marks ≡ length held.marks
  picked-size sound = ap (λ (x : HeldLists). length x.marks) picked.lists ∙ (kept-picks swap (seen_of held g) answer picked.seen (sound g) picked.picks).size

  -- the lists are those of the pages that are held, still
  pub picked-held : (pages : Pages) → AreGenerations held → ListsHeld pages held → ListsHeld pages held'
  picked-held pages sound were =
      record {
        rows = λ h kind p. picked-rows sound h kind p ∙ were.rows h kind p;
        marked = λ p m. by_listed p m (is_listed (gens_at held.groups g) p) refl;
        counted = λ p gone. ap (λ (x : HeldLists). hits_at x.hits p) picked.lists ∙ were.counted p gone;
      }
    where
      by_listed : (p : ℕ) → is_marked held'.marks p ≡ true → (b : Bool) → is_listed (gens_at held.groups g) p ≡ b → is_held_in pages p ≡ true
      by_listed p m true e =
          ⊎_elim (λ file. of-held g File (page_at pages p) (sym (were.rows g File p) ∙ file)) (λ anon. of-held g Anon (page_at pages p) (sym (were.rows g Anon p) ∙ anon))
          (or_cases (has_page p (gens_at held.groups g).file.pages) (has_page p (gens_at held.groups g).anon.pages) e)
      by_listed p m false e = were.marked p (sym (picked-marks sound p e) ∙ m)

module _ (swap : Bool) (held : HeldLists) (g p : ℕ) (held' : HeldLists) (picked : PicksOf swap held g (Some p) held') (sound : AreGenerations held) where
  -- the page is on the group's lists, before the search and after it
  pub picked-was_listed : is_listed (gens_at held.groups g) p ≡ true
  picked-was_listed =
      sym (kept-listed (seen_of held g) picked.seen (kept-picks swap (seen_of held g) (Some p) picked.seen (sound g) picked.picks) p) ∙ picks-listed swap (seen_of held g) p picked.seen picked.picks

  pub picked-listed : is_listed (gens_at held'.groups g) p ≡ true
  picked-listed =
      ap (λ (b : Bool). b || has_page p (gens_at held'.groups g).anon.pages) (picked-rows swap held g (Some p) held' picked sound g File p)
      ∙ ap (λ (b : Bool). has_page p (gens_at held.groups g).file.pages || b) (picked-rows swap held g (Some p) held' picked sound g Anon p)
      ∙ picked-was_listed

  -- and so it is a page of the group that is held
  pub picked-of : (pages : Pages) → ListsHeld pages held → (kind : Kind) × (there_and (is_held_of g kind) (page_at pages p) ≡ true)
  picked-of pages were =
      ⊎_elim (λ file. (File, sym (were.rows g File p) ∙ file)) (λ anon. (Anon, sym (were.rows g Anon p) ∙ anon))
      (or_cases (has_page p (gens_at held.groups g).file.pages) (has_page p (gens_at held.groups g).anon.pages) picked-was_listed)

  -- it was marked only where each old page of the group was
  pub picked-marked : is_marked held.marks p ≡ true → AllByRecursion (λ l. has_mark held.marks l ≡ true) (old_pages swap (gens_at held.groups g))
  picked-marked marked = marked-stays swap (seen_of held g) p picked.seen picked.picks (sound g) marked
