-- What holds of all lists, from what holds of rings: no page stands in two of them, or twice in one.
use Rattle.std.proofs.Common.{◌≡◌, ℕ, zero, suc, ◌+◌, ◌<◌, ◌≤◌, Bool, true, false, List, [], ◌∷◌, ◌++◌, length, map, eqb, refl, sym, ap, subst, ◌∙◌, arith, inl, inr}
use Rattle.std.specs.List.{AllByRecursion, IsDistinct}
use Rattle.std.proofs.lemmas.List.{get_or_past}
use Rattle.std.proofs.lemmas.Bool.{cases_eq, cases_lt, or_cases, or_left, or_right, false≢true, false_from_ne_true, eq-eqb, ne_eqb}
use Rattle.machine.specs.declared.record.Kind.{Kind}
use Rattle.machine.specs.declared.record.Kind.TheVariants.{Anon, File}
use Rattle.machine.specs.Generations.{Listed, Gens, new_gens, gens_at, has_page, is_listed, is_listed_in, IsRising, AreDistinct, IsRow, IsGens, AreGens}
use Rattle.page_lists.proofs.ListedLemmas.{each-append, has_page-append, distinct-append}
use Rattle.rings.specs.Rings.{list_at, has, AreApart}
use Rattle.rings.specs.Rings as of_rings
use Rattle.rings.proofs.ListLemmas.{listed_from, listed_in, list_within}
use Rattle.lru_gen.specs.declared.numbers.Numbers.{Numbers}
use Rattle.lru_gen.specs.Lists.{slot}
use Rattle.lru_gen.specs.Rows.{numbers_at, oldest, in_seq, rows_from, row_in, gens_from, groups_from, IsWindow, IsTable}
use Rattle.lru_gen.proofs.KindLemmas.{anon_is_no_file, row_listed, listed_row}
use Rattle.lru_gen.proofs.SlotLemmas.{slots_apart, groups_apart, kinds_apart, same_slot, slot_of, in_turn}
use Rattle.lru_gen.proofs.GroupLemmas.{length_groups, group_at, row_at}

same_tests : (a b : Bool) → (a ≡ true → b ≡ true) → (b ≡ true → a ≡ true) → a ≡ b
same_tests true true to from = refl
same_tests true false to from = sym (to refl)
same_tests false true to from = from refl
same_tests false false to from = refl

-- ---- which pages a row has

pub has_list : (p seq : ℕ) (ps : List ℕ) → has_page p (map (in_seq seq) ps) ≡ has ps p
has_list p seq [] = refl
has_list p seq (q ∷ ps) =
    elim (cases_eq p q) [
      | inl same ↦ rw (eq-eqb p q same, eq-eqb q p (sym same)) refl
      | inr other ↦ rw (ne_eqb p q other, ne_eqb q p (λ same. other (sym same))) (has_list p seq ps)
    ]

-- a page stands on the list of a generation
pub record Stands (lists : List (List ℕ)) (g : ℕ) (k : Kind) (p low high : ℕ) : Type 0 where
  pub seq : ℕ
  pub from : low ≤ seq
  pub below : seq < high
  pub there : has (list_at lists (slot g k seq)) p ≡ true

module _ (lists : List (List ℕ)) (g : ℕ) (k : Kind) where
  pub row_stands : (p q n : ℕ) → has_page p (rows_from lists g k q n) ≡ true → Stands lists g k p q (q + n)
  unfolding rows_from
  row_stands p q zero h = absurd (false≢true h)
  row_stands p q (suc n) h =
      let here = list_at lists (slot g k q) in
      elim (or_cases (has_page p (map (in_seq q) here)) (has_page p (rows_from lists g k (q + 1) n)) (sym (has_page-append p (map (in_seq q) here) (rows_from lists g k (q + 1) n)) ∙ h)) [
        | inl first ↦ record { seq = q; from = omega arith; below = omega arith; there = sym (has_list p q here) ∙ first }
        | inr later ↦
            let found = row_stands p (q + 1) n later in
            record { seq = found.seq; from = omega (arith, found.from); below = omega (arith, found.below); there = found.there }
      ]

  pub stands_row : (p q n s : ℕ) → q ≤ s → s < q + n → has (list_at lists (slot g k s)) p ≡ true → has_page p (rows_from lists g k q n) ≡ true
  unfolding rows_from
  stands_row p q zero s low high h = absurd (omega arith)
  stands_row p q (suc n) s low high h =
      let here = list_at lists (slot g k q) in
      has_page-append p (map (in_seq q) here) (rows_from lists g k (q + 1) n)
      ∙ elim (cases_eq s q) [
        | inl same ↦
            or_left (has_page p (map (in_seq q) here)) (has_page p (rows_from lists g k (q + 1) n)) (has_list p q here ∙ subst (λ (i : ℕ). has (list_at lists (slot g k i)) p ≡ true) same h)
        | inr other ↦
            or_right (has_page p (map (in_seq q) here)) (has_page p (rows_from lists g k (q + 1) n)) (stands_row p (q + 1) n s (omega arith) (omega arith) h)
      ]

  -- ---- the numbers along a row

  each_of_list : (P : Listed → Type 0) (seq : ℕ) → ((p : ℕ) → P (in_seq seq p)) → (ps : List ℕ) → AllByRecursion P (map (in_seq seq) ps)
  each_of_list P seq each [] = tt
  each_of_list P seq each (p ∷ ps) = (each p, each_of_list P seq each ps)

  pub row_each : (P : Listed → Type 0) (q n : ℕ) → ((s : ℕ) → q ≤ s → s < q + n → AllByRecursion P (map (in_seq s) (list_at lists (slot g k s)))) → AllByRecursion P (rows_from lists g k q n)
  unfolding rows_from
  row_each P q zero each = tt
  row_each P q (suc n) each =
      each-append P (map (in_seq q) (list_at lists (slot g k q))) (rows_from lists g k (q + 1) n) (each q (omega arith) (omega arith)) (row_each P (q + 1) n (λ s low high. each s (omega arith) (omega arith)))

  rising_front : (seq : ℕ) (ps : List ℕ) (ys : List Listed) → AllByRecursion (λ l. seq ≤ l.seq) ys → IsRising ys → IsRising (map (in_seq seq) ps ++ ys)
  rising_front seq [] ys low rising = rising
  rising_front seq (p ∷ ps) ys low rising =
      (each-append (λ l. seq ≤ l.seq) (map (in_seq seq) ps) ys (each_of_list (λ l. seq ≤ l.seq) seq (λ q. omega arith) ps) low, rising_front seq ps ys low rising)

  row_rising : (q n : ℕ) → IsRising (rows_from lists g k q n)
  unfolding rows_from
  row_rising q zero = tt
  row_rising q (suc n) =
      rising_front q (list_at lists (slot g k q)) (rows_from lists g k (q + 1) n) (row_each (λ l. q ≤ l.seq) (q + 1) n (λ s low high. each_of_list (λ l. q ≤ l.seq) s (λ p. omega arith) (list_at lists (slot g k s)))) (row_rising (q + 1) n)

  row_is : (least top : ℕ) → IsWindow lists g k least top → IsRow top (row_in lists g k least)
  row_is least top window = record {
    within = row_each (λ l. (least ≤ l.seq) × (l.seq ≤ top)) least 4 (λ s low high.
        elim (cases_lt top s) [
          | inl above ↦
              subst (λ (ps : List ℕ). AllByRecursion (λ l. (least ≤ l.seq) × (l.seq ≤ top)) (map (in_seq s) ps)) (sym (window.unused s above high)) tt
          | inr within ↦ each_of_list (λ l. (least ≤ l.seq) × (l.seq ≤ top)) s (λ p. (low, within)) (list_at lists (slot g k s))
        ]);
    rising = row_rising least 4;
    two = window.two;
    four = window.four;
  }

-- ---- no page twice

distinct_list : (seq : ℕ) (ps : List ℕ) → IsDistinct eqb ps → AreDistinct (map (in_seq seq) ps)
unfolding IsDistinct
distinct_list seq [] d = tt
distinct_list seq (p ∷ ps) d = (has_list p seq ps ∙ none p ps d.0, distinct_list seq ps d.1)
  where
    none : (p : ℕ) (ps : List ℕ) → AllByRecursion (λ q. eqb p q ≡ false) ps → has ps p ≡ false
    none p [] h = refl
    none p (q ∷ ps) h = rw h.0 (none p ps h.1)

module _ (lists : List (List ℕ)) (apart : AreApart lists) where
  distinct_row : (g : ℕ) (k : Kind) (q n : ℕ) → n ≤ 4 → AreDistinct (rows_from lists g k q n)
  unfolding rows_from
  distinct_row g k q zero few = tt
  distinct_row g k q (suc n) few =
      let here = list_at lists (slot g k q) in
      distinct-append (map (in_seq q) here) (rows_from lists g k (q + 1) n) (distinct_list q here (apart.once (slot g k q))) (distinct_row g k (q + 1) n (omega arith)) (λ p first.
      false_from_ne_true (has_page p (rows_from lists g k (q + 1) n)) (λ later.
      let found = row_stands lists g k p (q + 1) n later in
      slots_apart g k q found.seq (omega (arith, found.from)) (omega (arith, found.below)) (apart.one p (slot g k q) (slot g k found.seq) (sym (has_list p q here) ∙ first) found.there)))

  gens_are : (g : ℕ) (n : Numbers) → ((k : Kind) → IsWindow lists g k (oldest k n) n.max_seq) → IsGens (gens_from lists g n)
  gens_are g n windows =
      let a = n.anon_min_seq in
      let f = n.file_min_seq in
      record {
        anon = row_is lists g Anon a n.max_seq (windows Anon);
        file = row_is lists g File f n.max_seq (windows File);
        distinct =
            distinct-append (rows_from lists g Anon a 4) (rows_from lists g File f 4) (distinct_row g Anon a 4 (omega arith)) (distinct_row g File f 4 (omega arith)) (λ p first.
            false_from_ne_true (has_page p (rows_from lists g File f 4)) (λ later.
            let found = row_stands lists g Anon p a 4 first in
            let second = row_stands lists g File p f 4 later in
            kinds_apart g g Anon File found.seq second.seq anon_is_no_file (apart.one p (slot g Anon found.seq) (slot g File second.seq) found.there second.there)));
      }

new_row_is : IsRow 3 (record { min_seq = 0; pages = [] })
new_row_is = record { within = tt; rising = tt; two = omega arith; four = omega arith }

new_gens_are : IsGens new_gens
new_gens_are = record { anon = new_row_is; file = new_row_is; distinct = tt }

-- ---- which group has a page

-- a page stands on a list of the group
pub record StandsIn (lists : List (List ℕ)) (groups g p : ℕ) : Type 0 where
  pub within : g < groups
  pub kind : Kind
  pub seq : ℕ
  pub there : has (list_at lists (slot g kind seq)) p ≡ true

some_group : (groups : List Gens) (p : ℕ) → is_listed_in groups p ≡ true → (g : ℕ) × (is_listed (gens_at groups g) p ≡ true)
some_group [] p h = absurd (false≢true h)
some_group (x ∷ groups) p h =
    elim (or_cases (is_listed x p) (is_listed_in groups p) h) [
      | inl here ↦ (0, here)
      | inr later ↦ let found = some_group groups p later in (suc found.0, found.1)
    ]

pub group_has : (groups : List Gens) (g p : ℕ) → is_listed (gens_at groups g) p ≡ true → is_listed_in groups p ≡ true
group_has [] g p h = absurd (false≢true h)
group_has (x ∷ groups) zero p h = or_left (is_listed x p) (is_listed_in groups p) h
group_has (x ∷ groups) (suc g) p h = or_right (is_listed x p) (is_listed_in groups p) (group_has groups g p h)

module _ (lists : List (List ℕ)) (numbers : List Numbers) where
  pub listed_stands : (g p : ℕ) → is_listed (gens_at (groups_from lists 0 numbers) g) p ≡ true → StandsIn lists (length numbers) g p
  listed_stands g p h =
      elim (cases_lt g (length numbers)) [
        | inl within ↦
            let row = listed_row (gens_at (groups_from lists 0 numbers) g) p h in
            let k = row.0 in
            let found = row_stands lists g k p (oldest k (numbers_at numbers g)) 4 (ap (λ (ls : List Listed). has_page p ls) (sym (row_at lists numbers g k within)) ∙ row.1) in
            record { within = within; kind = k; seq = found.seq; there = found.there }
        | inr past ↦
            let many = length_groups lists 0 numbers in
            absurd (false≢true (subst (λ (v : Gens). is_listed v p ≡ true) (get_or_past (groups_from lists 0 numbers) g new_gens (omega arith)) h))
      ]

  group_stands : (g p : ℕ) (k : Kind) (s : ℕ) → g < length numbers → oldest k (numbers_at numbers g) ≤ s → s < oldest k (numbers_at numbers g) + 4 → has (list_at lists (slot g k s)) p ≡ true → is_listed (gens_at (groups_from lists 0 numbers) g) p ≡ true
  group_stands g p k s within low high h =
      row_listed (gens_at (groups_from lists 0 numbers) g) p k
      (ap (λ (ls : List Listed). has_page p ls) (row_at lists numbers g k within) ∙ stands_row lists g k p (oldest k (numbers_at numbers g)) 4 s low high h)

  pub in_a_ring : (p : ℕ) → is_listed_in (groups_from lists 0 numbers) p ≡ true → of_rings.is_listed lists p ≡ true
  in_a_ring p h =
      let found = some_group (groups_from lists 0 numbers) p h in
      let stands = listed_stands found.0 p found.1 in
      listed_from lists (slot found.0 stands.kind stands.seq) p stands.there

  in_a_group : IsTable lists numbers → (p : ℕ) → of_rings.is_listed lists p ≡ true → is_listed_in (groups_from lists 0 numbers) p ≡ true
  in_a_group is p h =
      let found = listed_in lists p h in
      let at = slot_of found.0 in
      let inside = list_within lists found.0 p found.1 in
      let within : at.group < length numbers = omega (arith, at.first, is.count) in
      let turn = in_turn (oldest at.kind (numbers_at numbers at.group)) at.turn in
      group_has (groups_from lists 0 numbers) at.group p
      (group_stands at.group p at.kind turn.seq within turn.low turn.high
      (subst (λ (l : ℕ). has (list_at lists l) p ≡ true) (at.is ∙ same_slot at.group at.kind at.turn turn.seq turn.same) found.1))

  pub same_listed : IsTable lists numbers → (p : ℕ) → of_rings.is_listed lists p ≡ is_listed_in (groups_from lists 0 numbers) p
  same_listed is p = same_tests _ _ (in_a_group is p) (in_a_ring p)

  pub groups_are : IsTable lists numbers → AreApart lists → AreGens (groups_from lists 0 numbers)
  groups_are is apart = record {
    each = λ g.
        elim (cases_lt g (length numbers)) [
          | inl within ↦
              subst (λ (v : Gens). IsGens v) (sym (group_at lists numbers g within)) (gens_are lists apart g (numbers_at numbers g) (is.windows g within))
          | inr past ↦
              let many = length_groups lists 0 numbers in
              subst (λ (v : Gens). IsGens v) (sym (get_or_past (groups_from lists 0 numbers) g new_gens (omega arith))) new_gens_are
        ];
    apart = λ g h p first second.
        let one = listed_stands g p first in
        let two = listed_stands h p second in
        elim (cases_eq h g) [
          | inl same ↦ sym same
          | inr other ↦
              absurd (groups_apart g h two.kind one.kind two.seq one.seq other (apart.one p (slot h two.kind two.seq) (slot g one.kind one.seq) two.there one.there))
        ];
  }
