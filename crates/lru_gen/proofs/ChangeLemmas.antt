-- What each call makes of a group's lists.
use Rattle.std.proofs.Common.{◌≡◌, ◌≢◌, ℕ, ◌+◌, ◌<◌, ◌≤◌, not, List, [], ◌∷◌, ◌++◌, length, map, filter, set, true, false, eqb, refl, sym, ap, subst, ◌∙◌, arith, inl, inr, length-set}
use Rattle.std.proofs.lemmas.List.{get_or-set_same, get_or-set_other, length-map}
use Rattle.std.proofs.lemmas.Bool.{cases_eq, false_from_ne_true}
use Rattle.machine.specs.declared.record.Kind.{Kind}
use Rattle.machine.specs.declared.record.Kind.TheVariants.{Anon, File}
use Rattle.machine.specs.Generations.{Row, Gens, on_row, entered, added, isolated, merged, raised, advanced}
use Rattle.rings.specs.Rings.{list_at, without, has, AreApart}
use Rattle.rings.proofs.ListLemmas.{without_none, list_at-map_without}
use Rattle.rings.proofs.RingLemmas.{moved_length, moved_source, moved_target, moved_other}
use Rattle.lru_gen.specs.declared.numbers.Numbers.{Numbers}
use Rattle.lru_gen.specs.Lists.{slot}
use Rattle.lru_gen.specs.Rows.{numbers_at, oldest, with_oldest, in_seq, rows_from, row_in, gens_from, IsWindow, IsTable}
use Rattle.lru_gen.proofs.KindLemmas.{anon_is_no_file, file_is_no_anon, each_of, row_by, both_rows}
use Rattle.lru_gen.proofs.SlotLemmas.{slot_within, slots_apart, slots_near, slot_again, one_slot, groups_apart}
use Rattle.lru_gen.proofs.RowLemmas.{rows_same, rows_more, rows_less, rows_without, rows_taken, rows_merged}
use Rattle.lru_gen.proofs.GroupLemmas.{Changes}

-- ---- the row of one type is changed

row_changed : (k : Kind) (change : Row → Row) (old new : List (List ℕ)) (g : ℕ) (n : Numbers) (to : ℕ) → row_in new g k to ≡ change (row_in old g k (oldest k n)) → ((j : Kind) → j ≢ k → row_in new g j (oldest j n) ≡ row_in old g j (oldest j n)) → gens_from new g (with_oldest k to n) ≡ on_row k change (gens_from old g n)
row_changed Anon change old new g n to row others = both_rows row (others File file_is_no_anon)
row_changed File change old new g n to row others = both_rows (others Anon anon_is_no_file) row

with_same : (k : Kind) (n : Numbers) → n ≡ with_oldest k (oldest k n) n
with_same Anon n = refl
with_same File n = refl

abbrev enters : ℕ → ℕ → Row → Row
enters p seq row = record { min_seq = row.min_seq; pages = entered p seq row.pages }

enters_added : (p : ℕ) (k : Kind) (seq : ℕ) (x : Gens) → on_row k (enters p seq) x ≡ added p k seq x
enters_added p Anon seq x = refl
enters_added p File seq x = refl

each_loses : (lists new : List (List ℕ)) (p : ℕ) → new ≡ map (without p) lists → (l : ℕ) → list_at new l ≡ without p (list_at lists l)
each_loses lists new p becomes l = ap (λ (all : List (List ℕ)). list_at all l) becomes ∙ list_at-map_without p lists l

window_without : (lists new : List (List ℕ)) (g : ℕ) (k : Kind) (least top p : ℕ) → IsWindow lists g k least top → ((l : ℕ) → list_at new l ≡ without p (list_at lists l)) → IsWindow new g k least top
window_without lists new g k least top p was each = record {
  two = was.two;
  four = was.four;
  unused = λ s above below. each (slot g k s) ∙ ap (without p) (was.unused s above below);
}

module _ {lists : List (List ℕ)} {numbers : List Numbers} (is : IsTable lists numbers) {g : ℕ} (within : g < length numbers) where
  abbrev was : Numbers
  was = numbers_at numbers g

  -- no list changes but those of one type
  row_changes : (k : Kind) (change : Row → Row) (new : List (List ℕ)) (to : ℕ) → length new ≡ length lists → ((h : ℕ) (j : Kind) (s : ℕ) → (h ≡ g → j ≢ k) → list_at new (slot h j s) ≡ list_at lists (slot h j s)) → IsWindow new g k to was.max_seq → row_in new g k to ≡ change (row_in lists g k (oldest k was)) → (n : Numbers) → n ≡ with_oldest k to was → Changes lists new numbers g n (on_row k change)
  row_changes k change new to size elsewhere window row n set_to =
      subst (λ (m : Numbers). Changes lists new numbers g m (on_row k change)) (sym set_to) (record {
        within = within;
        size = size;
        others = λ h other j s. elsewhere h j s (λ e. absurd (other e));
        windows = each_of (λ j least. IsWindow new g j least was.max_seq) k to was.anon_min_seq was.file_min_seq window (λ j apart.
            let kept = is.windows g within j in
            record { two = kept.two; four = kept.four; unused = λ s above below. elsewhere g j s (λ _. apart) ∙ kept.unused s above below });
        gens = row_changed k change lists new g was to row (λ j apart. row_by (oldest j was) (rows_same g j lists new (oldest j was) 4 (λ s from up. elsewhere g j s (λ _. apart))));
      })

  among : (k : Kind) (s : ℕ) → slot g k s < length lists
  among k s = let inside = slot_within g (length numbers) s k within in omega (arith, is.count)

  -- ---- a page comes to the end of a list

  pub added_changes : (p : ℕ) (k : Kind) (seq l : ℕ) {new : List (List ℕ)} → l ≡ slot g k seq → new ≡ set lists l (list_at lists l ++ p ∷ []) → oldest k was ≤ seq → seq ≤ was.max_seq → Changes lists new numbers g was (added p k seq)
  added_changes p k seq l {new} at becomes low high =
      let q = oldest k was in
      let window = is.windows g within k in
      let other : (i : ℕ) → i ≢ slot g k seq → list_at new i ≡ list_at lists i =
      λ i apart.
      ap (λ (all : List (List ℕ)). list_at all i) becomes
      ∙ get_or-set_other lists l i (list_at lists l ++ p ∷ []) [] (λ same. apart (same ∙ at)) in
      let here : list_at new (slot g k seq) ≡ list_at lists (slot g k seq) ++ p ∷ [] =
      subst (λ (i : ℕ). list_at new i ≡ list_at lists i ++ p ∷ []) at
      (ap (λ (all : List (List ℕ)). list_at all l) becomes ∙ get_or-set_same lists l (list_at lists l ++ p ∷ []) [] (subst (λ (i : ℕ). i < length lists) (sym at) (among k seq))) in
      let row = rows_taken g k lists new (in_seq seq p ∷ []) seq q 4 low (omega (arith, window.four)) here
      (λ s from to differs. other (slot g k s) (slots_near g k q s seq from to low (omega (arith, window.four)) differs)) in
      let c = row_changes k (enters p seq) new q (ap length becomes ∙ length-set lists l (list_at lists l ++ p ∷ [])) (λ h j s apart.
      other (slot h j s) (λ same. let one = one_slot g h j k s seq same in apart one.0 one.1)) (record {
        two = window.two;
        four = window.four;
        unused = λ s above below. other (slot g k s) (λ e. slots_apart g k seq s (omega arith) (omega arith) (sym e)) ∙ window.unused s above below;
      }) (row_by q row) was (with_same k was) in
      record { within = within; size = c.size; others = c.others; windows = c.windows; gens = c.gens ∙ enters_added p k seq _ }

  -- ---- every list loses a page, which only one of the group has

  pub isolated_changes : (p : ℕ) (k : Kind) (seq : ℕ) {new : List (List ℕ)} → AreApart lists → has (list_at lists (slot g k seq)) p ≡ true → new ≡ map (without p) lists → Changes lists new numbers g was (isolated p)
  isolated_changes p k seq {new} apart there becomes =
      let each = each_loses lists new p becomes in
      let row : (j : Kind) → row_in new g j (oldest j was) ≡ record { min_seq = oldest j was; pages = filter (λ l. not (eqb l.page p)) (rows_from lists g j (oldest j was) 4) } =
      λ j. row_by (oldest j was) (rows_without g j lists new p (oldest j was) 4 each) in
      record {
        within = within;
        size = ap length becomes ∙ length-map lists (without p);
        others = λ h other j s.
            let none : has (list_at lists (slot h j s)) p ≡ false =
            false_from_ne_true _ (λ too. groups_apart g h j k s seq other (apart.one p (slot h j s) (slot g k seq) too there)) in
            each (slot h j s) ∙ without_none p (list_at lists (slot h j s)) none;
        windows = λ j. window_without lists new g j (oldest j was) was.max_seq p (is.windows g within j) each;
        gens = both_rows (row Anon) (row File);
      }

  -- ---- the oldest list in front of the next

  pub merged_changes : (k : Kind) (source target : ℕ) {new : List (List ℕ)} → oldest k was + 3 ≡ was.max_seq → source ≡ slot g k (oldest k was) → target ≡ slot g k (oldest k was + 1) → new ≡ set (set lists target (list_at lists source ++ list_at lists target)) source [] → (n : Numbers) → n ≡ with_oldest k (oldest k was + 1) was → Changes lists new numbers g n (on_row k merged)
  merged_changes k source target {new} four from_is to_is becomes =
      let q = oldest k was in
      let both = list_at lists source ++ list_at lists target in
      let apart : source ≢ target = λ same. slots_apart g k q (q + 1) (omega arith) (omega arith) (sym from_is ∙ same ∙ to_is) in
      let next : list_at new (slot g k (q + 1)) ≡ list_at lists (slot g k q) ++ list_at lists (slot g k (q + 1)) =
      moved_target lists new source target both apart becomes (subst (λ (i : ℕ). i < length lists) (sym to_is) (among k (q + 1))) (slot g k (q + 1)) (sym to_is)
      ∙ ap (λ (i : ℕ). list_at lists i ++ list_at lists target) from_is
      ∙ ap (λ (i : ℕ). list_at lists (slot g k q) ++ list_at lists i) to_is in
      let emptied : (s : ℕ) → s ≡ q + 4 → list_at new (slot g k s) ≡ [] =
      λ s again. moved_source lists new source target both apart becomes (subst (λ (i : ℕ). i < length lists) (sym from_is) (among k q)) (slot g k s) (slot_again g k q s again ∙ sym from_is) in
      let others : (i : ℕ) → i ≢ slot g k q → i ≢ slot g k (q + 1) → list_at new i ≡ list_at lists i =
      λ i not_source not_target. moved_other lists new source target both apart becomes i (λ same. not_source (same ∙ from_is)) (λ same. not_target (same ∙ to_is)) in
      let rows = rows_more g k new (q + 1) 3 (emptied (q + 1 + 3) (omega arith))
      ∙ rows_merged g k lists new q 2 next (λ s from to.
      others (slot g k s)
      (λ same. slots_apart g k q s (omega arith) (omega arith) (sym same))
      (λ same. slots_apart g k (q + 1) s (omega arith) (omega arith) (sym same))) in
      row_changes k merged new (q + 1) (moved_length lists new source target both apart becomes) (λ h j s differs.
      others (slot h j s) (λ same. let one = one_slot g h j k s q same in differs one.0 one.1) (λ same. let one = one_slot g h j k s (q + 1) same in differs one.0 one.1)) (record {
        two = omega arith;
        four = omega arith;
        unused = λ s above below. emptied s (omega arith);
      }) (row_by (q + 1) rows)

  -- ---- the oldest generation is no more

  pub raised_changes : (k : Kind) → oldest k was + 2 ≤ was.max_seq → list_at lists (slot g k (oldest k was)) ≡ [] → (n : Numbers) → n ≡ with_oldest k (oldest k was + 1) was → Changes lists lists numbers g n (on_row k raised)
  raised_changes k three none =
      let q = oldest k was in
      let window = is.windows g within k in
      let again : (s : ℕ) → s ≡ q + 4 → list_at lists (slot g k s) ≡ [] =
      λ s fourth. ap (λ (i : ℕ). list_at lists i) (slot_again g k q s fourth) ∙ none in
      row_changes k raised lists (q + 1) refl (λ h j s differs. refl) (record {
        two = omega arith;
        four = omega (arith, window.four);
        unused = λ s above below.
            elim (cases_eq s (q + 4)) [
              | inl fourth ↦ again s fourth
              | inr differs ↦ window.unused s above (omega arith)
            ];
      }) (row_by (q + 1) (rows_more g k lists (q + 1) 3 (again (q + 1 + 3) (omega arith)) ∙ rows_less g k lists q 3 none))

  -- ---- a younger generation begins

  pub advanced_changes : ((k : Kind) → was.max_seq ≤ oldest k was + 2) → Changes lists lists numbers g (record was { max_seq = was.max_seq + 1 }) advanced
  advanced_changes few = record {
    within = within;
    size = refl;
    others = λ h other j s. refl;
    windows = λ k.
        let kept = is.windows g within k in
        let less = few k in
        record {
          two = omega (arith, kept.two);
          four = omega arith;
          unused = λ s above below. kept.unused s (omega arith) below;
        };
    gens = refl;
  }

pub isolated_stays : {lists new : List (List ℕ)} {numbers : List Numbers} (p : ℕ) → IsTable lists numbers → new ≡ map (without p) lists → IsTable new numbers
isolated_stays {lists} {new} {numbers} p is becomes = record {
  count = ap length becomes ∙ length-map lists (without p) ∙ is.count;
  few = is.few;
  windows = λ g within k. window_without lists new g k (oldest k (numbers_at numbers g)) (numbers_at numbers g).max_seq p (is.windows g within k) (each_loses lists new p becomes);
}
