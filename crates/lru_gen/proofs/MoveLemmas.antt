-- One group's pages come to another's lists.
use Rattle.std.proofs.Common.{◌≡◌, ◌≢◌, ℕ, ◌+◌, ◌-◌, ◌%◌, ◌<◌, ◌≤◌, List, [], ◌∷◌, ◌++◌, length, map, set, refl, sym, ap, subst, ◌∙◌, arith, append_assoc, inl, inr, length-set}
use Rattle.std.proofs.lemmas.List.{get_or-set_same, get_or-set_other, ext_get_or, map-append, append-nil}
use Rattle.std.proofs.lemmas.Bool.{cases_eq}
use Rattle.machine.specs.declared.record.Kind.{Kind}
use Rattle.machine.specs.declared.record.Kind.TheVariants.{Anon, File}
use Rattle.machine.specs.Generations.{Listed, Gens, new_gens, taken_in, taken_over, emptied, handed_over, gens_at, with_gens}
use Rattle.rings.specs.Rings.{list_at}
use Rattle.rings.proofs.RingLemmas.{moved_length, moved_source, moved_target, moved_other}
use Rattle.lru_gen.specs.declared.numbers.Numbers.{Numbers}
use Rattle.lru_gen.specs.Lists.{slot}
use Rattle.lru_gen.specs.Rows.{numbers_at, oldest, in_seq, rows_from, row_in, gens_from, groups_from, IsTable, HaveMoved}
use Rattle.lru_gen.proofs.KindLemmas.{anon_is_no_file, file_is_no_anon, row_by, both_rows}
use Rattle.lru_gen.proofs.SlotLemmas.{slots_apart, slots_near, same_slot, groups_apart, kinds_apart, in_turn}
use Rattle.lru_gen.proofs.RowLemmas.{rows_same, rows_split, rows_taken}
use Rattle.lru_gen.proofs.GroupLemmas.{length_groups, group_at, group_same, rows_none}

-- ---- one type, list by list

module _ (from to : ℕ) (k : Kind) (low seq : ℕ) (apart : from ≢ to) where
  pub none_moved : (old : List (List ℕ)) → HaveMoved old old from to k low 0 seq
  unfolding rows_from
  none_moved old = record {
    size = refl;
    taken = sym (append-nil (list_at old (slot to k seq)));
    emptied = λ turn less. absurd (omega arith);
    others = λ l not_target not_source. refl;
  }

  -- the pages of one number more
  row_and_next : (lists : List (List ℕ)) (n : ℕ) → map (λ (l : Listed). l.page) (rows_from lists from k low (n + 1)) ≡ map (λ (l : Listed). l.page) (rows_from lists from k low n) ++ list_at lists (slot from k (low + n))
  unfolding rows_from
  row_and_next lists n =
      let last = list_at lists (slot from k (low + n)) in
      ap (map (λ (l : Listed). l.page)) (rows_split from k lists low n 1)
      ∙ map-append (λ (l : Listed). l.page) (rows_from lists from k low n) (map (in_seq (low + n)) last ++ [])
      ∙ ap (λ (rs : List Listed). map (λ (l : Listed). l.page) (rows_from lists from k low n) ++ map (λ (l : Listed). l.page) rs) (append-nil (map (in_seq (low + n)) last))
      ∙ ap (λ (ps : List ℕ). map (λ (l : Listed). l.page) (rows_from lists from k low n) ++ ps) (pages_of last)
    where
      pages_of : (ps : List ℕ) → map (λ (l : Listed). l.page) (map (in_seq (low + n)) ps) ≡ ps
      pages_of [] = refl
      pages_of (p ∷ ps) = ap (λ (qs : List ℕ). p ∷ qs) (pages_of ps)

  pub one_moved : (old mid new : List (List ℕ)) (n source target : ℕ) → n < 4 → HaveMoved old mid from to k low n seq → source ≡ slot from k (low % 4 + n) → target ≡ slot to k seq → source < length mid → target < length mid → new ≡ set (set mid target (list_at mid target ++ list_at mid source)) source [] → HaveMoved old new from to k low (n + 1) seq
  one_moved old mid new n source target less so_far from_is to_is inside inside_too becomes =
      record {
        size = moved_length mid new source target both differ becomes ∙ so_far.size;
        taken =
            ap (list_at new) (sym to_is) ∙ moved_target mid new source target both differ becomes inside_too target refl
            ∙ ap (λ (ps : List ℕ). ps ++ list_at mid source) (ap (list_at mid) to_is ∙ so_far.taken)
            ∙ ap (λ (ps : List ℕ). (list_at old (slot to k seq) ++ before) ++ ps) source_was
            ∙ append_assoc (list_at old (slot to k seq)) before (list_at old (slot from k (low + n)))
            ∙ ap (λ (ps : List ℕ). list_at old (slot to k seq) ++ ps) (sym (row_and_next old n));
        emptied = λ turn within.
            elim (cases_eq turn n) [
              | inl last ↦ ap (λ (t : ℕ). list_at new (slot from k (low + t))) last ∙ ap (list_at new) (sym source_is) ∙ moved_source mid new source target both differ becomes inside source refl
              | inr earlier ↦
                  moved_other mid new source target both differ becomes (slot from k (low + turn))
                  (λ same. slots_near from k low (low + turn) (low + n) (omega arith) (omega arith) (omega arith) (omega arith) (λ e. earlier (omega arith)) (same ∙ source_is))
                  (λ same. groups_apart to from k k (low + turn) seq apart (same ∙ to_is))
                  ∙ so_far.emptied turn (omega arith)
            ];
        others = λ l not_target not_source.
            moved_other mid new source target both differ becomes l (λ same. not_source n (omega arith) (same ∙ source_is)) (λ same. not_target (same ∙ to_is))
            ∙ so_far.others l not_target (λ turn within. not_source turn (omega arith));
      }
    where
      both : List ℕ
      both = list_at mid target ++ list_at mid source

      before : List ℕ
      before = map (λ (l : Listed). l.page) (rows_from old from k low n)

      source_is : source ≡ slot from k (low + n)
      source_is = from_is ∙ same_slot from k (low % 4 + n) (low + n) (omega arith)

      differ : source ≢ target
      differ same = groups_apart to from k k (low + n) seq apart (sym source_is ∙ same ∙ to_is)

      source_was : list_at mid source ≡ list_at old (slot from k (low + n))
      source_was =
          ap (list_at mid) source_is
          ∙ so_far.others (slot from k (low + n)) (groups_apart to from k k (low + n) seq apart)
          (λ turn within. slots_near from k low (low + n) (low + turn) (omega arith) (omega arith) (omega arith) (omega arith) (λ e. omega arith))

-- by the numbers that were read
pub moved_by : {old new : List (List ℕ)} {from to : ℕ} {k : Kind} {low low' seq seq' : ℕ} → low ≡ low' → seq ≡ seq' → HaveMoved old new from to k low 4 seq → HaveMoved old new from to k low' 4 seq'
moved_by {old} {new} {from} {to} {k} {low} {low'} {seq} {seq'} least same moved =
    subst (λ (n : ℕ). HaveMoved old new from to k n 4 seq') least (subst (λ (n : ℕ). HaveMoved old new from to k low 4 n) same moved)

-- ---- all lists of one type

-- what became of them, whatever the lists of the other type did
record Went (old new : List (List ℕ)) (from to : ℕ) (k : Kind) (low seq : ℕ) : Type 0 where
  taken : list_at new (slot to k seq) ≡ list_at old (slot to k seq) ++ map (λ l. l.page) (rows_from old from k low 4)
  emptied : (s : ℕ) → list_at new (slot from k s) ≡ []
  others : (h s : ℕ) → h ≢ from → slot h k s ≢ slot to k seq → list_at new (slot h k s) ≡ list_at old (slot h k s)

went : (a b c d : List (List ℕ)) (from to : ℕ) (k : Kind) (low seq : ℕ) → ((h s : ℕ) → list_at b (slot h k s) ≡ list_at a (slot h k s)) → HaveMoved b c from to k low 4 seq → ((h s : ℕ) → list_at d (slot h k s) ≡ list_at c (slot h k s)) → Went a d from to k low seq
went a b c d from to k low seq before moved after = record {
  taken =
      after to seq ∙ moved.taken
      ∙ ap (λ (ps : List ℕ). ps ++ map (λ (l : Listed). l.page) (rows_from b from k low 4)) (before to seq)
      ∙ ap (λ (rs : List Listed). list_at a (slot to k seq) ++ map (λ (l : Listed). l.page) rs) (rows_same from k a b low 4 (λ s above below. before from s));
  emptied = λ s.
      let t = in_turn low s in
      let again : s % 4 ≡ (low + (t.seq - low)) % 4 = (let same = t.same in let least = t.low in omega (arith, same, least)) in
      after from s ∙ ap (list_at c) (same_slot from k s (low + (t.seq - low)) again)
      ∙ moved.emptied (t.seq - low) (let least = t.low in let most = t.high in omega (arith, least, most));
  others = λ h s other not_target.
      after h s ∙ moved.others (slot h k s) not_target (λ turn within. groups_apart from h k k s (low + turn) other) ∙ before h s;
}

-- the lists of the other type stay
other_type : (old new : List (List ℕ)) (from to : ℕ) (k j : Kind) (low seq : ℕ) → HaveMoved old new from to k low 4 seq → j ≢ k → (h s : ℕ) → list_at new (slot h j s) ≡ list_at old (slot h j s)
other_type old new from to k j low seq moved differs h s =
    moved.others (slot h j s) (kinds_apart h to j k s seq differs) (λ turn within. kinds_apart h from j k s (low + turn) differs)

-- ---- both types

module _ (lists mid new : List (List ℕ)) (numbers : List Numbers) (is : IsTable lists numbers) (from to : ℕ) (here : from < length numbers) (there : to < length numbers) (apart : from ≢ to)
    (anon : HaveMoved lists mid from to Anon (numbers_at numbers from).anon_min_seq 4 ((numbers_at numbers to).max_seq - 1))
    (file : HaveMoved mid new from to File (numbers_at numbers from).file_min_seq 4 ((numbers_at numbers to).max_seq - 1)) where
  abbrev seq : ℕ
  seq = (numbers_at numbers to).max_seq - 1

  of_type : (k : Kind) → Went lists new from to k (oldest k (numbers_at numbers from)) seq
  of_type Anon =
      went lists lists mid new from to Anon (numbers_at numbers from).anon_min_seq seq (λ h s. refl) anon
      (other_type mid new from to File Anon (numbers_at numbers from).file_min_seq seq file anon_is_no_file)
  of_type File =
      went lists mid new new from to File (numbers_at numbers from).file_min_seq seq
      (other_type lists mid from to Anon File (numbers_at numbers from).anon_min_seq seq anon file_is_no_anon) file (λ h s. refl)

  pub table_moved : IsTable new numbers
  table_moved = record {
    count = file.size ∙ anon.size ∙ is.count;
    few = is.few;
    windows = λ h within k.
        let was = is.windows h within k in
        record {
          two = was.two;
          four = was.four;
          unused = λ s above below.
              elim (cases_eq h from) [
                | inl same ↦ ap (λ (i : ℕ). list_at new (slot i k s)) same ∙ (of_type k).emptied s
                | inr other ↦ (of_type k).others h s other (not_target h k s above below was.two) ∙ was.unused s above below
              ];
        };
  }
    where
      not_target : (h : ℕ) (k : Kind) (s : ℕ) → (numbers_at numbers h).max_seq < s → s < oldest k (numbers_at numbers h) + 4 → oldest k (numbers_at numbers h) + 1 ≤ (numbers_at numbers h).max_seq → slot h k s ≢ slot to k seq
      not_target h k s above below two same =
          elim (cases_eq h to) [
            | inl e ↦
                let high : (numbers_at numbers to).max_seq < s = subst (λ (i : ℕ). (numbers_at numbers i).max_seq < s) e above in
                let low : s < oldest k (numbers_at numbers to) + 4 = subst (λ (i : ℕ). s < oldest k (numbers_at numbers i) + 4) e below in
                let least : oldest k (numbers_at numbers to) + 1 ≤ (numbers_at numbers to).max_seq = subst (λ (i : ℕ). oldest k (numbers_at numbers i) + 1 ≤ (numbers_at numbers i).max_seq) e two in
                slots_apart to k seq s (omega (arith, high, least)) (omega (arith, low, least)) (sym (ap (λ (i : ℕ). slot i k s) (sym e) ∙ same))
            | inr other ↦ groups_apart to h k k s seq other same
          ]

  row_moved : (k : Kind) → rows_from new to k (oldest k (numbers_at numbers to)) 4 ≡ taken_in seq (rows_from lists from k (oldest k (numbers_at numbers from)) 4) (rows_from lists to k (oldest k (numbers_at numbers to)) 4)
  row_moved k =
      let window = is.windows to there k in
      let two = window.two in
      let four = window.four in
      let q = oldest k (numbers_at numbers to) in
      let low : q ≤ seq = omega (arith, two) in
      let high : seq < q + 4 = omega (arith, two, four) in
      rows_taken to k lists new (rows_from lists from k (oldest k (numbers_at numbers from)) 4) seq q 4 low high (of_type k).taken
      (λ s above below differs. (of_type k).others to s (λ e. apart (sym e)) (slots_near to k q s seq above below low high differs))

  pub groups_moved : groups_from new 0 numbers ≡ handed_over from to (groups_from lists 0 numbers)
  groups_moved =
      ext_get_or new_gens (groups_from new 0 numbers) (handed_over from to before) (length_groups new 0 numbers ∙ sym (length_groups lists 0 numbers) ∙ sym (length-set first from gone ∙ length-set before to taken)) (λ i inside.
      let within : i < length numbers = subst (λ (m : ℕ). i < m) (length_groups new 0 numbers) inside in
      elim (cases_eq i from) [
        | inl same ↦ subst (λ (j : ℕ). gens_at (groups_from new 0 numbers) j ≡ gens_at (handed_over from to before) j) (sym same) at_from
        | inr other ↦
            elim (cases_eq i to) [
              | inl same ↦ subst (λ (j : ℕ). gens_at (groups_from new 0 numbers) j ≡ gens_at (handed_over from to before) j) (sym same) at_to
              | inr differs ↦
                  group_at new numbers i within
                  ∙ group_same lists new i (numbers_at numbers i) (λ k s. (of_type k).others i s other (groups_apart to i k k s seq differs))
                  ∙ sym (group_at lists numbers i within)
                  ∙ sym (get_or-set_other first from i gone new_gens other ∙ get_or-set_other before to i taken new_gens differs)
            ]
      ])
    where
      before : List Gens
      before = groups_from lists 0 numbers

      taken : Gens
      taken = taken_over (gens_at before from) (gens_at before to)

      gone : Gens
      gone = emptied (gens_at before from)

      first : List Gens
      first = with_gens before to taken

      at_from : gens_at (groups_from new 0 numbers) from ≡ gens_at (handed_over from to before) from
      at_from =
          group_at new numbers from here
          ∙ both_rows (none Anon (numbers_at numbers from).anon_min_seq) (none File (numbers_at numbers from).file_min_seq)
          ∙ ap emptied (sym (group_at lists numbers from here))
          ∙ sym (get_or-set_same first from gone new_gens (subst (λ (m : ℕ). from < m) (sym (length-set before to taken ∙ length_groups lists 0 numbers)) here))
        where
          none : (k : Kind) (least : ℕ) → row_in new from k least ≡ record { min_seq = least; pages = [] }
          none k least = row_by least (rows_none new from k least 4 (of_type k).emptied)

      at_to : gens_at (groups_from new 0 numbers) to ≡ gens_at (handed_over from to before) to
      at_to =
          group_at new numbers to there
          ∙ both_rows (row_by _ (row_moved Anon)) (row_by _ (row_moved File))
          ∙ ap (λ (x : Gens). taken_over (gens_from lists from (numbers_at numbers from)) x) (sym (group_at lists numbers to there))
          ∙ ap (λ (x : Gens). taken_over x (gens_at before to)) (sym (group_at lists numbers from here))
          ∙ sym (get_or-set_other first from to gone new_gens (λ e. apart (sym e)) ∙ get_or-set_same before to taken new_gens (subst (λ (m : ℕ). to < m) (sym (length_groups lists 0 numbers)) there))
