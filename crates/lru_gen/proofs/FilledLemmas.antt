-- What is kept of whether a type has a page stays as its row is.
use Rattle.std.proofs.Common.{◌≡◌, ◌≢◌, ℕ, zero, suc, ◌+◌, ◌<◌, ◌||◌, ◌&&◌, not, nat_le, nat_lt, max, ◌-◌, Bool, true, false, if◌then◌else◌, List, [], ◌∷◌, ◌++◌, length, map, filter, eqb, get_or, set, None, refl, sym, ap, subst, ◌∙◌, arith, inl, inr, length-set}
use Rattle.std.specs.List.{AllByRecursion, IsDistinct}
use Rattle.std.proofs.lemmas.List.{get_or-set_same, get_or-set_other, get_or_past, set-get_or}
use Rattle.std.proofs.lemmas.Bool.{cases_Bool, cases_eq, cases_lt, eqb-false, eq-eqb, ne_eqb, le-leb, lt-leb, or_right, or_parts, false≢true, false_from_ne_true, lt-ltb}
use Rattle.machine.specs.declared.record.Kind.{Kind}
use Rattle.machine.specs.declared.record.Kind.TheVariants.{Anon, File}
use Rattle.machine.specs.Generations.{Listed, Row, Gens, new_gens, gens_at, row_of, has_page, on_row, at_seq, added, without, merged, raised, advanced, taken_in, taken_over, emptied, handed_over}
use Rattle.machine.specs.Eviction.{is_nil, has_usable}
use Rattle.rings.specs.Rings as of_rings
use Rattle.rings.specs.Rings.{list_at, has, AreApart}
use Rattle.rings.proofs.ListLemmas.{has_first, has_behind, list_at-map_without, list_within}
use Rattle.lru_gen.specs.declared.numbers.Numbers.{Numbers}
use Rattle.lru_gen.specs.declared.filled.Filled.{Filled}
use Rattle.lru_gen.specs.Lists.{slot}
use Rattle.lru_gen.specs.Rows.{numbers_at, oldest, rows_from, groups_from, IsAlone, HaveMoved}
use Rattle.lru_gen.specs.Filled.{no_page, filled_at, usable, flag, with_flag, joined, has_any, AreTold, IsKept}
use Rattle.lru_gen.proofs.KindLemmas.{each_of, each_row}
use Rattle.lru_gen.proofs.SlotLemmas.{groups_apart, kinds_apart}
use Rattle.lru_gen.proofs.RowLemmas.{rows_without}
use Rattle.lru_gen.proofs.GroupLemmas.{length_groups, row_at, groups_after, table_stays, Changes}
use Rattle.lru_gen.proofs.ChangeLemmas.{isolated_stays}
use Rattle.lru_gen.proofs.MoveLemmas.{table_moved, groups_moved}
use Rattle.lru_gen.proofs.SoundLemmas.{row_stands, stands_row}

-- ---- whether a row has a page

any_behind : (xs : List Listed) (y : Listed) (ys : List Listed) → has_any (xs ++ y ∷ ys) ≡ true
any_behind [] y ys = refl
any_behind (x ∷ xs) y ys = refl

any_merged : (row : Row) → has_any (merged row).pages ≡ has_any row.pages
any_merged row = go row.pages
  where
    go : (ps : List Listed) → has_any (map (λ (l : Listed). at_seq (max (row.min_seq + 1) l.seq) l) ps) ≡ has_any ps
    go [] = refl
    go (p ∷ ps) = refl

any_taken : (seq : ℕ) (more pages : List Listed) → has_any (taken_in seq more pages) ≡ (has_any pages || has_any more)
any_taken seq [] [] = refl
any_taken seq (m ∷ more) [] = refl
any_taken seq more (l ∷ ls) =
    elim (cases_lt seq l.seq) [
      | inl above ↦
          let over : nat_le l.seq seq ≡ false = lt-leb l.seq seq above in
          let under : nat_lt seq l.seq ≡ true = lt-ltb seq l.seq above in
          rw (over, under) (behind (filter (λ (k : Listed). nat_le k.seq seq) ls) (map (at_seq seq) more) l (filter (λ (k : Listed). nat_lt seq k.seq) ls))
      | inr low ↦
          let in_it : nat_le l.seq seq ≡ true = le-leb l.seq seq low in
          rw in_it refl
    ]
  where
    behind : (xs ys : List Listed) (z : Listed) (zs : List Listed) → has_any (xs ++ (ys ++ z ∷ zs)) ≡ true
    behind [] ys z zs = any_behind ys z zs
    behind (x ∷ xs) ys z zs = refl

any_there : (q : ℕ) (pages : List Listed) → has_page q pages ≡ true → has_any pages ≡ true
any_there q [] h = absurd (false≢true h)
any_there q (l ∷ ls) h = refl

-- another page stays
any_left : (p q : ℕ) (pages : List Listed) → has_page q pages ≡ true → q ≢ p → has_any (without p pages) ≡ true
any_left p q [] h apart = absurd (false≢true h)
any_left p q (l ∷ ls) h apart =
    elim (cases_eq l.page p) [
      | inl same ↦
          let other : eqb l.page q ≡ false = ne_eqb l.page q (λ e. apart (sym e ∙ same)) in
          rw (eq-eqb l.page p same) (any_left p q ls (rw other at h) apart)
      | inr differs ↦ rw (ne_eqb l.page p differs) refl
    ]

-- without a page that it does not have, a row has pages as before
any_same : (p : ℕ) (pages : List Listed) → has_page p pages ≡ false → has_any (without p pages) ≡ has_any pages
any_same p [] h = refl
any_same p (l ∷ ls) h = let parts = or_parts (eqb l.page p) (has_page p ls) h in rw parts.0 refl

-- what is kept tells whether a page may be taken
pub usable_told : (f : Filled) (gens : Gens) → ((k : Kind) → flag k f ≡ has_any (row_of k gens).pages) → (swap : Bool) → usable swap f ≡ has_usable swap gens
usable_told f gens told swap =
    ap (λ (b : Bool). b || (swap && f.anon)) (told File)
    ∙ ap (λ (b : Bool). has_any gens.file.pages || (swap && b)) (told Anon)
    ∙ go swap gens.file.pages gens.anon.pages
  where
    go : (swap : Bool) (files anons : List Listed) → (has_any files || (swap && has_any anons)) ≡ not (is_nil files && is_nil (if swap then anons else []))
    go swap (l ∷ files) anons = refl
    go true [] anons = refl
    go false [] anons = refl

-- ---- one group's row and what is kept of it are others

told_after : (filled : List Filled) (groups : List Gens) (g : ℕ) (f : Filled) (gens : Gens) → g < length filled → g < length groups → AreTold filled groups → ((k : Kind) → flag k f ≡ has_any (row_of k gens).pages) → AreTold (set filled g f) (set groups g gens)
told_after filled groups g f gens among within was own = record {
  told = λ h k.
      elim (cases_eq h g) [
        | inl same ↦
            subst (λ (i : ℕ). flag k (filled_at (set filled g f) i) ≡ has_any (row_of k (gens_at (set groups g gens) i)).pages) (sym same)
            (ap (flag k) (get_or-set_same filled g f no_page among)
            ∙ own k
            ∙ ap (λ (v : Gens). has_any (row_of k v).pages) (sym (get_or-set_same groups g gens new_gens within)))
        | inr other ↦
            ap (flag k) (get_or-set_other filled g h f no_page other)
            ∙ was.told h k
            ∙ ap (λ (v : Gens). has_any (row_of k v).pages) (sym (get_or-set_other groups g h gens new_gens other))
      ];
}

module _ {old new : List (List ℕ)} {numbers : List Numbers} {g : ℕ} {n : Numbers} {to : Gens → Gens} (change : Changes old new numbers g n to) {after : List Numbers} (renumbered : after ≡ set numbers g n) {filled : List Filled} (is : IsKept old numbers filled) where
  pub kept_with : (f : Filled) {refilled : List Filled} → refilled ≡ set filled g f → ((k : Kind) → flag k f ≡ has_any (row_of k (to (gens_at (groups_from old 0 numbers) g))).pages) → IsKept new after refilled
  kept_with f becomes own =
      let before = groups_from old 0 numbers in
      let inside = change.within in
      record {
        table = table_stays change renumbered is.table;
        size = ap length becomes ∙ length-set filled g f ∙ is.size ∙ sym (ap length renumbered ∙ length-set numbers g n);
        flags =
            subst (λ (fs : List Filled). AreTold fs (groups_from new 0 after)) (sym becomes)
            (subst (λ (gs : List Gens). AreTold (set filled g f) gs) (sym (groups_after change renumbered))
            (told_after filled before g f (to (gens_at before g)) (omega (arith, is.size)) (omega (arith, length_groups old 0 numbers)) is.flags own));
      }

  -- no type gets a first page or loses its last
  pub kept_same : ((k : Kind) (gens : Gens) → has_any (row_of k (to gens)).pages ≡ has_any (row_of k gens).pages) → IsKept new after filled
  kept_same same =
      kept_with (filled_at filled g) (sym (set-get_or filled g no_page)) (λ k.
      is.flags.told g k ∙ sym (same k (gens_at (groups_from old 0 numbers) g)))

on_row_same : (change : Row → Row) → ((row : Row) → has_any (change row).pages ≡ has_any row.pages) → (k j : Kind) (gens : Gens) → has_any (row_of j (on_row k change gens)).pages ≡ has_any (row_of j gens).pages
on_row_same change same k j gens =
    each_row (λ i row. has_any row.pages ≡ has_any (row_of i gens).pages) k change gens (same (row_of k gens)) (λ i differs. refl) j

pub merged_same : (k j : Kind) (gens : Gens) → has_any (row_of j (on_row k merged gens)).pages ≡ has_any (row_of j gens).pages
merged_same k j gens = on_row_same merged any_merged k j gens

pub raised_same : (k j : Kind) (gens : Gens) → has_any (row_of j (on_row k raised gens)).pages ≡ has_any (row_of j gens).pages
raised_same k j gens = on_row_same raised (λ row. refl) k j gens

pub advanced_same : (j : Kind) (gens : Gens) → has_any (row_of j (advanced gens)).pages ≡ has_any (row_of j gens).pages
advanced_same Anon gens = refl
advanced_same File gens = refl

-- a page came to a type
pub added_told : (p : ℕ) (k : Kind) (seq : ℕ) (f : Filled) (gens : Gens) → ((j : Kind) → flag j f ≡ has_any (row_of j gens).pages) → (j : Kind) → flag j (with_flag k true f) ≡ has_any (row_of j (added p k seq gens)).pages
added_told p Anon seq f gens was Anon = sym (any_behind (filter (λ (l : Listed). nat_le l.seq seq) gens.anon.pages) _ _)
added_told p Anon seq f gens was File = was File
added_told p File seq f gens was Anon = was Anon
added_told p File seq f gens was File = sym (any_behind (filter (λ (l : Listed). nat_le l.seq seq) gens.file.pages) _ _)

-- ---- a group more

default_kept : {A : Type 0} (xs : List A) (d : A) (i : ℕ) → get_or (xs ++ d ∷ []) i d ≡ get_or xs i d
default_kept [] d zero = refl
default_kept [] d (suc i) = refl
default_kept (x ∷ xs) d zero = refl
default_kept (x ∷ xs) d (suc i) = default_kept xs d i

pub told_of_more : (filled : List Filled) (groups : List Gens) → AreTold filled groups → AreTold (filled ++ no_page ∷ []) (groups ++ new_gens ∷ [])
told_of_more filled groups was = record {
  told = λ g k.
      ap (flag k) (default_kept filled no_page g)
      ∙ was.told g k
      ∙ ap (λ (v : Gens). has_any (row_of k v).pages) (sym (default_kept groups new_gens g));
}

-- ---- the pages of one group come to another

told_moved : (filled : List Filled) (groups : List Gens) (from to : ℕ) → from < length filled → to < length filled → length filled ≡ length groups → AreTold filled groups → AreTold (set (set filled to (joined (filled_at filled to) (filled_at filled from))) from no_page) (handed_over from to groups)
told_moved filled groups from to here there many was =
    let both = joined (filled_at filled to) (filled_at filled from) in
    let taken = taken_over (gens_at groups from) (gens_at groups to) in
    told_after (set filled to both) (set groups to taken) from no_page (emptied (gens_at groups from))
    (omega (arith, length-set filled to both)) (omega (arith, length-set groups to taken))
    (told_after filled groups to both taken there (omega arith) was (λ k. own k (was.told from k) (was.told to k)))
    none
  where
    both : (f m : Bool) (seq : ℕ) (more pages : List Listed) → m ≡ has_any more → f ≡ has_any pages → (f || m) ≡ has_any (taken_in seq more pages)
    both f m seq more pages of_from of_to =
        ap (λ (b : Bool). b || m) of_to ∙ ap (λ (b : Bool). has_any pages || b) of_from ∙ sym (any_taken seq more pages)

    own : (k : Kind) → flag k (filled_at filled from) ≡ has_any (row_of k (gens_at groups from)).pages → flag k (filled_at filled to) ≡ has_any (row_of k (gens_at groups to)).pages → flag k (joined (filled_at filled to) (filled_at filled from)) ≡ has_any (row_of k (taken_over (gens_at groups from) (gens_at groups to))).pages
    own Anon of_from of_to = both _ _ _ _ _ of_from of_to
    own File of_from of_to = both _ _ _ _ _ of_from of_to

    none : (k : Kind) → flag k no_page ≡ has_any (row_of k (emptied (gens_at groups from))).pages
    none Anon = refl
    none File = refl

pub kept_moved : {lists mid new : List (List ℕ)} {numbers : List Numbers} {filled : List Filled} (is : IsKept lists numbers filled) {from to : ℕ} → from < length numbers → to < length numbers → from ≢ to → HaveMoved lists mid from to Anon (numbers_at numbers from).anon_min_seq 4 ((numbers_at numbers to).max_seq - 1) → HaveMoved mid new from to File (numbers_at numbers from).file_min_seq 4 ((numbers_at numbers to).max_seq - 1) → {both : Filled} → both ≡ joined (filled_at filled to) (filled_at filled from) → IsKept new numbers (set (set filled to both) from no_page)
kept_moved {lists} {mid} {new} {numbers} {filled} is {from} {to} here there apart anon file {both} is_both = record {
  table = table_moved lists mid new numbers is.table from to here there apart anon file;
  size = length-set (set filled to both) from no_page ∙ length-set filled to both ∙ is.size;
  flags =
      subst (λ (f : Filled). AreTold (set (set filled to f) from no_page) (groups_from new 0 numbers)) (sym is_both)
      (subst (λ (gs : List Gens). AreTold (set (set filled to (joined (filled_at filled to) (filled_at filled from))) from no_page) gs) (sym (groups_moved lists mid new numbers is.table from to here there apart anon file))
      (told_moved filled (groups_from lists 0 numbers) from to (omega (arith, is.size)) (omega (arith, is.size)) (is.size ∙ sym (length_groups lists 0 numbers)) is.flags));
}

-- ---- a page leaves

-- another page beside it on its list
beside : (p : ℕ) (before after : List ℕ) → IsDistinct eqb (before ++ p ∷ after) → 0 < length (before ++ after) → (q : ℕ) × (q ≢ p) × (has (before ++ p ∷ after) q ≡ true)
unfolding IsDistinct
beside p [] [] d some = absurd (omega arith)
beside p [] (y ∷ after) d some =
    (y, (λ same. eqb-false p y d.0.0 (sym same)), or_right (eqb y p) (has (y ∷ after) y) (has_first y after))
beside p (x ∷ before) after d some =
    (x, eqb-false x p (at before d.0), has_first x (before ++ p ∷ after))
  where
    at : (ys : List ℕ) → AllByRecursion (λ y. eqb x y ≡ false) (ys ++ p ∷ after) → eqb x p ≡ false
    at [] h = h.0
    at (y ∷ ys) h = at ys h.1

module _ {lists new : List (List ℕ)} {numbers : List Numbers} {filled : List Filled} (is : IsKept lists numbers filled) (apart : AreApart lists) (p : ℕ) (becomes : new ≡ map (of_rings.without p) lists) where
  row_less : (h : ℕ) (k : Kind) → h < length numbers → (row_of k (gens_at (groups_from new 0 numbers) h)).pages ≡ without p (rows_from lists h k (oldest k (numbers_at numbers h)) 4)
  row_less h k within =
      row_at new numbers h k within
      ∙ rows_without h k lists new p (oldest k (numbers_at numbers h)) 4 (λ l. ap (λ (all : List (List ℕ)). list_at all l) becomes ∙ list_at-map_without p lists l)

  -- the row of a type that does not lose its last page
  told_still : (h : ℕ) (k : Kind) → ((within : h < length numbers) → has_any (without p (rows_from lists h k (oldest k (numbers_at numbers h)) 4)) ≡ has_any (rows_from lists h k (oldest k (numbers_at numbers h)) 4)) → flag k (filled_at filled h) ≡ has_any (row_of k (gens_at (groups_from new 0 numbers) h)).pages
  told_still h k same =
      is.flags.told h k
      ∙ elim (cases_lt h (length numbers)) [
        | inl within ↦
            ap has_any (row_at lists numbers h k within) ∙ sym (same within) ∙ ap has_any (sym (row_less h k within))
        | inr past ↦
            ap (λ (v : Gens). has_any (row_of k v).pages)
            (get_or_past (groups_from lists 0 numbers) h new_gens (omega (arith, length_groups lists 0 numbers))
            ∙ sym (get_or_past (groups_from new 0 numbers) h new_gens (omega (arith, length_groups new 0 numbers))))
      ]

  -- a row has it where its list is one of the row's
  lacks : (h : ℕ) (k : Kind) (l : ℕ) → has (list_at lists l) p ≡ true → ((s : ℕ) → slot h k s ≢ l) → has_page p (rows_from lists h k (oldest k (numbers_at numbers h)) 4) ≡ false
  lacks h k l there differs =
      false_from_ne_true (has_page p (rows_from lists h k (oldest k (numbers_at numbers h)) 4)) (λ listed.
      let found = row_stands lists h k p (oldest k (numbers_at numbers h)) 4 listed in
      differs found.seq (apart.one p (slot h k found.seq) l found.there there))

  -- it was not alone on its list
  pub kept_beside : IsAlone lists p None → IsKept new numbers filled
  kept_beside stands = record {
    table = isolated_stays p is.table becomes;
    size = is.size;
    flags = record { told = λ h k. told_still h k (λ within. still h k) };
  }
    where
      still : (h : ℕ) (k : Kind) → has_any (without p (rows_from lists h k (oldest k (numbers_at numbers h)) 4)) ≡ has_any (rows_from lists h k (oldest k (numbers_at numbers h)) 4)
      still h k =
          let q = oldest k (numbers_at numbers h) in
          let row = rows_from lists h k q 4 in
          elim (cases_Bool (has_page p row)) [
            | inl listed ↦
                let found = row_stands lists h k p q 4 listed in
                let l = stands.0 in
                let next = beside p stands.1 stands.2 (subst (λ (ps : List ℕ). IsDistinct eqb ps) stands.3 (apart.once l)) stands.4 in
                let here : has (list_at lists l) p ≡ true = ap (λ (ps : List ℕ). has ps p) stands.3 ∙ has_behind stands.1 (p ∷ stands.2) p (has_first p stands.2) in
                let same = apart.one p (slot h k found.seq) l found.there here in
                let other : has (list_at lists (slot h k found.seq)) next.0 ≡ true = ap (λ (i : ℕ). has (list_at lists i) next.0) same ∙ ap (λ (ps : List ℕ). has ps next.0) stands.3 ∙ next.2 in
                any_left p next.0 row (stands_row lists h k next.0 q 4 found.seq found.from found.below other) next.1
                ∙ sym (any_there p row listed)
            | inr none ↦ any_same p row none
          ]

  -- it was alone on a list: the row of its type is looked at again
  module _ (l g : ℕ) (k : Kind) (alone : list_at lists l ≡ p ∷ []) (at : l ≡ slot g k l) where
    here : has (list_at lists l) p ≡ true
    here = ap (λ (ps : List ℕ). has ps p) alone ∙ has_first p []

    pub within_alone : g < length numbers
    within_alone = let inside = list_within lists l p here in omega (arith, is.table.count)

    pub kept_alone : (still : Bool) (q : ℕ) {refilled : List Filled} → q ≡ oldest k (numbers_at numbers g) → still ≡ has_any (rows_from new g k q 4) → refilled ≡ set filled g (with_flag k still (filled_at filled g)) → IsKept new numbers refilled
    kept_alone still q least found renewed = record {
      table = isolated_stays p is.table becomes;
      size = ap length renewed ∙ length-set filled g f ∙ is.size;
      flags = record {
        told = λ h j.
            ap (λ (fs : List Filled). flag j (filled_at fs h)) renewed
            ∙ elim (cases_eq h g) [
              | inl same ↦
                  subst (λ (i : ℕ). flag j (filled_at (set filled g f) i) ≡ has_any (row_of j (gens_at (groups_from new 0 numbers) i)).pages) (sym same)
                  (ap (flag j) (get_or-set_same filled g f no_page (omega (arith, within_alone, is.size))) ∙ own j)
              | inr other ↦
                  ap (flag j) (get_or-set_other filled g h f no_page other)
                  ∙ told_still h j (λ within. any_same p (rows_from lists h j (oldest j (numbers_at numbers h)) 4) (lacks h j l here (λ s e. groups_apart g h j k s l other (e ∙ at))))
            ];
      };
    }
      where
        f : Filled
        f = with_flag k still (filled_at filled g)

        seen : still ≡ has_any (row_of k (gens_at (groups_from new 0 numbers) g)).pages
        seen =
            found
            ∙ ap (λ (i : ℕ). has_any (rows_from new g k i 4)) least
            ∙ ap has_any (sym (row_at new numbers g k within_alone))

        own : (j : Kind) → flag j (with_flag k still (filled_at filled g)) ≡ has_any (row_of j (gens_at (groups_from new 0 numbers) g)).pages
        own =
            each_of (λ j b. b ≡ has_any (row_of j (gens_at (groups_from new 0 numbers) g)).pages) k still (filled_at filled g).anon (filled_at filled g).file seen (λ j differs.
            told_still g j (λ within. any_same p (rows_from lists g j (oldest j (numbers_at numbers g)) 4) (lacks g j l here (λ s e. kinds_apart g g j k s l differs (e ∙ at)))))
