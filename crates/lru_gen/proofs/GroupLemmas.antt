-- The lists of all groups: how many there are, and what each is read from.
use Rattle.std.proofs.Common.{◌≡◌, ◌≢◌, ℕ, zero, suc, ◌+◌, ◌*◌, ◌<◌, List, [], ◌∷◌, ◌++◌, length, get_or, set, refl, sym, ap, subst, ◌∙◌, arith, inl, inr, replicate, ◌-◌, length-set}
use Rattle.std.proofs.lemmas.List.{get_or-set_same, get_or-set_other, ext_get_or, get_or_past, get_or_append_left, get_or-append_right, get_or-replicate, length-replicate}
use Rattle.std.proofs.lemmas.Bool.{cases_eq, cases_lt}
use Rattle.machine.specs.declared.record.Kind.{Kind}
use Rattle.machine.specs.declared.record.Kind.TheVariants.{Anon, File}
use Rattle.machine.specs.Generations.{Row, Gens, new_gens, gens_at, row_of}
use Rattle.rings.specs.Rings.{list_at}
use Rattle.lru_gen.specs.declared.numbers.Numbers.{Numbers}
use Rattle.lru_gen.specs.Lists.{slot}
use Rattle.lru_gen.specs.Rows.{first_numbers, numbers_at, oldest, rows_from, row_in, gens_from, groups_from, IsWindow, IsTable}
use Rattle.lru_gen.proofs.KindLemmas.{row_by, both_rows}
use Rattle.lru_gen.proofs.RowLemmas.{rows_same}

pub length_groups : (lists : List (List ℕ)) (g : ℕ) (numbers : List Numbers) → length (groups_from lists g numbers) ≡ length numbers
length_groups lists g [] = refl
length_groups lists g (n ∷ more) = ap suc (length_groups lists (g + 1) more)

group_from : (lists : List (List ℕ)) (g : ℕ) (numbers : List Numbers) (i : ℕ) → i < length numbers → gens_at (groups_from lists g numbers) i ≡ gens_from lists (g + i) (numbers_at numbers i)
group_from lists g [] i within = absurd (omega arith)
group_from lists g (n ∷ more) zero within = let at : g ≡ g + 0 = omega arith in ap (λ (h : ℕ). gens_from lists h n) at
group_from lists g (n ∷ more) (suc i) within =
    let at : g + 1 + i ≡ g + suc i = omega arith in
    group_from lists (g + 1) more i (omega arith)
    ∙ ap (λ (h : ℕ). gens_from lists h (numbers_at more i)) at

-- the lists of a group come from its own numbers and lists
pub group_at : (lists : List (List ℕ)) (numbers : List Numbers) (g : ℕ) → g < length numbers → gens_at (groups_from lists 0 numbers) g ≡ gens_from lists g (numbers_at numbers g)
group_at lists numbers g within =
    let at : 0 + g ≡ g = omega arith in
    group_from lists 0 numbers g within ∙ ap (λ (h : ℕ). gens_from lists h (numbers_at numbers g)) at

-- a row as its lists and numbers give it
pub row_from : (k : Kind) (lists : List (List ℕ)) (g : ℕ) (n : Numbers) → row_of k (gens_from lists g n) ≡ row_in lists g k (oldest k n)
row_from Anon lists g n = refl
row_from File lists g n = refl

-- a group's lists stay as far as its own lists do
pub group_same : (old new : List (List ℕ)) (g : ℕ) (n : Numbers) → ((k : Kind) (s : ℕ) → list_at new (slot g k s) ≡ list_at old (slot g k s)) → gens_from new g n ≡ gens_from old g n
group_same old new g n same = both_rows (row Anon (oldest Anon n)) (row File (oldest File n))
  where
    row : (k : Kind) (least : ℕ) → row_in new g k least ≡ row_in old g k least
    row k least = row_by least (rows_same g k old new least 4 (λ s low high. same k s))

pub rows_none : (lists : List (List ℕ)) (g : ℕ) (k : Kind) (q n : ℕ) → ((s : ℕ) → list_at lists (slot g k s) ≡ []) → rows_from lists g k q n ≡ []
unfolding rows_from
rows_none lists g k q zero none = refl
rows_none lists g k q (suc n) none = rw (none q) (rows_none lists g k (q + 1) n none)

pub new_group : (lists : List (List ℕ)) (g : ℕ) → ((k : Kind) (s : ℕ) → list_at lists (slot g k s) ≡ []) → gens_from lists g first_numbers ≡ new_gens
new_group lists g none = both_rows (row_by 0 (rows_none lists g Anon 0 4 (none Anon))) (row_by 0 (rows_none lists g File 0 4 (none File)))

-- ---- one group has other numbers and other lists, and the others keep theirs

pub record Changes (old new : List (List ℕ)) (numbers : List Numbers) (g : ℕ) (n : Numbers) (to : Gens → Gens) : Type 0 where
  pub within : g < length numbers
  pub size : length new ≡ length old
  pub others : (h : ℕ) → h ≢ g → (k : Kind) (s : ℕ) → list_at new (slot h k s) ≡ list_at old (slot h k s)
  pub windows : (k : Kind) → IsWindow new g k (oldest k n) n.max_seq
  pub gens : gens_from new g n ≡ to (gens_from old g (numbers_at numbers g))

module _ {old new : List (List ℕ)} {numbers : List Numbers} {g : ℕ} {n : Numbers} {to : Gens → Gens} (change : Changes old new numbers g n to) where
  table_after : IsTable old numbers → IsTable new (set numbers g n)
  table_after is =
      let long = length-set numbers g n in
      record {
        count = change.size ∙ is.count ∙ ap (λ (m : ℕ). m * 8) (sym long);
        few = subst (λ (m : ℕ). m < 268435456) (sym long) is.few;
        windows = λ h inside k.
            elim (cases_eq h g) [
              | inl same ↦
                  subst (λ (i : ℕ). IsWindow new i k (oldest k (numbers_at (set numbers g n) i)) (numbers_at (set numbers g n) i).max_seq) (sym same)
                  (subst (λ (m : Numbers). IsWindow new g k (oldest k m) m.max_seq) (sym (get_or-set_same numbers g n first_numbers change.within)) (change.windows k))
              | inr other ↦
                  let kept = get_or-set_other numbers g h n first_numbers other in
                  let was = is.windows h (omega arith) k in
                  subst (λ (m : Numbers). IsWindow new h k (oldest k m) m.max_seq) (sym kept) (record {
                    two = was.two;
                    four = was.four;
                    unused = λ s above below. change.others h other k s ∙ was.unused s above below;
                  })
            ];
      }

  groups_become : groups_from new 0 (set numbers g n) ≡ set (groups_from old 0 numbers) g (to (gens_at (groups_from old 0 numbers) g))
  groups_become =
      let before = groups_from old 0 numbers in
      let own = to (gens_at before g) in
      let inside = change.within in
      let long = length-set numbers g n in
      let many = length_groups old 0 numbers in
      let many_after = length_groups new 0 (set numbers g n) in
      let longer = length-set before g own in
      ext_get_or new_gens (groups_from new 0 (set numbers g n)) (set before g own) (omega arith) (λ i among.
      elim (cases_eq i g) [
        | inl same ↦
            subst (λ (j : ℕ). gens_at (groups_from new 0 (set numbers g n)) j ≡ gens_at (set before g own) j) (sym same)
            (group_at new (set numbers g n) g (omega arith)
            ∙ ap (λ (m : Numbers). gens_from new g m) (get_or-set_same numbers g n first_numbers inside)
            ∙ change.gens
            ∙ ap to (sym (group_at old numbers g inside))
            ∙ sym (get_or-set_same before g own new_gens (omega arith)))
        | inr other ↦
            group_at new (set numbers g n) i (omega arith)
            ∙ ap (λ (m : Numbers). gens_from new i m) (get_or-set_other numbers g i n first_numbers other)
            ∙ group_same old new i (numbers_at numbers i) (change.others i other)
            ∙ sym (group_at old numbers i (omega arith))
            ∙ sym (get_or-set_other before g i own new_gens other)
      ])

  pub table_stays : {after : List Numbers} → after ≡ set numbers g n → IsTable old numbers → IsTable new after
  table_stays renumbered is = subst (λ (ns : List Numbers). IsTable new ns) (sym renumbered) (table_after is)

  pub groups_after : {after : List Numbers} → after ≡ set numbers g n → groups_from new 0 after ≡ set (groups_from old 0 numbers) g (to (gens_at (groups_from old 0 numbers) g))
  groups_after renumbered = ap (groups_from new 0) renumbered ∙ groups_become

-- the pages of a row of the table
pub row_at : (lists : List (List ℕ)) (numbers : List Numbers) (g : ℕ) (k : Kind) → g < length numbers → (row_of k (gens_at (groups_from lists 0 numbers) g)).pages ≡ rows_from lists g k (oldest k (numbers_at numbers g)) 4
row_at lists numbers g k within =
    ap (λ (v : Gens). (row_of k v).pages) (group_at lists numbers g within)
    ∙ ap (λ (r : Row). r.pages) (row_from k lists g (numbers_at numbers g))

-- ---- a group more

-- empty lists at the end change no look-up
list_kept : (lists : List (List ℕ)) (n i : ℕ) → list_at (lists ++ replicate n []) i ≡ list_at lists i
list_kept lists n i =
    elim (cases_lt i (length lists)) [
      | inl within ↦ get_or_append_left lists (replicate n []) [] i within
      | inr past ↦
          get_or-append_right lists (replicate n []) (length lists) i [] refl past
          ∙ empty (i - length lists)
          ∙ sym (get_or_past lists i [] past)
    ]
  where
    empty : (j : ℕ) → get_or (replicate n (let none : List ℕ = [] in none)) j [] ≡ []
    empty j =
        elim (cases_lt j n) [
          | inl within ↦ get_or-replicate n j [] [] within
          | inr past ↦ get_or_past (replicate n []) j [] (omega (arith, length-replicate n (let none : List ℕ = [] in none)))
        ]

groups_append : (lists : List (List ℕ)) (g : ℕ) (numbers more : List Numbers) → groups_from lists g (numbers ++ more) ≡ groups_from lists g numbers ++ groups_from lists (g + length numbers) more
groups_append lists g [] more = let at : g ≡ g + 0 = omega arith in ap (λ (h : ℕ). groups_from lists h more) at
groups_append lists g (n ∷ numbers) more =
    let at : g + 1 + length numbers ≡ g + suc (length numbers) = omega arith in
    ap (λ (rest : List Gens). gens_from lists g n ∷ rest) (groups_append lists (g + 1) numbers more)
    ∙ ap (λ (h : ℕ). gens_from lists g n ∷ (groups_from lists (g + 1) numbers ++ groups_from lists h more)) at

groups_same : (old new : List (List ℕ)) → ((i : ℕ) → list_at new i ≡ list_at old i) → (g : ℕ) (numbers : List Numbers) → groups_from new g numbers ≡ groups_from old g numbers
groups_same old new same g [] = refl
groups_same old new same g (n ∷ numbers) =
    ap (λ (first : Gens). first ∷ groups_from new (g + 1) numbers) (group_same old new g n (λ k s. same (slot g k s)))
    ∙ ap (λ (rest : List Gens). gens_from old g n ∷ rest) (groups_same old new same (g + 1) numbers)

pub grown : (lists : List (List ℕ)) (numbers : List Numbers) (n : ℕ) → length lists ≡ length numbers * 8 → groups_from (lists ++ replicate n []) 0 (numbers ++ first_numbers ∷ []) ≡ groups_from lists 0 numbers ++ new_gens ∷ []
grown lists numbers n count =
    let h = 0 + length numbers in
    let none : (k : Kind) (s : ℕ) → list_at lists (slot h k s) ≡ [] = λ k s. get_or_past lists (slot h k s) [] (omega (arith, count)) in
    groups_same lists (lists ++ replicate n []) (list_kept lists n) 0 (numbers ++ first_numbers ∷ [])
    ∙ groups_append lists 0 numbers (first_numbers ∷ [])
    ∙ ap (λ (last : Gens). groups_from lists 0 numbers ++ last ∷ []) (new_group lists h none)
