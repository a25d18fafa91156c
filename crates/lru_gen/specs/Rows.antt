-- Which rows the lists of all groups stand for. No public clause cites this.
use Rattle.std.specs.Prelude.{◌≡◌, ◌≢◌, ℕ, zero, suc, ◌+◌, ◌-◌, ◌*◌, ◌/◌, ◌^◌, ◌<◌, ◌≤◌, min, List, [], ◌∷◌, ◌++◌, map, length, slice_index_or, Option, Some, None}
use Rattle.machine.specs.declared.record.Kind.{Kind}
use Rattle.machine.specs.Generations.{Listed, Row, Gens, of_kind}
use Rattle.rings.specs.Rings.{list_at}
use Rattle.rings.specs.declared.ring_node.ListId.{ListId}
use Rattle.rings.specs.declared.ring_node.RingNode.{RingNode}
use Rattle.rings.specs.declared.ring_node.RingNode.TheVariants.{Page, Head}
use Rattle.lru_gen.specs.declared.numbers.Numbers.{Numbers}
use Rattle.lru_gen.specs.Lists.{slot}

-- the numbers of a group as it begins
abbrev pub first_numbers : Numbers
first_numbers = record { max_seq = 3; anon_min_seq = 0; file_min_seq = 0 }

-- the numbers of a group
abbrev pub numbers_at : List Numbers → ℕ → Numbers
numbers_at numbers g = slice_index_or numbers g first_numbers

-- the number of a type's oldest generation
abbrev pub oldest : Kind → Numbers → ℕ
oldest kind numbers = of_kind kind numbers.anon_min_seq numbers.file_min_seq

-- the same numbers, but this one for a type's oldest generation
abbrev pub with_oldest : Kind → ℕ → Numbers → Numbers
with_oldest kind to numbers =
    record {
      max_seq = numbers.max_seq;
      anon_min_seq = of_kind kind to numbers.anon_min_seq;
      file_min_seq = of_kind kind numbers.file_min_seq to;
    }

-- a page of a generation
abbrev pub in_seq : ℕ → ℕ → Listed
in_seq seq p = record { page = p; seq = seq }

-- the pages of so many generations, by rising number
unfoldable pub rows_from : List (List ℕ) → ℕ → Kind → ℕ → ℕ → List Listed
rows_from lists g kind seq zero = []
rows_from lists g kind seq (suc n) = map (in_seq seq) (list_at lists (slot g kind seq)) ++ rows_from lists g kind (seq + 1) n

-- the row of a type, which has all four of its lists; one that is out of use is empty
abbrev pub row_in : List (List ℕ) → ℕ → Kind → ℕ → Row
row_in lists g kind least = record { min_seq = least; pages = rows_from lists g kind least 4 }

-- the lists of one group
abbrev pub gens_from : List (List ℕ) → ℕ → Numbers → Gens
gens_from lists g numbers =
    record {
      max_seq = numbers.max_seq;
      anon = row_in lists g Kind.Anon numbers.anon_min_seq;
      file = row_in lists g Kind.File numbers.file_min_seq;
    }

-- the lists of all groups from this one on
abbrev pub groups_from : List (List ℕ) → ℕ → List Numbers → List Gens
groups_from lists g [] = []
groups_from lists g (numbers ∷ more) = gens_from lists g numbers ∷ groups_from lists (g + 1) more

-- for how many groups more there is memory: for eight lists each, and for their numbers, as far as the lists can be counted in 31 bits
abbrev pub room_of : ℕ → ℕ → ℕ → ℕ
room_of lists numbers groups = min (min (lists / 8) numbers) (2 ^ 28 - 1 - groups)

-- a type has two to four generations, and the lists of none are empty
pub record IsWindow (lists : List (List ℕ)) (g : ℕ) (kind : Kind) (least top : ℕ) : Type 0 where
  pub two : least + 1 ≤ top
  pub four : top ≤ least + 3
  pub unused : (seq : ℕ) → top < seq → seq < least + 4 → list_at lists (slot g kind seq) ≡ []

-- what always holds of the lists and the numbers
pub record IsTable (lists : List (List ℕ)) (numbers : List Numbers) : Type 0 where
  pub count : length lists ≡ length numbers * 8
  pub few : length numbers < 2 ^ 28
  pub windows : (g : ℕ) → g < length numbers → (kind : Kind) → IsWindow lists g kind (oldest kind (numbers_at numbers g)) (numbers_at numbers g).max_seq

-- this comes behind the page on its list: another page, or the head of the list again
abbrev pub IsBehind : List (List ℕ) → ℕ → RingNode → Type 0
IsBehind lists p (Page next) =
    (l : ℕ) × (before : List ℕ) × (after : List ℕ) × (list_at lists l ≡ before ++ p ∷ next.0 ∷ after)
IsBehind lists p (Head l) = (before : List ℕ) × (list_at lists l.0 ≡ before ++ p ∷ [])

-- the page stands alone on this list; or it has a page before it or behind it on its list
abbrev pub IsAlone : List (List ℕ) → ℕ → Option ListId → Type 0
IsAlone lists p (Some l) = list_at lists l.0 ≡ p ∷ []
IsAlone lists p None =
    (l : ℕ) × (before : List ℕ) × (after : List ℕ) × (list_at lists l ≡ before ++ p ∷ after) × (0 < length (before ++ after))

-- so many generations of one group, from this number on, have no page any more: their pages stand behind those of another group's generation
pub record HaveMoved (old new : List (List ℕ)) (from to : ℕ) (kind : Kind) (low n seq : ℕ) : Type 0 where
  pub size : length new ≡ length old
  pub taken : list_at new (slot to kind seq) ≡ list_at old (slot to kind seq) ++ map (λ l. l.page) (rows_from old from kind low n)
  pub emptied : (turn : ℕ) → turn < n → list_at new (slot from kind (low + turn)) ≡ []
  pub others : (l : ℕ) → l ≢ slot to kind seq → ((turn : ℕ) → turn < n → l ≢ slot from kind (low + turn)) → list_at new l ≡ list_at old l
