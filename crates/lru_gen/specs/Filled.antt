-- What is kept of whether the types have a page. No public clause cites this.
use Rattle.std.specs.Prelude.{◌≡◌, ℕ, ◌||◌, ◌&&◌, not, Bool, false, List, length, slice_index_or}
use Rattle.machine.specs.declared.record.Kind.{Kind}
use Rattle.machine.specs.Generations.{Listed, Gens, gens_at, row_of, of_kind}
use Rattle.machine.specs.Eviction.{is_nil}
use Rattle.lru_gen.specs.declared.numbers.Numbers.{Numbers}
use Rattle.lru_gen.specs.declared.filled.Filled.{Filled}
use Rattle.lru_gen.specs.Rows.{groups_from, IsTable}

-- what is kept of a group with no page
abbrev pub no_page : Filled
no_page = record { anon = false; file = false }

-- what is kept of a group
abbrev pub filled_at : List Filled → ℕ → Filled
filled_at filled g = slice_index_or filled g no_page

-- whether a type has a page, as it is kept
abbrev pub flag : Kind → Filled → Bool
flag kind filled = of_kind kind filled.anon filled.file

-- the same, but this for one type
abbrev pub with_flag : Kind → Bool → Filled → Filled
with_flag kind to filled = record { anon = of_kind kind to filled.anon; file = of_kind kind filled.file to }

-- a type has a page where it had one, or another group's had
abbrev pub joined : Filled → Filled → Filled
joined filled more = record { anon = filled.anon || more.anon; file = filled.file || more.file }

-- whether a page may be taken: a file page, or an anonymous one where a swap block is free
abbrev pub usable : Bool → Filled → Bool
usable swap_free filled = filled.file || (swap_free && filled.anon)

-- a row has a page
abbrev pub has_any : List Listed → Bool
has_any pages = not (is_nil pages)

-- what is kept of each type of each group is whether its row has a page
pub record AreTold (filled : List Filled) (groups : List Gens) : Type 0 where
  pub told : (g : ℕ) → (kind : Kind) → flag kind (filled_at filled g) ≡ has_any (row_of kind (gens_at groups g)).pages

-- what always holds of the lists, of the numbers, and of what is kept of the types
pub record IsKept (lists : List (List ℕ)) (numbers : List Numbers) (filled : List Filled) : Type 0 where
  pub table : IsTable lists numbers
  pub size : length filled ≡ length numbers
  pub flags : AreTold filled (groups_from lists 0 numbers)
