-- What a contract sees of files.
use Rattle.std.specs.Prelude.{◌≡◌, ℕ, ◌+◌, ◌<◌, nat_lt, if◌then◌else◌, List, length, map, slice_index, slice_index_or, sum, Option, Some, None}
use Rattle.machine.specs.Pages.{home_block}
use Rattle.files.specs.declared.Extent.{Extent}

-- the block of the first page of the first file, and by a file's number how many pages it has
pub record FilesOf : Type 0 where
  pub first : ℕ
  pub sizes : List ℕ

-- the home block of a page, if the file has that page
abbrev pub home_in : FilesOf → ℕ → ℕ → Option ℕ
home_in files file q = if nat_lt q (slice_index files.sizes file) then Some (home_block files.first files.sizes file q) else None

-- how many blocks each extent has
abbrev pub lengths : List Extent → List ℕ
lengths extents = map (λ extent. extent.pages) extents

-- what always holds: each file begins at home, and the block behind the last home has a number of 32 bits
pub record AreExtents (first : ℕ) (extents : List Extent) (end : ℕ) : Type 0 where
  pub starts : (file : ℕ) (default : Extent) → file < length extents → (slice_index_or extents file default).start ≡ home_block first (lengths extents) file 0
  pub last : end ≡ first + sum (lengths extents)
  pub numbered : end < 4294967296
