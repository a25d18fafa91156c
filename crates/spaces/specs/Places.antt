-- The places of a page table. No public clause cites this.
use Rattle.std.specs.Prelude.{ℕ, ◌-◌, List, ◌++◌, length, replicate, Option, None}
use Rattle.machine.specs.declared.id.PageId.{PageId}

-- so many places: first those that are written, and then places that map nothing
abbrev pub all_places : List (Option PageId) → ℕ → List (Option PageId)
all_places places pages = places ++ replicate (pages - length places) None
