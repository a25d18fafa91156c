-- Bytes of tasks and of files, by the pages that have them.
use Rattle.std.specs.Prelude.{◌≡◌, ℕ, true, Option}
use Rattle.machine.specs.Pages.{file_page}
use Rattle.machine.specs.Tasks.{lives, mapped_at}
use Rattle.machine.specs.State.{State}
use Rattle.machine.specs.History.{Spot, InTask, InFile}

abbrev pub offset_of : Spot → ℕ
offset_of (InTask t v o) = o
offset_of (InFile file q o) = o

-- the page that has this byte, if one does
abbrev pub holder : State → Spot → Option ℕ
holder s (InTask t v o) = mapped_at s.page_tables t v
holder s (InFile file q o) = file_page s.pages file q

-- a byte of a live task, or of a file
abbrev pub IsThere : State → Spot → Type 0
IsThere s (InTask t v o) = lives s.tasks t ≡ true
IsThere s (InFile file q o) = Unit {0}
