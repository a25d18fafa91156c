-- The accesses of one line and one task, and what they leave behind.
use Rattle.std.specs.Prelude.{ℕ, ◌+◌, ◌-◌, ◌^◌, ◌%◌, ◌==◌, Option, Some, None, max, min, if◌then◌else◌}
use Rattle.machine.specs.declared.command.Command.{Command}
use Rattle.machine.specs.declared.command.Command.TheVariants as command
use Rattle.machine.specs.declared.event.Op.TheVariants as op
use Rattle.machine.specs.declared.event.Place.TheVariants as place
use Rattle.scenario_lines.specs.declared.access.Act.{Act}
use Rattle.scenario_lines.specs.declared.access.Act.TheVariants as act
use Rattle.scenario_lines.specs.declared.pages.Pages.{Pages}
use Rattle.scenario_lines.specs.declared.pages.Pages.TheVariants as pages

-- the task, what it does to each page, and the pages
pub record AccessNow : Type 0 where
  pub task : ℕ
  pub act : Act
  pub pages : Pages

-- what the task is told to do with a page: byte 0 is read, or written with 1
abbrev pub command_at : Act → ℕ → Command
command_at act.Write page = command.Access (place.Virtual page 0) (op.Write 1)
command_at act.Read page = command.Access (place.Virtual page 0) op.Read
command_at (act.Free mark) page = command.Free page
command_at (act.FileRead file) page = command.Access (place.File file page 0) op.Read
command_at (act.FileWrite file) page = command.Access (place.File file page 0) (op.Write 1)

-- the mark behind the entry of a place among so many, which is of this page: a write raises it to behind the page, and the last page that is freed lowers it
abbrev pub mark_behind : Act → ℕ → ℕ → ℕ → ℕ → ℕ
mark_behind act.Write count at page mark = max mark (min (page + 1) (2 ^ 32 - 1))
mark_behind act.Read count at page mark = mark
mark_behind (act.Free lowered) count at page mark = if at + 1 == count then lowered else mark
mark_behind (act.FileRead file) count at page mark = mark
mark_behind (act.FileWrite file) count at page mark = mark

-- where the task is in a file behind a page, if its line goes on from where it was
abbrev pub place_behind : Pages → ℕ → Option ℕ
place_behind (pages.Run first count) page = None
place_behind (pages.Drawn from to seed count) page = None
place_behind (pages.Round first size count) page = Some ((page + 1) % size)

-- the file that it is of
abbrev pub file_of : Act → Option ℕ
file_of act.Write = None
file_of act.Read = None
file_of (act.Free mark) = None
file_of (act.FileRead file) = Some file
file_of (act.FileWrite file) = Some file
