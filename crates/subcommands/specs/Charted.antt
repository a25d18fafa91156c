-- What a table of a script says.
use Rattle.std.specs.Prelude.{◌≡◌, ℕ, true, false, List, [], ◌∷◌, Option, codes}
use Rattle.std.specs.Io.KnownBytes.{Appends}
use Rattle.std.specs.Str.Lines.{lines}
use Rattle.machine.specs.declared.config.Config.{Config}
use Rattle.machine.specs.declared.command.Step.{Step}
use Rattle.machine.specs.declared.command.Reply.{Reply}
use Rattle.block_store.specs.Device.{Disk}
use Rattle.driver.specs.Schedule.{Schedules}
use Rattle.scripts.specs.declared.mode.Mode.TheVariants.{Schedule}
use Rattle.scripts.specs.Script.{items_of, steps_of, lines_in, IsFaultless}
use Rattle.charts.specs.declared.watching.Row.{Row}
use Rattle.charts.specs.Watched.{expanded, IsWatched}
use Rattle.charts.specs.Phased.{phases_in}
use Rattle.charts.specs.Listed.{table_text}
use Rattle.printer.specs.declared.options.Options.{Options}
use Rattle.printer.specs.Paths.{paths_in}
use Rattle.printer.specs.Prints.{any_refuses}
use Rattle.subcommands.specs.Scripts.{configured, disk_of}

-- the paths themselves, or the root's if there are none
abbrev pub or_root : List (List ℕ) → List (List ℕ)
or_root [] = codes "/" ∷ []
or_root (path ∷ paths) = path ∷ paths

-- the paths that a table has lines for: those of all groups that the steps make
abbrev pub charted_in : List Step → List (List ℕ)
charted_in steps = or_root (paths_in steps)

-- the text is the table of these paths, by the lines of the steps and their phases: what was watched of their groups and of the machine in a run that is the plain machine's
pub record ListsRun (config : Config) (before : Disk) (steps : List Step) (numbers : List ℕ) (phases : List (List ℕ)) (text : List ℕ) : Type 0 where
  pub rows : List Row
  pub watched : IsWatched config before steps (charted_in steps) true rows
  pub is : text ≡ table_text config.page_size.bytes numbers phases (charted_in steps) (expanded rows)

-- no line of the script is faulty, and a writer got its table, and nothing else. (Excludes a table that leaves out a group that the script makes,
-- and one with numbers that no run has, or of another line, or with a phase that the script does not name there.)
pub record ListsScript (options : Options) (script : List ℕ) (old new : Option (List ℕ)) : Type 0 where
  pub faultless : IsFaultless Schedule (lines script)
  pub text : List ℕ
  pub run : ListsRun (configured options (items_of (lines script))) (disk_of (items_of (lines script))) (steps_of (items_of (lines script))) (lines_in Schedule (items_of (lines script))) (phases_in script) text
  pub prints : Appends old new text

-- the plain machine answers all steps of the script, and none of its answers refuses something. (Excludes a picture of a run with a line that was refused.)
pub record RefusesNothing (options : Options) (script : List ℕ) : Type 0 where
  pub answers : List Reply
  pub after : Disk
  pub schedules : Schedules (configured options (items_of (lines script))) (disk_of (items_of (lines script))) (steps_of (items_of (lines script))) answers after
  pub none : any_refuses answers ≡ false
