-- How a script divides at its lines `go`: the setup, the work of each actor, and the looks.
use Rattle.std.specs.Prelude.{◌≡◌, Bool, true, false, List, [], ◌++◌, Option, Some, None, fold, map}
use Rattle.std.specs.List.{filter_map, list_any}
use Rattle.machine.specs.declared.command.Actor.{Actor}
use Rattle.machine.specs.declared.command.Actor.TheVariants as actor
use Rattle.machine.specs.declared.command.Command.{Command}
use Rattle.machine.specs.declared.command.Step.{Step}
use Rattle.machine.specs.declared.command.Step.TheVariants.{Begin}
use Rattle.machine.specs.declared.config.Placement.{Placement}
use Rattle.scripts.specs.declared.forms.DeviceCall.TheVariants.{Read, Write}
use Rattle.scripts.specs.declared.meaning.Item.{Item}
use Rattle.scripts.specs.declared.meaning.Item.TheVariants as item
use Rattle.scripts.specs.Header.{config_of}
use Rattle.scripts.specs.Script.{faults_of, steps_of}
use Rattle.scripts.specs.Work.{before_go, behind_go, does, commands_by, with_actor}
use Rattle.explorer.specs.declared.parts.Parts.{Parts}
use Rattle.explorer.specs.declared.parts.Row.{Row}

-- the lines of the work: those between the first `go` and the second
abbrev pub work_in : List Item → List Item
work_in is = before_go (behind_go is)

-- those of the looks: behind the second
abbrev pub looks_in : List Item → List Item
looks_in is = behind_go (behind_go is)

-- the line takes a command apart
abbrev pub takes_apart : Item → Bool
takes_apart (item.Begins who what) = true
takes_apart (item.Advances who) = true
takes_apart (item.Finishes who) = true
takes_apart (item.Does who what) = false
takes_apart item.Nothing = false
takes_apart (item.Frames n) = false
takes_apart (item.Swap n) = false
takes_apart (item.File file) = false
takes_apart (item.Marks m) = false
takes_apart (item.Trace n) = false
takes_apart (item.Fails what n) = false
takes_apart item.Recursive = false
takes_apart (item.PageSize p) = false
takes_apart item.EndsSetup = false

-- control does what the shell would do: a command of the shell can't be taken apart
abbrev pub worker_for : Actor → Actor
worker_for actor.Shell = actor.Control
worker_for actor.Control = actor.Control
worker_for actor.Daemon = actor.Daemon
worker_for (actor.Task n) = actor.Task n

abbrev pub by_worker : Actor × Command → Actor × Command
by_worker asked = (worker_for asked.0, asked.1)

-- who does what in the work, in the order of the lines
abbrev pub worked_in : List Item → List (Actor × Command)
worked_in is = map by_worker (filter_map does (work_in is))

-- whose command the line only begins
abbrev pub left_by : Item → Option Actor
left_by (item.Begins who what) = Some who
left_by (item.Advances who) = None
left_by (item.Finishes who) = None
left_by (item.Does who what) = None
left_by item.Nothing = None
left_by (item.Frames n) = None
left_by (item.Swap n) = None
left_by (item.File file) = None
left_by (item.Marks m) = None
left_by (item.Trace n) = None
left_by (item.Fails what n) = None
left_by item.Recursive = None
left_by (item.PageSize p) = None
left_by item.EndsSetup = None

-- the actors of the work, each once, by rising number: those with a command that the setup only begins, and those with a line in the work
abbrev pub actors_in : List Item → List Actor
actors_in is = fold with_actor [] (filter_map left_by (before_go is) ++ map (λ asked. asked.0) (worked_in is))

-- what the actor begins in the work, in the order of the lines. (Excludes a line of another actor, and one that is left out.)
abbrev pub begun_by : List Item → Actor → List Step
begun_by is who = map (Begin who) (commands_by who (worked_in is))

abbrev pub row_in : List Item → Actor → Actor × List Step
row_in is who = (who, begun_by is who)

abbrev pub shown_row : Row → Actor × List Step
shown_row row = (row.actor, row.lines.items)

-- the script's lines divide into these parts. (Excludes a line in another part or in none, and looks before the work.)
pub record IsDivided (is : List Item) (parts : Parts) : Type 0 where
  pub setup : parts.setup.items ≡ steps_of (before_go is)
  pub whole : list_any takes_apart (work_in is) ≡ false
  pub rows : map shown_row parts.rows.items ≡ map (row_in is) (actors_in is)
  pub looks : parts.looks.items ≡ steps_of (looks_in is)

-- these are the parts of a script whose lines say this, with this placement. (Excludes a fault of the device that is ignored.)
pub record ArePartsOf (placement : Placement) (is : List Item) (parts : Parts) : Type 0 where
  pub config : parts.config ≡ record (config_of is) { placement = placement }
  pub read_faults : parts.read_faults.items ≡ faults_of Read is
  pub write_faults : parts.write_faults.items ≡ faults_of Write is
  pub divided : IsDivided is parts
