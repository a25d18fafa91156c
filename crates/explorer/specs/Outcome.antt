-- What an order is, and its outcome.
use Rattle.std.specs.Prelude.{◌≡◌, ℕ, Bool, true, ◌==◌, ◌&&◌, List, [], ◌++◌, length, replicate, if◌then◌else◌}
use Rattle.std.specs.List.{list_any}
use Rattle.machine.specs.declared.command.Reply.{Reply as Told_by}
use Rattle.machine.specs.declared.command.Step.{Step}
use Rattle.machine.specs.State.{blocks_of}
use Rattle.block_store.specs.Device.{Disk, new_disk}
use Rattle.driver.specs.Schedule.{World, first_world, fits, Runs, Schedules}
use Rattle.orders.specs.Runs.{Run}
use Rattle.explorer.specs.declared.parts.Parts.{Parts}
use Rattle.explorer.specs.declared.parts.Row.{Row}
use Rattle.explorer.specs.declared.choice.Choice.{Choice}
use Rattle.explorer.specs.declared.choice.Choice.TheVariants.{Any}
use Rattle.explorer.specs.Lines.{tells_busy, outcome_text}
use Rattle.explorer.specs.Work.{Point, AllGoOn, Works, ready_in}

-- the device before the setup
abbrev pub disk_of : Parts → Disk
disk_of parts = new_disk (blocks_of parts.config) parts.read_faults.items parts.write_faults.items

-- no call of the device fails
abbrev pub no_call_fails : Parts → Bool
no_call_fails parts = (length parts.read_faults.items == 0) && (length parts.write_faults.items == 0)

-- who can take the next turn: if a call of the device can fail, each ready actor, whatever was asked. (Excludes device calls that come first although their order
-- says which of them fails.)
abbrev pub choice_in : Parts → Choice → Choice
choice_in parts asked = if no_call_fails parts then asked else Any

-- nothing of the work was begun in this world
abbrev pub at_go : List Row → World → Point
at_go rows world = record { world = world; begun = replicate (length rows) 0 }

-- the machine is opened, the setup is carried out, each actor begins its first line, and then these turns are taken. These steps lead to this point, and the work
-- has answered this so far. (Excludes a device, a machine or an answer of another order, and a setup that is left out.)
pub record Reaches (choice : Choice) (parts : Parts) (run : Run) (steps : List Step) (answers : List Told_by) (said : List Told_by) (point : Point) : Type 0 where
  pub set_up : World
  pub first : Point
  pub setup_answers : List Told_by
  pub first_steps : List Step
  pub first_answers : List Told_by
  pub work_steps : List Step
  pub work_answers : List Told_by
  pub fitting : fits parts.config (disk_of parts) ≡ true
  pub sets_up : Runs (first_world parts.config (disk_of parts)) parts.setup.items setup_answers set_up
  pub begins : AllGoOn parts.rows.items (at_go parts.rows.items set_up) (length parts.rows.items) first_steps first_answers first
  pub works : Works choice parts.rows.items first run work_steps work_answers point
  pub steps_are : steps ≡ parts.setup.items ++ first_steps ++ work_steps
  pub answers_are : answers ≡ setup_answers ++ said
  pub said_is : said ≡ first_answers ++ work_answers

-- the run is an order of the work, and this is its outcome: no actor is ready at its end, the looks are carried out there, and all these steps are a schedule of the
-- plain machine. In the work a command met a page in transfer, or none did. (Excludes looks before the last turn.)
pub record IsOutcome (choice : Choice) (parts : Parts) (run : Run) (busy : Bool) (outcome : List ℕ) : Type 0 where
  pub steps : List Step
  pub answers : List Told_by
  pub said : List Told_by
  pub point : Point
  pub looked : List Told_by
  pub end : World
  pub reaches : Reaches choice parts run steps answers said point
  pub over : ready_in parts.rows.items point.world ≡ []
  pub looks : Runs point.world parts.looks.items looked end
  pub schedules : Schedules parts.config (disk_of parts) (steps ++ parts.looks.items) (answers ++ looked) end.disk
  pub ends : schedules.end ≡ end
  pub busy_is : busy ≡ list_any tells_busy said
  pub outcome_is : outcome ≡ outcome_text parts.rows.items said looked
