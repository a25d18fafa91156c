-- What is shown of groups and of the machine behind each step of a run.
use Rattle.std.specs.Prelude.{◌≡◌, ℕ, Bool, if◌then◌else◌, List, [], ◌∷◌, ◌++◌, map, replicate, None}
use Rattle.machine.specs.declared.config.Config.{Config}
use Rattle.machine.specs.declared.command.Step.{Step}
use Rattle.machine.specs.declared.command.Reply.{Reply}
use Rattle.machine.specs.Pages.{used_frames, used_swap}
use Rattle.machine.specs.State.{free_frames}
use Rattle.machine.specs.Call.{Past}
use Rattle.block_store.specs.Device.{Disk}
use Rattle.book.specs.Looks.{look_at, stat_at}
use Rattle.driver.specs.Schedule.{first_world, RunsThrough, Schedules}
use Rattle.charts.specs.declared.watching.Machine.{Machine}
use Rattle.charts.specs.declared.watching.Shown.{Shown}
use Rattle.charts.specs.declared.watching.Row.{Row}

-- what is shown of the group of a path, in the state of that time; what its pages hold is looked at only where that is wanted
abbrev pub shown_at : Bool → Past → List ℕ → Shown
shown_at detailed past path = record { look = look_at past.state path; stat = if detailed then stat_at past.state path else None }

-- and of all paths
abbrev pub row_at : Bool → List (List ℕ) → Past → List Shown
row_at detailed paths past = map (shown_at detailed past) paths

-- the frames of the machine that have a page and that have none, and its swap blocks that have one
abbrev pub machine_at : Past → Machine
machine_at past = record { used = used_frames past.state.pages; free = free_frames past.state; swap = used_swap past.state.pages }

-- both
pub record Seen : Type 0 where
  pub machine : Machine
  pub groups : List Shown

abbrev pub seen_at : Bool → List (List ℕ) → Past → Seen
seen_at detailed paths past = record { machine = machine_at past; groups = row_at detailed paths past }

-- what rows say, step by step: each stands for as many steps as it says
abbrev pub seen_of : Row → Seen
seen_of row = record { machine = row.machine; groups = row.groups.items }

abbrev pub expanded : List Row → List Seen
expanded [] = []
expanded (row ∷ rows) = replicate row.steps (seen_of row) ++ expanded rows

-- the rows say what each of the paths' groups was charged with behind each of the steps, and what the machine had in use, in a run that is the plain machine's.
-- (Excludes numbers that no run has, or of another time, and the free frames in the place of those in use. Which run it is, where memory may be wanting for a group, it does not say.)
pub record IsWatched (config : Config) (before : Disk) (steps : List Step) (paths : List (List ℕ)) (detailed : Bool) (rows : List Row) : Type 0 where
  pub answers : List Reply
  pub after : Disk
  pub schedules : Schedules config before steps answers after
  pub pasts : List Past
  pub runs : RunsThrough (first_world config before) steps answers pasts schedules.end
  pub rows_are : expanded rows ≡ map (seen_at detailed paths) pasts
