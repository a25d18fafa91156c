-- Why an event is refused, the first cause in order. Room in the trace and memory are judged in Call.
use Rattle.std.specs.Prelude.{ℕ, ◌==◌, ◌&&◌, ◌||◌, not, nat_lt, nat_le, Bool, true, false, List, length, is_some, Option, Some, None}
use Rattle.machine.specs.declared.record.Life.{Life}
use Rattle.machine.specs.declared.record.Life.TheVariants.{Live, Exited, Killed}
use Rattle.machine.specs.declared.record.Task.{Task}
use Rattle.machine.specs.declared.event.Query.{Query}
use Rattle.machine.specs.declared.event.Query.TheVariants as query
use Rattle.machine.specs.declared.event.Event.{Event}
use Rattle.machine.specs.declared.event.Event.TheVariants as event
use Rattle.machine.specs.declared.refusal.Refusal.{Refusal}
use Rattle.machine.specs.declared.refusal.Refusal.TheVariants.{Exists, NoEntry, Busy, NoSpace, NoTask, NumberUsed, BadPlace, Invalid}
use Rattle.machine.specs.Names.{is_path, parent_path}
use Rattle.machine.specs.Tree.{Node, is_live, under, chain, has_children, live_groups, find_group}
use Rattle.machine.specs.Tasks.{Tasks, task_at, lives, live_tasks, has_tasks}
use Rattle.machine.specs.State.{State}
use Rattle.machine.specs.Access.{is_place, task_pages}

-- the cause where the test holds, else what comes after
abbrev pub first_cause : Bool → Refusal → Option Refusal → Option Refusal
first_cause true cause others = Some cause
first_cause false cause others = others

-- a group other than the root keeps either tasks or children (the no-internal-process rule)
abbrev pub bars_children : Tasks → ℕ → Bool
bars_children tasks g = not (g == 0) && has_tasks tasks g

abbrev pub bars_tasks : List Node → ℕ → Bool
bars_tasks tree g = not (g == 0) && has_children tree g

-- a new task's number: in range, never used before, and not too many live tasks
abbrev pub number_refusal : Tasks → ℕ → Option Refusal
number_refusal tasks t =
    first_cause (not (nat_le 1 t && nat_le t 65535)) Invalid
    (first_cause (is_some (task_at tasks t)) NumberUsed (first_cause (nat_le 1024 (live_tasks tasks)) NoSpace None))

abbrev pub life_refusal : Life → Option Refusal → Option Refusal
life_refusal Live others = others
life_refusal Exited others = Some NoTask
life_refusal Killed others = None

-- an event of a task: one that was killed is answered so and not refused, and any other that is not live is refused
abbrev pub task_refusal : Option Task → Option Refusal → Option Refusal
task_refusal None others = Some NoTask
task_refusal (Some task) others = life_refusal task.life others

-- no more than 256 live groups, the root counted, and 16 levels below the root
abbrev pub space_refusal : List Node → ℕ → Option Refusal
space_refusal tree parent = first_cause (nat_le 256 (live_groups tree) || nat_lt 16 (length (chain tree (Some parent)))) NoSpace None

-- below that parent, if there is one. `barred` says whether a group has tasks, which keep it from having children
abbrev pub below_refusal : List Node → (ℕ → Bool) → List ℕ → Option ℕ → Option Refusal
below_refusal tree barred path None = Some NoEntry
below_refusal tree barred path (Some parent) =
    first_cause (is_some (find_group tree path)) Exists (first_cause (barred parent) Busy (space_refusal tree parent))

abbrev pub mkdir_refusal : List Node → (ℕ → Bool) → List ℕ → Option Refusal
mkdir_refusal tree barred path = first_cause (not (is_path path)) Invalid (below_refusal tree barred path (find_group tree (parent_path path)))

-- the group is there
abbrev pub group_refusal : List Node → ℕ → Option Refusal → Option Refusal
group_refusal tree g others = first_cause (not (is_live tree g)) NoEntry others

-- a control file that the root does not have
abbrev pub file_refusal : List Node → ℕ → Option Refusal
file_refusal tree g = first_cause (not (is_live tree g) || (g == 0)) NoEntry None

-- a group's protection is asked for a target above it
abbrev pub below_target : List Node → ℕ → ℕ → Bool
below_target tree target g = is_live tree target && (is_live tree g && (under tree target g && not (target == g)))

abbrev pub show_refusal : State → Query → Option Refusal
show_refusal s (query.Current g) = file_refusal s.tree g.0
show_refusal s (query.Max g) = file_refusal s.tree g.0
show_refusal s (query.Guard guard g) = file_refusal s.tree g.0
show_refusal s (query.OomGroup g) = file_refusal s.tree g.0
show_refusal s (query.Events g) = file_refusal s.tree g.0
show_refusal s (query.EventsLocal g) = file_refusal s.tree g.0
show_refusal s (query.Stat g) = file_refusal s.tree g.0
show_refusal s (query.Protection guard target g) = first_cause (not (below_target s.tree target.0 g.0)) NoEntry None

abbrev pub spawn_refusal : State → ℕ → ℕ → Option Refusal
spawn_refusal s t g = group_refusal s.tree g (first_cause (bars_tasks s.tree g) Busy (number_refusal s.tasks t))

-- the group is there, then the task runs, then the group may have tasks
abbrev pub attach_refusal : State → ℕ → ℕ → Option Refusal
attach_refusal s t g = group_refusal s.tree g (first_cause (not (lives s.tasks t)) NoTask (first_cause (bars_tasks s.tree g) Busy None))

-- the group is there, is not the root, and has neither children nor tasks
abbrev pub rmdir_refusal : State → ℕ → Option Refusal
rmdir_refusal s g = group_refusal s.tree g (first_cause ((g == 0) || (has_children s.tree g || has_tasks s.tasks g)) Busy None)

abbrev pub refusal : State → Event → Option Refusal
refusal s (event.Access t place op) = task_refusal (task_at s.tasks t.0) (first_cause (not (is_place s.opening place)) BadPlace None)
refusal s (event.Arrived ticket bytes) = None
refusal s (event.FetchFailed ticket) = None
refusal s (event.Left ticket) = None
refusal s (event.LeaveFailed ticket) = None
refusal s (event.Relieve cause) = None
refusal s (event.ReclaimOne g) = group_refusal s.tree g.0 None
refusal s (event.Spawn t g) = spawn_refusal s t.0 g.0
refusal s (event.Fork t child) = task_refusal (task_at s.tasks t.0) (number_refusal s.tasks child.0)
refusal s (event.Exit t) = task_refusal (task_at s.tasks t.0) None
refusal s (event.Free t v) = task_refusal (task_at s.tasks t.0) (first_cause (not (nat_lt v task_pages)) BadPlace None)
refusal s (event.Attach t g) = attach_refusal s t.0 g.0
refusal s (event.Mkdir path) = mkdir_refusal s.tree (bars_children s.tasks) path
refusal s (event.Rmdir g) = rmdir_refusal s g.0
refusal s (event.Set g setting) = file_refusal s.tree g.0
refusal s (event.Show what) = show_refusal s what
refusal s (event.MergeMarks word bits) = None
