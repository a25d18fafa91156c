-- The tasks that a scenario has started, with their marks and their places in files.
use Rattle.std.specs.Prelude.{ℕ, ◌+◌, ◌-◌, ◌==◌, Bool, ◌&&◌, List, [], ◌∷◌, ◌++◌, length, nat_eq, position, slice_get, slice_set, Option, None, if◌then◌else◌}
use Rattle.std.proofs.Common.{replicate}
use Rattle.std.specs.Option.{option_eq, option_map, unwrap_or}
use Rattle.std.specs.Str.{bytes_eq}
use Rattle.std.specs.String.{string_bytes}
use Rattle.scenario_lines.specs.declared.tasks.Started.{Started}

-- a task: its name, and its number among those of the name, if it has one
pub record StartedTask : Type 0 where
  pub name : List ℕ
  pub index : Option ℕ

-- a task's mark, which is the page after the last one that a line let it write, and its place in each file, by the file's number
pub record StandingNow : Type 0 where
  pub mark : ℕ
  pub places : List ℕ

-- the tasks in the order of their start, and their standings; a task past the end of the standings has written nothing
pub record TasksNow : Type 0 where
  pub started : List StartedTask
  pub standings : List StandingNow

abbrev pub started_task : Started → StartedTask
started_task t = record { name = string_bytes t.name; index = t.index }

-- ---- the number of a task, from 1

abbrev pub has_name : List ℕ → StartedTask → Bool
has_name name t = bytes_eq name t.name

abbrev pub is_task : List ℕ → Option ℕ → StartedTask → Bool
is_task name index t = has_name name t && option_eq nat_eq index t.index

-- the number of the task of this name and this number of its own
abbrev pub task_named : List StartedTask → List ℕ → Option ℕ → Option ℕ
task_named started name index = option_map (λ place. place + 1) (position (is_task name index) started)

-- the numbers of those of a name, among tasks of which the first has this number
abbrev pub named_from : ℕ → List ℕ → List StartedTask → List ℕ
named_from number name [] = []
named_from number name (t ∷ ts) = if has_name name t then number ∷ named_from (number + 1) name ts else named_from (number + 1) name ts

-- the numbers of all tasks of a name, in the order of their start
abbrev pub tasks_named : List StartedTask → List ℕ → List ℕ
tasks_named started name = named_from 1 name started

-- the task of a number
abbrev pub task_numbered : List StartedTask → ℕ → Option StartedTask
task_numbered started task = if task == 0 then None else slice_get started (task - 1)

-- another task, with the next number
abbrev pub with_task : TasksNow → List ℕ → Option ℕ → TasksNow
with_task tasks name index = record tasks { started = tasks.started ++ record { name = name; index = index } ∷ [] }

-- ---- marks and places

abbrev pub nothing_written : StandingNow
nothing_written = record { mark = 0; places = [] }

abbrev pub standing_or : Option StandingNow → StandingNow
standing_or s = unwrap_or s nothing_written

abbrev pub standing_of : List StandingNow → ℕ → StandingNow
standing_of standings task = standing_or (slice_get standings (task - 1))

abbrev pub mark_of : List StandingNow → ℕ → ℕ
mark_of standings task = (standing_of standings task).mark

abbrev pub place_in : List StandingNow → ℕ → ℕ → ℕ
place_in standings task file = unwrap_or (slice_get (standing_of standings task).places file) 0

-- a list of at least this length: each missing element is this one
abbrev pub padded : {A : Type 0} → A → ℕ → List A → List A
padded missing many xs = xs ++ replicate (many - length xs) missing

-- a list with this number at a place; each missing one before it is 0
abbrev pub with_at : List ℕ → ℕ → ℕ → List ℕ
with_at places file place = slice_set (padded 0 (file + 1) places) file place

-- the standings, with this one for a task
abbrev pub with_standing : List StandingNow → ℕ → StandingNow → List StandingNow
with_standing standings task s = slice_set (padded nothing_written task standings) (task - 1) s

abbrev pub with_mark : List StandingNow → ℕ → ℕ → List StandingNow
with_mark standings task mark = with_standing standings task (record (standing_of standings task) { mark = mark })

abbrev pub with_place : List StandingNow → ℕ → ℕ → ℕ → List StandingNow
with_place standings task file place =
    let s = standing_of standings task in
    with_standing standings task (record s { places = with_at s.places file place })
