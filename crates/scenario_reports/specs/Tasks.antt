-- The tasks of a run, by what their lines were answered.
use Rattle.std.specs.Prelude.{ℕ, Bool, false, ◌||◌, ◌==◌, List, unwrap_or}
use Rattle.std.specs.Map.{lookup}
use Rattle.scenario_reports.specs.declared.tasks.Known.{Known}

-- the tasks that were killed, in the order of their deaths; and all that were started, each with whether it is gone: it was killed or has a line `exit`
pub record TasksNow : Type 0 where
  pub dead : List ℕ
  pub started : List (ℕ × Bool)

abbrev pub started_task : ℕ × Known → ℕ × Bool
started_task e = (e.0, e.1.killed || e.1.exits)

-- the task is gone. (Excludes one that was never started, and another task's end.)
abbrev pub is_gone : List (ℕ × Bool) → ℕ → Bool
is_gone started task = unwrap_or (lookup (λ other. task == other) started) false
