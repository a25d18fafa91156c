use Rattle.std.proofs.Common.{◌≡◌, ◌+◌, ◌++◌, drop, map}
use Rattle.scenario_lines.specs.Tasks.{started_task, named_from, tasks_named}
use Rattle.scenario_lines.proofs.tasks.all_named.Given as goal

-- the numbers so far, with those from this task on, are all
abbrev pub invariant-loop-place : goal.invariant-loop-place
invariant-loop-place l = l.tasks.items ++ named_from (l.place + 1) l.name (map started_task (drop l.place l.started)) ≡ tasks_named (map started_task l.started) l.name
