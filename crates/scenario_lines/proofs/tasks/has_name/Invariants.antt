use Rattle.std.proofs.Common.{◌≡◌, drop, map}
use Rattle.std.specs.List.{list_any}
use Rattle.scenario_lines.specs.Tasks.{started_task, has_name}
use Rattle.scenario_lines.proofs.tasks.has_name.Given as goal

-- one of the tasks from this one on has the name, if one of all has it
abbrev pub invariant-loop-task : goal.invariant-loop-task
invariant-loop-task l = list_any (has_name l.name) (map started_task (drop l.task-index l.started)) ≡ list_any (has_name l.name) (map started_task l.started)
