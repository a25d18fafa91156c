use Rattle.std.proofs.Common.{◌≡◌, take}
use Rattle.scenario_lines.specs.LineLists.{attaches}
use Rattle.scenario_lines.proofs.lines.attaches.Given as goal

-- the tasks before this one
abbrev pub invariant-loop-task : goal.invariant-loop-task
invariant-loop-task l = l.bursts.items ≡ attaches l.path (take l.task-index l.tasks)
