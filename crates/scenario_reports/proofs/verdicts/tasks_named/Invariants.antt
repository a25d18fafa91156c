use Rattle.std.proofs.Common.{◌≡◌, take}
use Rattle.scenario_reports.specs.Verdicts.{named_tasks}
use Rattle.scenario_reports.proofs.verdicts.tasks_named.Given as goal

-- the tasks of the words so far
abbrev pub invariant-loop-word : goal.invariant-loop-word
invariant-loop-word l = l.tasks.items ≡ named_tasks l.scene (take l.word-index l.word-items)
