use Rattle.std.proofs.Common.{◌≡◌, take, filter}
use Rattle.scenario_reports.specs.Tasks.{is_gone}
use Rattle.scenario_reports.proofs.verdicts.gone_among.Given as goal

-- those of the tasks so far that are gone
abbrev pub invariant-loop-task : goal.invariant-loop-task
invariant-loop-task l = l.gone.items ≡ filter (is_gone l.tasks.started) (take l.task-index l.wanted)
