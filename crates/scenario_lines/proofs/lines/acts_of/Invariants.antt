use Rattle.std.proofs.Common.{◌≡◌, drop}
use Rattle.scenario_lines.specs.LineLists.{acts_from}
use Rattle.scenario_lines.proofs.LineLemmas.{onto_all}
use Rattle.scenario_lines.proofs.lines.acts_of.Given as goal

-- the lists so far, with those of the tasks from this one on, are all
abbrev pub invariant-loop-task : goal.invariant-loop-task
invariant-loop-task l = onto_all l.bursts.items (acts_from l.scene l.words (drop l.task-index l.tasks)) ≡ acts_from l.fn.scene l.words l.tasks
