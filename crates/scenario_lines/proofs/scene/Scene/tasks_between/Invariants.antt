use Rattle.std.proofs.Common.{◌≡◌, ◌+◌, ◌-◌}
use Rattle.scenario_lines.specs.Scene.{tasks_from}
use Rattle.scenario_lines.proofs.SceneLemmas.{onto_tasks}
use Rattle.scenario_lines.proofs.scene.Scene.tasks_between.Given as goal

-- the tasks so far, with those from this number on, are all
abbrev pub invariant-loop-number : goal.invariant-loop-number
invariant-loop-number l =
    onto_tasks l.tasks.items (tasks_from l.self.tasks.started l.word l.name l.number (l.last + 1 - l.number)) ≡ tasks_from l.self.tasks.started l.word l.name l.first (l.last + 1 - l.first)
