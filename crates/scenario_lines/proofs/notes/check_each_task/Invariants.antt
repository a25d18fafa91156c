use Rattle.std.proofs.Common.{◌≡◌, drop}
use Rattle.scenario_lines.specs.Notes.{each_task}
use Rattle.scenario_lines.proofs.notes.check_each_task.Given as goal

-- the words from this one on are tasks, if all are
abbrev pub invariant-loop-word : goal.invariant-loop-word
invariant-loop-word l = each_task l.scene (drop l.word-index l.words) ≡ each_task l.scene l.words
