use Rattle.std.proofs.Common.{◌≡◌, drop}
use Rattle.scenario_lines.specs.Notes.{groups_form}
use Rattle.scenario_lines.proofs.notes.check_groups.Given as goal

-- the words from this one on are groups, if all are
abbrev pub invariant-loop-word : goal.invariant-loop-word
invariant-loop-word l = groups_form l.scene (drop l.word-index l.words) ≡ groups_form l.scene l.words
