use Rattle.std.proofs.Common.{◌≡◌, IsUtf8, chars}
use Rattle.std.specs.Str.Iter.{chars_rest}
use Rattle.scenario_words.specs.BracketReading.{reading, read_on}
use Rattle.scenario_words.specs.TaskNames.{name_parts}
use Rattle.scenario_words.proofs.task_names.brackets_of.Given as goal

abbrev pub invariant-loop-character : goal.invariant-loop-character
invariant-loop-character l =
    IsUtf8 (chars_rest l.character-iterator)
    × (read_on (reading l.brackets) (chars (chars_rest l.character-iterator)) ≡ name_parts l.word)
