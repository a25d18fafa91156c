use Rattle.std.proofs.Common.{◌≡◌, ◌++◌, IsUtf8}
use Rattle.std.specs.Str.Iter.{chars_rest}
use Rattle.std.specs.String.{string_bytes}
use Rattle.scenario_reports.proofs.NoteLemmas.{ended}
use Rattle.scenario_reports.proofs.notes.words_of.Given as goal

abbrev pub invariant-loop-character : goal.invariant-loop-character
invariant-loop-character l =
    IsUtf8 (chars_rest l.character-iterator)
    × (ended l.words.items ++ (string_bytes l.reading.source ++ chars_rest l.character-iterator) ≡ l.line)
