use Rattle.std.proofs.Common.{◌≡◌, ◌++◌, IsUtf8, chars}
use Rattle.std.specs.Str.Iter.{chars_rest}
use Rattle.std.specs.String.{string_bytes}
use Rattle.scenario_words.specs.Words.{unquoted, without_quotes}
use Rattle.scenario_words.proofs.word.without_quotes.Given as goal

abbrev pub invariant-loop-character : goal.invariant-loop-character
invariant-loop-character l =
    IsUtf8 (chars_rest l.character-iterator)
    × (string_bytes l.text ++ unquoted (chars (chars_rest l.character-iterator)) ≡ without_quotes l.source)
