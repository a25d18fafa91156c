use Rattle.std.proofs.Common.{◌≡◌, ◌+◌, ◌≤◌, length, IsUtf8, chars}
use Rattle.std.specs.Str.Iter.{chars_rest}
use Rattle.scenarios.specs.Reading.{line_read, rest_read, at_start}
use Rattle.scenarios.proofs.words.words_of.Given as goal

abbrev pub invariant-loop-character : goal.invariant-loop-character
invariant-loop-character l =
    IsUtf8 (chars_rest l.character-iterator)
    × ((line_read l.reader).before + length (chars_rest l.character-iterator) ≤ length l.fn.line)
    × (rest_read (line_read l.reader) (chars (chars_rest l.character-iterator)) ≡ rest_read at_start (chars l.fn.line))
