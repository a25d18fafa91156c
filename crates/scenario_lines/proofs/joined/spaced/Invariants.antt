use Rattle.std.proofs.Common.{◌≡◌, ◌++◌, drop}
use Rattle.std.specs.String.{string_bytes}
use Rattle.scenario_lines.specs.Joined.{after_spaces, spaced}
use Rattle.scenario_lines.proofs.joined.spaced.Given as goal

-- the text so far, with the words from this one on after spaces, is that of all
abbrev pub invariant-loop-word : goal.invariant-loop-word
invariant-loop-word l = string_bytes l.text ++ after_spaces l.quotes (drop l.word-index l.rest) ≡ spaced l.quotes l.words
