use Rattle.std.proofs.Common.{◌≡◌, ◌++◌, length, take}
use denote.Shadow.{shadow}
use denote.Text.{Utf8}
use Rattle.scripts.specs.Words.{words_of}
use Rattle.scripts.proofs.words.add_words.Given as goal

abbrev pub invariant-loop-at : goal.invariant-loop-at
invariant-loop-at l = (take 8 (l.words.items ++ words_of l.rest) ≡ take 8 (l.fn.words.items ++ words_of l.line)) × shadow (Utf8 l.rest)

abbrev pub decreases-loop-at : goal.decreases-loop-at
decreases-loop-at l = length l.rest
