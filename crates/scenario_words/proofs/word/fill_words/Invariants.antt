use Rattle.std.proofs.Common.{◌≡◌, drop}
use Rattle.scenario_words.specs.Words.{filled_words}
use Rattle.scenario_words.proofs.FillLemmas.{onto_filled}
use Rattle.scenario_words.proofs.word.fill_words.Given as goal

-- the words before this one, with those from it on, are all words
abbrev pub invariant-loop-word : goal.invariant-loop-word
invariant-loop-word l = onto_filled l.all.items (filled_words l.line (drop l.word-index l.words) l.values) ≡ filled_words l.line l.words l.values
