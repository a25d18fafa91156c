use Rattle.std.proofs.Common.{◌≡◌, ◌+◌, drop}
use Rattle.scenario_words.specs.Raw.{kinds_form}
use Rattle.scenario_words.proofs.raw.check_kinds.Given as goal

-- the words from this place on are as all have to be
abbrev pub invariant-loop-behind : goal.invariant-loop-behind
invariant-loop-behind l = kinds_form l.words (l.place + l.behind) (drop l.behind l.kinds) ≡ kinds_form l.words l.place l.kinds
