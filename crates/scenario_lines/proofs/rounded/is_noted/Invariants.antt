use Rattle.std.proofs.Common.{◌≡◌, drop}
use Rattle.std.specs.List.{list_any}
use Rattle.scenario_lines.specs.Rounding.{is_of}
use Rattle.scenario_lines.proofs.rounded.is_noted.Given as goal

-- one of the sizes from this one on is of the word, if one of all is
abbrev pub invariant-loop-one : goal.invariant-loop-one
invariant-loop-one l = list_any (is_of l.word l.purpose) (drop l.one-index l.rounded) ≡ list_any (is_of l.word l.purpose) l.rounded
