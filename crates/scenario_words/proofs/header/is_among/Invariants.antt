use Rattle.std.proofs.Common.{◌≡◌, drop}
use Rattle.std.specs.List.{list_any}
use Rattle.scenario_words.specs.Header.{begins}
use Rattle.scenario_words.proofs.header.is_among.Given as goal

-- one of the lines from this one on begins so, if one of all does
abbrev pub invariant-loop-line : goal.invariant-loop-line
invariant-loop-line l = list_any (begins l.text) (drop l.line-index l.lines) ≡ list_any (begins l.text) l.lines
