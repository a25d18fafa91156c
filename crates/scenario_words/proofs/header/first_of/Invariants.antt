use Rattle.std.proofs.Common.{◌≡◌, drop}
use Rattle.scenario_words.specs.Header.{first_of}
use Rattle.scenario_words.proofs.header.first_of.Given as goal

-- it is none of the lines before this one
abbrev pub invariant-loop-line : goal.invariant-loop-line
invariant-loop-line l = first_of (drop l.line-index l.lines) l.text ≡ first_of l.lines l.text
