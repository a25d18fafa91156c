use Rattle.std.proofs.Common.{◌≡◌, drop}
use Rattle.scenarios.specs.Holes.{value_of}
use Rattle.scenarios.proofs.holes.value_of.Given as goal

abbrev pub invariant-loop-value : goal.invariant-loop-value
invariant-loop-value l = value_of (drop l.value-index l.values) l.name ≡ value_of l.values l.name
