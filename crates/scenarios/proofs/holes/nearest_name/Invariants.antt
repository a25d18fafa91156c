use Rattle.std.proofs.Common.{◌≡◌, take}
use Rattle.scenarios.specs.Holes.{names_of}
use Rattle.scenarios.specs.Nearest.{texts}
use Rattle.scenarios.proofs.holes.nearest_name.Given as goal

abbrev pub invariant-loop-value : goal.invariant-loop-value
invariant-loop-value l = texts l.names.items ≡ names_of (take l.value-index l.values)
