use Rattle.std.proofs.Common.{◌≡◌, take}
use Rattle.std.specs.List.{flat_map}
use Rattle.division.specs.Sorting.{steps_asked}
use Rattle.division.proofs.script.steps_of.Given as goal

abbrev pub invariant-loop-line : goal.invariant-loop-line
invariant-loop-line l = l.steps.items ≡ flat_map steps_asked (take l.line-index l.said)
