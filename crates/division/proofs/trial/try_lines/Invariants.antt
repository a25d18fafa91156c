use Rattle.std.proofs.Common.{◌≡◌, [], take}
use Rattle.division.specs.Trial.{Accepts}
use Rattle.division.proofs.trial.try_lines.Given as goal

abbrev pub invariant-loop-place : goal.invariant-loop-place
invariant-loop-place l = Accepts l.fn.run (take l.place l.setup) l.run × (l.said.items ≡ [])
