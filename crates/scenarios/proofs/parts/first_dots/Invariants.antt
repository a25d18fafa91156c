use Rattle.std.proofs.Common.{◌≡◌, drop}
use Rattle.scenarios.specs.Parts.{dots_from}
use Rattle.scenarios.proofs.parts.first_dots.Given as goal

abbrev pub invariant-loop-place : goal.invariant-loop-place
invariant-loop-place l = dots_from l.place (drop l.place l.bytes) ≡ dots_from 0 l.bytes
