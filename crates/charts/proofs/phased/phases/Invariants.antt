use Rattle.std.proofs.Common.{◌≡◌, ℕ, ◌++◌, List, map, length}
use denote.Ref.{Bor}
use Rattle.std.specs.Str.Lines.{lines}
use Rattle.charts.specs.Phased.{phases_from, phases_in}
use Rattle.charts.proofs.phased.phases.Given as goal

abbrev pub invariant-loop-phase : goal.invariant-loop-phase
invariant-loop-phase l = phases_in l.fn.script ≡ map (λ (p : Bor (List ℕ)). p.now) l.phases.items ++ phases_from l.phase (lines l.rest)

abbrev pub decreases-loop-phase : goal.decreases-loop-phase
decreases-loop-phase l = length l.rest
