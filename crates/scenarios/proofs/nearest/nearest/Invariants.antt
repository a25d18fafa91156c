use Rattle.scenarios.specs.Nearest.{texts, IsBestOf}
use Rattle.scenarios.proofs.nearest.nearest.Given as goal

abbrev pub invariant-loop-place : goal.invariant-loop-place
invariant-loop-place l = IsBestOf l.word (texts l.known) l.place l.best
