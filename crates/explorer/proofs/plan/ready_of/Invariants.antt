use Rattle.std.proofs.Common.{◌≡◌, take}
use Rattle.explorer.specs.Work.{ready_in}
use Rattle.explorer.proofs.plan.ready_of.Given as goal

abbrev pub invariant-loop-place : goal.invariant-loop-place
invariant-loop-place l = l.ready.items ≡ ready_in (take l.place l.rows) l.run
