use Rattle.std.proofs.Common.{◌≡◌, []}
use Rattle.orders.specs.Course.{taken}
use Rattle.orders.specs.Runs.{turns}
use Rattle.walks.specs.Walks.{MadeSoFar}
use Rattle.walks.proofs.walk_all.Given as goal

abbrev pub invariant-loop-walked : goal.invariant-loop-walked
invariant-loop-walked g l = record {
  begins : taken l.orders ≡ [];
  anew : turns l.orders ≡ [];
  made : MadeSoFar g.M.Machine.gathered l.machine l.depth l.walked l.orders;
  stays : g.M.Machine.stays l.fn.machine l.machine;
}
