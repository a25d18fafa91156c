use Rattle.walks.specs.Walks.{Draws}
use Rattle.walks.proofs.sample.walk_some.Given as goal

abbrev pub invariant-loop-drawn : goal.invariant-loop-drawn
invariant-loop-drawn g l = record {
  draws : Draws g.M.Machine.gathered l.machine l.depth l._drawn;
  stays : g.M.Machine.stays l.fn.machine l.machine;
}
