use Rattle.machine.specs.Tree.{rank}
use Rattle.group_tree.specs.Tables.{number, nodes_of}
use Rattle.group_tree.specs.Places.{IsLiveAt}
use Rattle.group_tree.proofs.SpanLemmas.{AgreeUp}
use Rattle.group_tree.proofs.walk.widen.Given as goal

abbrev pub invariant-loop-at : goal.invariant-loop-at
invariant-loop-at l = record {
  live : IsLiveAt (nodes_of l.groups) (number l.at);
  counts : AgreeUp (nodes_of l.groups) l.spans (number l.at) l.fn.spans (number l.fn.from);
}

abbrev pub decreases-loop-at : goal.decreases-loop-at
decreases-loop-at l = rank (number l.at)
