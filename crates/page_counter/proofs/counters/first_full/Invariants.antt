use Rattle.std.proofs.Common.{◌≡◌, length, Some, slice_index}
use Rattle.machine.specs.Counts.{over_at}
use Rattle.machine.specs.Tree.{IsBelow, rank}
use Rattle.group_tree.specs.Tables.{number}
use Rattle.page_counter.proofs.counters.first_full.Given as goal

abbrev pub invariant-loop-at : goal.invariant-loop-at
invariant-loop-at l = record {
  there : IsBelow (number l.at) (length l.lineage.tree);
  over : over_at l.lineage.tree l.limits (λ a. slice_index l.usage a) (number l.at) ≡ over_at l.lineage.tree l.limits (λ a. slice_index l.usage a) (Some l.fn.group.0);
}

abbrev pub decreases-loop-at : goal.decreases-loop-at
decreases-loop-at l = rank (number l.at)
