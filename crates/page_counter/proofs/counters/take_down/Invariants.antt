use Rattle.std.proofs.Common.{◌≡◌, ◌+◌, ◌<◌, ℕ, length, Some, slice_index}
use Rattle.machine.specs.Tree.{share, IsAbove, IsBelow, rank}
use Rattle.group_tree.specs.Tables.{number}
use Rattle.page_counter.specs.GuardSums.{GoOnKept}
use Rattle.page_counter.proofs.WalkLemmas.{IsLiveAt}
use Rattle.page_counter.proofs.counters.take_down.Given as goal

abbrev pub invariant-loop-at : goal.invariant-loop-at
invariant-loop-at l = record {
  there : IsBelow (number l.at) (length l.lineage.tree);
  live : IsLiveAt l.lineage.tree (number l.at);
  above : IsAbove l.lineage.tree (number l.until) (number l.at);
  counts : (a : ℕ) → a < length l.lineage.tree → slice_index l.usage a + share l.lineage.tree a (Some l.fn.group.0) ≡ slice_index l.fn.usage a + share l.lineage.tree a (number l.at);
  kept : GoOnKept l.lineage.tree l.limits l.usage l.fn.sums l.sums;
}

abbrev pub decreases-loop-at : goal.decreases-loop-at
decreases-loop-at l = rank (number l.at)
