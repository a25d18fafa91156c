use Rattle.std.proofs.Common.{Some, length}
use Rattle.std.specs.Option.{option_map}
use Rattle.machine.specs.Tree.{IsBelow, rank}
use Rattle.memory_events.proofs.WalkLemmas.{IsCountedTo}
use Rattle.memory_events.proofs.events.count_up.Given as goal

-- the walk is at a group that there is, and each group below it on the way was counted
abbrev pub invariant-loop-at : goal.invariant-loop-at
invariant-loop-at l = record {
  live : IsBelow (option_map (λ g. g.0) l.at) (length l.lineage.tree);
  counted : IsCountedTo l.lineage.tree l.key l.totals l.fn.totals (Some l.fn.group.0) (option_map (λ g. g.0) l.at);
}

abbrev pub decreases-loop-at : goal.decreases-loop-at
decreases-loop-at l = rank (option_map (λ g. g.0) l.at)
