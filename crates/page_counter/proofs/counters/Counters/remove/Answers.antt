use Rattle.std.proofs.Common.{refl}
use Rattle.page_counter.proofs.GroupLemmas.{AreCounts-remove, IsCounted-remove}
use Rattle.page_counter.proofs.GroupSums.{AreKept-remove}
use Rattle.page_counter.proofs.counters.Counters.remove.Goals as goal

pub invariant_of-self : goal.invariant_of-self
invariant_of-self c =
    let uncharged = rw (← c.self.view_is) at c.requires.uncharged in
    record {
      tables = IsCounted-remove _ c.args.group.0 c.is_lineage.ensures (rw (← c.self.view_is) at c.requires.live) uncharged _ c.remove.ensures.tree refl refl c.self.invariant.tables;
      sums = λ guard. rw c.remove.ensures.tree (AreKept-remove _ _ _ _ c.args.group.0 uncharged (c.self.invariant.sums guard));
    }

pub returns-clause-counted : goal.returns-clause-counted
returns-clause-counted c =
    rw (← c.self.view_is)
    (λ charges counted.
    AreCounts-remove _ c.args.group.0 c.is_lineage.ensures (rw (← c.self.view_is) at c.requires.live) (rw (← c.self.view_is) at c.requires.uncharged) _ charges c.remove.ensures.tree refl counted)
