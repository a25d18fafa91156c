use Rattle.group_tree.proofs.LineageLemmas.{live-within}
use Rattle.page_counter.specs.Tables.{counts_of}
use Rattle.page_counter.proofs.ChildLemmas.{children_usage-le}
use Rattle.page_counter.proofs.counters.Counters.are_counted.Goals as goal

pub returns-clause-within : goal.returns-clause-within
returns-clause-within c =
    rw (← c.self.view_is)
    (λ p live. children_usage-le (counts_of c.self.inside) c.self.invariant.tables.charges c.is_lineage.ensures.earlier_parents c.self.invariant.tables.counted p (live-within c.self.inside.lineage.tree p live))
