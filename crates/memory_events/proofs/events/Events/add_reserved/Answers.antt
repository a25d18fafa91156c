use Rattle.memory_events.proofs.CountLemmas.{pushed_none, sums-push}
use Rattle.memory_events.proofs.events.Events.add_reserved.Goals as goal

pub invariant_of-self : goal.invariant_of-self
invariant_of-self c =
    let inside = c.self.inside in
    sums-push inside.lineage.tree inside.totals.items inside.locals.items c.args.parent.0 c.is_lineage.ensures.earlier_parents c.self.invariant _ _ _ c.add.ensures.tree
    (pushed_none _ _ _ c.default.ensures c.push_reserved.ensures.items) (pushed_none _ _ _ c.default-2.ensures c.push_reserved-2.ensures.items)
