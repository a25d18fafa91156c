use Rattle.memory_events.proofs.CountLemmas.{sums-remove}
use Rattle.memory_events.proofs.events.Events.remove.Goals as goal

pub invariant_of-self : goal.invariant_of-self
invariant_of-self c =
    let requires = rw (← c.self.view_is) at c.requires in
    sums-remove c.self.inside.lineage.tree c.args.group.0 requires.live _ _ _ c.remove.ensures.tree c.self.invariant
