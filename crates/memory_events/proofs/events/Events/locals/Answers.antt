use Rattle.machine.specs.Counts.{count_of_key, local}
use Rattle.memory_events.proofs.CountLemmas.{local-read, within-counts, counts_by-same}
use Rattle.memory_events.proofs.events.Events.locals.Goals as goal

pub returns : goal.returns
returns c =
    let inside = c.self.inside in
    let requires = rw (← c.self.view_is) at c.requires in
    rw (← c.self.view_is)
    (counts_by-same (count_of_key c.index.result.now) (local inside.locals.items c.args.group.0)
    (λ k. local-read inside.locals.items c.args.group.0 c.index.result.now k (within-counts inside.lineage.tree inside.locals.items c.args.group.0 requires c.self.invariant.all_locals) c.index.ensures))
