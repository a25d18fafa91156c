use Rattle.std.proofs.Common.{◌∙◌}
use Rattle.machine.specs.Counts.{count_of_key, total}
use Rattle.group_tree.proofs.LineageLemmas.{live-within}
use Rattle.memory_events.proofs.CountLemmas.{local-read, within-counts, counts_by-same}
use Rattle.memory_events.proofs.events.Events.totals.Goals as goal

pub returns : goal.returns
returns c =
    let inside = c.self.inside in
    let requires = rw (← c.self.view_is) at c.requires in
    rw (← c.self.view_is)
    (counts_by-same (count_of_key c.index.result.now) (total inside.lineage.tree inside.locals.items c.args.group.0)
    (λ k.
    local-read inside.totals.items c.args.group.0 c.index.result.now k (within-counts inside.lineage.tree inside.totals.items c.args.group.0 requires c.self.invariant.all_totals) c.index.ensures
    ∙ c.self.invariant.sums c.args.group.0 k (live-within inside.lineage.tree c.args.group.0 requires)))
