use Rattle.std.proofs.Common.{◌∙◌}
use Rattle.page_state.proofs.EventLemmas.{shown-totals}
use Rattle.page_state.proofs.joined.State.events.Goals as goal

pub returns : goal.returns
returns c =
    let s = c.self.inside in
    rw (← c.self.view_is) (c.totals.ensures ∙ shown-totals s.events.tree s.tree c.self.invariant.counted_kin s.events.counted c.args.group.0)
