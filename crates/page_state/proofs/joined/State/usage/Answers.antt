use Rattle.std.proofs.Common.{◌≡◌, ◌∙◌, true, sym, subst}
use Rattle.machine.specs.Tree.{is_live}
use Rattle.group_tree.proofs.LineageLemmas.{live-within}
use Rattle.page_state.specs.States.{StateOf}
use Rattle.page_state.proofs.KinLemmas.{kin-charged}
use Rattle.page_state.proofs.joined.State.usage.Goals as goal

pub usage-requires : goal.usage-requires
usage-requires c = record { live = c.self.invariant.held_kin.living c.args.group.0 ∙ subst (λ (s : StateOf). is_live s.tables.tree c.args.group.0 ≡ true) (sym c.self.view_is) c.requires }

pub returns : goal.returns
returns c =
    let s = c.self.inside in
    let kin = c.self.invariant.held_kin in
    let live = kin.living c.args.group.0 ∙ subst (λ (s : StateOf). is_live s.tables.tree c.args.group.0 ≡ true) (sym c.self.view_is) c.requires in
    rw (← c.self.view_is)
    (c.usage.ensures ∙ c.self.invariant.agree.kept.counted.counts c.args.group.0 (live-within s.parts.counters.tree c.args.group.0 live) ∙ kin-charged s.parts.counters.tree s.tree kin s.parts.pages.pages c.args.group.0)
