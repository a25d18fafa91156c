use Rattle.std.proofs.Common.{◌≡◌, ◌∙◌, Some, None, List, Option, sym, ap, subst}
use Rattle.std.specs.Prelude.{option_map}
use Rattle.machine.specs.declared.id.GroupId.{GroupId}
use Rattle.machine.specs.Tree.{Node, node_at, has_children, without_group}
use Rattle.machine.specs.Refusals.{rmdir_refusal}
use Rattle.page_state.specs.States.{StateOf}
use Rattle.page_state.specs.Joined.{joined_of}
use Rattle.page_state.proofs.RemovalLemmas.{usage-left, agree-removed}
use Rattle.page_state.proofs.GoneLemmas.{may-go, has-parent, kin-childless, joined-gone, removes-group}
use Rattle.page_state.proofs.joined.State.rmdir.Goals as goal

pub unreachable-requires : goal.unreachable-requires
unreachable-requires c =
    let s = c.self.inside in
    let g = c.args.group.0 in
    let may = may-go (joined_of s).tables g (subst (λ (x : StateOf). rmdir_refusal x.tables g ≡ None) (sym c.self.view_is) c.requires) in
    let none : (node_at s.tree g).parent ≡ None = sym c.parent.ensures.parent ∙ ap (λ (o : Option GroupId). option_map (λ (x : GroupId). x.0) o) c.in_default.is in
    has-parent s.parts.counters.tree g c.are_counted.ensures.lineage (c.self.invariant.held_kin.living g ∙ may.live) may.below (c.self.invariant.held_kin.parents g ∙ none)

pub remove-requires-clause-childless : goal.remove-requires-clause-childless
remove-requires-clause-childless c =
    let s = c.self.inside in
    let g = c.args.group.0 in
    let may = may-go (joined_of s).tables g (subst (λ (x : StateOf). rmdir_refusal x.tables g ≡ None) (sym c.self.view_is) c.requires) in
    ap (λ (t : List Node). has_children t g) c.reparent.ensures.groups.tree ∙ kin-childless s.parts.counters.tree s.tree g c.self.invariant.held_kin may.childless

pub remove-requires-clause-uncharged : goal.remove-requires-clause-uncharged
remove-requires-clause-uncharged c =
    let s = c.self.inside in
    let g = c.args.group.0 in
    let may = may-go (joined_of s).tables g (subst (λ (x : StateOf). rmdir_refusal x.tables g ≡ None) (sym c.self.view_is) c.requires) in
    let live = c.self.invariant.held_kin.living g ∙ may.live in
    let childless = kin-childless s.parts.counters.tree s.tree g c.self.invariant.held_kin may.childless in
    let parent : (node_at s.tree g).parent ≡ Some c.in-Some.parent.0 = sym c.parent.ensures.parent ∙ ap (λ (o : Option GroupId). option_map (λ (x : GroupId). x.0) o) c.in-Some.is in
    let below = c.self.invariant.held_kin.parents g ∙ parent in
    let up = c.reparent.ensures in
    usage-left s.config.placement s.parts c.self.invariant.agree g c.in-Some.parent.0 c.reparent.new.counters c.reparent.new.counters c.reparent.new.pages c.take_over.new.self up.pages up.others up.groups up.counted c.are_counted.ensures.lineage below live childless c.take_over.ensures

pub remove-requires-2-clause-childless : goal.remove-requires-2-clause-childless
remove-requires-2-clause-childless c =
    let s = c.self.inside in
    let g = c.args.group.0 in
    let may = may-go (joined_of s).tables g (subst (λ (x : StateOf). rmdir_refusal x.tables g ≡ None) (sym c.self.view_is) c.requires) in
    kin-childless s.events.tree s.tree g c.self.invariant.counted_kin may.childless

pub invariant_of-self : goal.invariant_of-self
invariant_of-self c =
    let s = c.self.inside in
    let g = c.args.group.0 in
    let may = may-go (joined_of s).tables g (subst (λ (x : StateOf). rmdir_refusal x.tables g ≡ None) (sym c.self.view_is) c.requires) in
    let live = c.self.invariant.held_kin.living g ∙ may.live in
    let childless = kin-childless s.parts.counters.tree s.tree g c.self.invariant.held_kin may.childless in
    let parent : (node_at s.tree g).parent ≡ Some c.in-Some.parent.0 = sym c.parent.ensures.parent ∙ ap (λ (o : Option GroupId). option_map (λ (x : GroupId). x.0) o) c.in-Some.is in
    let below = c.self.invariant.held_kin.parents g ∙ parent in
    let up = c.reparent.ensures in
    let agree = agree-removed s.config.placement s.parts c.self.invariant.agree g c.in-Some.parent.0 c.reparent.new.counters c.remove.new.self c.reparent.new.pages c.take_over.new.self up.pages up.others up.groups up.counted c.are_counted.ensures.lineage below live childless c.take_over.ensures c.remove.ensures.tree c.remove.ensures.usage in
    joined-gone s c.self.invariant g c.in-Some.parent.0 may c.reparent.new.pages c.remove.new.self c.take_over.new.self agree up.pages up.others (c.remove.ensures.tree ∙ ap (λ (t : List Node). without_group t g) up.groups.tree) c.remove-3.new.self c.remove-3.ensures.cursors c.remove-2.new.self c.remove-2.ensures.tree c.rmdir.new.self c.rmdir.ensures

pub returns : goal.returns
returns c =
    let s = c.self.inside in
    let g = c.args.group.0 in
    let may = may-go (joined_of s).tables g (subst (λ (x : StateOf). rmdir_refusal x.tables g ≡ None) (sym c.self.view_is) c.requires) in
    let live = c.self.invariant.held_kin.living g ∙ may.live in
    let childless = kin-childless s.parts.counters.tree s.tree g c.self.invariant.held_kin may.childless in
    let parent : (node_at s.tree g).parent ≡ Some c.in-Some.parent.0 = sym c.parent.ensures.parent ∙ ap (λ (o : Option GroupId). option_map (λ (x : GroupId). x.0) o) c.in-Some.is in
    let below = c.self.invariant.held_kin.parents g ∙ parent in
    let up = c.reparent.ensures in
    let agree = agree-removed s.config.placement s.parts c.self.invariant.agree g c.in-Some.parent.0 c.reparent.new.counters c.remove.new.self c.reparent.new.pages c.take_over.new.self up.pages up.others up.groups up.counted c.are_counted.ensures.lineage below live childless c.take_over.ensures c.remove.ensures.tree c.remove.ensures.usage in
    rw (← c.self.view_is)
    (removes-group s c.self.invariant g c.in-Some.parent.0 may c.reparent.new.pages c.remove.new.self c.take_over.new.self agree up.pages up.others (c.remove.ensures.tree ∙ ap (λ (t : List Node). without_group t g) up.groups.tree) c.remove-3.new.self c.remove-3.ensures.cursors c.remove-2.new.self c.remove-2.ensures.tree c.rmdir.new.self c.rmdir.ensures
    parent (c.remove.ensures.limits ∙ up.groups.limits) up.bytes c.take_over.ensures c.remove-2.ensures.counted)
