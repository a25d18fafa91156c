use Rattle.std.proofs.Common.{◌≡◌, ◌∙◌, true, sym, subst}
use Rattle.machine.specs.Tree.{is_live, under}
use Rattle.page_state.specs.States.{StateOf}
use Rattle.page_state.proofs.NextLemmas.{effective-charged}
use Rattle.page_state.proofs.joined.State.protection.Goals as goal

pub returns : goal.returns
returns c =
    let s = c.self.inside in
    let live = subst (λ (s : StateOf). is_live s.tables.tree c.args.group.0 ≡ true) (sym c.self.view_is) c.requires.live in
    let below = subst (λ (s : StateOf). under s.tables.tree c.args.target.0 c.args.group.0 ≡ true) (sym c.self.view_is) c.requires.under in
    let recursive = subst (λ (s : StateOf). c.is_recursive-recursive.result ≡ s.tables.opening.recursive) (sym c.self.view_is) c.is_recursive-recursive.ensures in
    let told = rw recursive at c.effective.ensures in
    rw (← c.self.view_is) (told ∙ effective-charged s c.self.invariant c.groups_form_a_tree.ensures.earlier_parents c.args.target.0 c.args.guard c.args.group.0 live c.requires.below below)
