use Rattle.std.proofs.Common.{ap, ◌∙◌, sym}
use Rattle.machine.specs.Tree.{under_at}
use Rattle.group_tree.specs.Tables.{number}
use Rattle.group_tree.proofs.WalkLemmas.{under_here, under_nothing, under_parent}
use Rattle.group_tree.proofs.tree.Tree.is_under.Goals as goal

pub returns-then-eq : goal.returns-then-eq
returns-then-eq c =
    sym (under_here c.args.self.now c.args.above.0 c.in-Some.here.0 (sym c.eq.ensures ∙ c.if-eq.true))
    ∙ ap (λ at. under_at c.args.self.now c.args.above.0 (number at)) (sym c.in-Some.is) ∙ c.loop-at.invariant

pub loop-at-preserved : goal.loop-at-preserved
loop-at-preserved c =
    ap (under_at c.args.self.now c.args.above.0) c.parent-at.ensures.parent
    ∙ sym (under_parent c.args.self.now c.parent-at.ensures.tree.earlier_parents c.args.above.0 c.in-Some.here.0 (sym c.eq.ensures ∙ c.if-eq.false))
    ∙ ap (λ at. under_at c.args.self.now c.args.above.0 (number at)) (sym c.in-Some.is) ∙ c.loop-at.invariant

pub returns : goal.returns
returns c =
    sym (under_nothing c.args.self.now c.args.above.0)
    ∙ ap (λ at. under_at c.args.self.now c.args.above.0 (number at)) (sym c.in_default.is) ∙ c.loop-at.invariant
