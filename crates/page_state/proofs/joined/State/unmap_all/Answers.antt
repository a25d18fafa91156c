use Rattle.std.proofs.Common.{◌≡◌, Some, None, sym, ◌∙◌, lt_of_not-le, arith}
use Rattle.page_state.proofs.DropLemmas.{unmaps-none, unmaps-more, unmaps-all}
use Rattle.page_state.proofs.joined.State.unmap_all.Goals as goal

pub loop-at-init : goal.loop-at-init
loop-at-init c = unmaps-none c.args.self.now c.args.task.0 c.is_joined.ensures.mapped c.is_joined.ensures.listed

pub loop-at-preserved : goal.loop-at-preserved
loop-at-preserved c = unmaps-more c.args.self.now c.loop-at.self c.unmap.new.self c.args.task.0 c.loop-at.at c.is_joined.ensures.generations c.loop-at.invariant c.unmap.ensures

pub returns : goal.returns
returns c =
    unmaps-all c.args.self.now c.loop-at.self c.args.task.0 c.loop-at.at c.loop-at.invariant
    (λ v p e. lt_of_not-le (λ le. let over = c.loop-at-test.false in let none = c.bound-at-end.ensures v (omega (arith, le, over)) in let wrong : None ≡ Some p = sym none ∙ e in cc))
