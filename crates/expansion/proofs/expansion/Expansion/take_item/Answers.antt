use Rattle.std.proofs.Common.{◌≡◌, Some, ap, ◌∙◌}
use Rattle.expansion.specs.declared.expansion.Expansion.{Expansion}
use Rattle.expansion.proofs.StepLemmas.{told_item, untold_item}
use Rattle.expansion.proofs.expansion.Expansion.take_item.Goals as goal

pub returns-in_ok-tell-clause-taken : goal.returns-in_ok-tell-clause-taken
returns-in_ok-tell-clause-taken c = λ b o e i.
    rw c.if-comes.true (told_item c.args.self.now c.admit.new.self c.tell.new.self b c.saturating_add-self.result (c.in_ok-comes.ensures.leaves b o e i) c.saturating_add-self.ensures c.in_ok-tell.ensures.told)

pub returns-in_ok-tell-clause-rounds : goal.returns-in_ok-tell-clause-rounds
returns-in_ok-tell-clause-rounds c = λ b o e i comes. c.in_ok-tell.ensures.rounds ∙ ap (λ (x : Expansion). x.rounds.items) (c.in_ok-comes.ensures.leaves b o e i)

pub returns-in_ok-leave_line-clause-taken : goal.returns-in_ok-leave_line-clause-taken
returns-in_ok-leave_line-clause-taken c = λ b o e i.
    let admitted = c.in_ok-comes.ensures.leaves b o e i in
    let here : c.admit.new.self.current ≡ Some b = ap (λ (x : Expansion). x.current) admitted ∙ e in
    rw c.if-comes.false (untold_item c.args.self.now c.admit.new.self c.leave_line.new.self b c.saturating_add-self.result admitted c.saturating_add-self.ensures (c.in_ok-leave_line.ensures b here))
