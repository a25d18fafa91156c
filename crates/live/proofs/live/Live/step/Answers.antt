use Rattle.std.proofs.Common.{rules, ◌≡◌, ◌∷◌, ◌++◌, [], List, sym, ap, ◌∙◌, append-nil, false, subst}
use Rattle.machine.specs.declared.command.Reply.{Reply as Told_by}
use Rattle.turns.specs.Tickets.{holds}
use Rattle.live.specs.declared.history.Exchange.{Exchange}
use Rattle.live.specs.Hands.{HasStage}
use Rattle.live.proofs.RowLemmas.{linked, closed_none}
use Rattle.live.proofs.StageLemmas.{has-resumed, linked-has}
use Rattle.live.proofs.live.Live.step.Goals as goal

pub returns-then-is_err-clause-ends : goal.returns-then-is_err-clause-ends
returns-then-is_err-clause-ends g c =
    let none : holds c.args.stage ≡ false = search rules in
    closed_none _ _ _ _ _ _ _ _ c.ready.ensures.kept.0 c.ready.ensures.answers.0 (c.push_reserved.ensures.items ∙ ap (λ (x : Told_by). c.ready.new.answers.items ++ x ∷ []) c.out_of_memory.ensures) none

pub returns-in-Ok-Goes-clause-goes : goal.returns-in-Ok-Goes-clause-goes
returns-in-Ok-Goes-clause-goes g c =
    linked _ _ _ _ _ _ _ _ _ _ [] c.ready.ensures.kept.0 c.in-Ok-Goes.ensures.made (search rules) (c.ready.ensures.answers.0 ∙ sym (append-nil c.args.answers.now.items))

pub returns-in-Ok-Waits-clause-goes : goal.returns-in-Ok-Waits-clause-goes
returns-in-Ok-Waits-clause-goes g c =
    linked _ _ _ _ _ _ _ _ _ _ [] c.ready.ensures.kept.0 c.in-Ok-Waits.ensures.made (search rules) (c.ready.ensures.answers.0 ∙ sym (append-nil c.args.answers.now.items))

pub turn-requires-clause-hand : goal.turn-requires-clause-hand
turn-requires-clause-hand g c = subst (λ (l : List Exchange). HasStage l c.args.stage) (sym c.ready.ensures.kept.0) c.requires.hand

pub returns-in-Ok-Goes-clause-hand : goal.returns-in-Ok-Goes-clause-hand
returns-in-Ok-Goes-clause-hand g c = linked-has _ _ _ _ _ _ _ _ (returns-in-Ok-Goes-clause-goes g c) c.requires.hand

pub returns-in-Ok-Kills-clause-hand : goal.returns-in-Ok-Kills-clause-hand
returns-in-Ok-Kills-clause-hand g c = subst (HasStage c.turn.new.pass.exchanges) (sym c.resumes_at.ensures.at) (has-resumed c.turn.new.pass.exchanges c.in-Ok-Kills.resume)

pub returns-in-Ok-Waits-clause-hand : goal.returns-in-Ok-Waits-clause-hand
returns-in-Ok-Waits-clause-hand g c = subst (HasStage c.turn.new.pass.exchanges) (sym c.resumes_at-in-Ok-Waits.ensures.at) (has-resumed c.turn.new.pass.exchanges c.in-Ok-Waits.resume)
