use Rattle.std.proofs.Common.{ap, ◌∙◌, sym}
use Rattle.scripts.specs.Work.{number_of}
use Rattle.division.proofs.RowLemmas.{stays, inserted, pushed, found_in}
use Rattle.division.proofs.rows.add_actor.Goals as goal

pub returns-in_ok-insert-in-Some : goal.returns-in_ok-insert-in-Some
returns-in_ok-insert-in-Some c =
    c.in_ok-insert-in-Some.ensures.items
    ∙ inserted c.args.actors.now.items c.args.actor c.in-Some.place (found_in _ _ _ _ _ c.in-Some.ensures c.number_of-number.ensures c.deref.ensures.value) c.index.result.now
    (λ e. c.if-number_of-number.true (c.number_of.ensures ∙ (ap number_of c.index.ensures ∙ e) ∙ sym c.number_of-number.ensures))

pub returns-else-number_of-number : goal.returns-else-number_of-number
returns-else-number_of-number c =
    stays c.args.actors.now.items c.args.actor c.in-Some.place (found_in _ _ _ _ _ c.in-Some.ensures c.number_of-number.ensures c.deref.ensures.value) c.index.result.now
    (sym (ap number_of c.index.ensures) ∙ sym c.number_of.ensures ∙ c.if-number_of-number.false ∙ c.number_of-number.ensures)

pub returns-in_ok-push-in-None : goal.returns-in_ok-push-in-None
returns-in_ok-push-in-None c = c.in_ok-push-in-None.ensures.items ∙ pushed c.args.actors.now.items c.args.actor (found_in _ _ _ _ _ c.in-None.ensures c.number_of-number.ensures c.deref.ensures.value)
