use Rattle.std.proofs.Common.{refl, arith}
use Rattle.machine.specs.declared.command.Answer.TheVariants.{Word}
use Rattle.machine.specs.declared.command.Word.TheVariants.{Idle}
use Rattle.driver.specs.declared.seat.Outcome.TheVariants.{Ends}
use Rattle.turns.specs.Turns.{answer_by}
use Rattle.driver.specs.Desks.{world}
use Rattle.driver.proofs.SinkLemmas.{on_err, cut_behind, idle_turn}
use Rattle.driver.proofs.desk.Desk.advance_nothing.Goals as goal

pub returns-in_err-answer-clause-cut : goal.returns-in_err-answer-clause-cut
returns-in_err-answer-clause-cut g c =
    on_err c.from_residual.result (λ disk.
    cut_behind g.S.Sink.took g.S.Sink.failed c.args.sink.now c.args.sink.now c.answer.new.sink (g.met.S.Sink.nothing _) (world c.args.self.now disk) _ _ (world c.args.self.now disk) (omega arith) c.in_err-answer.ensures.failed
    (Ends (Word Idle), idle_turn (world c.args.self.now disk) c.args.actor c.requires, refl) c.history_is_right.ensures.right)

pub returns-clause-advances : goal.returns-clause-advances
returns-clause-advances g c = (answer_by c.args.actor (Word Idle), c.in_ok-answer.ensures.said, λ disk. (Ends (Word Idle), idle_turn (world c.args.self.now disk) c.args.actor c.requires, refl))
