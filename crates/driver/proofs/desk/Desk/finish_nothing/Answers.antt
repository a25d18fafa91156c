use Rattle.std.proofs.Common.{arith}
use Rattle.machine.specs.declared.command.Answer.TheVariants.{Word}
use Rattle.turns.specs.Turns.{answer_by}
use Rattle.driver.specs.Desks.{world}
use Rattle.driver.proofs.SinkLemmas.{on_err, cut_behind, idle_finish}
use Rattle.driver.proofs.desk.Desk.finish_nothing.Goals as goal

pub returns-in_err-answer-clause-cut : goal.returns-in_err-answer-clause-cut
returns-in_err-answer-clause-cut g c =
    on_err c.from_residual.result (λ disk.
    cut_behind g.S.Sink.took g.S.Sink.failed c.args.sink.now c.args.sink.now c.answer.new.sink (g.met.S.Sink.nothing _) (world c.args.self.now disk) _ _ (world c.args.self.now disk) (omega arith) c.in_err-answer.ensures.failed
    (idle_finish (world c.args.self.now disk) c.args.actor c.word_of_nothing.result c.requires c.word_of_nothing.ensures.none c.word_of_nothing.ensures.some) c.history_is_right.ensures.right)

pub returns-clause-finishes : goal.returns-clause-finishes
returns-clause-finishes g c = (
  answer_by c.args.actor (Word c.word_of_nothing.result),
  c.in_ok-answer.ensures.said,
  λ disk. idle_finish (world c.args.self.now disk) c.args.actor c.word_of_nothing.result c.requires c.word_of_nothing.ensures.none c.word_of_nothing.ensures.some,
)
