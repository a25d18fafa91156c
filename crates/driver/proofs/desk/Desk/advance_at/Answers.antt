use Rattle.std.proofs.Common.{refl, sym}
use Rattle.driver.specs.Schedule.{said_at}
use Rattle.driver.specs.Desks.{world}
use Rattle.driver.proofs.SinkLemmas.{on_err, cut_before, cut_behind, said-few}
use Rattle.driver.proofs.desk.Desk.advance_at.Goals as goal

pub returns-in_err-shown-clause-cut : goal.returns-in_err-shown-clause-cut
returns-in_err-shown-clause-cut g c =
    on_err c.from_residual.result (cut_before g.S.Sink.took g.S.Sink.failed g.met.S.Sink.stays c.args.sink.now c.give_notice.new.sink c.give_notice.ensures.quiet _ _ _ (sym c.in_err-shown.ensures.unmoved) c.history_is_right.ensures.right)

pub returns-in_err-say-clause-cut : goal.returns-in_err-say-clause-cut
returns-in_err-say-clause-cut g c =
    on_err c.from_residual-in_err-say.result
    (cut_behind g.S.Sink.took g.S.Sink.failed c.args.sink.now c.give_notice.new.sink c.say.new.sink c.give_notice.ensures.quiet _ _ _ (world c.turn.new.self (g.D.BlockDevice.disk c.turn.new.device)) (said-few c.args.actor c.in_ok-shown.shown) c.in_err-say.ensures.failed (c.in_ok-shown.shown, c.in_ok-shown.ensures.turn, refl) c.history_is_right-2.ensures.right)

pub returns-clause-advances : goal.returns-clause-advances
returns-clause-advances g c =
    (said_at c.args.actor c.in_ok-shown.shown, g.met.S.Sink.more _ _ _ _ _ c.give_notice.ensures.quiet c.in_ok-say.ensures.said, (c.in_ok-shown.shown, c.in_ok-shown.ensures.turn, refl))

pub returns-clause-unseen : goal.returns-clause-unseen
returns-clause-unseen g c = g.met.S.Sink.further _ _ _ _ _ c.give_notice.ensures.unseen c.say.ensures.unseen
