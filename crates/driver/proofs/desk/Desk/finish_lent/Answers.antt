use Rattle.std.proofs.Common.{◌≡◌, ◌∙◌, [], ◌∷◌, List, Some, ap, refl, arith}
use Rattle.machine.specs.declared.command.Step.TheVariants.{Begin, Finish}
use Rattle.driver.specs.declared.seat.Seat.{Seat}
use Rattle.driver.specs.Schedule.{World, activity_of, Stepped}
use Rattle.driver.specs.Desks.{world, lent_to}
use Rattle.driver.proofs.SeatLists.{activity_of-with_activity}
use Rattle.driver.proofs.Runs.{lent_begun}
use Rattle.driver.proofs.SinkLemmas.{on_err, cut_before, cuts_first, cuts_then, took_none, one_step, whole_through, begins_fresh, not_under_way}
use Rattle.driver.proofs.desk.Desk.finish_lent.Goals as goal

pub finish_at-requires-clause-rests : goal.finish_at-requires-clause-rests
finish_at-requires-clause-rests g c =
    ap (λ (ss : List Seat). activity_of c.args.actor ss) c.in_ok-place.ensures.seats
    ∙ activity_of-with_activity c.args.actor (activity_of c.args.actor c.args.self.now.seats) c.args.self.now.seats
    ∙ not_under_way (activity_of c.args.actor c.args.self.now.seats) c.requires.rests

pub finish_at-requires-clause-some : goal.finish_at-requires-clause-some
finish_at-requires-clause-some g c =
    let limit : c.sit.new.self.turns ≡ c.args.self.now.turns = ap (λ (w : World). w.turns) (c.in_ok-place.ensures.now (g.D.BlockDevice.disk c.args.device.now)) in
    omega (arith, limit, c.requires.some)

pub returns-in_err-place-clause-cut : goal.returns-in_err-place-clause-cut
returns-in_err-place-clause-cut g c =
    on_err c.from_residual.result (cuts_first g.S.Sink.took g.S.Sink.failed c.args.sink.now c.args.sink.now (world c.args.self.now (g.D.BlockDevice.disk c.args.device.now)) (Begin c.args.actor c.args.command.now) (Finish c.args.actor ∷ []) (g.D.BlockDevice.disk c.args.device.now)
    (cut_before g.S.Sink.took g.S.Sink.failed g.met.S.Sink.stays c.args.sink.now c.args.sink.now (g.met.S.Sink.nothing _) _ _ (g.D.BlockDevice.disk c.args.device.now) refl c.history_is_right.ensures.right))

pub returns-in_err-finish_at-clause-cut : goal.returns-in_err-finish_at-clause-cut
returns-in_err-finish_at-clause-cut g c =
    let old : World = world c.args.self.now (g.D.BlockDevice.disk c.args.device.now) in
    let mid : World = lent_to (world c.sit.new.self (g.D.BlockDevice.disk c.args.device.now)) c.args.actor (Some c.args.command) in
    let begins : Stepped old (Begin c.args.actor c.args.command.now) [] mid =
    begins_fresh old mid c.args.actor c.args.command.now (activity_of c.args.actor c.args.self.now.seats) c.requires.rests (lent_begun old (world c.sit.new.self (g.D.BlockDevice.disk c.args.device.now)) c.args.actor c.args.command (c.in_ok-place.ensures.now (g.D.BlockDevice.disk c.args.device.now))) in
    on_err c.from_residual-in_err-finish_at.result
    (cuts_then g.S.Sink.took g.S.Sink.failed g.met.S.Sink.more c.args.sink.now c.look.new.self c.finish_at.new.sink old (Begin c.args.actor c.args.command.now ∷ []) [] mid (Finish c.args.actor ∷ []) (g.D.BlockDevice.disk c.finish_at.new.device) c.look.ensures.quiet
    (one_step old (Begin c.args.actor c.args.command.now) [] mid begins)
    (cuts_first g.S.Sink.took g.S.Sink.failed c.look.new.self c.finish_at.new.sink mid (Finish c.args.actor) [] (g.D.BlockDevice.disk c.finish_at.new.device) c.in_err-finish_at.ensures.cut))

pub returns-clause-runs : goal.returns-clause-runs
returns-clause-runs g c =
    let old : World = world c.args.self.now (g.D.BlockDevice.disk c.args.device.now) in
    let mid : World = lent_to (world c.sit.new.self (g.D.BlockDevice.disk c.args.device.now)) c.args.actor (Some c.args.command) in
    let new : World = world c.finish_at.new.self (g.D.BlockDevice.disk c.finish_at.new.device) in
    let begins : Stepped old (Begin c.args.actor c.args.command.now) [] mid =
    begins_fresh old mid c.args.actor c.args.command.now (activity_of c.args.actor c.args.self.now.seats) c.requires.rests (lent_begun old (world c.sit.new.self (g.D.BlockDevice.disk c.args.device.now)) c.args.actor c.args.command (c.in_ok-place.ensures.now (g.D.BlockDevice.disk c.args.device.now))) in
    let ends = c.in_ok-finish_at.ensures.finishes in (
      ends.0,
      (c.sit.new.self).book ∷ (c.finish_at.new.self).book ∷ [],
      took_none g.S.Sink.took g.met.S.Sink.more _ _ _ _ (g.met.S.Sink.more _ _ _ _ _ c.look.ensures.quiet ends.1) c.look-2.ensures.quiet,
      g.met.S.Sink.further _ _ _ _ _ (rw c.book.ensures at c.look.ensures.saw) (g.met.S.Sink.further _ _ _ _ _ c.in_ok-finish_at.ensures.unseen (rw c.book-2.ensures at c.look-2.ensures.saw)),
      whole_through old mid new c.args.actor c.args.command.now [] ends.0 begins ends.2,
    )
