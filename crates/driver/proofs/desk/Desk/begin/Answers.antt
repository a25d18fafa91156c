use Rattle.std.proofs.Common.{◌∙◌, [], List, ap, refl, sym, arith}
use Rattle.driver.specs.Desks.{world, blocks_of_desk, worker_of_desk}
use Rattle.machine.specs.declared.command.Command.{Command}
use Rattle.driver.specs.declared.seat.Activity.{Activity}
use Rattle.driver.specs.declared.seat.Activity.TheVariants.{Begun}
use Rattle.driver.specs.declared.seat.Seat.{Seat}
use Rattle.driver.specs.Schedule.{World, activity_of, with_activity}
use Rattle.driver.specs.Seats.{is_under_way}
use Rattle.driver.proofs.SeatLists.{activity_of-with_activity, with_activity-twice}
use Rattle.driver.proofs.SinkLemmas.{on_err, cut_before, cut_behind, begins_over, begins_fresh}
use Rattle.driver.proofs.desk.Desk.begin.Goals as goal

pub returns-clause-on : goal.returns-clause-on
returns-clause-on g c =
    λ disk on.
    let sat = c.sit.ensures.on disk on in
    record {
      current = sat.current;
      room = (let room = sat.room in omega (arith, c.put.ensures.len, room));
      own = c.put.ensures.own (worker_of_desk c.sit.new.self) (blocks_of_desk c.sit.new.self) sat.own tt;
      blocks = sat.blocks;
    }

pub returns-in_err-answer-clause-cut : goal.returns-in_err-answer-clause-cut
returns-in_err-answer-clause-cut g c =
    on_err c.from_residual.result (λ disk.
    cut_behind g.S.Sink.took g.S.Sink.failed c.args.sink.now c.args.sink.now c.answer.new.sink (g.met.S.Sink.nothing _) (world c.args.self.now disk) _ _ (world c.args.self.now disk) (omega arith) c.in_err-answer.ensures.failed
    (begins_over (world c.args.self.now disk) c.args.actor c.args.command.now _ (sym c.is_under_way.ensures ∙ c.if-is_under_way.true)) c.history_is_right.ensures.right)

pub returns-in_err-command-clause-cut : goal.returns-in_err-command-clause-cut
returns-in_err-command-clause-cut g c = on_err c.from_residual-in_err-command.result (λ disk. cut_before g.S.Sink.took g.S.Sink.failed g.met.S.Sink.stays c.args.sink.now c.args.sink.now (g.met.S.Sink.nothing _) _ _ disk refl c.history_is_right.ensures.right)

pub returns-in_err-place-clause-cut : goal.returns-in_err-place-clause-cut
returns-in_err-place-clause-cut g c = on_err c.from_residual-in_err-place.result (λ disk. cut_before g.S.Sink.took g.S.Sink.failed g.met.S.Sink.stays c.args.sink.now c.args.sink.now (g.met.S.Sink.nothing _) _ _ disk refl c.history_is_right.ensures.right)

pub put-requires-clause-free : goal.put-requires-clause-free
put-requires-clause-free g c =
    ap (λ (ss : List Seat). is_under_way (activity_of c.args.actor ss)) c.in_ok-place.ensures.seats
    ∙ ap (λ (a : Activity). is_under_way a) (activity_of-with_activity c.args.actor (activity_of c.args.actor c.args.self.now.seats) c.args.self.now.seats)
    ∙ sym c.is_under_way.ensures ∙ c.if-is_under_way.false

pub returns-clause-begins : goal.returns-clause-begins
returns-clause-begins g c =
    let was : Activity = activity_of c.args.actor c.args.self.now.seats in (
      [],
      g.met.S.Sink.nothing _,
      λ disk. begins_fresh _ _ c.args.actor c.args.command.now was (sym c.is_under_way.ensures ∙ c.if-is_under_way.false)
          (ap (λ (w : World). record w { seats = c.put.new.self }) (c.in_ok-place.ensures.now disk)
          ∙ ap (λ (ss : List Seat). record (world c.args.self.now disk) { seats = ss })
          (c.put.ensures.put ∙ ap (λ (ss : List Seat). with_activity c.args.actor (Begun c.in_ok-command.command) ss) c.in_ok-place.ensures.seats
          ∙ with_activity-twice c.args.actor (Begun c.in_ok-command.command) was c.args.self.now.seats
          ∙ ap (λ (what : Command). with_activity c.args.actor (Begun what) c.args.self.now.seats) c.in_ok-command.ensures)),
    )

pub returns-clause-unseen : goal.returns-clause-unseen
returns-clause-unseen g c = g.met.S.Sink.unseen _
