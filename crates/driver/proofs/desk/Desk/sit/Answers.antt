use Rattle.std.proofs.Common.{◌∙◌, List, ap, sym, arith}
use Rattle.driver.specs.declared.seat.Seat.{Seat}
use Rattle.driver.specs.Schedule.{World, activity_of, with_activity}
use Rattle.driver.specs.Seats.{SitsAt}
use Rattle.driver.specs.Desks.{world, blocks_of_desk, worker_of_desk}
use Rattle.driver.proofs.SeatLists.{still_seated}
use Rattle.driver.proofs.desk.Desk.sit.Goals as goal

pub returns-in-Some-clause-now : goal.returns-in-Some-clause-now
returns-in-Some-clause-now c =
    let sits : SitsAt c.args.actor c.in-Some.place c.args.self.now.seats = rw c.in-Some.is at c.requires in
    λ disk. ap (λ (ss : List Seat). record (world c.args.self.now disk) { seats = ss }) (sym (still_seated c.args.actor c.in-Some.place c.args.self.now.seats sits))

pub returns-in-Some-clause-seats : goal.returns-in-Some-clause-seats
returns-in-Some-clause-seats c =
    let sits : SitsAt c.args.actor c.in-Some.place c.args.self.now.seats = rw c.in-Some.is at c.requires in
    sym (still_seated c.args.actor c.in-Some.place c.args.self.now.seats sits)

pub returns-clause-seats : goal.returns-clause-seats
returns-clause-seats c = c.in_ok-place.ensures.now ∙ ap (λ (ss : List Seat). with_activity c.args.actor (activity_of c.args.actor ss) ss) c.make_room.ensures.seats

pub returns-clause-now : goal.returns-clause-now
returns-clause-now c =
    λ disk. ap (λ (w : World). record w { seats = c.add.new.self }) (c.make_room.ensures.same disk)
    ∙ ap (λ (ss : List Seat). record (world c.args.self.now disk) { seats = ss })
    (c.in_ok-place.ensures.now ∙ ap (λ (ss : List Seat). with_activity c.args.actor (activity_of c.args.actor ss) ss) c.make_room.ensures.seats)

pub returns-clause-on : goal.returns-clause-on
returns-clause-on c =
    λ disk on.
    let made = c.in_ok-make_room.ensures.on disk on in
    record {
      current = made.current;
      room = omega (arith, c.add.ensures.len, c.in_ok-make_room.ensures.room);
      own = c.add.ensures.own (worker_of_desk c.make_room.new.self) (blocks_of_desk c.make_room.new.self) made.own;
      blocks = made.blocks;
    }
