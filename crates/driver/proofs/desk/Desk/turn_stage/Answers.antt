use Rattle.std.proofs.Common.{◌≡◌, ℕ, List, length, ap, arith}
use Rattle.machine.specs.State.{Opening}
use Rattle.driver.specs.declared.seat.Seat.{Seat}
use Rattle.turns.specs.Tickets.{blocks_in}
use Rattle.driver.specs.Desks.{blocks_of_desk, worker_of_desk}
use Rattle.driver.specs.Hands.{OwnSeats}
use Rattle.driver.proofs.desk.Desk.turn_stage.Goals as goal

pub returns-clause-on : goal.returns-clause-on
returns-clause-on g c =
    let worker : ℕ = worker_of_desk c.args.self.now in
    let blocks : ℕ = blocks_of_desk c.args.self.now in
    let served = c.in_ok-transition.ensures in
    let kept : blocks_of_desk c.serve.new.self ≡ blocks = ap (λ (o : Opening). blocks_in o) served.opening in
    let sat : OwnSeats worker blocks c.serve.new.self.seats = rw served.seats c.requires.on.own in
    let own : OwnSeats worker blocks c.put.new.self = c.put.ensures.own worker blocks sat (c.settle-outcome.ensures.own worker blocks served.own) in
    record {
      current = served.current;
      room = (let seats = ap (λ (ss : List Seat). length ss) served.seats in omega (arith, seats, c.put.ensures.len, served.room, c.requires.room));
      own = rw (served.pass, kept) own;
      blocks = omega (arith, kept, served.same.blocks, c.requires.on.blocks);
    }
