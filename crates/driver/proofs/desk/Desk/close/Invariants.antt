use Rattle.std.proofs.Common.{◌≡◌, ◌≤◌, true, length, vec_len}
use Rattle.book.specs.Passes.{is_current}
use Rattle.driver.specs.Traced.{GivesUp}
use Rattle.turns.specs.Tickets.{blocks_in}
use Rattle.driver.specs.Hands.{OwnSeats}
use Rattle.driver.proofs.desk.Desk.close.Given as goal

abbrev pub invariant-loop-seat : goal.invariant-loop-seat
invariant-loop-seat l = record {
  current : is_current l.book l.pass ≡ true;
  room : length l.seats.items ≤ l.pass.room;
  given_up : GivesUp l.fn.self.book.history l.book.history;
  own : OwnSeats l.pass.caller.worker (blocks_in l.book.state.opening) l.seats.items;
}

abbrev pub decreases-loop-seat : goal.decreases-loop-seat
decreases-loop-seat l = vec_len l.seats
