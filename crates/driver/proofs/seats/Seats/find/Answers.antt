use Rattle.std.proofs.Common.{◌≡◌, sym}
use Rattle.std.specs.Prelude.{nat_eq, position}
use Rattle.driver.specs.Schedule.{number_of}
use Rattle.driver.specs.Seats.{numbers_of}
use Rattle.driver.proofs.SeatLists.{found-by_number}
use Rattle.driver.proofs.seats.Seats.find.Goals as goal

pub returns : goal.returns
returns c =
    let looked_up : c.get_index_of.result ≡ position (nat_eq (number_of c.args.actor)) (numbers_of c.self.inside.list.items) = rw (sym c.number_of.ensures, sym c.self.invariant) c.get_index_of.ensures.index in
    let view : c.args.self.now ≡ c.self.inside.list.items = cc in
    rw view (found-by_number c.args.actor c.self.inside.list.items c.get_index_of.result looked_up)
