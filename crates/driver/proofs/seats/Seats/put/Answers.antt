use Rattle.driver.proofs.SeatLists.{still_sits, own-changed}
use Rattle.driver.proofs.seats.Seats.put.Goals as goal

pub returns-clause-place : goal.returns-clause-place
returns-clause-place c = still_sits c.args.actor c.args.place c.args.activity c.args.self.now c.exchange.new.self c.requires.place c.exchange.ensures.now

pub returns-clause-own : goal.returns-clause-own
returns-clause-own c = λ worker blocks own here. own-changed worker blocks c.args.actor c.args.activity c.args.self.now c.exchange.new.self c.exchange.ensures.now own here
