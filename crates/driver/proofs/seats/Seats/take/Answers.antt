use Rattle.std.proofs.Common.{sym, subst}
use Rattle.driver.specs.declared.seat.Activity.{Activity}
use Rattle.driver.specs.declared.seat.Activity.TheVariants.{Rests}
use Rattle.driver.specs.Hands.{OwnActivity}
use Rattle.driver.proofs.SeatLists.{still_sits, own-activity_of, own-changed}
use Rattle.driver.proofs.seats.Seats.take.Goals as goal

pub returns-clause-place : goal.returns-clause-place
returns-clause-place c = still_sits c.args.actor c.args.place Rests c.args.self.now c.exchange.new.self c.requires c.exchange.ensures.now

pub returns-clause-held : goal.returns-clause-held
returns-clause-held c = λ worker blocks own. subst (λ (a : Activity). OwnActivity worker blocks a) (sym c.exchange.ensures.was) (own-activity_of worker blocks c.args.actor c.args.self.now own)

pub returns-clause-own : goal.returns-clause-own
returns-clause-own c = λ worker blocks own. own-changed worker blocks c.args.actor Rests c.args.self.now c.exchange.new.self c.exchange.ensures.now own tt
