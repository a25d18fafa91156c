use Rattle.std.proofs.Common.{subst}
use Rattle.driver.specs.Schedule.{World, Turn}
use Rattle.driver.specs.Desks.{world, lent_to}
use Rattle.driver.proofs.desk.Desk.turn.Goals as goal

pub returns-clause-turn : goal.returns-clause-turn
returns-clause-turn g c =
    subst (λ (w : World). Turn (lent_to w c.args.actor c.args.lent) c.args.actor c.in_ok-outcome.outcome (world c.take_turn.new.self (g.D.BlockDevice.disk c.take_turn.new.device)))
    (c.make_room.ensures.same (g.D.BlockDevice.disk c.args.device.now)) c.in_ok-outcome.ensures.turn

pub take_turn-requires-clause-place : goal.take_turn-requires-clause-place
take_turn-requires-clause-place g c = rw c.make_room.ensures.seats c.requires.place

pub take_turn-requires-clause-rests : goal.take_turn-requires-clause-rests
take_turn-requires-clause-rests g c = rw c.make_room.ensures.seats c.requires.rests
