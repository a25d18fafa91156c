use Rattle.driver.specs.Schedule.{World}
use Rattle.driver.specs.Desks.{world}
use Rattle.driver.proofs.Runs.{lent_turn}
use Rattle.driver.proofs.desk.Desk.take_turn.Goals as goal

pub returns-in_ok-first_turn-in-Some-clause-turn : goal.returns-in_ok-first_turn-in-Some-clause-turn
returns-in_ok-first_turn-in-Some-clause-turn g c =
    let old : World = world c.args.self.now (g.D.BlockDevice.disk c.args.device.now) in
    let new : World = world c.first_turn.new.self (g.D.BlockDevice.disk c.first_turn.new.device) in
    rw c.in-Some.is (lent_turn old new c.args.actor c.in-Some.command.now c.in_ok-first_turn-in-Some.field-0 c.in_ok-first_turn-in-Some.ensures.turn)
