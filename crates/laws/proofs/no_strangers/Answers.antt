use Rattle.machine.specs.State.{opening_of}
use Rattle.driver.specs.Schedule.{first_world}
use Rattle.driver.proofs.Keeps.{fine_at, runs_keep}
use Rattle.driver.proofs.Tickets.{Tickets, tickets_rest, tickets_turn, tickets_first}
use Rattle.laws.proofs.no_strangers.Goals as goal

pub returns : goal.returns
returns c config before lines answers end runs k told is =
    fine_at answers k told (runs_keep (Tickets (opening_of config)) (tickets_rest (opening_of config)) (tickets_turn (opening_of config)) (first_world config before) end lines answers runs (tickets_first config before)).1 is
