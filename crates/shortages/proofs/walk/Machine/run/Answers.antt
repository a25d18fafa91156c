use Rattle.std.proofs.Common.{sym, subst}
use Rattle.machine.specs.Call.{Caller}
use Rattle.turns.specs.Tickets.{OwnStage}
use Rattle.shortages.proofs.walk.Machine.run.Goals as goal

pub give_up-requires-clause-own : goal.give_up-requires-clause-own
give_up-requires-clause-own c =
    let held = c.loop-turn.invariant.own in
    (held.0, subst (λ (caller : Caller). OwnStage caller.worker held.0 c.loop-turn.stage) (sym c.reserve.ensures.caller) held.1)
