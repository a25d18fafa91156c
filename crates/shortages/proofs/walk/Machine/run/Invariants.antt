use Rattle.std.proofs.Common.{ℕ}
use Rattle.std.specs.Prelude.{◌<◌}
use Rattle.turns.specs.Tickets.{OwnStage}
use Rattle.shortages.proofs.walk.Machine.run.Given as goal

abbrev pub invariant-loop-turn : goal.invariant-loop-turn
invariant-loop-turn l = record {
  room : 0 < l.self.pass.room;
  own : (blocks : ℕ) × OwnStage l.self.pass.caller.worker blocks l.stage;
}
