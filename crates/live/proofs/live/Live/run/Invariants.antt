use Rattle.std.proofs.Common.{◌≡◌, ◌+◌, ◌<◌, true, vec_len, vec_capacity}
use Rattle.turns.specs.Tickets.{blocks_in, holds, OwnStage}
use Rattle.live.specs.Shares.{one_if, Carries}
use Rattle.live.specs.Hands.{HasStage}
use Rattle.live.specs.Runs.{Under}
use Rattle.live.proofs.live.Live.run.Given as goal

abbrev pub invariant-loop-turn : goal.invariant-loop-turn
invariant-loop-turn g l = record {
  can : (goal.iterator-loop-turn g).can_next l._turn-iterator;
  finite : (goal.iterator-loop-turn g).is_finite l._turn-iterator;
  under : Under g.L.Opened.opening l.actor l.initial.stage l.fn.pass.exchanges l.pass.exchanges l.fn.answers.items l.answers.items l.stage;
  own : OwnStage l.pass.caller.worker (blocks_in g.L.Opened.opening) l.stage;
  hand : HasStage l.pass.exchanges l.stage;
  caller : l.pass.caller ≡ l.fn.pass.caller;
  held : holds l.stage ≡ true → (0 < l.pass.room) × (vec_len l.answers + l.spare + 1 < vec_capacity l.answers);
  space : vec_len l.answers + l.spare < vec_capacity l.answers;
  share : Carries l.fn.pass.kept 0 l.pass.kept (one_if (holds l.stage));
}
