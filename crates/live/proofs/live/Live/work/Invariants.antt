use Rattle.std.proofs.Common.{◌≡◌, ◌+◌, ◌≤◌, length, take, vec_len, vec_capacity}
use Rattle.live.specs.Shares.{Carries}
use Rattle.live.specs.Works.{Worked}
use Rattle.live.proofs.live.Live.work.Given as goal

abbrev pub invariant-loop-at : goal.invariant-loop-at
invariant-loop-at g l = record {
  worked : Worked g.L.Opened.opening l.actor (take l.at l.commands) l.fn.pass.exchanges l.pass.exchanges l.answers.items;
  room : vec_len l.answers + length l.commands ≤ vec_capacity l.answers + l.at;
  share : Carries l.fn.pass.kept 0 l.pass.kept 0;
  caller : l.pass.caller ≡ l.fn.pass.caller;
}
