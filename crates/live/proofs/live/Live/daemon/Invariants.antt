use Rattle.std.proofs.Common.{◌≡◌}
use Rattle.machine.specs.declared.command.Actor.TheVariants as actor
use Rattle.machine.specs.declared.command.Command.TheVariants as command
use Rattle.live.specs.Shares.{Carries}
use Rattle.live.specs.Works.{Repeated}
use Rattle.live.proofs.live.Live.daemon.Given as goal

abbrev pub invariant-loop-run : goal.invariant-loop-run
invariant-loop-run g l = record {
  can : (goal.iterator-loop-run g).can_next l._run-iterator;
  finite : (goal.iterator-loop-run g).is_finite l._run-iterator;
  repeated : Repeated g.L.Opened.opening actor.Daemon command.Daemon l.fn.pass.exchanges l.pass.exchanges;
  caller : l.pass.caller ≡ l.fn.pass.caller;
  share : Carries l.fn.pass.kept 0 l.pass.kept 0;
}
