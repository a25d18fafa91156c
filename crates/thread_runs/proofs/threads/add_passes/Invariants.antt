use Rattle.std.proofs.Common.{◌≡◌, ◌++◌}
use Rattle.thread_runs.specs.Rounds.{passes_in}
use Rattle.thread_runs.proofs.threads.add_passes.Given as goal

abbrev pub invariant-loop-worker : goal.invariant-loop-worker
invariant-loop-worker g l = l.passes.items ≡ l.fn.passes.items ++ passes_in l.yielded
