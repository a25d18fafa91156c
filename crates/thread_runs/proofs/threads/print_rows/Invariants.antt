use Rattle.std.proofs.Common.{take}
use Rattle.thread_runs.specs.Rounds.{SaysRows}
use Rattle.thread_runs.proofs.threads.print_rows.Given as goal

abbrev pub invariant-loop-worker : goal.invariant-loop-worker
invariant-loop-worker g l = SaysRows (take l.worker-index l.workers) (g.O.Write.contents l.fn.out) (g.O.Write.contents l.out)
