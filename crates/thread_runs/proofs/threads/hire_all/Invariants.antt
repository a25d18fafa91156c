use Rattle.std.specs.Prelude.{[]}
use Rattle.scripts.specs.Work.{shown_rows}
use Rattle.thread_runs.specs.Crews.{Counts}
use Rattle.thread_runs.specs.Rounds.{HiredAll}
use Rattle.thread_runs.proofs.threads.hire_all.Given as goal

abbrev pub invariant-loop-actor : goal.invariant-loop-actor
invariant-loop-actor g l = HiredAll (shown_rows l.yielded) l.crew.workers.items × Counts l.fn.roll.given [] l.roll.given l.crew.workers.items
