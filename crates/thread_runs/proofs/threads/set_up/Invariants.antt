use Rattle.thread_runs.specs.Crews.{Counts}
use Rattle.thread_runs.specs.Rounds.{SetsUp}
use Rattle.thread_runs.proofs.threads.set_up.Given as goal

abbrev pub invariant-loop-actor : goal.invariant-loop-actor
invariant-loop-actor g l =
    SetsUp g.L.Opened.opening l.yielded l.fn.crew.workers.items l.crew.workers.items (g.O.Write.contents l.fn.out) (g.O.Write.contents l.out)
    × Counts l.fn.roll.given l.fn.crew.workers.items l.roll.given l.crew.workers.items
