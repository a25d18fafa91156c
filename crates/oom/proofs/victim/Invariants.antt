use Rattle.oom.specs.Worst.{IsWorstBelow}
use Rattle.oom.proofs.victim.Given as goal

abbrev pub invariant-loop-task : goal.invariant-loop-task
invariant-loop-task l = IsWorstBelow l.tree l.spaces.tasks l.spaces.page_tables l.limit.0 l.task l.worst
