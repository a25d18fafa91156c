use Rattle.std.proofs.Common.{◌≡◌, ◌≤◌, take}
use Rattle.book.specs.Looks.{candidates}
use Rattle.book.proofs.looks.candidates.Given as goal

abbrev pub invariant-loop-task : goal.invariant-loop-task
invariant-loop-task l = record {
  few : l.count ≤ l.task;
  counted : l.count ≡ candidates l.state.tables.tree (take l.task l.state.tables.tasks) l.limit.0;
}
