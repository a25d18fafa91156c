use Rattle.std.proofs.Common.{◌≡◌, ◌≤◌}
use Rattle.std.specs.Prelude.{count_by}
use Rattle.std.specs.List.{range_with_len}
use Rattle.book.specs.Looks.{is_as_large}
use Rattle.book.proofs.looks.count_as_large.Given as goal

abbrev pub invariant-loop-task : goal.invariant-loop-task
invariant-loop-task l = record {
  few : l.count ≤ l.task;
  counted : l.count ≡ count_by (is_as_large l.tree l.spaces.tasks l.spaces.page_tables l.limit.0 l.victim.0) (range_with_len 0 l.task);
}
