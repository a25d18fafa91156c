use Rattle.std.proofs.Common.{◌≡◌, ◌++◌, map, length, reverse, vec_len, vec_capacity}
use Rattle.live.specs.Passes.{book_pass}
use Rattle.live.specs.Shared.{rows_of}
use Rattle.live.proofs.shared_book.bring_together.Given as goal

abbrev pub invariant-loop-pass : goal.invariant-loop-pass
invariant-loop-pass g l = record {
  table : l.ending.table ≡ l.initial.ending.table;
  view : l.ending.view ≡ record l.initial.ending.view { rows = l.ending.view.rows };
  rows : rows_of l.passes.items ++ l.ending.view.rows ≡ rows_of l.initial.passes.items;
  ended : map book_pass l.passes.items ++ reverse l.ended.items ≡ map book_pass l.initial.passes.items;
  count : vec_len l.ended ≡ length l.ending.view.rows;
  room : vec_capacity l.ended ≡ vec_capacity l.initial.ended;
}

abbrev pub decreases-loop-pass : goal.decreases-loop-pass
decreases-loop-pass g l = goal.left-loop-pass g l
