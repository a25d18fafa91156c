use Rattle.std.proofs.Common.{◌≡◌}
use Rattle.leaves.proofs.marks_tests.set_each.Given as goal

abbrev pub invariant-loop-frame : goal.invariant-loop-frame
invariant-loop-frame l = l.seat.table ≡ l.marks.table
