use Rattle.std.proofs.Common.{◌≡◌}
use Rattle.leaves.proofs.marks_tests.counts_of.Given as goal

abbrev pub invariant-loop-round : goal.invariant-loop-round
invariant-loop-round l = l.seat.table ≡ l.marks.table
