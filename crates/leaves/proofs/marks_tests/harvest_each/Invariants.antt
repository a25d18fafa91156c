use Rattle.std.proofs.Common.{◌≡◌}
use Rattle.leaves.proofs.marks_tests.harvest_each.Given as goal

abbrev pub invariant-loop-word : goal.invariant-loop-word
invariant-loop-word l = l.seat.table ≡ l.marks.table
