use Rattle.std.proofs.Common.{◌≡◌}
use Rattle.book.proofs.book.release_ended.Given as goal

abbrev pub invariant-loop-number : goal.invariant-loop-number
invariant-loop-number l = l.trace ≡ l.fn.trace
