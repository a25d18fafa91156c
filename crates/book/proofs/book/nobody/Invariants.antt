use Rattle.std.proofs.Common.{◌≡◌, ◌≤◌, length}
use Rattle.std.specs.Prelude.{vec_capacity}
use Rattle.book.proofs.book.nobody.Given as goal

abbrev pub invariant-loop-page : goal.invariant-loop-page
invariant-loop-page l = (length l.takers.items ≡ l._page) × (l.numbers ≤ vec_capacity l.takers)
