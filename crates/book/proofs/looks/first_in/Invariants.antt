use Rattle.std.proofs.Common.{◌≡◌, ℕ, ◌<◌, false}
use Rattle.book.specs.Looks.{shows}
use Rattle.book.proofs.looks.first_in.Given as goal

abbrev pub invariant-loop-at : goal.invariant-loop-at
invariant-loop-at l = (w : ℕ) → w < l.at → shows l.spaces.page_tables l.page.0 l.task.0 w ≡ false
