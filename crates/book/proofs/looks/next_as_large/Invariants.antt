use Rattle.std.proofs.Common.{◌≡◌, ℕ, ◌<◌, false}
use Rattle.book.specs.Looks.{is_as_large}
use Rattle.book.proofs.looks.next_as_large.Given as goal

abbrev pub invariant-loop-task : goal.invariant-loop-task
invariant-loop-task l = (t : ℕ) → l.after.0 < t → t < l.task → is_as_large l.tree l.spaces.tasks l.spaces.page_tables l.limit.0 l.victim.0 t ≡ false
