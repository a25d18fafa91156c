use Rattle.std.proofs.Common.{◌≡◌, ℕ, ◌<◌, false}
use Rattle.book.specs.Looks.{shows}
use Rattle.book.proofs.looks.first_mapping.Given as goal

abbrev pub invariant-loop-task : goal.invariant-loop-task
invariant-loop-task l = (t v : ℕ) → t < l.task → shows l.spaces.page_tables l.page.0 t v ≡ false
