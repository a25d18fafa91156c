use Rattle.std.specs.Prelude.{◌≡◌}
use Rattle.live.specs.Shared.{Gathers}
use Rattle.live.proofs.pass.Pass.gather.Given as goal

-- the pass is as it was, and the book but for marks that were merged
abbrev pub invariant-loop-word : goal.invariant-loop-word
invariant-loop-word g l = (l.self ≡ l.fn.self) × Gathers l.fn.book l.book
