use Rattle.std.proofs.Common.{ℕ}
use Rattle.trace.specs.Heads.{MayBe, link_in}
use Rattle.trace.proofs.heads.extend.Given as goal

abbrev pub invariant-loop : goal.invariant-loop
invariant-loop l = (r c : ℕ) → MayBe (link_in l.rows.items r c) (link_in l.fn.rows.items r c)
