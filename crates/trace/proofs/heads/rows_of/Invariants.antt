use Rattle.std.proofs.Common.{ℕ}
use Rattle.trace.specs.declared.link.Link.TheVariants as link
use Rattle.trace.specs.Heads.{MayBe, link_in}
use Rattle.trace.proofs.heads.rows_of.Given as goal

abbrev pub invariant-loop-pages : goal.invariant-loop-pages
invariant-loop-pages l = (r c : ℕ) → MayBe (link_in l.rows.items r c) link.First
