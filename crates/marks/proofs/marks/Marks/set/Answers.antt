use Rattle.std.proofs.Common.{rules, arith, ◌%◌, ap, refl}
use Rattle.std.proofs.lemmas.Nat.{one_shl}
use Rattle.marks.proofs.StepLemmas.{set_allowed}
use Rattle.marks.proofs.marks.Marks.set.Goals as goal

pub fetch_or-bits-requires : goal.fetch_or-bits-requires
fetch_or-bits-requires c = (search rules, search rules, set_allowed _ _ _ _ c.args.frame _ (search rules) (one_shl (c.args.frame % 64) 64 (omega arith)) (search rules))

pub returns-clause-log : goal.returns-clause-log
returns-clause-log c = rw (c.found_at.ensures, ← c.seat.view_is) (ap (λ m. m.0) (c.fetch_or-bits.ensures.2.0 c.args.frame refl (one_shl (c.args.frame % 64) 64 (omega arith))))
