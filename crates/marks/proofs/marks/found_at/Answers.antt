use Rattle.std.proofs.Common.{sym, ◌∙◌}
use Rattle.std.specs.Int.{bit_at}
use Rattle.std.proofs.lemmas.Nat.Bits.{shr_and_one}
use Rattle.marks.proofs.WordLemmas.{told_clear, told_marked}
use Rattle.marks.proofs.marks.found_at.Goals as goal

pub returns-then-bits-place-eq0 : goal.returns-then-bits-place-eq0
returns-then-bits-place-eq0 c = told_clear (bit_at c.args.bits c.args.place) (sym (shr_and_one c.args.bits c.args.place) ∙ c.if-bits-place-eq0.true)

pub returns-else-bits-place-eq0 : goal.returns-else-bits-place-eq0
returns-else-bits-place-eq0 c = told_marked (bit_at c.args.bits c.args.place) (λ e. c.if-bits-place-eq0.false (shr_and_one c.args.bits c.args.place ∙ e))
