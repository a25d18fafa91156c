-- The sums of both settings, one by one.
use Rattle.std.proofs.Common.{◌≡◌, ℕ, List, refl}
use Rattle.machine.specs.declared.amount.Amount.{Amount}
use Rattle.machine.specs.declared.record.Guard.{Guard}
use Rattle.machine.specs.declared.record.Guard.TheVariants.{Min, Low}
use Rattle.machine.specs.declared.record.Limits.{Limits}
use Rattle.machine.specs.Counts.{guard_of, with_guard}
use Rattle.page_counter.specs.GuardSums.{GuardSumsOf, sums_in, IsOther}

-- what holds of one setting and of the other holds of both
pub of_both : (guard : Guard) (P : Guard → Type 0) → P guard → ((other : Guard) → IsOther guard other → P other) → (any : Guard) → P any
of_both Min P own others Min = own
of_both Min P own others Low = others Low tt
of_both Low P own others Min = others Min tt
of_both Low P own others Low = own

-- what is done to both is done to each
pub in_both : (guard : Guard) (f : List ℕ → List ℕ) (old new : GuardSumsOf) → new.min ≡ f old.min → new.low ≡ f old.low → sums_in guard new ≡ f (sums_in guard old)
in_both Min f old new min low = min
in_both Low f old new min low = low

-- a setting that was written is what was written
pub guard_of-with : (guard : Guard) (l : Limits) (amount : Amount) → guard_of guard (with_guard l guard amount) ≡ amount
guard_of-with Min l amount = refl
guard_of-with Low l amount = refl

-- and the other is what it was
pub guard_of-other : (guard other : Guard) → IsOther guard other → (l : Limits) (amount : Amount) → guard_of other (with_guard l guard amount) ≡ guard_of other l
guard_of-other Min Min is l amount = absurd is
guard_of-other Min Low is l amount = refl
guard_of-other Low Min is l amount = refl
guard_of-other Low Low is l amount = absurd is
