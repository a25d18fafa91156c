-- What a reader gave.
use Rattle.std.proofs.Common.{◌≡◌, ℕ, ◌<◌, inl, inr, List, Option, Some, None, IfSome, length, take, ap, ◌∙◌, arith}
use Rattle.std.specs.Option.{option_map}
use Rattle.std.proofs.lemmas.Bool.{cases_lt}
use Rattle.std.proofs.lemmas.List.{take_all, length-take-le}

-- fewer bytes were read than were asked for, so they are all that there were
pub read-all : (known : Option (List ℕ)) (limit n : ℕ) (items : List ℕ) → IfSome (option_map (take limit) known) (λ xs. items ≡ xs) → length items ≡ n → n < limit → IfSome known (λ all. items ≡ all)
read-all None limit n items h size few = tt
read-all (Some all) limit n items h size few = elim (cases_lt (length all) limit) [
  | inl less ↦ h ∙ take_all limit all (omega (arith, less))
  | inr most ↦ (let full : length (take limit all) ≡ limit = length-take-le limit all most in let same : length items ≡ length (take limit all) = ap length h in absurd (omega (arith, full, same, size, few)))
]
