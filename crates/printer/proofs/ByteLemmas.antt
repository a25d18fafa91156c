-- What a writer got of some bytes, call by call.
use Rattle.std.proofs.Common.{◌≡◌, ℕ, ◌+◌, ◌-◌, ◌≤◌, inl, inr, List, ◌++◌, Option, length, take, drop, refl, subst, sym, ap, ◌∙◌, arith}
use Rattle.std.proofs.lemmas.Bool.{cases_lt}
use Rattle.std.proofs.lemmas.List.{take_all, take-append-le, length-drop}
use Rattle.std.proofs.Math.Seq.{take-add, take-length}
use Rattle.std.specs.Io.KnownBytes.{Appends}
use Rattle.std.proofs.KnownBytes.{Appends-trans}
use Rattle.printer.specs.Prints.{AppendsStart}

module _ (bs : List ℕ) (at : ℕ) where
  -- the slice from a place to the end is what is behind the place
  whole : take (length bs - at) (drop at bs) ≡ drop at bs
  whole = ap (λ n. take n (drop at bs)) (sym (length-drop at bs)) ∙ take-length (drop at bs)

  pub written-within : (n : ℕ) → at ≤ length bs → n ≤ length (take (length bs - at) (drop at bs)) → at + n ≤ length bs
  written-within n low h =
      let size : length (take (length bs - at) (drop at bs)) ≡ length bs - at = ap length whole ∙ length-drop at bs in
      omega (arith, low, h, size)

  pub written-more : (a b c : Option (List ℕ)) (n : ℕ) → Appends a b (take at bs) → Appends b c (take n (take (length bs - at) (drop at bs))) → Appends a c (take (at + n) bs)
  written-more a b c n first second =
      subst (Appends a c) (sym (take-add at n bs)) (Appends-trans a b c (take at bs) (take n (drop at bs)) first (subst (λ l. Appends b c (take n l)) whole second))

-- the beginning of some bytes is the beginning of more
pub starts-front : (a b : Option (List ℕ)) (bs cs : List ℕ) → AppendsStart a b bs → AppendsStart a b (bs ++ cs)
starts-front a b bs cs h = elim (cases_lt (length bs) h.count) [
  | inl over ↦ (
      let all : take h.count bs ≡ bs = take_all h.count bs (omega (arith, over)) in
      let within : length bs ≤ length bs = omega arith in
      let front : take (length bs) (bs ++ cs) ≡ bs = rw take-append-le (take-length bs) in
      record { count = length bs; appends = subst (Appends a b) (all ∙ sym front) h.appends }
      )
  | inr within ↦ (
      let front : take h.count (bs ++ cs) ≡ take h.count bs = rw take-append-le refl in
      record { count = h.count; appends = subst (Appends a b) (sym front) h.appends }
      )
]
