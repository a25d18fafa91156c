-- Queues after a page was taken out.
use Rattle.std.proofs.Common.{◌≡◌, inl, inr, ℕ, ◌≤◌, ◌==◌, ◌||◌, not, Bool, true, false, List, [], ◌∷◌, refl, ap, arith}
use Rattle.std.specs.Prelude.{count_by}
use Rattle.std.specs.List.{filter, list_any}
use Rattle.std.proofs.lemmas.Bool.Decides.{eqb_tells}
use Rattle.std.proofs.lemmas.List.Sums.{sum_by-cons}
use Rattle.machine.specs.declared.id.PageId.{PageId}
use Rattle.machine.proofs.SlotLemmas.{one_if}
use Rattle.page_state.specs.Queue.{numbers_of}

module _ {T : Type 0} (test : T → Bool) where
  -- what passes is counted, and what is counted passes
  pub any_counts : (xs : List T) → list_any test xs ≡ true → 1 ≤ count_by test xs
  any_counts [] e = cc
  any_counts (x ∷ xs) e =
      let more = sum_by-cons (λ y. one_if (test y)) x xs in
      elim (test x) as (λ b. test x ≡ b → (b || list_any test xs) ≡ true → 1 ≤ count_by test (x ∷ xs)) [
        | true ↦ λ is e. (let here = ap one_if is in omega (arith, more, here))
        | false ↦ λ is e. (let rest = any_counts xs e in omega (arith, more, rest))
      ] refl e

  pub counts_any : (xs : List T) → list_any test xs ≡ false → count_by test xs ≡ 0
  counts_any [] e = refl
  counts_any (x ∷ xs) e =
      let more = sum_by-cons (λ y. one_if (test y)) x xs in
      elim (test x) as (λ b. test x ≡ b → (b || list_any test xs) ≡ false → count_by test (x ∷ xs) ≡ 0) [
        | true ↦ λ is e. cc
        | false ↦ λ is e. (let here = ap one_if is in let rest = counts_any xs e in omega (arith, more, here, rest))
      ] refl e

pub numbers_of-others : (xs : List PageId) (p : ℕ) → numbers_of (filter (λ (x : PageId). not (x.0 == p)) xs) ≡ filter (λ n. not (n == p)) (numbers_of xs)
numbers_of-others [] p = refl
numbers_of-others (x ∷ xs) p =
    elim (eqb_tells x.0 p) [
      | inl same ↦ rw same.0 (numbers_of-others xs p)
      | inr other ↦ rw other.0 (ap (λ ns. x.0 ∷ ns) (numbers_of-others xs p))
    ]
