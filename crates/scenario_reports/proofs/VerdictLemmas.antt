-- A test that keeps nothing of a list.
use Rattle.std.proofs.Common.{◌≡◌, ℕ, suc, Bool, true, false, not, ◌||◌, List, [], ◌∷◌, length, eqb, filter, cond, refl, arith}
use Rattle.std.specs.List.{list_any}

above_zero : (n : ℕ) → eqb (suc n) 0 ≡ false
above_zero n = grind arith

by_first : (b : Bool) (x : ℕ) (kept : List ℕ) (any : Bool) → eqb (length kept) 0 ≡ not any → eqb (length (cond b (x ∷ kept) kept)) 0 ≡ not (b || any)
by_first true x kept any e = above_zero (length kept)
by_first false x kept any e = e

pub none_kept : (p : ℕ → Bool) (xs : List ℕ) → eqb (length (filter p xs)) 0 ≡ not (list_any p xs)
none_kept p [] = refl
none_kept p (x ∷ xs) = by_first (p x) x (filter p xs) (list_any p xs) (none_kept p xs)
