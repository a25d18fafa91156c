-- Calls that are listed, and those that are still to come.
use Rattle.std.proofs.Common.{◌≡◌, ℕ, suc, ◌+◌, ◌≤◌, ◌<◌, ◌==◌, Bool, true, false, cond, List, [], ◌∷◌, get_or, Fits, w64, inl, inr, refl, sym, arith}
use Rattle.std.specs.Prelude.{nat_lt}
use Rattle.std.proofs.lemmas.Bool.{cases_lt}
use Rattle.std.proofs.lemmas.Bool.Decides.{eqb_tells}
use Rattle.std.proofs.lemmas.List.Sums.{sum_by-cons}
use Rattle.std.specs.List.{list_any}
use Rattle.block_store.specs.Device.{is_listed}
use Rattle.block_store.specs.Memory.{faults_left}

faults_left-cons : (x : ℕ) (xs : List ℕ) (calls : ℕ) → faults_left (x ∷ xs) calls ≡ cond (nat_lt calls x) 1 0 + faults_left xs calls
faults_left-cons x xs calls = sum_by-cons (λ call. cond (nat_lt calls call) 1 0) x xs

-- a call more leaves no more to come
pub faults_left-next : (faults : List ℕ) (calls : ℕ) → faults_left faults (calls + 1) ≤ faults_left faults calls
faults_left-next [] calls = omega arith
faults_left-next (x ∷ xs) calls =
    let now = faults_left-cons x xs calls in
    let next = faults_left-cons x xs (calls + 1) in
    let rest = faults_left-next xs calls in
    elim (cases_lt (calls + 1) x) [
      | inl lt ↦ (let a : nat_lt (calls + 1) x ≡ true = grind (arith, lt) in let b : nat_lt calls x ≡ true = grind (arith, lt) in grind (arith, now, next, rest, a, b))
      | inr le ↦ (let a : nat_lt (calls + 1) x ≡ false = grind (arith, le) in grind (arith, now, next, rest, a))
    ]

-- a call that is listed leaves one less at least
pub faults_left-struck : (faults : List ℕ) (calls : ℕ) → is_listed faults calls ≡ true → faults_left faults (calls + 1) + 1 ≤ faults_left faults calls
faults_left-struck [] calls listed = cc
faults_left-struck (x ∷ xs) calls listed =
    let now = faults_left-cons x xs calls in
    let next = faults_left-cons x xs (calls + 1) in
    elim (eqb_tells x (calls + 1)) [
      | inl same ↦ (let rest = faults_left-next xs calls in let a : nat_lt (calls + 1) x ≡ false = grind (arith, same.1) in let b : nat_lt calls x ≡ true = grind (arith, same.1) in grind (arith, now, next, rest, a, b))
      | inr other ↦ (let left : is_listed xs calls ≡ true = rw other.0 at listed in let rest = faults_left-struck xs calls left in let more = faults_left-next (x ∷ []) calls in grind (arith, now, next, rest, more))
    ]

-- the call after the greatest count of 64 bits is not listed
pub not_listed : (faults : List ℕ) (calls : ℕ) → ((i : ℕ) → Fits w64 (get_or faults i 0)) → (calls + 1 < 18446744073709551616 → ⊥) → is_listed faults calls ≡ false
not_listed [] calls fits greatest = refl
not_listed (x ∷ xs) calls fits greatest =
    let small : Fits w64 x = fits 0 in
    let miss : (x == calls + 1) ≡ false = grind (arith, small, greatest) in
    rw miss (not_listed xs calls (λ i. fits (suc i)) greatest)

-- a call more, listed or not
pub faults_left-after : (faults : List ℕ) (calls call : ℕ) (struck : Bool) → call ≡ calls + 1 → struck ≡ list_any (λ n. n == call) faults → faults_left faults call + cond struck 1 0 ≤ faults_left faults calls
faults_left-after faults calls call true next listed = rw next (faults_left-struck faults calls (sym (rw next at listed)))
faults_left-after faults calls call false next listed = rw next (let rest = faults_left-next faults calls in omega (arith, rest))
