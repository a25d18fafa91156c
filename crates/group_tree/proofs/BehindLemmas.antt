-- What is behind a number in a list, by the number's place.
use Rattle.std.proofs.Common.{◌≡◌, ◌≢◌, ℕ, zero, suc, ◌+◌, ◌<◌, ◌==◌, true, false, if◌then◌else◌, List, [], ◌∷◌, length, drop, slice_index, refl, ap, ◌∙◌, arith}
use Rattle.std.proofs.lemmas.Bool.Decides.{nat_tests}
use Rattle.group_tree.specs.Walk.{behind}

-- the number stands at i, and at no place before
pub behind-at : (xs : List ℕ) (i g : ℕ) → i < length xs → slice_index xs i ≡ g → ((j : ℕ) → j < i → slice_index xs j ≢ g) → behind xs g ≡ drop (i + 1) xs
behind-at [] i g lt here none = absurd (omega arith)
behind-at (x ∷ xs) zero g lt here none =
    let same : (x == g) ≡ true = grind (arith, nat_tests, here) in
    ap (λ b. if b then xs else behind xs g) same
behind-at (x ∷ xs) (suc i) g lt here none =
    let differs : (x == g) ≡ false = grind (arith, nat_tests, none 0 (omega arith)) in
    let one : suc (i + 1) ≡ suc i + 1 = omega arith in
    ap (λ b. if b then xs else behind xs g) differs ∙ behind-at xs i g (omega arith) here (λ j h. none (suc j) (omega arith)) ∙ ap (λ j. drop j (x ∷ xs)) one

-- it stands nowhere
pub behind-none : (xs : List ℕ) (g : ℕ) → ((j : ℕ) → j < length xs → slice_index xs j ≢ g) → behind xs g ≡ []
behind-none [] g none = refl
behind-none (x ∷ xs) g none =
    let differs : (x == g) ≡ false = grind (arith, nat_tests, none 0 (omega arith)) in
    ap (λ b. if b then xs else behind xs g) differs ∙ behind-none xs g (λ j h. none (suc j) (omega arith))
