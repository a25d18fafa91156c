-- How many turns the shortest and the longest of some runs have.
use Rattle.std.specs.Prelude.{◌≡◌, ℕ, ◌+◌, ◌^◌, ◌≤◌, List, [], ◌∷◌, length, map, Contains, All as Each}
use Rattle.orders.specs.Runs.{Run}

-- how many turns each of these runs has
abbrev pub lengths : List Run → List ℕ
lengths runs = map (λ (run : Run). length run) runs

-- it is one of the numbers, and none is less
pub record IsLeast (numbers : List ℕ) (number : ℕ) : Type 0 where
  pub is_one : Contains numbers number
  pub bounds : Each (λ (other : ℕ). number ≤ other) numbers

-- it is one of the numbers, and none is greater
pub record IsGreatest (numbers : List ℕ) (number : ℕ) : Type 0 where
  pub is_one : Contains numbers number
  pub bounds : Each (λ (other : ℕ). other ≤ number) numbers

-- if there are runs: so many turns the shortest of them has, and so many the longest. (Excludes a number of turns that no run has.)
abbrev pub Spans : List Run → ℕ → ℕ → Type 0
Spans [] shortest longest = Unit {0}
Spans (run ∷ runs) shortest longest = IsLeast (lengths (run ∷ runs)) shortest × IsGreatest (lengths (run ∷ runs)) longest

-- the same, with the numbers that are kept before any run. Clauses of private functions cite it.
abbrev pub Keeps : List Run → ℕ → ℕ → Type 0
Keeps [] shortest longest = (2 ^ 64 ≤ shortest + 1) × (longest ≡ 0)
Keeps (run ∷ runs) shortest longest = Spans (run ∷ runs) shortest longest
