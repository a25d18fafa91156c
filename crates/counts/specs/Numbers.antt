-- How often a number stands in a list, and which lists have the numbers that are free.
use Rattle.std.specs.Prelude.{◌≡◌, ℕ, ◌<◌, ◌≤◌, ◌==◌, List, length, count_by}

-- how often a number stands in a list
abbrev pub times : List ℕ → ℕ → ℕ
times numbers n = count_by (λ m. m == n) numbers

-- free numbers of those below a bound: none is there twice, each is below the bound, there is room for all of them, and a number of 32 bits counts them
pub record AreFree (free : List ℕ) (bound room : ℕ) : Type 0 where
  pub once : (n : ℕ) → times free n ≤ 1
  pub none_beyond : (n : ℕ) → bound ≤ n → times free n ≡ 0
  pub within : length free ≤ bound
  pub all_fit : bound ≤ room
  pub countable : bound < 4294967296
