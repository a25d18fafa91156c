-- Tables by number: at each number something, or nothing.
use Rattle.std.specs.Prelude.{◌≡◌, ◌≢◌, ℕ, Bool, false, List, slice_index_or, count_by, Option, Some, None}
use Rattle.std.specs.List.{list_any}

module _ {T : Type 0} where
  -- what stands at a number; past the table's end nothing does
  abbrev pub at : List (Option T) → ℕ → Option T
  at slots n = slice_index_or slots n None

  -- what stands at one number becomes this, and all else stays
  pub record Changes (old new : List (Option T)) (n : ℕ) (to : Option T) : Type 0 where
    pub changed : at new n ≡ to
    pub others : (m : ℕ) → m ≢ n → at new m ≡ at old m

  -- a test of what stands somewhere; an empty place passes no test
  abbrev pub there_and : (T → Bool) → Option T → Bool
  there_and test None = false
  there_and test (Some x) = test x

  -- how many pass the test, and whether one does
  abbrev pub count_there : (T → Bool) → List (Option T) → ℕ
  count_there test slots = count_by (there_and test) slots

  abbrev pub any_there : (T → Bool) → List (Option T) → Bool
  any_there test slots = list_any (there_and test) slots
