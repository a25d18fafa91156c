-- The walk over a script's lines, from one to the next. No public clause cites it.
use Rattle.std.specs.Prelude.{◌≡◌, ◌↔◌, ℕ, ◌+◌, true, List, ◌∷◌}
use Rattle.expectations.specs.declared.difference.Difference.{Difference}
use Rattle.expectations.specs.Expected.{expected_in, expectations_from, fit, IsFirstOf}

-- the output is what these lines expect, the first of which has this number, and came from lines of these numbers, each in its place
pub record IsMet (number after last : ℕ) (ls : List (List ℕ)) (output numbers : List ℕ) : Type 0 where
  pub bytes : output ≡ expected_in ls
  pub places : fit (expectations_from number after last ls) numbers ≡ true

-- the walk goes on behind this line: the lines from it on are met exactly where those behind it are by what is left, and the first difference is the same
pub record Passes (number after last : ℕ) (l output numbers : List ℕ) (after' last' : ℕ) (output' numbers' : List ℕ) : Type 0 where
  pub met : (ls : List (List ℕ)) → IsMet number after last (l ∷ ls) output numbers ↔ IsMet (number + 1) after' last' ls output' numbers'
  pub told : (ls : List (List ℕ)) (told : Difference) → IsFirstOf (expectations_from (number + 1) after' last' ls) output' numbers' told →
      IsFirstOf (expectations_from number after last (l ∷ ls)) output numbers told

-- it ends at this line, whatever follows: the line is not met, and this is the first difference
pub record Stops (number after last : ℕ) (l output numbers : List ℕ) (told : Difference) : Type 0 where
  pub unmet : (ls : List (List ℕ)) → IsMet number after last (l ∷ ls) output numbers → ⊥
  pub first : (ls : List (List ℕ)) → IsFirstOf (expectations_from number after last (l ∷ ls)) output numbers told
