-- What contracts see of the swap slots.
use Rattle.std.specs.Prelude.{ℕ, List}

-- the numbers of the free swap blocks, and how many swap blocks there are
pub record SlotsOf : Type 0 where
  pub free : List ℕ
  pub blocks : ℕ
