-- The groups of one part, which has no paths, and those of the tree.
use Rattle.std.specs.Prelude.{◌≡◌, ℕ, List, length}
use Rattle.machine.specs.Tree.{Node, node_at, is_live}

-- the groups without their paths are these groups
pub record AreKin (kin tree : List Node) : Type 0 where
  pub len : length kin ≡ length tree
  pub parents : (g : ℕ) → (node_at kin g).parent ≡ (node_at tree g).parent
  pub living : (g : ℕ) → is_live kin g ≡ is_live tree g
