-- Which group hangs below which, without their paths.
use Rattle.std.specs.Prelude.{◌≡◌, ℕ, ◌<◌, true, List, [], length, map, Option, Some}
use Rattle.std.specs.Option.{option_map}
use Rattle.machine.specs.Tree.{Node, node_at, is_live, under, IsTree}
use Rattle.group_tree.specs.declared.lineage.Group.{Group}

-- the groups by number, and for how many more there is memory. A group's path is nobody's concern here, and is empty
pub record Kin : Type 0 where
  pub tree : List Node
  pub room : ℕ

-- a group without a path
abbrev pub bare : Option ℕ → Node
bare parent = record { parent = parent; path = []; live = true }

abbrev pub node_of : Group → Node
node_of group = record { parent = option_map (λ g. g.0) group.parent; path = []; live = group.live }

abbrev pub nodes_of : List Group → List Node
nodes_of groups = map node_of groups

-- what always holds of them
pub record IsLineage (tree : List Node) : Type 0 where
  -- each group was made after the one that it hangs below
  pub earlier_parents : IsTree tree
  -- the first group is live, and each group is at or below it
  pub root_first : is_live tree 0 ≡ true
  pub rooted : (g : ℕ) → g < length tree → under tree 0 g ≡ true
  -- what a live group hangs below is live
  pub parents_live : (g p : ℕ) → is_live tree g ≡ true → (node_at tree g).parent ≡ Some p → is_live tree p ≡ true
