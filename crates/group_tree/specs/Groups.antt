-- What holds of every tree of groups (admin-guide/cgroup-v2, "Organizing Processes").
use Rattle.std.specs.Prelude.{◌≡◌, ℕ, ◌<◌, ◌≤◌, true, List, length, Some}
use Rattle.machine.specs.Tree.{Node, root, node_at, is_live, chain, live_groups, find_group, IsTree}

pub record IsGroupTree (tree : List Node) : Type 0 where
  -- each group was made after the one that it hangs below
  pub earlier_parents : IsTree tree
  -- the first group is the root
  pub root_first : (0 < length tree) × (node_at tree 0 ≡ root)
  -- what a live group hangs below is live
  pub parents_live : (g p : ℕ) → is_live tree g ≡ true → (node_at tree g).parent ≡ Some p → is_live tree p ≡ true
  -- a live group is found by its path, so no two live groups have one path
  pub own_paths : (g : ℕ) → is_live tree g ≡ true → find_group tree (node_at tree g).path ≡ Some g
  -- from a group up to the root there are at most 17 groups
  pub levels : (g : ℕ) → length (chain tree (Some g)) ≤ 17
  -- at most 256 groups are live
  pub few : live_groups tree ≤ 256
  -- the number that the next group would have is a u32
  pub numbers : length tree ≤ 4294967295
