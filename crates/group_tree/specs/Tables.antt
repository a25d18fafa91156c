-- The tables that a tree stands in: the groups by number, how many of them are live, and by path the numbers of the live ones.
use Rattle.std.specs.Prelude.{◌≡◌, ℕ, List, map, Option, string_bytes}
use Rattle.std.specs.Option.{option_map}
use Rattle.std.specs.Map.{lookup}
use Rattle.std.specs.Str.{bytes_eq}
use Rattle.std.specs.declared.string.String.{String}
use Rattle.std.specs.declared.alloc.Global.{Global}
use Rattle.machine.specs.declared.id.GroupId.{GroupId}
use Rattle.machine.specs.Tree.{Node, live_groups, find_group}
use Rattle.group_tree.specs.Groups.{IsGroupTree}
use Rattle.group_tree.specs.declared.tree.Group.{Group}

-- a group's number, where there is a group
abbrev pub number : Option GroupId → Option ℕ
number at = option_map (λ g. g.0) at

abbrev pub node_of : Group → Node
node_of group = record { parent = number group.parent; path = string_bytes group.path; live = group.live }

-- the groups that the table by number says
abbrev pub nodes_of : List Group → List Node
nodes_of groups = map node_of groups

-- what the index says of a path
abbrev pub indexed : List (String Global × GroupId) → List ℕ → Option ℕ
indexed index path = number (lookup (λ k. bytes_eq path (string_bytes k)) index)

-- the groups are those of a tree, the count is right, and the index finds what the tree does
pub record AreTables (groups : List Group) (live : ℕ) (index : List (String Global × GroupId)) : Type 0 where
  pub tree : IsGroupTree (nodes_of groups)
  pub counted : live ≡ live_groups (nodes_of groups)
  pub found : (path : List ℕ) → indexed index path ≡ find_group (nodes_of groups) path
