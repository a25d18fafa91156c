-- The tree of groups (admin-guide/cgroup-v2, "Organizing Processes"). A group's number is its place in the list, in order of making; its parent's is smaller.
use Rattle.std.specs.Prelude.{◌≡◌, ℕ, zero, suc, ◌+◌, ◌<◌, ◌≤◌, ◌==◌, ◌&&◌, not, Bool, true, false, if◌then◌else◌, List, [], ◌∷◌, length, map, filter, count_by, flat_map, position, Option, Some, None, slice_index_or, slice_set, take_while}
use Rattle.std.specs.List.{list_any, enumerate_from}
use Rattle.std.specs.Str.{bytes_eq}

-- a group: what it hangs below, the path that it was made with, and whether it still is. A removed group stays in the list, so that its parent stays known
pub record Node : Type 0 where
  pub parent : Option ℕ
  pub path : List ℕ
  pub live : Bool

-- the group that all others hang below
abbrev pub root : Node
root = record { parent = None; path = 47 ∷ []; live = true }

-- what stands for a number that is no group's: it is not live, and hangs below nothing. Whoever asks about such a number asks is_live first
abbrev pub no_node : Node
no_node = record { parent = None; path = []; live = false }

abbrev pub node_at : List Node → ℕ → Node
node_at tree g = slice_index_or tree g no_node

abbrev pub is_live : List Node → ℕ → Bool
is_live tree g = (node_at tree g).live

-- each group that hangs below another hangs below an earlier one, so that every walk up ends. (That there is one root is no part of this: it follows from how groups are made)
pub record IsTree (tree : List Node) : Type 0 where
  pub falls : (g p : ℕ) → (node_at tree g).parent ≡ Some p → p < g

-- the group is removed: it is live no more, and stays in the list. (Excludes a removal that gives its number to a later group, or hangs what was counted below it elsewhere.)
abbrev pub without_group : List Node → ℕ → List Node
without_group tree g = slice_set tree g (record (node_at tree g) { live = false })

-- from a group up, in at most so many steps
unfoldable pub chain_up : ℕ → List Node → Option ℕ → List ℕ
chain_up zero tree at = []
chain_up (suc n) tree None = []
chain_up (suc n) tree (Some g) = g ∷ chain_up n tree (node_at tree g).parent

-- the group, its parent, and so on up to the root (kernel: parent_mem_cgroup)
unfoldable pub chain : List Node → Option ℕ → List ℕ
chain tree None = []
chain tree (Some g) = chain_up (suc g) tree (Some g)

-- a is the group or above it
unfoldable pub under_at : List Node → ℕ → Option ℕ → Bool
under_at tree a at = list_any (λ g. a == g) (chain tree at)

abbrev pub under : List Node → ℕ → ℕ → Bool
under tree a g = under_at tree a (Some g)

-- what one page of the group adds to the count of a: 1 or 0
unfoldable pub share : List Node → ℕ → Option ℕ → ℕ
share tree a at = if under_at tree a at then 1 else 0

-- from the group up to the target's child: the chain below the target
unfoldable pub chain_below : List Node → ℕ → ℕ → List ℕ
chain_below tree target g = take_while (λ a. not (a == target)) (chain tree (Some g))

-- the numbers of all groups, in order of making
abbrev pub numbers : List Node → List ℕ
numbers tree = map (λ e. e.0) (enumerate_from 0 tree)

abbrev pub is_parent : Option ℕ → ℕ → Bool
is_parent None p = false
is_parent (Some q) p = q == p

-- a live group that hangs below p
abbrev pub is_child : ℕ → Node → Bool
is_child p node = node.live && is_parent node.parent p

-- the live children of a group, in order of making
abbrev pub children : List Node → ℕ → List ℕ
children tree p = filter (λ g. is_child p (node_at tree g)) (numbers tree)

abbrev pub has_children : List Node → ℕ → Bool
has_children tree p = list_any (is_child p) tree

abbrev pub live_groups : List Node → ℕ
live_groups tree = count_by (λ node. node.live) tree

abbrev pub is_at_path : List ℕ → Node → Bool
is_at_path path node = node.live && bytes_eq node.path path

-- the live group of a path. A path of a removed group stands for none, or for a later group of that path
abbrev pub find_group : List Node → List ℕ → Option ℕ
find_group tree path = position (is_at_path path) tree

-- the group, then its children's subtrees in order of making, down to a depth
unfoldable pub preorder_to : ℕ → List Node → ℕ → List ℕ
preorder_to zero tree g = []
preorder_to (suc depth) tree g = g ∷ flat_map (preorder_to depth tree) (children tree g)

-- the live groups at or below a live group, each before those below it (kernel: mem_cgroup_iter). No tree is deeper than it has groups
abbrev pub preorder : List Node → ℕ → List ℕ
preorder tree g = preorder_to (length tree) tree g

-- the number, if there is one, is below n
abbrev pub IsBelow : Option ℕ → ℕ → Type 0
IsBelow None n = Unit {0}
IsBelow (Some g) n = g < n

-- one more than the number, and 0 where there is none: what falls from a group to its parent
abbrev pub rank : Option ℕ → ℕ
rank None = 0
rank (Some g) = g + 1

-- each group that is over `low` is over `high` too: `low` is an ancestor, or nothing
abbrev pub IsAbove : List Node → Option ℕ → Option ℕ → Type 0
IsAbove tree low high = (a : ℕ) → share tree a low ≤ share tree a high
