-- The live groups in the order of a walk from the root, and which part of it is a group's. No public clause cites this.
use Rattle.std.specs.Prelude.{◌≡◌, ℕ, ◌<◌, true, List, length, map, slice_index, Option, Some, None, vec_len, vec_capacity}
use Rattle.machine.specs.declared.id.GroupId.{GroupId}
use Rattle.machine.specs.Tree.{Node, is_live, under, live_groups, preorder}
use Rattle.group_tree.specs.declared.walk.Walk.{Walk}

abbrev pub numbers_of : List GroupId → List ℕ
numbers_of groups = map (λ g. g.0) groups

-- the group, if there is one, is live
abbrev pub IsLiveAt : List Node → Option ℕ → Type 0
IsLiveAt tree None = Unit {0}
IsLiveAt tree (Some g) = is_live tree g ≡ true

-- no number stands twice in a list: a number tells its place
abbrev pub IsOnceEach : List ℕ → Type 0
IsOnceEach walk = (place : ℕ → ℕ) × ((i : ℕ) → i < length walk → place (slice_index walk i) ≡ i)

-- the first n of a walk stand where the places say
abbrev pub ArePlaced : List ℕ → List ℕ → ℕ → Type 0
ArePlaced walk places n = (i : ℕ) → i < n → slice_index places (slice_index walk i) ≡ i

-- this is the walk from the root over all live groups, with the place of each in it, and how many are at and below each
pub record IsWalk (tree : List Node) (walk places spans : List ℕ) : Type 0 where
  -- each live group is at or below the root
  pub rooted : (g : ℕ) → is_live tree g ≡ true → under tree 0 g ≡ true
  pub walked : walk ≡ preorder tree 0
  pub placed : ArePlaced walk places (length walk)
  pub spanned : (g : ℕ) → is_live tree g ≡ true → slice_index spans g ≡ length (preorder tree g)
  -- it has as many groups as are live
  pub counted : length walk ≡ live_groups tree
  pub places_len : length places ≡ length tree
  pub spans_len : length spans ≡ length tree

abbrev pub IsWalkOf : List Node → Walk → Type 0
IsWalkOf tree walk = IsWalk tree (numbers_of walk.order.items) walk.places.items walk.spans.items

-- there is memory for one group more
pub record HasRoom (walk : Walk) : Type 0 where
  pub order : vec_len walk.order < vec_capacity walk.order
  pub places : vec_len walk.places < vec_capacity walk.places
  pub spans : vec_len walk.spans < vec_capacity walk.spans
