-- What the two tables of links say, and how each change of theirs changes it. No public clause cites this.
use Rattle.std.specs.Prelude.{◌≡◌, ◌≢◌, length, slice_get, slice_index_or, Option, Some, None, is_some, option_map, vec_capacity}
use Rattle.rings.specs.declared.ring_node.RingNode.{RingNode}
use Rattle.rings.specs.declared.ring_node.RingNode.TheVariants.{Page, Head}
use Rattle.rings.specs.declared.ring_node.Link.{Link}
use Rattle.rings.specs.declared.links.Links.{Links}

-- the link of a node: a page that is in no list has none, and neither has a node past the ends of the tables
abbrev pub link_at : Links → RingNode → Option Link
link_at links (Page p) = slice_index_or links.pages.items p.0 None
link_at links (Head l) = slice_get links.heads.items l.0

abbrev pub next_of : Links → RingNode → Option RingNode
next_of links node = option_map (λ link. link.next) (link_at links node)

abbrev pub prev_of : Links → RingNode → Option RingNode
prev_of links node = option_map (λ link. link.prev) (link_at links node)

-- the second node comes behind the first, and both know it
pub record IsJoined (links : Links) (a b : RingNode) : Type 0 where
  pub next : next_of links a ≡ Some b
  pub prev : prev_of links b ≡ Some a

-- the tables are as long as before, with the same memory for more lists
pub record SameSize (old new : Links) : Type 0 where
  pub pages : length new.pages.items ≡ length old.pages.items
  pub heads : length new.heads.items ≡ length old.heads.items
  pub room : vec_capacity new.heads ≡ vec_capacity old.heads

-- one node's link becomes this, and all others stay
pub record WritesLink (old new : Links) (node : RingNode) (to : Option Link) : Type 0 where
  pub changed : link_at new node ≡ to
  pub others : (n : RingNode) → n ≢ node → link_at new n ≡ link_at old n
  pub size : SameSize old new

-- the node's successor becomes this one, and no other successor or predecessor changes
pub record SetsNext (old new : Links) (node to : RingNode) : Type 0 where
  pub changed : next_of new node ≡ Some to
  pub nexts : (n : RingNode) → n ≢ node → next_of new n ≡ next_of old n
  pub prevs : (n : RingNode) → prev_of new n ≡ prev_of old n
  pub others : (n : RingNode) → n ≢ node → link_at new n ≡ link_at old n
  pub there : (n : RingNode) → is_some (link_at new n) ≡ is_some (link_at old n)
  pub size : SameSize old new

-- the node's predecessor becomes this one, and no other predecessor or successor changes
pub record SetsPrev (old new : Links) (node to : RingNode) : Type 0 where
  pub changed : prev_of new node ≡ Some to
  pub prevs : (n : RingNode) → n ≢ node → prev_of new n ≡ prev_of old n
  pub nexts : (n : RingNode) → next_of new n ≡ next_of old n
  pub others : (n : RingNode) → n ≢ node → link_at new n ≡ link_at old n
  pub there : (n : RingNode) → is_some (link_at new n) ≡ is_some (link_at old n)
  pub size : SameSize old new

-- the second node comes behind the first from now on, and no other successor or predecessor changes
pub record Joins (old new : Links) (a b : RingNode) : Type 0 where
  pub next : next_of new a ≡ Some b
  pub prev : prev_of new b ≡ Some a
  pub nexts : (n : RingNode) → n ≢ a → next_of new n ≡ next_of old n
  pub prevs : (n : RingNode) → n ≢ b → prev_of new n ≡ prev_of old n
  pub others : (n : RingNode) → n ≢ a → n ≢ b → link_at new n ≡ link_at old n
  pub there : (n : RingNode) → is_some (link_at new n) ≡ is_some (link_at old n)
  pub size : SameSize old new

-- a page that had no link comes in front of the node, and no other two are parted
pub record Adds (old new : Links) (page node : RingNode) : Type 0 where
  pub behind : (a : RingNode) → IsJoined old a node → IsJoined new a page
  pub before : IsJoined new page node
  pub others : (a b : RingNode) → IsJoined old a b → b ≢ node → IsJoined new a b
  pub few : (n : RingNode) → n ≢ page → n ≢ node → (IsJoined old n node → ⊥) → link_at new n ≡ link_at old n
  pub there : (n : RingNode) → n ≢ page → is_some (link_at new n) ≡ is_some (link_at old n)
  pub size : SameSize old new

-- the page's neighbours come together and it has no link any more, and no other two are parted
pub record Removes (old new : Links) (page : RingNode) : Type 0 where
  pub around : (a b : RingNode) → IsJoined old a page → IsJoined old page b → IsJoined new a b
  pub gone : link_at new page ≡ None
  pub others : (a b : RingNode) → IsJoined old a b → a ≢ page → b ≢ page → IsJoined new a b
  pub few : (n : RingNode) → n ≢ page → (IsJoined old n page → ⊥) → (IsJoined old page n → ⊥) → link_at new n ≡ link_at old n
  pub there : (n : RingNode) → n ≢ page → is_some (link_at new n) ≡ is_some (link_at old n)
  pub size : SameSize old new

-- all that is in one ring comes between two nodes that were joined, and no other two are parted
pub record Splices (old new : Links) (source before after : RingNode) : Type 0 where
  pub front : (a b : RingNode) → IsJoined old a after → IsJoined old source b → IsJoined new a b
  pub back : (a b : RingNode) → IsJoined old a source → IsJoined old before b → IsJoined new a b
  pub emptied : IsJoined new source source
  pub others : (a b : RingNode) → IsJoined old a b → a ≢ source → b ≢ source → a ≢ before → IsJoined new a b
  pub few : (n : RingNode) → n ≢ source → n ≢ before → n ≢ after → (IsJoined old n source → ⊥) → (IsJoined old source n → ⊥) → link_at new n ≡ link_at old n
  pub there : (n : RingNode) → is_some (link_at new n) ≡ is_some (link_at old n)
  pub size : SameSize old new
