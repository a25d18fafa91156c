-- Which lists the links stand for. No public clause cites this.
use Rattle.std.specs.Prelude.{◌≡◌, ℕ, ◌<◌, zero, suc, true, List, [], ◌∷◌, ◌++◌, map, length, Option, Some, None, is_some}
use Rattle.rings.specs.declared.ring_node.RingNode.{RingNode}
use Rattle.rings.specs.declared.ring_node.RingNode.TheVariants.{Page, Head}
use Rattle.rings.specs.declared.links.Links.{Links}
use Rattle.rings.specs.RingNodes.{page_node, head_node}
use Rattle.rings.specs.Rings.{list_at, has, first_node, last_node}
use Rattle.rings.specs.Links.{link_at, next_of, IsJoined}

-- from the first node through these pages to the second, each joined with the next
abbrev pub IsChain : Links → RingNode → List ℕ → RingNode → Type 0
IsChain links a [] b = IsJoined links a b
IsChain links a (p ∷ ps) b = IsJoined links a (page_node p) × IsChain links (page_node p) ps b

-- numbers of 31 bits count both tables
pub record AreCountable (links : Links) : Type 0 where
  pub pages : length links.pages.items < 2147483648
  pub heads : length links.heads.items < 2147483648

-- the links stand for these lists
pub record IsRings (links : Links) (lists : List (List ℕ)) : Type 0 where
  pub countable : AreCountable links
  pub count : length lists ≡ length links.heads.items
  -- from each head round to itself go the pages of its list
  pub rings : (l : ℕ) → l < length lists → IsChain links (head_node l) (list_at lists l) (head_node l)
  -- a page with a link is in a list
  pub listed : (p : ℕ) → is_some (link_at links (page_node p)) ≡ true → (l : ℕ) × (has (list_at lists l) p ≡ true)

-- these are neighbours in a list, which parts between them
pub record IsGap (lists : List (List ℕ)) (l : ℕ) (a b : RingNode) : Type 0 where
  pub front : List ℕ
  pub rest : List ℕ
  pub whole : list_at lists l ≡ front ++ rest
  pub prev : a ≡ last_node l front
  pub next : b ≡ first_node l rest

-- the pages from a node on, up to a head, and no more than so many
abbrev pub pages_from : Links → ℕ → Option RingNode → List ℕ
pages_from links zero _ = []
pages_from links (suc n) None = []
pages_from links (suc n) (Some (Head l)) = []
pages_from links (suc n) (Some (Page p)) = p.0 ∷ pages_from links n (next_of links (Page p))

-- the lists that are found by walking round from each head
unfoldable pub lists_of : Links → List (List ℕ)
lists_of links = map (λ link. pages_from links (length links.pages.items) (Some link.next)) links.heads.items
