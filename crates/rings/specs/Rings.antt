-- What contracts see of the rings: lists of pages, by their numbers.
use Rattle.std.specs.Prelude.{◌≡◌, ◌≢◌, ℕ, ◌<◌, ◌==◌, not, nat_lt, Bool, true, List, [], ◌∷◌, ◌++◌, length, filter, slice_index_or, slice_get, Option, None}
use Rattle.std.specs.List.{list_any, last_or, IsDistinct}
use Rattle.rings.specs.declared.ring_node.RingNode.{RingNode}
use Rattle.rings.specs.declared.ring_node.RingNode.TheVariants.{Page, Head}
use Rattle.rings.specs.declared.ring_node.Link.{Link}
use Rattle.rings.specs.RingNodes.{page_node, head_node}

-- the lists by their numbers, each with its pages in order; how many page numbers there are; and for how many lists more there is memory
pub record RingsOf : Type 0 where
  pub lists : List (List ℕ)
  pub numbers : ℕ
  pub room : ℕ

-- the pages of a list; past the last list there are none
abbrev pub list_at : List (List ℕ) → ℕ → List ℕ
list_at lists l = slice_index_or lists l []

-- the page is in the list
abbrev pub has : List ℕ → ℕ → Bool
has xs p = list_any (λ q. p == q) xs

-- the page is in a list
abbrev pub is_listed : List (List ℕ) → ℕ → Bool
is_listed lists p = list_any (λ xs. has xs p) lists

-- the list without the page
abbrev pub without : ℕ → List ℕ → List ℕ
without p xs = filter (λ q. not (p == q)) xs

-- a page that is in a list, or the head of one
abbrev pub is_there : List (List ℕ) → RingNode → Bool
is_there lists (Page p) = is_listed lists p.0
is_there lists (Head l) = nat_lt l.0 (length lists)

-- no page is in two lists, or twice in one
pub record AreApart (lists : List (List ℕ)) : Type 0 where
  pub one : (p l m : ℕ) → has (list_at lists l) p ≡ true → has (list_at lists m) p ≡ true → l ≡ m
  pub once : (l : ℕ) → IsDistinct (λ p q. p == q) (list_at lists l)

-- what comes first behind the head: the first page, or the head again where there is none
abbrev pub first_node : ℕ → List ℕ → RingNode
first_node l [] = head_node l
first_node l (p ∷ ps) = page_node p

-- the last of the pages, or this node where there are none
abbrev pub last_from : RingNode → List ℕ → RingNode
last_from node [] = node
last_from node (p ∷ ps) = last_from (page_node p) ps

-- what comes last before the head: the last page, or the head again where there is none
abbrev pub last_node : ℕ → List ℕ → RingNode
last_node l ps = last_from (head_node l) ps

-- the page stands in a list, and these are its neighbours there
pub record StandsBetween (lists : List (List ℕ)) (p : ℕ) (link : Link) : Type 0 where
  pub list : ℕ
  pub before : List ℕ
  pub after : List ℕ
  pub stands : list_at lists list ≡ before ++ p ∷ after
  pub prev : link.prev ≡ last_node list before
  pub next : link.next ≡ first_node list after

-- the head stands behind the last page of its list, and before the first
pub record StandsRound (lists : List (List ℕ)) (l : ℕ) (link : Link) : Type 0 where
  pub within : l < length lists
  pub prev : link.prev ≡ last_node l (list_at lists l)
  pub next : link.next ≡ first_node l (list_at lists l)

-- these are the node's neighbours: from a head, `next` gives the list in order and then the head again, and `prev` the same backwards
abbrev pub IsLinkOf : List (List ℕ) → RingNode → Link → Type 0
IsLinkOf lists (Page p) link = StandsBetween lists p.0 link
IsLinkOf lists (Head l) link = StandsRound lists l.0 link

-- wherever the page stands in a list, this is the page next behind it there
abbrev pub IsAfter : List (List ℕ) → ℕ → Option ℕ → Type 0
IsAfter lists p next =
    (l : ℕ) → (before after : List ℕ) → list_at lists l ≡ before ++ p ∷ after → next ≡ slice_get after 0

-- wherever the page stands in a list, this is the page just before it there
abbrev pub IsBefore : List (List ℕ) → ℕ → Option ℕ → Type 0
IsBefore lists p prev =
    (l : ℕ) → (before after : List ℕ) → list_at lists l ≡ before ++ p ∷ after → prev ≡ last_or None before

-- a node that is none of these
abbrev pub IsOther : RingNode → List RingNode → Type 0
IsOther n [] = Unit {0}
IsOther n (m ∷ ms) = (n ≢ m) × IsOther n ms

-- all nodes but these keep their links
abbrev pub KeepsLinksBut : List RingNode → List (List ℕ) → List (List ℕ) → Type 0
KeepsLinksBut nodes old new =
    (n : RingNode) → IsOther n nodes → (link : Link) → IsLinkOf old n link → IsLinkOf new n link
