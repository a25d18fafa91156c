-- What stands in a ring, by its number.
use Rattle.std.specs.Prelude.{ℕ, ◌<◌, Option, Some, None}
use Rattle.rings.specs.declared.ring_node.RingNode.{RingNode}
use Rattle.rings.specs.declared.ring_node.RingNode.TheVariants.{Page, Head}

-- the neighbours of a node in its ring, which its link names
pub record LinkOf : Type 0 where
  pub prev : RingNode
  pub next : RingNode

abbrev pub page_node : ℕ → RingNode
page_node p = Page (record { 0 = p })

abbrev pub head_node : ℕ → RingNode
head_node l = Head (record { 0 = l })

-- the number of a page; a head has none
abbrev pub page_of : RingNode → Option ℕ
page_of (Page p) = Some p.0
page_of (Head l) = None

-- a node that a link can name: its number has 31 bits
abbrev pub IsCounted : RingNode → Type 0
IsCounted (Page p) = p.0 < 2147483648
IsCounted (Head l) = l.0 < 2147483648
