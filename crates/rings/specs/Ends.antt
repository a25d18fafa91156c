-- The node that a link stores as one number. No public clause cites this.
use Rattle.std.specs.Prelude.{ℕ, ◌-◌, nat_lt, if◌then◌else◌}
use Rattle.rings.specs.declared.ring_node.RingNode.{RingNode}
use Rattle.rings.specs.RingNodes.{page_node, head_node}

-- the lower half of the numbers are pages, and the upper half heads
abbrev pub node_by : ℕ → RingNode
node_by n = if nat_lt n 2147483648 then page_node n else head_node (n - 2147483648)
