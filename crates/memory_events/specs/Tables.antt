-- What contracts see of the counts of events, and what always holds of the numbers that are kept.
use Rattle.std.specs.Prelude.{◌≡◌, ℕ, ◌<◌, List, length}
use Rattle.machine.specs.declared.record.EventCounts.{EventCounts}
use Rattle.machine.specs.declared.record.Key.{Key}
use Rattle.machine.specs.Tree.{Node}
use Rattle.machine.specs.Counts.{local, total}

-- the groups, and by group how often each key was counted at the group itself. There is memory for so many groups more
pub record EventTable : Type 0 where
  pub tree : List Node
  pub counted : List EventCounts
  pub room : ℕ

-- each group has its numbers of both kinds, and those of the group with all below it are the sums that they stand for
pub record AreSums (tree : List Node) (totals locals : List EventCounts) : Type 0 where
  pub all_totals : length totals ≡ length tree
  pub all_locals : length locals ≡ length tree
  pub sums : (a : ℕ) (k : Key) → a < length tree → local totals a k ≡ total tree locals a k
