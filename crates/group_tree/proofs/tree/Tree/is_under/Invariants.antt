use Rattle.std.proofs.Common.{◌≡◌, Some}
use Rattle.machine.specs.Tree.{under_at, rank}
use Rattle.group_tree.specs.Tables.{number}
use Rattle.group_tree.proofs.tree.Tree.is_under.Given as goal

abbrev pub invariant-loop-at : goal.invariant-loop-at
invariant-loop-at l = under_at l.self l.above.0 (number l.at) ≡ under_at l.self l.above.0 (Some l.fn.group.0)

abbrev pub decreases-loop-at : goal.decreases-loop-at
decreases-loop-at l = rank (number l.at)
