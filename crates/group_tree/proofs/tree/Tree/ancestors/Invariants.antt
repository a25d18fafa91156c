use Rattle.std.proofs.Common.{◌≡◌, ◌++◌, map, Some}
use Rattle.machine.specs.Tree.{chain, rank}
use Rattle.group_tree.specs.Tables.{number}
use Rattle.group_tree.proofs.tree.Tree.ancestors.Given as goal

abbrev pub invariant-loop-at : goal.invariant-loop-at
invariant-loop-at l = map (λ g. g.0) l.chain.items ++ chain l.self (number l.at) ≡ chain l.self (Some l.fn.group.0)

abbrev pub decreases-loop-at : goal.decreases-loop-at
decreases-loop-at l = rank (number l.at)
