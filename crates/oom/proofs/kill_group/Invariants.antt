use Rattle.std.proofs.Common.{Some}
use Rattle.machine.specs.Tree.{rank}
use Rattle.machine.specs.Victim.{kill_group}
use Rattle.group_tree.specs.Tables.{number}
use Rattle.oom.specs.Climb.{Climbs}
use Rattle.oom.proofs.kill_group.Given as goal

abbrev pub invariant-loop-at : goal.invariant-loop-at
invariant-loop-at l = Climbs l.tree l.flags.flags l.limit.0 (number l.at) (number l.highest) (kill_group l.tree l.flags.flags l.limit.0 l.fn.group.0)

abbrev pub decreases-loop-at : goal.decreases-loop-at
decreases-loop-at l = rank (number l.at)
