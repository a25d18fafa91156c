use Rattle.expansion.specs.Merge.{NextOf}
use Rattle.expansion.proofs.merge.next_member.Given as goal

abbrev pub invariant-loop-place : goal.invariant-loop-place
invariant-loop-place l = NextOf l.members l.place l.first
