use Rattle.std.proofs.Common.{◌≡◌, drop}
use Rattle.expansion.specs.Standings.{standing}
use Rattle.expansion.specs.Together.{after_members}
use Rattle.expansion.proofs.together.Together.leave_taken.Given as goal

-- the members before this one have changed them, and those from there on still do
abbrev pub invariant-loop-member : goal.invariant-loop-member
invariant-loop-member l = record {
  others : l.tasks ≡ standing l.fn.tasks l.tasks.standings;
  left : after_members (drop l.member-index l.self.members) l.tasks.standings ≡ after_members l.self.members l.fn.tasks.standings;
}
