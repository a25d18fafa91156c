use Rattle.std.proofs.Common.{◌≡◌, ◌-◌, drop}
use Rattle.expansion.specs.Standings.{standing}
use Rattle.expansion.specs.Together.{total_before, after_lists}
use Rattle.expansion.proofs.together.Member.leave_taken.Given as goal

-- the lists before this place have changed them, and those from there on still do
abbrev pub invariant-loop-place : goal.invariant-loop-place
invariant-loop-place l = record {
  others : l.tasks ≡ standing l.fn.tasks l.tasks.standings;
  left : after_lists (drop l.place l.placed-items) (l.self.taken - total_before l.place l.placed-items) l.tasks.standings ≡ after_lists l.placed-items l.self.taken l.fn.tasks.standings;
}
