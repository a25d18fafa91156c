use Rattle.std.proofs.Common.{◌≡◌, take}
use Rattle.scenario_lines.proofs.tasks.copy_standings.Given as goal

-- the standings before this one
abbrev pub invariant-loop-standing : goal.invariant-loop-standing
invariant-loop-standing l = l.copies.items ≡ take l.standing-index l.standings
