use Rattle.std.proofs.Common.{◌≡◌, ◌-◌, ◌≤◌, max}
use Rattle.scenario_lines.specs.declared.burst.Deed.TheVariants as deed
use Rattle.expansion.specs.Standings.{after_entries, standing}
use Rattle.expansion.proofs.together.leave_accesses.Given as goal

-- the entries before this place have changed them
abbrev pub invariant-loop-place : goal.invariant-loop-place
invariant-loop-place l = record {
  from : l.from ≤ l.place;
  to : l.place ≤ max l.from l.end;
  left : l.tasks ≡ standing l.fn.tasks (after_entries (deed.Access l.access) l.from (l.place - l.from) l.fn.tasks.standings);
}
