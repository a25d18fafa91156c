use Rattle.std.proofs.Common.{◌≡◌, ◌-◌, ◌≤◌, ◌++◌, length, max, replicate}
use Rattle.scenario_lines.specs.Tasks.{nothing_written}
use Rattle.scenario_lines.proofs.tasks.reserve.Given as goal

-- those that were there, and then one for each turn
abbrev pub invariant-loop : goal.invariant-loop
invariant-loop l = record {
  from : length l.fn.standings.items ≤ l.counter;
  to : l.counter ≤ max l.many (length l.fn.standings.items);
  added : l.standings.items ≡ l.fn.standings.items ++ replicate (l.counter - length l.fn.standings.items) nothing_written;
}
