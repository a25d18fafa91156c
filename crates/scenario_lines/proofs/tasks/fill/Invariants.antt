use Rattle.std.proofs.Common.{◌≡◌, ◌-◌, ◌≤◌, ◌++◌, length, max, replicate}
use Rattle.scenario_lines.proofs.tasks.fill.Given as goal

-- those that were there, and then one for each turn
abbrev pub invariant-loop : goal.invariant-loop
invariant-loop l = record {
  from : length l.fn.places.items ≤ l.counter;
  to : l.counter ≤ max l.many (length l.fn.places.items);
  added : l.places.items ≡ l.fn.places.items ++ replicate (l.counter - length l.fn.places.items) 0;
}
