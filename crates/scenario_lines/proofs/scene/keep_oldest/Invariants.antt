use Rattle.std.proofs.Common.{◌≡◌, ◌-◌, ◌≤◌, drop, length, max}
use Rattle.scenario_lines.proofs.scene.keep_oldest.Given as goal

-- each turn has removed the newest
abbrev pub invariant-loop : goal.invariant-loop
invariant-loop l = record {
  end : l.end ≡ length l.fn.values.items;
  from : l.many ≤ l.counter;
  to : l.counter ≤ max l.many l.end;
  left : l.values.items ≡ drop (l.counter - l.many) l.fn.values.items;
}
