use Rattle.std.proofs.Common.{◌≡◌, ◌+◌, ◌++◌, [], replicate}
use Rattle.rings.proofs.table.Rings.add.Given as goal

abbrev pub invariant-loop-added : goal.invariant-loop-added
invariant-loop-added l = record {
  lists : l.self.lists ≡ l.initial.self.lists ++ replicate l.added [];
  numbers : l.self.numbers ≡ l.initial.self.numbers;
  room : l.self.room + l.added ≡ l.initial.self.room;
}
