use Rattle.std.proofs.Common.{◌≡◌, ◌≢◌, ℕ, ◌<◌, ◌≤◌, None}
use Rattle.machine.specs.declared.record.Life.TheVariants.{Live}
use Rattle.machine.specs.Tasks.{SetsTask, group_of_task, mapped_at}
use Rattle.spaces.proofs.Spaces.fork.Given as goal

abbrev pub invariant-loop-at : goal.invariant-loop-at
invariant-loop-at l = record {
  starts : SetsTask l.fn.self.tasks l.fn.child.0 (group_of_task l.fn.self.tasks l.fn.parent.0) Live l.self.tasks;
  below : (v : ℕ) → v < l.at → mapped_at l.self.page_tables l.fn.child.0 v ≡ mapped_at l.fn.self.page_tables l.fn.parent.0 v;
  above : (v : ℕ) → l.at ≤ v → mapped_at l.self.page_tables l.fn.child.0 v ≡ None;
  others : (u v : ℕ) → u ≢ l.fn.child.0 → mapped_at l.self.page_tables u v ≡ mapped_at l.fn.self.page_tables u v;
  numbers : l.self.numbers ≡ l.fn.self.numbers;
  groups : l.self.groups ≡ l.fn.self.groups;
  room : l.self.room ≡ l.fn.self.room;
}
