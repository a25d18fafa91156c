use Rattle.std.proofs.Common.{ℕ, ◌<◌, length, slice_index}
use Rattle.std.specs.List.Sorted.{IsStrictlyIncreasing}
use Rattle.leaves.proofs.walks_tests.CountersMachine.ready.Given as goal

abbrev pub invariant-loop-who : goal.invariant-loop-who
invariant-loop-who l = record {
  rising : IsStrictlyIncreasing l.ready.items;
  below : (k : ℕ) → k < length l.ready.items → slice_index l.ready.items k < l.who;
}
