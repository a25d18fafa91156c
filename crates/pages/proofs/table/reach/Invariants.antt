use Rattle.std.proofs.Common.{◌≡◌, ℕ, ◌+◌, ◌-◌, vec_len, vec_capacity}
use Rattle.machine.specs.Slots.{at}
use Rattle.pages.proofs.table.reach.Given as goal

abbrev pub invariant-loop-slots : goal.invariant-loop-slots
invariant-loop-slots l = record {
  same : (n : ℕ) → at l.slots.items n ≡ at l.fn.slots.items n;
  capacity : vec_capacity l.slots ≡ vec_capacity l.fn.slots;
}

abbrev pub decreases-loop-slots : goal.decreases-loop-slots
decreases-loop-slots l = l.number + 1 - vec_len l.slots
