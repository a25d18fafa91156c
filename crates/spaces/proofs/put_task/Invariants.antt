use Rattle.std.proofs.Common.{◌≡◌, ℕ, ◌+◌, ◌-◌, max, vec_len, vec_capacity}
use Rattle.machine.specs.Slots.{at}
use Rattle.spaces.proofs.put_task.Given as goal

abbrev pub invariant-loop-tasks : goal.invariant-loop-tasks
invariant-loop-tasks l = record {
  same : (t : ℕ) → at l.tasks.items t ≡ at l.fn.tasks.items t;
  most : max (vec_len l.tasks) (l.index + 1) ≡ max (vec_len l.fn.tasks) (l.index + 1);
  capacity : vec_capacity l.tasks ≡ vec_capacity l.fn.tasks;
}

abbrev pub decreases-loop-tasks : goal.decreases-loop-tasks
decreases-loop-tasks l = l.index + 1 - vec_len l.tasks
