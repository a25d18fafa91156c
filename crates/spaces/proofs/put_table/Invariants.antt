use Rattle.std.proofs.Common.{◌≡◌, ℕ, ◌+◌, ◌-◌, max, vec_len, vec_capacity}
use Rattle.machine.specs.Tasks.{table_of}
use Rattle.spaces.proofs.put_table.Given as goal

abbrev pub invariant-loop-alloc : goal.invariant-loop-alloc
invariant-loop-alloc l = record {
  same : (t : ℕ) → table_of l.tables.items t ≡ table_of l.fn.tables.items t;
  most : max (vec_len l.tables) (l.index + 1) ≡ max (vec_len l.fn.tables) (l.index + 1);
  capacity : vec_capacity l.tables ≡ vec_capacity l.fn.tables;
}

abbrev pub decreases-loop-alloc : goal.decreases-loop-alloc
decreases-loop-alloc l = l.index + 1 - vec_len l.tables
