use Rattle.std.proofs.Common.{◌≡◌, ◌≤◌, length, vec_capacity}
use Rattle.frames.proofs.pool.fill_spares.Given as goal

-- so many spares so far
abbrev pub invariant-loop-number : goal.invariant-loop-number
invariant-loop-number l = record {
  all : length l.spares.items ≡ l._number;
  room : l.count ≤ vec_capacity l.spares;
}
