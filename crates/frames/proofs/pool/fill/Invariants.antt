use Rattle.std.proofs.Common.{◌≡◌, ℕ, ◌<◌, ◌≤◌, length, vec_capacity}
use Rattle.counts.specs.Numbers.{times}
use Rattle.frames.specs.Pool.{numbers_of}
use Rattle.frames.proofs.pool.fill.Given as goal

-- the frames so far: those below the next number, each once
abbrev pub invariant-loop-number : goal.invariant-loop-number
invariant-loop-number l = record {
  once : (n : ℕ) → n < l.number → times (numbers_of l.free.items) n ≡ 1;
  none_beyond : (n : ℕ) → l.number ≤ n → times (numbers_of l.free.items) n ≡ 0;
  all : length (numbers_of l.free.items) ≡ l.number;
  room : l.frames ≤ vec_capacity l.free;
}
