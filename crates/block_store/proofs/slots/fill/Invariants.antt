use Rattle.std.proofs.Common.{◌≡◌, ℕ, ◌<◌, ◌≤◌, length, vec_capacity}
use Rattle.counts.specs.Numbers.{times}
use Rattle.block_store.proofs.slots.fill.Given as goal

-- the blocks so far: those below the next number, each once
abbrev pub invariant-loop-block : goal.invariant-loop-block
invariant-loop-block l = record {
  once : (n : ℕ) → n < l.block → times l.free.items n ≡ 1;
  none_beyond : (n : ℕ) → l.block ≤ n → times l.free.items n ≡ 0;
  all : length l.free.items ≡ l.block;
  room : l.blocks ≤ vec_capacity l.free;
}
