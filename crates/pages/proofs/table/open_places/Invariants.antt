use Rattle.std.proofs.Common.{◌≡◌, ◌≤◌, ℕ, None, vec_len, vec_capacity}
use Rattle.machine.specs.Slots.{at}
use Rattle.pages.proofs.table.open_places.Given as goal

abbrev pub invariant-loop : goal.invariant-loop
invariant-loop l = record {
  len : vec_len l.places ≡ l.counter;
  room : l.fn.many ≤ vec_capacity l.places;
  empty : (n : ℕ) → at l.places.items n ≡ None;
}
