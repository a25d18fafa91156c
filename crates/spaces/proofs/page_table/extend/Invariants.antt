use Rattle.std.proofs.Common.{◌≡◌, ◌-◌, ◌≤◌, ◌++◌, None, length, max, replicate, vec_capacity}
use Rattle.spaces.proofs.page_table.extend.Given as goal

abbrev pub invariant-loop-places : goal.invariant-loop-places
invariant-loop-places l = record {
  grown : l.places.items ≡ l.fn.places.items ++ replicate (length l.places.items - length l.fn.places.items) None;
  more : length l.fn.places.items ≤ length l.places.items;
  most : max (length l.places.items) l.count ≡ max (length l.fn.places.items) l.count;
  capacity : vec_capacity l.places ≡ vec_capacity l.fn.places;
}

abbrev pub decreases-loop-places : goal.decreases-loop-places
decreases-loop-places l = l.count - length l.places.items
