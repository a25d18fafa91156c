use Rattle.std.proofs.Common.{◌≡◌, ◌≤◌, None, replicate, vec_capacity}
use Rattle.rings.proofs.table.no_links.Given as goal

-- so many places so far
abbrev pub invariant-loop : goal.invariant-loop
invariant-loop l = record {
  none : l.links.items ≡ replicate l.counter None;
  room : l.fn.numbers ≤ vec_capacity l.links;
}
