use Rattle.std.specs.Prelude.{length}
use Rattle.page_state.specs.Owned.{pages_of, AreKept}
use Rattle.page_state.proofs.parts.Parts.close.Given as goal

abbrev pub invariant-loop : goal.invariant-loop
invariant-loop l = AreKept l.counters l.pool l.slots (pages_of l.owned.items)

abbrev pub decreases-loop : goal.decreases-loop
decreases-loop l = length l.owned.items
