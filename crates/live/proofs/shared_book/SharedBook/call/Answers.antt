use Rattle.std.proofs.Common.{◌≤◌, vec_capacity, sym, subst}
use Rattle.machine.specs.Call.{Past}
use Rattle.live.proofs.SharedLemmas.{shared-gathers}
use Rattle.live.proofs.shared_book.SharedBook.call.Goals as goal

pub invariant_of-self : goal.invariant_of-self
invariant_of-self g c = (
  shared-gathers g.L.Opened.table g.L.Opened.opening c.self.inside.book c.self.inside.log c.self.invariant.0 c.gather.new.book c.gather.ensures.book,
  c.self.invariant.1,
  subst (λ (p : Past). p.passes ≤ vec_capacity c.self.inside.ended_passes) (sym c.gather.ensures.book.same) c.self.invariant.2,
)
