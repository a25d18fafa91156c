use Rattle.std.specs.Prelude.{reverse}
use Rattle.legal.proofs.TransferLemmas.{legal-transfers}
use Rattle.legal.proofs.FirstBytesLemmas.{honest-first}
use Rattle.machine.specs.FirstBytes.{files_of}
use Rattle.book.proofs.book.Book.history_is_right.Goals as goal

pub returns-clause-right : goal.returns-clause-right
returns-clause-right c = rw (← c.self.view_is) c.self.invariant.told.right

pub returns-clause-transfers : goal.returns-clause-transfers
returns-clause-transfers c = rw (← c.self.view_is) (legal-transfers c.self.inside.state.tables.opening (reverse c.self.inside.trace.entries) c.self.inside.state.tables c.self.invariant.told.legal)

pub returns-clause-passes : goal.returns-clause-passes
returns-clause-passes c =
    let history = reverse c.self.inside.trace.entries in
    rw (← c.self.view_is)
    (λ files honest.
    let first = honest-first c.self.inside.state.tables.opening history c.self.inside.state.tables c.self.invariant.told.legal files honest in
    (first, c.self.invariant.told.right (files_of history) first))

pub returns-clause-framed : goal.returns-clause-framed
returns-clause-framed c = rw (← c.self.view_is) c.is_joined.ensures.framed
