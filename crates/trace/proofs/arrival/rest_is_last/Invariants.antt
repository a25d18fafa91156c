use Rattle.std.proofs.Common.{ℕ, reverse}
use Rattle.machine.specs.History.{last}
use Rattle.machine.specs.FirstBytes.{first_of}
use Rattle.machine.specs.Audit.{before}
use Rattle.trace.specs.Walks.{spot_in}
use Rattle.trace.specs.Settled.{IsSettled}
use Rattle.trace.proofs.arrival.rest_is_last.Given as goal

abbrev pub invariant-loop-at : goal.invariant-loop-at
invariant-loop-at l =
    let first = first_of (reverse l.trace.entries) in
    (written : ℕ → ℕ) → IsSettled l.bytes l.fn.settled written (λ o. last first (before l.trace.entries l.end) (spot_in l.fn.page o)) → IsSettled l.bytes l.settled written (λ o. last first (before l.trace.entries l.at) (spot_in l.page o))
