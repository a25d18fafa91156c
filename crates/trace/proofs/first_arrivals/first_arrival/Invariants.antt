use Rattle.std.proofs.Common.{◌≡◌, None}
use Rattle.machine.specs.FirstBytes.{first_arrival}
use Rattle.machine.specs.Audit.{before}
use Rattle.trace.proofs.first_arrivals.first_arrival.Given as goal

abbrev pub invariant-loop-at : goal.invariant-loop-at
invariant-loop-at l = first_arrival l.file l.page (before l.entries l.at) ≡ None
