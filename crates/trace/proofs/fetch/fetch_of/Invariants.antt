use Rattle.std.proofs.Common.{◌≡◌}
use Rattle.machine.specs.History.{fetch_of}
use Rattle.machine.specs.Audit.{before}
use Rattle.trace.proofs.fetch.fetch_of.Given as goal

abbrev pub invariant-loop-at : goal.invariant-loop-at
invariant-loop-at l = fetch_of l.ticket.0 (before l.entries l.end) ≡ fetch_of l.ticket.0 (before l.entries l.at)
