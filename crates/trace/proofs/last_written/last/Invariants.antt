use Rattle.std.proofs.Common.{◌≡◌, reverse}
use Rattle.machine.specs.History.{last}
use Rattle.machine.specs.FirstBytes.{first_of}
use Rattle.machine.specs.Audit.{before}
use Rattle.trace.specs.Walks.{spot_in}
use Rattle.trace.proofs.last_written.last.Given as goal

abbrev pub invariant-loop-at : goal.invariant-loop-at
invariant-loop-at l =
    let first = first_of (reverse l.trace.entries) in
    last first (before l.trace.entries l.end) (spot_in l.fn.page l.offset) ≡ last first (before l.trace.entries l.at) (spot_in l.page l.offset)
