use Rattle.std.proofs.Common.{◌≡◌, reverse}
use Rattle.machine.specs.History.{last}
use Rattle.machine.specs.Audit.{before}
use Rattle.machine.specs.FirstBytes.{first_of}
use Rattle.trace.specs.Walks.{spot_in}
use Rattle.trace.specs.Links.{IsStand}
use Rattle.trace.proofs.last_written.linked_last.Given as goal

abbrev pub invariant-walk : goal.invariant-walk
invariant-walk l =
    let first = first_of (reverse l.trace.entries) in
    (last first (before l.trace.entries l.fn.stand.at) (spot_in l.fn.stand.page l.offset) ≡ last first (before l.trace.entries l.stand.at) (spot_in l.stand.page l.offset)) × IsStand l.trace.entries l.stand

abbrev pub decreases-walk : goal.decreases-walk
decreases-walk l = l.stand.at
