use Rattle.std.proofs.Common.{reverse}
use Rattle.machine.specs.FirstBytes.{first_of}
use Rattle.machine.specs.Audit.{before, Passes}
use Rattle.trace.proofs.auditing.first_wrong.Given as goal

abbrev pub invariant-loop-at : goal.invariant-loop-at
invariant-loop-at l = Passes (first_of (reverse l.trace.entries)) (before l.trace.entries l.at)
