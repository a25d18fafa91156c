use Rattle.script_faults.proofs.ToldLemmas.{nothing_told}
use Rattle.script_faults.proofs.fault.Fault.report.Goals as goal

pub returns-then-is_silent-clause-start : goal.returns-then-is_silent-clause-start
returns-then-is_silent-clause-start g c = nothing_told c.args.self.now _
