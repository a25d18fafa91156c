use Rattle.script_faults.proofs.ToldLemmas.{nothing-behind}
use Rattle.script_faults.proofs.fault.tell_line.Goals as goal

pub returns-in_err-write-clause-start : goal.returns-in_err-write-clause-start
returns-in_err-write-clause-start g c = nothing-behind _ _ _

pub returns-in_err-write_all-clause-start : goal.returns-in_err-write_all-clause-start
returns-in_err-write_all-clause-start g c = nothing-behind _ _ _

pub returns-in_err-write_all-2-clause-start : goal.returns-in_err-write_all-2-clause-start
returns-in_err-write_all-2-clause-start g c = nothing-behind _ _ _

pub returns-in_err-write_all-3-clause-start : goal.returns-in_err-write_all-3-clause-start
returns-in_err-write_all-3-clause-start g c = nothing-behind _ _ _
