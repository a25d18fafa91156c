use Rattle.std.proofs.Common.{sym}
use Rattle.block_store.proofs.FaultLemmas.{not_listed, faults_left-after}
use Rattle.block_store.proofs.memory.strikes.Goals as goal

pub returns-in-None-clause-listed : goal.returns-in-None-clause-listed
returns-in-None-clause-listed c = sym (not_listed c.args.faults.now c.args.calls.now c.type_inv.faults c.in-None.ensures)

pub returns-in-Some-clause-left : goal.returns-in-Some-clause-left
returns-in-Some-clause-left c = let next = c.in-Some.ensures in faults_left-after c.args.faults.now c.args.calls.now c.in-Some.call c.contains.result next.1 c.contains.ensures.value
