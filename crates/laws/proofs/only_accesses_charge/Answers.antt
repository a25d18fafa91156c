use Rattle.laws.proofs.RiseLemmas.{only_accesses_charge}
use Rattle.laws.proofs.only_accesses_charge.Goals as goal

pub returns : goal.returns
returns c = only_accesses_charge
