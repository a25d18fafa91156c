use Rattle.laws.proofs.ShareLemmas.{moves_take_no_charge}
use Rattle.laws.proofs.moves_take_no_charge.Goals as goal

pub returns : goal.returns
returns c = moves_take_no_charge
