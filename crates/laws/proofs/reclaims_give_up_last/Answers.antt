use Rattle.laws.proofs.ReclaimLemmas.{reclaims_give_up_last}
use Rattle.laws.proofs.reclaims_give_up_last.Goals as goal

pub returns : goal.returns
returns c = reclaims_give_up_last
