use Rattle.laws.proofs.ReclaimLemmas.{reclaims_spare_the_protected}
use Rattle.laws.proofs.reclaims_spare_the_protected.Goals as goal

pub returns : goal.returns
returns c = reclaims_spare_the_protected
