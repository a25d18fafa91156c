use Rattle.laws.proofs.ReclaimLemmas.{reclaims_kill_nobody}
use Rattle.laws.proofs.reclaims_kill_nobody.Goals as goal

pub returns : goal.returns
returns c = reclaims_kill_nobody
