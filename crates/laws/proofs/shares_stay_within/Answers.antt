use Rattle.laws.proofs.ProtectionLemmas.{shares_stay_within}
use Rattle.laws.proofs.shares_stay_within.Goals as goal

pub returns : goal.returns
returns c = shares_stay_within
