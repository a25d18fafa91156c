use Rattle.laws.proofs.LawLemmas.{charges_stay_within_max}
use Rattle.laws.proofs.charges_stay_within_max.Goals as goal

pub returns : goal.returns
returns c = charges_stay_within_max
