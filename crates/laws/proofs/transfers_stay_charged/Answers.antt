use Rattle.laws.proofs.LawLemmas.{transfers_stay_charged}
use Rattle.laws.proofs.transfers_stay_charged.Goals as goal

pub returns : goal.returns
returns c = transfers_stay_charged
