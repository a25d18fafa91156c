use Rattle.laws.proofs.RiseLemmas.{write_outs_stay_charged}
use Rattle.laws.proofs.write_outs_stay_charged.Goals as goal

pub returns : goal.returns
returns c = write_outs_stay_charged
