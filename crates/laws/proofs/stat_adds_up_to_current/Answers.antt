use Rattle.laws.proofs.LawLemmas.{stat_adds_up_to_current}
use Rattle.laws.proofs.stat_adds_up_to_current.Goals as goal

pub returns : goal.returns
returns c = stat_adds_up_to_current
