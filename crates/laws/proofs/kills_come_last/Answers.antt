use Rattle.laws.proofs.KillLemmas.{kills_come_last}
use Rattle.laws.proofs.kills_come_last.Goals as goal

pub returns : goal.returns
returns c = kills_come_last
