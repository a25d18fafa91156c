use Rattle.laws.proofs.KillLemmas.{kills_are_counted}
use Rattle.laws.proofs.kills_are_counted.Goals as goal

pub returns : goal.returns
returns c = kills_are_counted
