use Rattle.laws.proofs.KillLemmas.{group_kills_are_whole}
use Rattle.laws.proofs.group_kills_are_whole.Goals as goal

pub returns : goal.returns
returns c = group_kills_are_whole
