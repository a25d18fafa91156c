use Rattle.laws.proofs.KillLemmas.{single_kills_are_unflagged}
use Rattle.laws.proofs.single_kills_are_unflagged.Goals as goal

pub returns : goal.returns
returns c = single_kills_are_unflagged
