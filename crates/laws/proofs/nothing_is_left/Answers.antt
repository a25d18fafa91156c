use Rattle.laws.proofs.LeftLemmas.{nothing_is_left}
use Rattle.laws.proofs.nothing_is_left.Goals as goal

pub returns : goal.returns
returns c = nothing_is_left
