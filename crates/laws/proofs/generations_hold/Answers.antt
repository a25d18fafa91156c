use Rattle.laws.proofs.OrderLemmas.{generations_hold}
use Rattle.laws.proofs.generations_hold.Goals as goal

pub returns : goal.returns
returns c = generations_hold
