use Rattle.laws.proofs.CallLemmas.{orders_are_settled}
use Rattle.laws.proofs.orders_are_settled.Goals as goal

pub returns : goal.returns
returns c = orders_are_settled
