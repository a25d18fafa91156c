use Rattle.laws.proofs.OrderLemmas.{held_pages_are_listed}
use Rattle.laws.proofs.held_pages_are_listed.Goals as goal

pub returns : goal.returns
returns c = held_pages_are_listed
