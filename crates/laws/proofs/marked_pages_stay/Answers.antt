use Rattle.laws.proofs.OrderLemmas.{marked_pages_stay}
use Rattle.laws.proofs.marked_pages_stay.Goals as goal

pub returns : goal.returns
returns c = marked_pages_stay
