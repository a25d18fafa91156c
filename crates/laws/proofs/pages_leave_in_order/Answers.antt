use Rattle.laws.proofs.OrderLemmas.{pages_leave_in_order}
use Rattle.laws.proofs.pages_leave_in_order.Goals as goal

pub returns : goal.returns
returns c = pages_leave_in_order
