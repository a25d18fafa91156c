use Rattle.laws.proofs.OrderLemmas.{idle_is_left_alone}
use Rattle.laws.proofs.idle_is_left_alone.Goals as goal

pub returns : goal.returns
returns c = idle_is_left_alone
