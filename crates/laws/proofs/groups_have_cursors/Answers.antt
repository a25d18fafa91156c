use Rattle.laws.proofs.OrderLemmas.{groups_have_cursors}
use Rattle.laws.proofs.groups_have_cursors.Goals as goal

pub returns : goal.returns
returns c = groups_have_cursors
