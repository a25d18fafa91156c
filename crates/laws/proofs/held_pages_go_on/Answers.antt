use Rattle.laws.proofs.CallLemmas.{held_pages_go_on}
use Rattle.laws.proofs.held_pages_go_on.Goals as goal

pub returns : goal.returns
returns c = held_pages_go_on
