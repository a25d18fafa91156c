use Rattle.legal.proofs.SettledLemmas.{replies_are_settled}
use Rattle.laws.proofs.replies_are_settled.Goals as goal

pub returns : goal.returns
returns c = replies_are_settled
