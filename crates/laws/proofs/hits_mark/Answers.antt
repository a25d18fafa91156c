use Rattle.laws.proofs.TurnLemmas.{hits_mark}
use Rattle.laws.proofs.hits_mark.Goals as goal

pub returns : goal.returns
returns c = hits_mark
