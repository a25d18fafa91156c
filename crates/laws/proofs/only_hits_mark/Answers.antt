use Rattle.laws.proofs.TurnLemmas.{only_hits_mark}
use Rattle.laws.proofs.only_hits_mark.Goals as goal

pub returns : goal.returns
returns c = only_hits_mark
