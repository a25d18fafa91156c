use Rattle.laws.proofs.CallLemmas.{only_takes_age}
use Rattle.laws.proofs.only_takes_age.Goals as goal

pub returns : goal.returns
returns c = only_takes_age
