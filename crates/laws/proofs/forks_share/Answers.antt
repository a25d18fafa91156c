use Rattle.laws.proofs.ShareLemmas.{forks_share}
use Rattle.laws.proofs.forks_share.Goals as goal

pub returns : goal.returns
returns c = forks_share
