use Rattle.exchange.proofs.Quiet.{runs_are_quiet as law}
use Rattle.exchange.proofs.runs_are_quiet.Goals as goal

pub returns : goal.returns
returns c = law
