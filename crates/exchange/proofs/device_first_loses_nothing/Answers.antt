use Rattle.exchange.proofs.Outcomes.{device_first_loses_nothing as law}
use Rattle.exchange.proofs.device_first_loses_nothing.Goals as goal

pub returns : goal.returns
returns c = law
