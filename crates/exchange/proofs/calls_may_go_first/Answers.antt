use Rattle.exchange.proofs.DeviceFirst.{calls_may_go_first as law}
use Rattle.exchange.proofs.calls_may_go_first.Goals as goal

pub returns : goal.returns
returns c = law
