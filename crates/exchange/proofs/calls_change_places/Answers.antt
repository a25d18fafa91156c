use Rattle.exchange.proofs.Calls.{calls_change_places as law}
use Rattle.exchange.proofs.calls_change_places.Goals as goal

pub returns : goal.returns
returns c = law
