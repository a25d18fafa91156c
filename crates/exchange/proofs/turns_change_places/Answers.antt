use Rattle.exchange.proofs.Places.{turns_change_places as law}
use Rattle.exchange.proofs.turns_change_places.Goals as goal

pub returns : goal.returns
returns c = law
