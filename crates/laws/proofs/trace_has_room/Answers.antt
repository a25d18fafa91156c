use Rattle.legal.proofs.TransferLemmas.{legal-room}
use Rattle.laws.proofs.trace_has_room.Goals as goal

pub returns : goal.returns
returns c = legal-room
