use Rattle.legal.proofs.SoundLemmas.{pages_share_no_ticket}
use Rattle.laws.proofs.pages_share_no_ticket.Goals as goal

pub returns : goal.returns
returns c = pages_share_no_ticket
