use Rattle.laws.proofs.HandLemmas.{transfers_are_in_hand}
use Rattle.laws.proofs.transfers_are_in_hand.Goals as goal

pub returns : goal.returns
returns c = transfers_are_in_hand
