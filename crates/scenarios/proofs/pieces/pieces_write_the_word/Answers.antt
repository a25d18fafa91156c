use Rattle.scenarios.proofs.PieceLemmas.{pieces_write}
use Rattle.scenarios.proofs.pieces.pieces_write_the_word.Goals as goal

pub returns : goal.returns
returns c = λ word ps e. pieces_write word ps e
