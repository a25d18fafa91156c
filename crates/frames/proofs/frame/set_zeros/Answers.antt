use Rattle.frames.proofs.FrameLemmas.{get_or-zeros}
use Rattle.frames.proofs.frame.set_zeros.Goals as goal

pub returns : goal.returns
returns c = λ o. get_or-zeros 4096 o 0
