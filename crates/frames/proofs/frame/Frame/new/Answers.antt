use Rattle.frames.proofs.FrameLemmas.{get_or-zeros}
use Rattle.frames.proofs.frame.Frame.new.Goals as goal

pub returns-clause-zeros : goal.returns-clause-zeros
returns-clause-zeros c = λ o. rw c.in_ok-bytes.ensures.ok (get_or-zeros 4096 o 0)
