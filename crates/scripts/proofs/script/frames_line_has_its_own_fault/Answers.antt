use Rattle.scripts.proofs.FirstFrames.{has_own_fault}
use Rattle.scripts.proofs.script.frames_line_has_its_own_fault.Goals as goal

pub returns : goal.returns
returns c = λ mode ls l h. has_own_fault mode ls l h
