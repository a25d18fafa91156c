use Rattle.legal.proofs.SoundLemmas.{pages_share_no_frame}
use Rattle.laws.proofs.pages_share_no_frame.Goals as goal

pub returns : goal.returns
returns c = pages_share_no_frame
