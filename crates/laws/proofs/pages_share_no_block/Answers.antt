use Rattle.legal.proofs.SoundLemmas.{pages_share_no_block}
use Rattle.laws.proofs.pages_share_no_block.Goals as goal

pub returns : goal.returns
returns c = pages_share_no_block
