use Rattle.machine.specs.State.{opening_of}
use Rattle.legal.proofs.SoundLemmas.{block_below}
use Rattle.laws.proofs.blocks_are_there.Goals as goal

pub returns : goal.returns
returns c config = block_below (opening_of config)
