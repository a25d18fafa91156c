use Rattle.laws.proofs.TurnLemmas.{five_reads_mark}
use Rattle.laws.proofs.five_reads_mark.Goals as goal

pub returns : goal.returns
returns c = five_reads_mark
