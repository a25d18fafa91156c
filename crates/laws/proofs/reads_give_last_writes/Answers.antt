use Rattle.laws.proofs.LawLemmas.{reads_give_last_writes}
use Rattle.laws.proofs.reads_give_last_writes.Goals as goal

pub returns : goal.returns
returns c = reads_give_last_writes
