use Rattle.legal.proofs.TransferLemmas.{legal-transfers}
use Rattle.laws.proofs.transfers_are_begun_less_ended.Goals as goal

pub returns : goal.returns
returns c = legal-transfers
