use Rattle.laws.proofs.LowLemmas.{counts_are_of_the_history}
use Rattle.laws.proofs.counts_are_of_the_history.Goals as goal

pub returns : goal.returns
returns c = counts_are_of_the_history
