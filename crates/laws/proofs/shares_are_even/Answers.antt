use Rattle.laws.proofs.EvenLemmas.{shares_are_even}
use Rattle.laws.proofs.shares_are_even.Goals as goal

pub returns : goal.returns
returns c = shares_are_even
