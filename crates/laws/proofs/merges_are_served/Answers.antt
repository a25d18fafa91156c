use Rattle.laws.proofs.TurnLemmas.{merges_are_served}
use Rattle.laws.proofs.merges_are_served.Goals as goal

pub returns : goal.returns
returns c = merges_are_served
