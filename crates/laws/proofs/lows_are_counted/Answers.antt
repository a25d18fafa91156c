use Rattle.laws.proofs.LowLemmas.{lows_are_counted}
use Rattle.laws.proofs.lows_are_counted.Goals as goal

pub returns : goal.returns
returns c = lows_are_counted
