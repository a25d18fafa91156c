use Rattle.laws.proofs.LowLemmas.{lows_come_last}
use Rattle.laws.proofs.lows_come_last.Goals as goal

pub returns : goal.returns
returns c = lows_come_last
