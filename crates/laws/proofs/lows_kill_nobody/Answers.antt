use Rattle.laws.proofs.LowLemmas.{lows_kill_nobody}
use Rattle.laws.proofs.lows_kill_nobody.Goals as goal

pub returns : goal.returns
returns c = lows_kill_nobody
