use Rattle.std.proofs.Common.{refl}
use Rattle.live.proofs.RowLemmas.{done_none}
use Rattle.live.proofs.live.Live.balance.Goals as goal

pub returns-then-is_err-clause-done : goal.returns-then-is_err-clause-done
returns-then-is_err-clause-done g c = done_none _ _ _ _ _ refl
