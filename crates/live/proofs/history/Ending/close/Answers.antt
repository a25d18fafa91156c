use Rattle.std.proofs.Common.{rules}
use Rattle.live.proofs.RuleLemmas.{learn_allowed}
use Rattle.live.proofs.history.Ending.close.Goals as goal

pub load-requires : goal.load-requires
load-requires c = (search rules, search rules, learn_allowed _ _ _ (search rules) (search rules))
