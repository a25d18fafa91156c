use Rattle.std.proofs.Common.{rules}
use Rattle.live.proofs.RuleLemmas.{splits_roll}
use Rattle.live.proofs.history.Unnamed.new.Goals as goal

pub split_seat-roll-requires : goal.split_seat-roll-requires
split_seat-roll-requires c = (search rules, search rules, splits_roll _ _)
