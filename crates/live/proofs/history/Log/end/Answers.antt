use Rattle.std.proofs.Common.{rules, ap}
use Rattle.live.proofs.RuleLemmas.{joins}
use Rattle.live.proofs.history.Log.end.Goals as goal

pub join_seat-requires : goal.join_seat-requires
join_seat-requires c = (search rules, search rules, search rules, search rules, joins _ _ _ _ (ap (λ m. m.0.books) c.self.invariant.2))
