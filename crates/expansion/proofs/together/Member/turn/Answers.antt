use Rattle.expansion.proofs.TogetherLemmas.{entry_there}
use Rattle.expansion.proofs.together.Member.turn.Goals as goal

pub returns-clause-entry : goal.returns-clause-entry
returns-clause-entry c = rw (← c.self.view_is) (entry_there c.self.inside.list.items c.self.inside.at c.self.inside.taken c.self.invariant.0)
