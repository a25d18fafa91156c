use Rattle.std.proofs.Common.{refl}
use Rattle.spaces.proofs.PlaceLemmas.{shown-within}
use Rattle.spaces.proofs.GroupLemmas.{group-within}
use Rattle.spaces.proofs.Spaces.owners.Goals as goal

pub returns-clause-number : goal.returns-clause-number
returns-clause-number c = rw (← c.self.view_is) (shown-within _ _ _ _ _ c.self.invariant)

pub returns-clause-group : goal.returns-clause-group
returns-clause-group c = rw (← c.self.view_is) (λ t alive. group-within _ _ _ _ _ c.self.invariant t _ alive refl)
