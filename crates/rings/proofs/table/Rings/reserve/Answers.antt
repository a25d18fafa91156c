use Rattle.std.proofs.Common.{refl, ap}
use Rattle.rings.specs.Rings.{RingsOf}
use Rattle.rings.specs.Chains.{IsRings}
use Rattle.rings.proofs.ChainLemmas.{lists_are, hold_as_found, as_seen}
use Rattle.rings.proofs.TableLemmas.{same_rings, same_value}
use Rattle.rings.proofs.table.Rings.reserve.Goals as goal
use Rattle.rings.proofs.table.Rings.reserve.Goals.{After-reserve}

same : (c : After-reserve) → IsRings (record { pages = c.self.inside.links.pages; heads = c.reserve.new.self }) c.args.self.now.lists
same c = same_rings c.self.inside.links _ refl c.reserve.ensures.items _ (as_seen c.self.view_is c.self.invariant)

pub invariant_of-self : goal.invariant_of-self
invariant_of-self c = hold_as_found _ _ (same (goal.at.invariant_of-self c).After-reserve)

pub returns-clause-others : goal.returns-clause-others
returns-clause-others c =
    same_value _ _ _ _ _ (lists_are _ _ (same (goal.at.returns-clause-others c).After-reserve)) (ap (λ (v : RingsOf). v.numbers) c.self.view_is)
