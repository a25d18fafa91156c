use Rattle.std.proofs.Common.{refl}
use Rattle.rings.specs.RingNodes.{head_node}
use Rattle.rings.proofs.ChainLemmas.{last_is, lists_are, hold_as_found, as_seen}
use Rattle.rings.proofs.LinkLemmas.{same_prev}
use Rattle.rings.proofs.ReadLemmas.{link_kept}
use Rattle.rings.proofs.RingLemmas.{added}
use Rattle.rings.proofs.table.Rings.push_back.Goals as goal

pub add_before-requires-clause-ring : goal.add_before-requires-clause-ring
add_before-requires-clause-ring c =
    (_, last_is _ _ _ _ ((as_seen c.self.view_is c.self.invariant).rings _ c.requires.list))

pub invariant_of-self : goal.invariant_of-self
invariant_of-self c = hold_as_found _ _ (added _ _ _ _ _ (as_seen c.self.view_is c.self.invariant) c.requires.list c.add_before.ensures)

pub returns-clause-lists : goal.returns-clause-lists
returns-clause-lists c = lists_are _ _ (added _ _ _ _ _ (as_seen c.self.view_is c.self.invariant) c.requires.list c.add_before.ensures)

pub returns-clause-few : goal.returns-clause-few
returns-clause-few c n other =
    let t = c.self.inside.links in
    let r = as_seen c.self.view_is c.self.invariant in
    let head = head_node c.args.list.0 in
    let last = last_is t head head _ (r.rings _ c.requires.list) in
    link_kept r (invariant_of-self c) n (c.add_before.ensures.few n other.0 other.1.0 (λ k. other.1.1.0 (same_prev t n _ head head refl k last)))
