use Rattle.std.proofs.Common.{◌≢◌, subst, sym, ◌∙◌}
use Rattle.rings.specs.declared.ring_node.RingNode.{RingNode}
use Rattle.rings.specs.Links.{IsJoined}
use Rattle.rings.proofs.LinkLemmas.{splices, prev_is, next_is}
use Rattle.rings.proofs.links.Links.splice.Goals as goal

pub returns : goal.returns
returns c =
    let old = c.args.self.now in
    let source = c.args.source in
    let last = c.requires.last in
    let first = c.requires.first in
    let last_is = prev_is old last.0 source c.link-moved.result.now c.link-moved.ensures last.2 ∙ sym c.prev-last.ensures.node in
    let first_is = next_is old source first.0 c.link-moved.result.now c.link-moved.ensures first.2 ∙ sym c.next-first.ensures.node in
    splices
    old
    c.join.new.self
    c.join-2.new.self
    c.join-3.new.self
    source
    c.args.before
    c.args.after
    c.next-first.result
    c.prev-last.result
    c.requires.before
    c.requires.after
    (subst (λ (n : RingNode). n ≢ source) last_is last.1)
    (subst (λ (n : RingNode). n ≢ source) first_is first.1)
    c.requires.joined
    (subst (λ (n : RingNode). IsJoined old n source) last_is last.2)
    (subst (λ (n : RingNode). IsJoined old source n) first_is first.2)
    c.join.ensures
    c.join-2.ensures
    c.join-3.ensures
