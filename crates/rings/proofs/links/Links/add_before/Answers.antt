use Rattle.std.proofs.Common.{Some, subst, sym, ◌∙◌}
use Rattle.rings.specs.declared.ring_node.RingNode.{RingNode}
use Rattle.rings.specs.declared.ring_node.RingNode.TheVariants.{Page}
use Rattle.rings.specs.declared.ring_node.Link.{Link}
use Rattle.rings.specs.Links.{IsJoined, WritesLink}
use Rattle.rings.proofs.LinkLemmas.{adds, prev_is}
use Rattle.rings.proofs.links.Links.add_before.Goals as goal

pub returns : goal.returns
returns c =
    let old = c.args.self.now in
    let last_is = prev_is old c.requires.ring.0 c.args.node c.link.result.now c.link.ensures c.requires.ring.1 ∙ sym c.prev-prev.ensures.node in
    let ring = subst (λ (n : RingNode). IsJoined old n c.args.node) last_is c.requires.ring.1 in
    let put = subst (λ (link : Link). WritesLink old c.put.new.self (Page c.args.page) (Some link)) c.new.ensures c.put.ensures in
    adds old c.put.new.self c.set_next.new.self c.set_prev.new.self (Page c.args.page) c.args.node c.prev-prev.result c.requires.out ring put c.set_next.ensures c.set_prev.ensures
