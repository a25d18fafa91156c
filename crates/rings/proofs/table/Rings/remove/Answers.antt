use Rattle.std.proofs.Common.{subst, ◌∙◌}
use Rattle.rings.specs.declared.ring_node.RingNode.{RingNode}
use Rattle.rings.specs.RingNodes.{page_node}
use Rattle.rings.specs.Links.{IsJoined}
use Rattle.rings.proofs.ListLemmas.{listed_in}
use Rattle.rings.proofs.ChainLemmas.{first_is, not_to_itself, lists_are, hold_as_found, as_seen}
use Rattle.rings.proofs.LinkLemmas.{prev_is, next_is}
use Rattle.rings.proofs.ReadLemmas.{link_kept, read_link}
use Rattle.rings.proofs.RingLemmas.{at_listed, removed, all_lose}
use Rattle.rings.proofs.table.Rings.remove.Goals as goal

pub remove-requires-clause-prev : goal.remove-requires-clause-prev
remove-requires-clause-prev c =
    let t = c.self.inside.links in
    let p = c.args.page.0 in
    let found = listed_in c.args.self.now.lists p c.requires in
    let at = at_listed (as_seen c.self.view_is c.self.invariant) found.0 p found.1 in
    (_, (λ same. not_to_itself t found.0 p at.after at.on (subst (λ (n : RingNode). IsJoined t n (page_node p)) same at.prev)), at.prev)

pub remove-requires-clause-next : goal.remove-requires-clause-next
remove-requires-clause-next c =
    let t = c.self.inside.links in
    let p = c.args.page.0 in
    let found = listed_in c.args.self.now.lists p c.requires in
    let at = at_listed (as_seen c.self.view_is c.self.invariant) found.0 p found.1 in
    let next = first_is t found.0 (page_node p) at.after at.on in
    (_, (λ same. not_to_itself t found.0 p at.after at.on (subst (λ (n : RingNode). IsJoined t (page_node p) n) same next)), next)

pub invariant_of-self : goal.invariant_of-self
invariant_of-self c =
    let found = listed_in c.args.self.now.lists c.args.page.0 c.requires in
    hold_as_found _ _ (removed _ _ _ _ found.0 (as_seen c.self.view_is c.self.invariant) found.1 c.remove.ensures)

pub returns-clause-lists : goal.returns-clause-lists
returns-clause-lists c =
    let r = as_seen c.self.view_is c.self.invariant in
    let found = listed_in c.args.self.now.lists c.args.page.0 c.requires in
    lists_are _ _ (removed _ _ _ _ found.0 r found.1 c.remove.ensures) ∙ all_lose _ _ _ found.0 r found.1

pub returns-clause-few : goal.returns-clause-few
returns-clause-few c link stored n other =
    let t = c.self.inside.links in
    let r = as_seen c.self.view_is c.self.invariant in
    let page = page_node c.args.page.0 in
    let read = read_link r page link stored in
    link_kept r (invariant_of-self c) n
    (c.remove.ensures.few n other.0 (λ k. other.1.0 (prev_is t n page link read k)) (λ k. other.1.1.0 (next_is t page n link read k)))
