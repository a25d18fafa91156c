use Rattle.std.proofs.Common.{◌≡◌, ◌++◌, ◌∷◌, [], length, arith, refl, ap, ◌∙◌}
use Rattle.rings.specs.declared.ring_node.Link.{Link}
use Rattle.rings.specs.Chains.{IsRings}
use Rattle.rings.proofs.ChainLemmas.{lists_are, hold_as_found, as_seen}
use Rattle.rings.proofs.TableLemmas.{one_more}
use Rattle.rings.proofs.table.Rings.add_list.Goals as goal
use Rattle.rings.proofs.table.Rings.add_list.Goals.{After-push_reserved}

more : (c : After-push_reserved) → IsRings (record { pages = c.self.inside.links.pages; heads = c.push_reserved.new.self }) (c.args.self.now.lists ++ [] ∷ [])
more c =
    let t = c.self.inside.links in
    let size = t.heads.ok.0 in
    let pushed = c.push_reserved.ensures.items ∙ ap (λ (link : Link). t.heads.items ++ link ∷ []) c.new.ensures in
    let number : c.len.result ≡ length t.heads.items = omega (arith, c.len.ensures, size) in
    one_more t _ _ c.len.result c.requires.fits refl number pushed (as_seen c.self.view_is c.self.invariant)

pub invariant_of-self : goal.invariant_of-self
invariant_of-self c = hold_as_found _ _ (more (goal.at.invariant_of-self c).After-push_reserved)

pub returns-clause-lists : goal.returns-clause-lists
returns-clause-lists c = lists_are _ _ (more (goal.at.returns-clause-lists c).After-push_reserved)
