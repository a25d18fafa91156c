use Rattle.std.proofs.Common.{ap, ◌∙◌}
use Rattle.rings.specs.RingNodes.{page_of}
use Rattle.rings.proofs.ChainLemmas.{as_seen}
use Rattle.rings.proofs.ReadLemmas.{page_linked, before_is}
use Rattle.rings.proofs.table.Rings.before.Goals as goal

pub link-requires : goal.link-requires
link-requires c = page_linked (as_seen c.self.view_is c.self.invariant) _ ∙ c.requires

pub returns : goal.returns
returns c l before after stands =
    c.page.ensures ∙ ap page_of c.prev.ensures.node ∙ before_is (as_seen c.self.view_is c.self.invariant) _ _ c.link.ensures l before after stands
