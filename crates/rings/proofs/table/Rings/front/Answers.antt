use Rattle.std.proofs.Common.{ap, ◌∙◌}
use Rattle.rings.specs.RingNodes.{page_of}
use Rattle.rings.proofs.ReadLemmas.{first_page_is}
use Rattle.rings.proofs.table.Rings.front.Goals as goal

pub returns : goal.returns
returns c = c.page.ensures ∙ ap page_of (c.next.ensures.node ∙ c.head.ensures.next) ∙ first_page_is _ _
