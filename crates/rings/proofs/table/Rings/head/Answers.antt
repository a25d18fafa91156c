use Rattle.rings.proofs.ChainLemmas.{as_seen}
use Rattle.rings.proofs.ReadLemmas.{head_link}
use Rattle.rings.proofs.table.Rings.head.Goals as goal

pub returns : goal.returns
returns c = head_link (as_seen c.self.view_is c.self.invariant) _ _ c.link.ensures
