use Rattle.std.proofs.Common.{ap, ◌∙◌, is_some}
use Rattle.rings.proofs.ChainLemmas.{as_seen}
use Rattle.rings.proofs.ReadLemmas.{page_linked, some_copied}
use Rattle.rings.proofs.table.Rings.is_listed.Goals as goal

pub returns : goal.returns
returns c =
    c.is_some.ensures ∙ some_copied c.get.result ∙ ap is_some c.get.ensures ∙ page_linked (as_seen c.self.view_is c.self.invariant) _
