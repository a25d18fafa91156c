use Rattle.std.proofs.Common.{ap, ◌∙◌, is_some}
use Rattle.rings.proofs.ChainLemmas.{as_seen}
use Rattle.rings.proofs.ReadLemmas.{linked, stored_link, some_copied}
use Rattle.rings.proofs.table.Rings.link.Goals as goal

pub returns-clause-there : goal.returns-clause-there
returns-clause-there c =
    some_copied c.get.result ∙ ap is_some c.get.ensures ∙ linked (as_seen c.self.view_is c.self.invariant) c.args.node

pub returns-clause-link : goal.returns-clause-link
returns-clause-link c = stored_link (as_seen c.self.view_is c.self.invariant) c.args.node _ c.get.ensures
