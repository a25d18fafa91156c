use Rattle.shown_groups.proofs.LookLemmas.{named}
use Rattle.shown_groups.proofs.shown.file_text.Goals as goal

pub returns : goal.returns
returns c = named c.format.result c.args.page_size.bytes c.args.path.now c.args.name.now _ c.args.numbers c.in_ok-said.ensures c.format.ensures.ok
