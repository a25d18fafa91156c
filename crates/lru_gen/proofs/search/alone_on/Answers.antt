use Rattle.std.proofs.Common.{sym, ◌∙◌}
use Rattle.lru_gen.proofs.SearchLemmas.{between_heads}
use Rattle.lru_gen.proofs.search.alone_on.Goals as goal

pub returns-in-Head-Head : goal.returns-in-Head-Head
returns-in-Head-Head c =
    between_heads c.args.rings.now.lists c.args.page.0 c.in-Some.link.now c.in-Head-Head.field-0-0 c.in-Head-Head.list c.in-Some.ensures.link (sym c.prev.ensures.node ∙ c.in-Head-Head.is-0) (sym c.next.ensures.node ∙ c.in-Head-Head.is-1)
