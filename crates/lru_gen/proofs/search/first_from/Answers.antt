use Rattle.std.proofs.Common.{is_some, sym, ap, ◌∙◌}
use Rattle.lru_gen.proofs.SearchLemmas.{found_here, none_here, none_left, some_mapped}
use Rattle.lru_gen.proofs.search.first_from.Goals as goal

pub returns-then-is_some : goal.returns-then-is_some
returns-then-is_some c =
    let some = ap is_some (sym c.front-page.ensures) ∙ some_mapped c.front-page.result ∙ sym c.is_some.ensures ∙ c.if-is_some.true in
    c.front-page.ensures
    ∙ found_here c.args.rings.now.lists c.args.group.0 c.args.kind c.args.oldest c.args.end c.loop-later.later c.list_of.result.0 c.loop-later-test.true c.list_of.ensures some
    ∙ c.loop-later.invariant

pub loop-later-preserved : goal.loop-later-preserved
loop-later-preserved c =
    let none = ap is_some (sym c.front-page.ensures) ∙ some_mapped c.front-page.result ∙ sym c.is_some.ensures ∙ c.if-is_some.false in
    none_here c.args.rings.now.lists c.args.group.0 c.args.kind c.args.oldest c.args.end c.loop-later.later c.list_of.result.0 c.loop-later-test.true c.list_of.ensures none
    ∙ c.loop-later.invariant

pub returns : goal.returns
returns c =
    sym (none_left c.args.rings.now.lists c.args.group.0 c.args.kind c.args.oldest c.args.end c.loop-later.later c.loop-later-test.false)
    ∙ c.loop-later.invariant
