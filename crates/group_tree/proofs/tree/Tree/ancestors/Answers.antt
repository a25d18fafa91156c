use Rattle.std.proofs.Common.{ap, ◌∙◌, sym, ◌++◌, map, lit<, arith}
use Rattle.machine.specs.Tree.{chain}
use Rattle.group_tree.specs.Tables.{number}
use Rattle.group_tree.proofs.WalkLemmas.{walked_more, walked_fewer, walked_all}
use Rattle.group_tree.proofs.tree.Tree.ancestors.Goals as goal

pub push-requires : goal.push-requires
push-requires c =
    let so_far = ap (λ at. map (λ g. g.0) c.loop-at.chain.items ++ chain c.args.self.now (number at)) (sym c.in-Some.is) ∙ c.loop-at.invariant in
    let fewer = walked_fewer c.args.self.now c.parent-at.ensures.tree.earlier_parents c.loop-at.chain.items c.in-Some.here _ so_far in
    let levels = c.parent-at.ensures.tree.levels c.args.group.0 in
    (lit< tt, omega (arith, fewer, levels))

pub loop-at-preserved : goal.loop-at-preserved
loop-at-preserved c =
    ap (λ xs. map (λ g. g.0) xs ++ chain c.args.self.now (number c.parent-at.result)) c.push.ensures.items
    ∙ walked_more c.args.self.now c.parent-at.ensures.tree.earlier_parents c.loop-at.chain.items c.in-Some.here c.parent-at.result c.parent-at.ensures.parent
    ∙ ap (λ at. map (λ g. g.0) c.loop-at.chain.items ++ chain c.args.self.now (number at)) (sym c.in-Some.is) ∙ c.loop-at.invariant

pub returns : goal.returns
returns c =
    sym (walked_all c.args.self.now c.loop-at.chain.items)
    ∙ ap (λ at. map (λ g. g.0) c.loop-at.chain.items ++ chain c.args.self.now (number at)) (sym c.in_default.is) ∙ c.loop-at.invariant
