use Rattle.std.proofs.Common.{rules, ◌∙◌, ℕ, List, sym, ap, subst, arith}
use Rattle.machine.specs.Tree.{Node, node_at, IsTree}
use Rattle.pages.specs.PagesOf.{PagesOf, labelled}
use Rattle.group_tree.proofs.LineageLemmas.{live-within}
use Rattle.page_state.proofs.RemovalLemmas.{framed-out, hands-none, hands-more, hands-fewer, hands-all}
use Rattle.page_state.proofs.removal.reparent.Goals as goal

pub loop-page-init : goal.loop-page-init
loop-page-init c = hands-none c.args.placement c.args.group.0 c.args.parent.0 c.args.counters.now c.args.pages.now c.requires.counted

pub reparent-requires-clause-there : goal.reparent-requires-clause-there
reparent-requires-clause-there c =
    let own = c.in-Some.ensures.some in
    let tree = c.loop-page.invariant.same.tree in (
      labelled own.0 own.1,
      own.2,
      ap (λ (t : List Node). (node_at t own.0.group).parent) tree ∙ ap (λ (g : ℕ). (node_at c.args.counters.now.tree g).parent) own.3 ∙ c.requires.below,
      λ framed. framed-out c.loop-page.counters c.loop-page.pages.pages c.in-Some.page.0 (labelled own.0 own.1) (subst IsTree (sym tree) c.are_counted.ensures.lineage.earlier_parents) c.loop-page.invariant.counted own.2 framed,
    )

pub reparent-requires-clause-parent : goal.reparent-requires-clause-parent
reparent-requires-clause-parent c =
    let groups = ap (λ (t : PagesOf). t.groups) c.loop-page.invariant.others in
    let live = c.are_counted.ensures.lineage.parents_live c.args.group.0 c.args.parent.0 c.requires.live c.requires.below in
    let lt = live-within c.args.counters.now.tree c.args.parent.0 live in
    let many = c.requires.groups in
    omega (arith, groups, lt, many)

pub loop-page-smaller : goal.loop-page-smaller
loop-page-smaller c =
    let own = c.in-Some.ensures.some in
    let moves = c.reparent.ensures in
    let is = c.are_counted.ensures.lineage in
    let tree = c.loop-page.invariant.same.tree in
    let live = is.parents_live c.args.group.0 c.args.parent.0 c.requires.live c.requires.below in
    hands-fewer c.args.placement c.args.group.0 c.args.parent.0 (is.earlier_parents.falls c.args.group.0 c.args.parent.0 c.requires.below) c.args.counters.now c.loop-page.counters c.reparent.new.counters c.args.pages.now c.loop-page.pages c.reparent.new.self
    c.in-Some.page.0 (labelled own.0 own.1) own.3 own.2 (moves.moved _ own.2) moves.bytes moves.others is.earlier_parents c.requires.below is.root_first live moves.groups (moves.charged _ own.2) (moves.uncharged _ own.2)

pub loop-page-preserved : goal.loop-page-preserved
loop-page-preserved c =
    let own = c.in-Some.ensures.some in
    let moves = c.reparent.ensures in
    let is = c.are_counted.ensures.lineage in
    let live = is.parents_live c.args.group.0 c.args.parent.0 c.requires.live c.requires.below in
    hands-more c.args.placement c.args.group.0 c.args.parent.0 (is.earlier_parents.falls c.args.group.0 c.args.parent.0 c.requires.below) c.args.counters.now c.loop-page.counters c.reparent.new.counters c.args.pages.now c.loop-page.pages c.reparent.new.self
    c.in-Some.page.0 (labelled own.0 own.1) own.3 own.2 (moves.moved _ own.2) moves.bytes moves.others is.earlier_parents c.requires.below is.root_first live moves.groups (moves.charged _ own.2) (moves.uncharged _ own.2) c.loop-page.invariant

pub returns-clause-pages : goal.returns-clause-pages
returns-clause-pages c = hands-all c.args.placement c.args.group.0 c.args.parent.0 c.args.counters.now c.loop-page.counters c.args.pages.now c.loop-page.pages c.loop-page.invariant (c.first_of.ensures.none (search rules))
