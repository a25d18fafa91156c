use Rattle.std.proofs.Common.{ap, sym, ◌∙◌, nat_lt}
use Rattle.group_tree.proofs.OrderLemmas.{held, span-at, span-children, removed-childless}
use Rattle.group_tree.proofs.tree.Tree.has_children.Goals as goal

pub returns-then-is_live : goal.returns-then-is_live
returns-then-is_live c =
    let both = held c.args.self.now c.self.inside.groups.items c.self.inside.live c.self.inside.by_path.entries c.self.inside.walk c.self.invariant c.self.view_is in
    let live = sym c.is_live.ensures ∙ c.if-is_live.true in
    ap (nat_lt 1) (span-at c.args.self.now c.self.inside.walk both c.args.group.0 live c.index.result.now c.index.ensures ∙ both.1.spanned c.args.group.0 live)
    ∙ span-children c.args.self.now both.0 c.args.group.0 live

pub returns-else-is_live : goal.returns-else-is_live
returns-else-is_live c =
    let both = held c.args.self.now c.self.inside.groups.items c.self.inside.live c.self.inside.by_path.entries c.self.inside.walk c.self.invariant c.self.view_is in
    c.if-is_live.false ∙ sym (removed-childless c.args.self.now both.0 c.args.group.0 (sym c.is_live.ensures ∙ c.if-is_live.false))
