use Rattle.std.proofs.Common.{ap, ◌∙◌, ◌+◌, List, length, map, arith}
use Rattle.std.specs.List.{between}
use Rattle.machine.specs.declared.id.GroupId.{GroupId}
use Rattle.group_tree.proofs.OrderLemmas.{held, end-read, part-read}
use Rattle.group_tree.proofs.tree.Tree.preorder.Goals as goal

pub overflow_add-end : goal.overflow_add-end
overflow_add-end c =
    let both = held c.args.self.now c.self.inside.groups.items c.self.inside.live c.self.inside.by_path.entries c.self.inside.walk c.self.invariant c.self.view_is in
    let end = end-read c.args.self.now c.self.inside.walk both c.args.group.0 c.requires c.index-place.result.now c.index-place.ensures c.index.result.now c.index.ensures in
    omega (arith, end)

pub offset_bounds-deref-place : goal.offset_bounds-deref-place
offset_bounds-deref-place c =
    let both = held c.args.self.now c.self.inside.groups.items c.self.inside.live c.self.inside.by_path.entries c.self.inside.walk c.self.invariant c.self.view_is in
    let end = end-read c.args.self.now c.self.inside.walk both c.args.group.0 c.requires c.index-place.result.now c.index-place.ensures c.index.result.now c.index.ensures in
    omega (arith, end)

pub slice_bounds-result-end : goal.slice_bounds-result-end
slice_bounds-result-end c =
    let both = held c.args.self.now c.self.inside.groups.items c.self.inside.live c.self.inside.by_path.entries c.self.inside.walk c.self.invariant c.self.view_is in
    let end = end-read c.args.self.now c.self.inside.walk both c.args.group.0 c.requires c.index-place.result.now c.index-place.ensures c.index.result.now c.index.ensures in
    let len = ap length c.deref.ensures.value in
    omega (arith, end, len)

pub returns : goal.returns
returns c =
    let both = held c.args.self.now c.self.inside.groups.items c.self.inside.live c.self.inside.by_path.entries c.self.inside.walk c.self.invariant c.self.view_is in
    ap (λ (xs : List GroupId). map (λ g. g.0) (between c.index-place.result.now (c.index-place.result.now + c.index.result.now) xs)) c.deref.ensures.value
    ∙ part-read c.args.self.now c.self.inside.walk both c.args.group.0 c.requires c.index-place.result.now c.index-place.ensures c.index.result.now c.index.ensures
