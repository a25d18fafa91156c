use Rattle.std.proofs.Common.{inl, inr, sym, ap, ◌∙◌, ◌+◌, List, length, map, arith}
use Rattle.std.specs.List.{between}
use Rattle.machine.specs.declared.id.GroupId.{GroupId}
use Rattle.group_tree.proofs.OrderLemmas.{held, place-read, end-read, behind-dead, behind-outside, behind-inside}
use Rattle.group_tree.proofs.tree.Tree.preorder_behind.Goals as goal

pub returns-then-not-is_live : goal.returns-then-not-is_live
returns-then-not-is_live c =
    let both = held c.args.self.now c.self.inside.groups.items c.self.inside.live c.self.inside.by_path.entries c.self.inside.walk c.self.invariant c.self.view_is in
    sym
    (behind-dead c.args.self.now c.self.inside.walk both c.args.start.0 c.requires c.index-first.result.now c.index-first.ensures c.index.result.now c.index.ensures c.args.group.0
    (sym c.is_live.ensures ∙ c.if-not-is_live.true))

pub overflow_add-end : goal.overflow_add-end
overflow_add-end c =
    let both = held c.args.self.now c.self.inside.groups.items c.self.inside.live c.self.inside.by_path.entries c.self.inside.walk c.self.invariant c.self.view_is in
    let end = end-read c.args.self.now c.self.inside.walk both c.args.start.0 c.requires c.index-first.result.now c.index-first.ensures c.index.result.now c.index.ensures in
    omega (arith, end)

pub returns-then-place-first : goal.returns-then-place-first
returns-then-place-first c =
    let both = held c.args.self.now c.self.inside.groups.items c.self.inside.live c.self.inside.by_path.entries c.self.inside.walk c.self.invariant c.self.view_is in
    let live = sym c.is_live.ensures ∙ c.if-not-is_live.false in
    let at = place-read c.args.self.now c.self.inside.walk both c.args.group.0 live c.index-place.result.now c.index-place.ensures in
    sym
    (behind-outside c.args.self.now c.self.inside.walk both c.args.start.0 c.requires c.index-first.result.now c.index-first.ensures c.index.result.now c.index.ensures c.args.group.0 live c.index-place.result.now at
    (elim c.then-place-first.either [
      | inl below ↦ inl below
      | inr above ↦ inr above.1
    ]))

pub overflow_add-result : goal.overflow_add-result
overflow_add-result c =
    let both = held c.args.self.now c.self.inside.groups.items c.self.inside.live c.self.inside.by_path.entries c.self.inside.walk c.self.invariant c.self.view_is in
    let end = end-read c.args.self.now c.self.inside.walk both c.args.start.0 c.requires c.index-first.result.now c.index-first.ensures c.index.result.now c.index.ensures in
    let before = c.if-end-place.false in
    omega (arith, end, before)

pub offset_bounds-deref-place : goal.offset_bounds-deref-place
offset_bounds-deref-place c =
    let both = held c.args.self.now c.self.inside.groups.items c.self.inside.live c.self.inside.by_path.entries c.self.inside.walk c.self.invariant c.self.view_is in
    let end = end-read c.args.self.now c.self.inside.walk both c.args.start.0 c.requires c.index-first.result.now c.index-first.ensures c.index.result.now c.index.ensures in
    let before = c.if-end-place.false in
    omega (arith, end, before)

pub slice_bounds-result-end-2 : goal.slice_bounds-result-end-2
slice_bounds-result-end-2 c =
    let both = held c.args.self.now c.self.inside.groups.items c.self.inside.live c.self.inside.by_path.entries c.self.inside.walk c.self.invariant c.self.view_is in
    let end = end-read c.args.self.now c.self.inside.walk both c.args.start.0 c.requires c.index-first.result.now c.index-first.ensures c.index.result.now c.index.ensures in
    let before = c.if-end-place.false in
    let len = ap length c.deref.ensures.value in
    omega (arith, end, before, len)

pub returns : goal.returns
returns c =
    let both = held c.args.self.now c.self.inside.groups.items c.self.inside.live c.self.inside.by_path.entries c.self.inside.walk c.self.invariant c.self.view_is in
    let live = sym c.is_live.ensures ∙ c.if-not-is_live.false in
    let at = place-read c.args.self.now c.self.inside.walk both c.args.group.0 live c.index-place.result.now c.index-place.ensures in
    ap (λ (xs : List GroupId). map (λ g. g.0) (between (c.index-place.result.now + 1) (c.index-first.result.now + c.index.result.now) xs)) c.deref.ensures.value
    ∙ behind-inside c.args.self.now c.self.inside.walk both c.args.start.0 c.requires c.index-first.result.now c.index-first.ensures c.index.result.now c.index.ensures c.args.group.0 live c.index-place.result.now at
    c.if-place-first.false c.if-end-place.false
