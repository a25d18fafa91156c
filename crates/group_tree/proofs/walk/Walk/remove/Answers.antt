use Rattle.std.proofs.Common.{ℕ, List, length, slice_index, ap, ◌∙◌, subst, arith}
use Rattle.machine.specs.declared.id.GroupId.{GroupId}
use Rattle.machine.specs.Tree.{share}
use Rattle.group_tree.specs.Places.{numbers_of, ArePlaced}
use Rattle.group_tree.specs.Tables.{nodes_of}
use Rattle.group_tree.proofs.SpanLemmas.{in-table, parent-read, parent-live, whole}
use Rattle.group_tree.proofs.OrderLemmas.{some-span}
use Rattle.group_tree.proofs.TakeOutLemmas.{order-has, order-within, order-once, order-before, walk-removed}
use Rattle.group_tree.proofs.walk.Walk.remove.Goals as goal

pub remove-requires : goal.remove-requires
remove-requires c =
    let inside = order-has (nodes_of c.args.groups.now) c.args.self.now (c.requires.tree, c.requires.walk) c.args.group.0 c.requires.below c.requires.live c.requires.childless c.index-place.result.now c.index-place.ensures in
    omega (arith, inside)

pub place_from-requires-clause-from : goal.place_from-requires-clause-from
place_from-requires-clause-from c =
    let inside = order-has (nodes_of c.args.groups.now) c.args.self.now (c.requires.tree, c.requires.walk) c.args.group.0 c.requires.below c.requires.live c.requires.childless c.index-place.result.now c.index-place.ensures in
    let fewer = c.remove.ensures.len in
    let len = ap length c.deref.ensures.value in
    omega (arith, inside, fewer, len)

pub place_from-requires-clause-within : goal.place_from-requires-clause-within
place_from-requires-clause-within c =
    order-within (nodes_of c.args.groups.now) c.args.self.now (c.requires.tree, c.requires.walk) c.args.group.0 c.requires.below c.requires.live c.requires.childless c.index-place.result.now c.index-place.ensures
    c.deref.result.now (c.deref.ensures.value ∙ c.remove.ensures.items) c.deref_mut.result.now c.deref_mut.ensures.value

pub place_from-requires-clause-once : goal.place_from-requires-clause-once
place_from-requires-clause-once c =
    order-once (nodes_of c.args.groups.now) c.args.self.now (c.requires.tree, c.requires.walk) c.args.group.0 c.requires.below c.requires.live c.requires.childless c.index-place.result.now c.index-place.ensures
    c.deref.result.now (c.deref.ensures.value ∙ c.remove.ensures.items)

pub place_from-requires-clause-before : goal.place_from-requires-clause-before
place_from-requires-clause-before c =
    order-before (nodes_of c.args.groups.now) c.args.self.now (c.requires.tree, c.requires.walk) c.args.group.0 c.requires.below c.requires.live c.requires.childless c.index-place.result.now c.index-place.ensures
    c.deref.result.now (c.deref.ensures.value ∙ c.remove.ensures.items) c.deref_mut.result.now c.deref_mut.ensures.value

pub narrow-requires-clause-from : goal.narrow-requires-clause-from
narrow-requires-clause-from c =
    parent-live c.args.groups.now c.requires.tree c.args.group.0 c.index-groups-group.result c.requires.live

pub narrow-requires-clause-some : goal.narrow-requires-clause-some
narrow-requires-clause-some c g live =
    let some = some-span (nodes_of c.args.groups.now) (numbers_of c.args.self.now.order.items) c.args.self.now.places.items c.args.self.now.spans.items c.requires.tree c.requires.walk g live in
    let read = ap (λ (xs : List ℕ). slice_index xs g) c.deref_mut-2.ensures.value in
    omega (arith, some, read)

pub returns : goal.returns
returns c =
    let places_read = ap length c.deref_mut.ensures.value in
    let spans_read = ap length c.deref_mut-2.ensures.value in
    let places_len = c.place_from.ensures.len in
    let spans_len = c.narrow.ensures.len in
    let parent = parent-read c.args.groups.now c.args.group.0 c.index-groups-group.result (in-table c.args.groups.now c.args.group.0 c.requires.live) in
    let places_whole = whole c.args.self.now.places.len c.place_from.new.places c.args.self.now.places.items (places_len ∙ places_read) (omega arith) in
    let spans_whole = whole c.args.self.now.spans.len c.narrow.new.spans c.args.self.now.spans.items (spans_len ∙ spans_read) (omega arith) in
    rw (places_whole, spans_whole)
    (walk-removed (nodes_of c.args.groups.now) c.args.self.now (c.requires.tree, c.requires.walk) c.args.group.0 c.requires.below c.requires.live c.requires.childless c.index-place.result.now c.index-place.ensures
    c.remove.new.self.items c.remove.ensures.items c.place_from.new.places c.narrow.new.spans
    (subst (λ (xs : List GroupId). ArePlaced (numbers_of xs) c.place_from.new.places (length xs)) c.deref.ensures.value c.place_from.ensures.placed) (places_len ∙ places_read)
    (λ h.
    let above = ap (share (nodes_of c.args.groups.now) h) parent in
    let counts = c.narrow.ensures.spans h in
    let was = ap (λ (xs : List ℕ). slice_index xs h) c.deref_mut-2.ensures.value in
    omega (arith, above, counts, was))
    (spans_len ∙ spans_read))
