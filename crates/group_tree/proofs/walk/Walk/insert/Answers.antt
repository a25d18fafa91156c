use Rattle.std.proofs.Common.{◌≡◌, ℕ, ◌+◌, ◌++◌, ◌∷◌, [], List, length, slice_index, Some, sym, ap, ◌∙◌, subst, arith, length-append}
use Rattle.std.specs.List.{insert}
use Rattle.std.proofs.lemmas.List.{length-map}
use Rattle.std.proofs.lemmas.List.Edits.{length-insert}
use Rattle.machine.specs.declared.id.GroupId.{GroupId}
use Rattle.machine.specs.Tree.{share}
use Rattle.group_tree.specs.Places.{numbers_of, ArePlaced}
use Rattle.group_tree.specs.Tables.{node_of, nodes_of}
use Rattle.group_tree.proofs.SpanLemmas.{whole}
use Rattle.group_tree.proofs.OrderLemmas.{end-read}
use Rattle.group_tree.proofs.InsertLemmas.{succeeded, short-spans, order-within, order-once, order-before, walk-inserted}
use Rattle.group_tree.proofs.walk.Walk.insert.Goals as goal

pub overflow_add-place : goal.overflow_add-place
overflow_add-place c =
    let end = end-read (nodes_of c.args.groups.now) c.args.self.now (c.requires.tree, c.requires.walk) c.args.parent.0 c.requires.parent c.index.result.now c.index.ensures c.index-2.result.now c.index-2.ensures in
    omega (arith, end)

pub insert-requires : goal.insert-requires
insert-requires c =
    let end = end-read (nodes_of c.args.groups.now) c.args.self.now (c.requires.tree, c.requires.walk) c.args.parent.0 c.requires.parent c.index.result.now c.index.ensures c.index-2.result.now c.index-2.ensures in
    omega (arith, end)

pub place_from-requires-clause-from : goal.place_from-requires-clause-from
place_from-requires-clause-from c =
    let end = end-read (nodes_of c.args.groups.now) c.args.self.now (c.requires.tree, c.requires.walk) c.args.parent.0 c.requires.parent c.index.result.now c.index.ensures c.index-2.result.now c.index-2.ensures in
    let room = c.insert.ensures.succeeds c.requires.room.order in
    let len : length c.deref.result.now ≡ length (insert c.args.self.now.order.items (c.index.result.now + c.index-2.result.now) c.args.group) =
    ap length (c.deref.ensures.value ∙ succeeded _ _ _ _ c.insert.ensures.items (c.insert.ensures.succeeds c.requires.room.order)) in
    let more = length-insert c.args.self.now.order.items (c.index.result.now + c.index-2.result.now) c.args.group end.0 in
    omega (arith, end, len, more)

pub place_from-requires-clause-within : goal.place_from-requires-clause-within
place_from-requires-clause-within c =
    order-within (nodes_of c.args.groups.now) c.args.self.now (c.requires.tree, c.requires.walk) c.args.parent.0 c.requires.parent c.index.result.now c.index.ensures c.index-2.result.now c.index-2.ensures c.args.group (c.requires.group ∙ sym (length-map c.args.groups.now node_of)) c.deref.result.now
    (c.deref.ensures.value ∙ succeeded _ _ _ _ c.insert.ensures.items (c.insert.ensures.succeeds c.requires.room.order))
    c.deref_mut.result.now (c.deref_mut.ensures.value ∙ c.push_reserved.ensures.items)

pub place_from-requires-clause-once : goal.place_from-requires-clause-once
place_from-requires-clause-once c =
    order-once (nodes_of c.args.groups.now) c.args.self.now (c.requires.tree, c.requires.walk) c.args.parent.0 c.requires.parent c.index.result.now c.index.ensures c.index-2.result.now c.index-2.ensures c.args.group (c.requires.group ∙ sym (length-map c.args.groups.now node_of)) c.deref.result.now
    (c.deref.ensures.value ∙ succeeded _ _ _ _ c.insert.ensures.items (c.insert.ensures.succeeds c.requires.room.order))

pub place_from-requires-clause-before : goal.place_from-requires-clause-before
place_from-requires-clause-before c =
    order-before (nodes_of c.args.groups.now) c.args.self.now (c.requires.tree, c.requires.walk) c.args.parent.0 c.requires.parent c.index.result.now c.index.ensures c.index-2.result.now c.index-2.ensures c.args.group (c.requires.group ∙ sym (length-map c.args.groups.now node_of)) c.deref.result.now
    (c.deref.ensures.value ∙ succeeded _ _ _ _ c.insert.ensures.items (c.insert.ensures.succeeds c.requires.room.order))
    c.deref_mut.result.now (c.deref_mut.ensures.value ∙ c.push_reserved.ensures.items)

pub widen-requires-clause-few : goal.widen-requires-clause-few
widen-requires-clause-few c =
    short-spans (nodes_of c.args.groups.now) c.args.self.now (c.requires.tree, c.requires.walk) c.args.parent.0 c.requires.parent c.index.result.now c.index.ensures c.index-2.result.now c.index-2.ensures c.deref_mut-2.result.now
    (c.deref_mut-2.ensures.value ∙ c.push_reserved-2.ensures.items)

pub returns : goal.returns
returns c =
    let places_were : c.deref_mut.result.now ≡ c.args.self.now.places.items ++ (c.index.result.now + c.index-2.result.now) ∷ [] = c.deref_mut.ensures.value ∙ c.push_reserved.ensures.items in
    let spans_were : c.deref_mut-2.result.now ≡ c.args.self.now.spans.items ++ 1 ∷ [] = c.deref_mut-2.ensures.value ∙ c.push_reserved-2.ensures.items in
    let more_places = length-append c.args.self.now.places.items ((c.index.result.now + c.index-2.result.now) ∷ []) in
    let more_spans = length-append c.args.self.now.spans.items (1 ∷ []) in
    let places_read = ap length places_were in
    let spans_read = ap length spans_were in
    let places_len = c.place_from.ensures.len in
    let spans_len = c.widen.ensures.len in
    let places_whole = whole c.push_reserved.new.self.len c.place_from.new.places c.push_reserved.new.self.items (places_len ∙ ap length c.deref_mut.ensures.value) (omega arith) in
    let spans_whole = whole c.push_reserved-2.new.self.len c.widen.new.spans c.push_reserved-2.new.self.items (spans_len ∙ ap length c.deref_mut-2.ensures.value) (omega arith) in
    λ node live below.
    rw (places_whole, spans_whole)
    (walk-inserted (nodes_of c.args.groups.now) c.args.self.now (c.requires.tree, c.requires.walk) c.args.parent.0 c.requires.parent c.index.result.now c.index.ensures c.index-2.result.now c.index-2.ensures c.args.group (c.requires.group ∙ sym (length-map c.args.groups.now node_of)) c.insert.new.self.items
    (succeeded _ _ _ _ c.insert.ensures.items (c.insert.ensures.succeeds c.requires.room.order))
    c.place_from.new.places c.widen.new.spans (subst (λ (xs : List GroupId). ArePlaced (numbers_of xs) c.place_from.new.places (length xs)) c.deref.ensures.value c.place_from.ensures.placed)
    (omega (arith, places_len, places_read, more_places))
    (λ g. c.widen.ensures.spans g ∙ ap (λ (xs : List ℕ). slice_index xs g + share (nodes_of c.args.groups.now) g (Some c.args.parent.0)) spans_were)
    (omega (arith, spans_len, spans_read, more_spans)) node live below)
