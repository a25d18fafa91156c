use Rattle.std.proofs.Common.{◌≡◌, ◌<◌, ◌+◌, subst, length, get_or, slice_index, slice_set, arith, ℕ, List}
use Rattle.std.proofs.lemmas.List.{get_or-map, length-map}
use Rattle.machine.specs.declared.id.GroupId.{GroupId}
use Rattle.group_tree.specs.Places.{numbers_of, ArePlaced}
use Rattle.group_tree.proofs.SpanLemmas.{one-placed}
use Rattle.group_tree.proofs.walk.place_from.Goals as goal

-- the number that was read
read : (order : List GroupId) (i : ℕ) → i < length order → slice_index (numbers_of order) i ≡ (get_or order i (record { 0 = 0 })).0
read order i lt = get_or-map (λ (g : GroupId). g.0) order i (record { 0 = 0 }) 0 lt

pub bounds-places-order : goal.bounds-places-order
bounds-places-order c =
    let same = read c.args.order.now c.loop-place.place (omega arith) in
    let within = c.requires.within c.loop-place.place (omega arith) in
    omega (arith, same, within)

pub loop-place-preserved : goal.loop-place-preserved
loop-place-preserved c =
    let same = read c.args.order.now c.loop-place.place (omega arith) in
    let within = c.requires.within c.loop-place.place (omega arith) in
    let len : length (numbers_of c.args.order.now) ≡ length c.args.order.now = length-map c.args.order.now (λ g. g.0) in
    subst (λ (g : ℕ). ArePlaced (numbers_of c.args.order.now) (slice_set c.loop-place.places g c.loop-place.place) (c.loop-place.place + 1)) same
    (one-placed (numbers_of c.args.order.now) c.loop-place.places c.loop-place.place c.requires.once (omega (arith, len)) (omega (arith, within)) c.loop-place.invariant)
