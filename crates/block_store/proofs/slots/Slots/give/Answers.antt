use Rattle.std.proofs.Common.{arith}
use Rattle.counts.proofs.NumberLemmas.{AreFree-push, room_for_one}
use Rattle.block_store.proofs.slots.Slots.give.Goals as goal

pub push_reserved-requires : goal.push_reserved-requires
push_reserved-requires c =
    let inside = c.self.inside in
    let requires = rw (← c.self.view_is) at c.requires in
    let room = room_for_one inside.free.items inside.blocks _ c.args.slot c.self.invariant requires.out requires.in_range in
    omega (arith, room)

pub invariant_of-self : goal.invariant_of-self
invariant_of-self c =
    let inside = c.self.inside in
    let requires = rw (← c.self.view_is) at c.requires in
    rw (c.push_reserved.ensures.items, c.push_reserved.ensures.capacity, c.slot.view_is) (AreFree-push inside.free.items inside.blocks _ c.args.slot c.self.invariant requires.out requires.in_range)
