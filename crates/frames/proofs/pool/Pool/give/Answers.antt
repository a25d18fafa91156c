use Rattle.std.proofs.Common.{arith}
use Rattle.frames.specs.Pool.{numbers_of}
use Rattle.counts.proofs.NumberLemmas.{AreFree-push, room_for_one}
use Rattle.frames.proofs.PoolLemmas.{numbers_of-append, length-numbers_of}
use Rattle.frames.proofs.pool.Pool.give.Goals as goal

pub push_reserved-requires : goal.push_reserved-requires
push_reserved-requires c =
    let inside = c.self.inside in
    let requires = rw (← c.self.view_is) at c.requires in
    let room = room_for_one (numbers_of inside.free.items) inside.frames _ c.args.frame.number c.self.invariant.0 requires.out requires.in_range in
    omega (arith, room, length-numbers_of inside.free.items)

pub invariant_of-self : goal.invariant_of-self
invariant_of-self c =
    let inside = c.self.inside in
    let requires = rw (← c.self.view_is) at c.requires in (
      rw (c.push_reserved.ensures.items, c.push_reserved.ensures.capacity, numbers_of-append) (AreFree-push (numbers_of inside.free.items) inside.frames _ c.args.frame.number c.self.invariant.0 requires.out requires.in_range),
      c.self.invariant.1,
    )
