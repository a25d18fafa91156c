use Rattle.std.proofs.Common.{arith, length-append, ◌∷◌, []}
use Rattle.frames.specs.Pool.{numbers_of}
use Rattle.counts.proofs.NumberLemmas.{filled_more, beyond_more}
use Rattle.frames.proofs.PoolLemmas.{numbers_of-push}
use Rattle.frames.proofs.pool.fill.Goals as goal

pub loop-number-preserved : goal.loop-number-preserved
loop-number-preserved c =
    let k = c.loop-number.number in
    let old = c.loop-number.free.items in
    let before = c.loop-number.invariant in
    let numbers = numbers_of-push old c.push_reserved.new.self.items c.in_ok-frame.frame k c.push_reserved.ensures.items c.in_ok-frame.ensures.number in
    rw (numbers, c.push_reserved.ensures.capacity) (record {
      once = filled_more (numbers_of old) k before.once before.none_beyond;
      none_beyond = beyond_more (numbers_of old) k before.none_beyond;
      all = omega (arith, before.all, length-append (numbers_of old) (k ∷ []));
      room = before.room;
    })
