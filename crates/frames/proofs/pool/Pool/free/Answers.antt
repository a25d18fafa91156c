use Rattle.std.proofs.Common.{arith}
use Rattle.frames.proofs.PoolLemmas.{length-numbers_of}
use Rattle.frames.proofs.pool.Pool.free.Goals as goal

pub overflow_cast-result : goal.overflow_cast-result
overflow_cast-result c =
    let within = c.self.invariant.0.within in
    let count = length-numbers_of c.self.inside.free.items in
    let countable = c.self.invariant.0.countable in
    omega (arith, within, count, countable, c.len.ensures)
