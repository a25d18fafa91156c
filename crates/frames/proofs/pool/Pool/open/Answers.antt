use Rattle.std.proofs.Common.{arith}
use Rattle.frames.specs.Pool.{numbers_of}
use Rattle.counts.proofs.NumberLemmas.{AreFree-filled}
use Rattle.frames.proofs.pool.Pool.open.Goals as goal

pub invariant_of-result : goal.invariant_of-result
invariant_of-result c =
    let filled = c.in_ok-free.ensures in
    let spares = c.in-Ok.ensures in (
      AreFree-filled (numbers_of c.in_ok-free.free.items) c.args.frames _ filled.once filled.none_beyond filled.all filled.room (omega arith),
      record { within = omega (arith, spares.all); all_fit = spares.room },
    )
