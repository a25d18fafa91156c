use Rattle.std.proofs.Common.{arith}
use Rattle.counts.proofs.NumberLemmas.{AreFree-filled}
use Rattle.block_store.proofs.slots.Slots.open.Goals as goal

pub invariant_of-result : goal.invariant_of-result
invariant_of-result c =
    let filled = c.fill.ensures in
    AreFree-filled c.fill.new.free.items c.args.blocks _ filled.once filled.none_beyond filled.all filled.room (omega arith)
