use Rattle.std.proofs.Common.{arith, length-append, ◌∷◌, []}
use Rattle.counts.proofs.NumberLemmas.{filled_more, beyond_more}
use Rattle.block_store.proofs.slots.fill.Goals as goal

pub loop-block-preserved : goal.loop-block-preserved
loop-block-preserved c =
    let k = c.loop-block.block in
    let old = c.loop-block.free.items in
    let before = c.loop-block.invariant in
    rw (c.push_reserved.ensures.items, c.push_reserved.ensures.capacity) (record {
      once = filled_more old k before.once before.none_beyond;
      none_beyond = beyond_more old k before.none_beyond;
      all = omega (arith, before.all, length-append old (k ∷ []));
      room = before.room;
    })
