use Rattle.std.proofs.Common.{◌≡◌, replicate}
use Rattle.block_store.proofs.BlockLemmas.{contents_of-new}
use Rattle.block_store.proofs.blocks.Blocks.new.Goals as goal

pub returns : goal.returns
returns c =
    let places : c.in_ok-places.places.items ≡ replicate c.args.count 4294967295 = c.in_ok-places.ensures.items_if_clones_equal (λ _ clone. clone) in
    rw (c.in_ok-written.ensures.items, places) (contents_of-new c.args.count)
