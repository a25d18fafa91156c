use Rattle.std.proofs.Common.{◌≡◌, ◌<◌, length, get_or, ◌∙◌}
use Rattle.std.proofs.lemmas.List.{length-map, get_or_read}
use Rattle.block_store.specs.Blocks.{held_at, nowhere}
use Rattle.block_store.proofs.BlockLemmas.{contents_of-first, contents_of-again}
use Rattle.block_store.proofs.blocks.Blocks.write.Goals as goal

pub returns-then-place : goal.returns-then-place
returns-then-place c =
    let inside = c.self.inside in
    let below : c.args.block < length inside.places.items = rw (length-map inside.places.items (held_at inside.written.items)) at (rw (← c.self.view_is) at c.requires) in
    let place = get_or_read inside.places.items c.args.block c.index-place.result.now below c.index-place.ensures 0 in
    let none : get_or inside.places.items c.args.block 0 ≡ nowhere = rw (← place) c.if-place.true in
    let long = inside.written.ok.0 in
    rw (← c.self.view_is, c.push_reserved.ensures.items, c.len.ensures, long) (contents_of-first inside.written.items inside.places.items _ c.args.block c.args.bytes.now c.self.invariant below none)

pub returns-else-place : goal.returns-else-place
returns-else-place c =
    let inside = c.self.inside in
    let below : c.args.block < length inside.places.items = rw (length-map inside.places.items (held_at inside.written.items)) at (rw (← c.self.view_is) at c.requires) in
    let place = get_or_read inside.places.items c.args.block c.index-place.result.now below c.index-place.ensures 0 in
    rw (← c.self.view_is, place) (contents_of-again inside.written.items inside.places.items _ c.args.block c.args.bytes.now c.self.invariant below (λ e. c.if-place.false (place ∙ e)))
