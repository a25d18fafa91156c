use Rattle.explore.proofs.ListingLemmas.{more_text}
use Rattle.explore.proofs.listing.add_rows.Goals as goal

pub loop-place-preserved : goal.loop-place-preserved
loop-place-preserved c = more_text c.args.rows.now c.loop-place.place _ _ _ _ c.loop-place-test.true c.loop-place.invariant c.in_ok-add_row.ensures
