use Rattle.division.proofs.RowLemmas.{row_one, take_next}
use Rattle.division.proofs.rows.row_of.Goals as goal

pub loop-place-preserved : goal.loop-place-preserved
loop-place-preserved c =
    row_one c.args.actor _ _ c.index-work-place.result _ _ (take_next c.args.work.now c.loop-place.place c.index-work-place.result c.loop-place-test.true c.index-work-place.is) c.loop-place.invariant c.in_ok-add_begun.ensures
