use Rattle.std.proofs.Common.{ap, ◌∙◌}
use Rattle.explore.specs.Listed.{shown_rows}
use Rattle.explore.proofs.ListingLemmas.{next_row, no_more}
use Rattle.explore.proofs.listing.rows_of.Goals.{in-Some+in_ok-push, in_default}
use Rattle.explore.proofs.listing.rows_of.Goals as goal

pub loop-place-preserved : goal.loop-place-preserved
loop-place-preserved c =
    elim c.match-get.branch [
      | in-Some+in_ok-push w ↦ ap (λ (v : _). shown_rows v.items) w.rows-is ∙ next_row c.args.table.now c.loop-place.place _ w.row_with.result _ _ w.in-Some.ensures w.row_with.ensures w.in_ok-push.ensures.items c.loop-place.invariant
      | in_default w ↦ absurd (no_more c.args.table.now c.loop-place.place c.len-place-end.result w.in_default.ensures c.loop-place-test.true c.len-place-end.ensures)
    ]
