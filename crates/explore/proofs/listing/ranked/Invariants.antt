use Rattle.std.proofs.Common.{◌≡◌, [], take}
use Rattle.std.specs.Prelude.{fold}
use Rattle.explore.specs.Listing.{with_ranked}
use Rattle.explore.specs.Listed.{shown_rows}
use Rattle.explore.proofs.listing.ranked.Given as goal

abbrev pub invariant-loop-row : goal.invariant-loop-row
invariant-loop-row l = shown_rows l.rows.items ≡ fold with_ranked [] (shown_rows (take l.row-index l.found))
