use Rattle.std.proofs.Common.{◌≡◌, take}
use Rattle.explore.specs.Listing.{kept_in}
use Rattle.explore.specs.Listed.{shown_rows}
use Rattle.explore.proofs.listing.kept_in.Given as goal

abbrev pub invariant-loop-row : goal.invariant-loop-row
invariant-loop-row l = l.orders ≡ kept_in (shown_rows (take l.row-index l.rows))
