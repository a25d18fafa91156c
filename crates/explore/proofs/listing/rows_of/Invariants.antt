use Rattle.std.proofs.Common.{◌≡◌, take}
use Rattle.explore.specs.Listed.{shown_rows}
use Rattle.explore.proofs.listing.rows_of.Given as goal

abbrev pub invariant-loop-place : goal.invariant-loop-place
invariant-loop-place l = shown_rows l.rows.items ≡ take l.place l.table
