use Rattle.std.proofs.Common.{◌≡◌, ◌++◌, take}
use Rattle.std.specs.String.{string_bytes}
use Rattle.explore.specs.Listing.{rows_text}
use Rattle.explore.specs.Listed.{shown_rows}
use Rattle.explore.proofs.listing.add_rows.Given as goal

abbrev pub invariant-loop-place : goal.invariant-loop-place
invariant-loop-place l = string_bytes l.text ≡ string_bytes l.initial.text ++ rows_text 1 (shown_rows (take l.place l.rows))
