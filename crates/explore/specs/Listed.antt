-- Outcomes as the code keeps them. No public clause cites it.
use Rattle.std.specs.Prelude.{ℕ, Bool, ◌==◌, nat_lt, List, ◌++◌, map, codes, if◌then◌else◌}
use Rattle.machine.specs.Control.{line}
use Rattle.explorer.specs.declared.choice.Choice.{Choice}
use Rattle.explorer.specs.Tally.{Counted}
use Rattle.explore.specs.declared.listing.Listed.{Listed}
use Rattle.explore.specs.declared.listing.Summary.{Summary}
use Rattle.explore.specs.Listing.{first_line, ranked, rows_text}

abbrev pub shown : Listed → Counted
shown row = record { outcome = row.outcome.now; orders = row.orders; first = row.first.now }

abbrev pub shown_rows : List Listed → List Counted
shown_rows rows = map shown rows

abbrev pub is_fewer : ℕ → Counted → Bool
is_fewer orders row = nat_lt row.orders orders

-- the list of these rows
abbrev pub list_by : Choice → Bool → Summary → List Counted → List ℕ
list_by choice waits found rows =
    if found.orders == 0 then line (codes "no order was run to its end")
    else first_line choice waits found.walk found.orders found.kept found.shortest found.longest found.outcomes ++ rows_text 1 (ranked rows)
