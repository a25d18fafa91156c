use Rattle.std.proofs.Common.{◌≡◌, ◌++◌, [], length}
use denote.Text.{Utf8}
use denote.Shadow.{shadow}
use Rattle.std.specs.String.{string_bytes}
use Rattle.printer.specs.Amounts.{rows_in}
use Rattle.printer.proofs.amounts.add_rows.Given as goal

abbrev pub invariant-loop-row : goal.invariant-loop-row
invariant-loop-row l = shadow (Utf8 l.rest) × (string_bytes l.text ++ rows_in l.page_size.bytes l.amounts [] l.rest ≡ string_bytes l.fn.text ++ rows_in l.page_size.bytes l.amounts [] l.said)

abbrev pub decreases-loop-row : goal.decreases-loop-row
decreases-loop-row l = length l.rest
