use Rattle.std.proofs.Common.{◌≡◌, ◌++◌, take, flat_map}
use Rattle.std.specs.String.{string_bytes}
use Rattle.explorer.specs.Lines.{lines_for}
use Rattle.explorer.proofs.outcome.add_rows.Given as goal

abbrev pub invariant-loop-row : goal.invariant-loop-row
invariant-loop-row l = string_bytes l.text ≡ string_bytes l.initial.text ++ flat_map (lines_for l.said) (take l.row-index l.rows)
