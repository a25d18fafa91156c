use Rattle.std.proofs.Common.{◌≡◌, take}
use Rattle.std.specs.List.{filter_map}
use Rattle.division.specs.Division.{shown_row}
use Rattle.division.specs.Sorting.{begun}
use Rattle.division.proofs.rows.row_of.Given as goal

abbrev pub invariant-loop-place : goal.invariant-loop-place
invariant-loop-place l = shown_row l.row ≡ (l.fn.actor, filter_map (begun l.fn.actor) (take l.place l.work))
