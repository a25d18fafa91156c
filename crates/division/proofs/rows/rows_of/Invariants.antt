use Rattle.std.proofs.Common.{◌≡◌, take, map}
use Rattle.std.specs.List.{filter_map}
use Rattle.division.specs.Division.{shown_row}
use Rattle.division.specs.Sorting.{begun}
use Rattle.division.proofs.rows.rows_of.Given as goal

abbrev pub invariant-loop-actor : goal.invariant-loop-actor
invariant-loop-actor l = map shown_row l.rows.items ≡ map (λ who. (who, filter_map (begun who) l.work)) (take l.actor-index l.actors)
