use Rattle.std.proofs.Common.{◌≡◌, [], take}
use Rattle.std.specs.Prelude.{fold}
use Rattle.std.specs.List.{filter_map}
use Rattle.scripts.specs.Work.{with_actor}
use Rattle.division.specs.Sorting.{left, worker}
use Rattle.division.proofs.rows.actors_of.Given as goal

abbrev pub invariant-loop-line : goal.invariant-loop-line
invariant-loop-line l = l.actors.items ≡ fold with_actor [] (filter_map left (take l.line-index l.setup))

abbrev pub invariant-loop-line-2 : goal.invariant-loop-line-2
invariant-loop-line-2 l = l.actors.items ≡ fold with_actor (fold with_actor [] (filter_map left l.setup)) (filter_map worker (take l.line-index l.work))
