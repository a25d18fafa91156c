use Rattle.group_tree.specs.Places.{numbers_of, ArePlaced}
use Rattle.group_tree.proofs.walk.place_from.Given as goal

abbrev pub invariant-loop-place : goal.invariant-loop-place
invariant-loop-place l = ArePlaced (numbers_of l.order) l.places l.place
