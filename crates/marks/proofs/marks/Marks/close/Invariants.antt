use Rattle.std.proofs.Common.{◌≡◌, All, map, ◌∷◌}
use Rattle.marks.specs.Logs.{log_of}
use Rattle.marks.proofs.SeatLemmas.{AreAlike}
use Rattle.marks.proofs.marks.Marks.close.Given as goal

abbrev pub invariant-loop-other : goal.invariant-loop-other
invariant-loop-other l = AreAlike (l.all.log ∷ map log_of l.seats.items) (map log_of l.fn.seats.items) × (l.all.table ≡ l.self.table) × All (λ s. s.table ≡ l.self.table) l.seats.items

abbrev pub decreases-loop-other : goal.decreases-loop-other
decreases-loop-other l = goal.left-loop-other l
