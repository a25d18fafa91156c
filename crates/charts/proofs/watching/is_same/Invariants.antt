use Rattle.std.proofs.Common.{◌≡◌, length, take}
use Rattle.charts.proofs.watching.is_same.Given as goal

abbrev pub invariant-loop-at : goal.invariant-loop-at
invariant-loop-at l = record { sizes : length l.left ≡ length l.right; same : take l.at l.left ≡ take l.at l.right }
