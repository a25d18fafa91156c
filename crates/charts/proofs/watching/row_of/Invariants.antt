use Rattle.std.proofs.Common.{◌≡◌, List, ℕ, map, take}
use denote.Ref.{Bor}
use Rattle.charts.specs.Watched.{shown_at}
use Rattle.charts.specs.WatchLaws.{IsOpened}
use Rattle.charts.proofs.watching.row_of.Given as goal

abbrev pub invariant-loop-at : goal.invariant-loop-at
invariant-loop-at l = IsOpened l.fn.sizes l.fn.book → l.row.items ≡ map (λ (p : Bor (List ℕ)). shown_at l.fn.is_detailed l.fn.book p.now) (take l.at l.fn.paths)
