use Rattle.std.proofs.Common.{◌≡◌, ℕ, ◌-◌, ◌++◌, List, map, drop, replicate}
use denote.Ref.{Bor}
use Rattle.charts.specs.Watched.{Seen, seen_of}
use Rattle.charts.specs.Listed.{steps_text}
use Rattle.charts.proofs.listing.add_row.Given as goal

abbrev pub invariant-loop-left : goal.invariant-loop-left
invariant-loop-left l = (rest : List Seen) →
    l.fn.text.items ++ steps_text l.page_size.bytes (drop l.step l.lines) (map (λ (p : Bor (List ℕ)). p.now) l.phases) (map (λ (p : Bor (List ℕ)). p.now) l.paths) (replicate l.row.steps (seen_of l.row) ++ rest)
    ≡ l.text.items ++ steps_text l.page_size.bytes (drop l.next l.lines) (map (λ (p : Bor (List ℕ)). p.now) l.phases) (map (λ (p : Bor (List ℕ)). p.now) l.paths) (replicate (l.row.steps - l._left) (seen_of l.row) ++ rest)
