use Rattle.std.proofs.Common.{◌≡◌, ℕ, ◌++◌, List, map, drop}
use denote.Ref.{Bor}
use Rattle.charts.specs.Watched.{expanded}
use Rattle.charts.specs.Listed.{head, steps_text}
use Rattle.charts.proofs.listing.table_of.Given as goal

abbrev pub invariant-loop-at : goal.invariant-loop-at
invariant-loop-at l =
    head ++ steps_text l.page_size.bytes l.lines (map (λ (p : Bor (List ℕ)). p.now) l.phases) (map (λ (p : Bor (List ℕ)). p.now) l.paths) (expanded l.rows)
    ≡ l.text.items ++ steps_text l.page_size.bytes (drop l.step l.lines) (map (λ (p : Bor (List ℕ)). p.now) l.phases) (map (λ (p : Bor (List ℕ)). p.now) l.paths) (expanded (drop l.at l.rows))
