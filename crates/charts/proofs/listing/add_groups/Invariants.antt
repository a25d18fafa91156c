use Rattle.std.proofs.Common.{◌≡◌, ℕ, ◌++◌, List, map, drop}
use denote.Ref.{Bor}
use Rattle.charts.specs.Listed.{groups_text}
use Rattle.charts.proofs.listing.add_groups.Given as goal

abbrev pub invariant-loop-at : goal.invariant-loop-at
invariant-loop-at l =
    l.fn.text.items ++ groups_text l.common.page_size.bytes l.common.line l.common.phase.now l.common.machine (map (λ (p : Bor (List ℕ)). p.now) l.paths) l.groups
    ≡ l.text.items ++ groups_text l.common.page_size.bytes l.common.line l.common.phase.now l.common.machine (map (λ (p : Bor (List ℕ)). p.now) (drop l.at l.paths)) (drop l.at l.groups)
