use Rattle.std.proofs.Common.{ℕ, List, map, drop}
use denote.Ref.{Bor}
use Rattle.charts.specs.Listed.{groups_text}
use Rattle.charts.proofs.ListingLemmas.{none_shown-left, all_listed}
use Rattle.charts.proofs.listing.add_groups.Goals as goal

pub returns-then-at-groups : goal.returns-then-at-groups
returns-then-at-groups c =
    let at : ℕ = c.loop-at.at in
    let paths : List (List ℕ) = map (λ (p : Bor (List ℕ)). p.now) (drop at c.args.paths.now) in
    let common = c.args.common in
    all_listed c.args.text.now.items c.loop-at.text.items (groups_text common.page_size.bytes common.line common.phase.now common.machine (map (λ (p : Bor (List ℕ)). p.now) c.args.paths.now) c.args.groups.now)
    (groups_text common.page_size.bytes common.line common.phase.now common.machine paths (drop at c.args.groups.now)) c.loop-at.invariant
    (none_shown-left common.page_size.bytes common.line at common.phase.now common.machine paths c.args.groups.now c.if-at-groups.true)
