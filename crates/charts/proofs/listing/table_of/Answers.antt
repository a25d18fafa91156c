use Rattle.std.proofs.Common.{ℕ, List, ◌∙◌, map, drop, ap}
use Rattle.std.proofs.lemmas.List.{drop_all}
use denote.Ref.{Bor}
use Rattle.charts.specs.declared.watching.Row.{Row}
use Rattle.charts.specs.Watched.{expanded}
use Rattle.charts.specs.Listed.{head, steps_text}
use Rattle.charts.proofs.ListingLemmas.{all_listed, rows-over}
use Rattle.charts.proofs.listing.table_of.Goals as goal

pub returns : goal.returns
returns c =
    let lines : List ℕ = c.args.lines.now in
    let phases : List (List ℕ) = map (λ (p : Bor (List ℕ)). p.now) c.args.phases.now in
    let paths : List (List ℕ) = map (λ (p : Bor (List ℕ)). p.now) c.args.paths.now in
    let rows : List Row = c.args.rows.now in
    all_listed head c.loop-at.text.items (steps_text c.args.page_size.bytes lines phases paths (expanded rows)) (steps_text c.args.page_size.bytes (drop c.loop-at.step lines) phases paths (expanded (drop c.loop-at.at rows))) c.loop-at.invariant
    (ap (λ (left : List Row). steps_text c.args.page_size.bytes (drop c.loop-at.step lines) phases paths (expanded left)) (drop_all c.loop-at.at rows c.loop-at-test.false) ∙ rows-over c.args.page_size.bytes (drop c.loop-at.step lines) phases paths)
