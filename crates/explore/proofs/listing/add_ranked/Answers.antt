use Rattle.std.proofs.Common.{List, ap, ◌∙◌}
use Rattle.std.specs.Prelude.{position}
use Rattle.explore.specs.declared.listing.Listed.{Listed}
use Rattle.explore.specs.Listed.{shown, shown_rows, is_fewer}
use Rattle.explore.proofs.ListingLemmas.{ranked_at, ranked_last}
use Rattle.explore.proofs.listing.add_ranked.Goals as goal

pub returns-in_ok-insert-in-Some : goal.returns-in_ok-insert-in-Some
returns-in_ok-insert-in-Some c =
    let P = λ (rows : List Listed). position (λ (row : Listed). is_fewer c.args.row.orders (shown row)) rows in
    ap shown_rows c.in_ok-insert-in-Some.ensures.items ∙ ranked_at c.args.rows.now.items c.args.row c.in-Some.place (c.in-Some.ensures ∙ ap P c.deref.ensures.value)

pub returns-in_ok-push-in-None : goal.returns-in_ok-push-in-None
returns-in_ok-push-in-None c =
    let P = λ (rows : List Listed). position (λ (row : Listed). is_fewer c.args.row.orders (shown row)) rows in
    ap shown_rows c.in_ok-push-in-None.ensures.items ∙ ranked_last c.args.rows.now.items c.args.row (c.in-None.ensures ∙ ap P c.deref.ensures.value)
