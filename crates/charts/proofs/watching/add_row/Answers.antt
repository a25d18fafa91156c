use Rattle.std.proofs.Common.{◌≡◌, ◌+◌, ◌++◌, ◌∷◌, [], List, ap, sym, refl, ◌∙◌, rules}
use Rattle.charts.specs.declared.watching.Row.{Row}
use Rattle.charts.specs.Watched.{seen_of, expanded}
use Rattle.charts.proofs.RowLemmas.{expanded-new, expanded-more}
use Rattle.charts.proofs.watching.add_row.Goals as goal

pub returns-in_ok-push-in-Some : goal.returns-in_ok-push-in-Some
returns-in_ok-push-in-Some c =
    let last : Row = c.in-Some.last in
    let next : Row = record { machine = c.args.machine; groups = c.args.groups; steps = last.steps + 1 } in
    let shown : (last.machine ≡ c.args.machine) × (last.groups.items ≡ c.args.groups.items) = search rules in
    let same : seen_of last ≡ seen_of next = rw (shown.0, shown.1) refl in
    ap (λ (rows : List Row). expanded rows) c.in_ok-push-in-Some.ensures.items
    ∙ expanded-more c.pop.new.self.items last next refl same
    ∙ ap (λ (rows : List Row). expanded rows ++ seen_of next ∷ []) (sym c.in-Some.ensures.items)

pub returns-in_ok-push-in-Some-3 : goal.returns-in_ok-push-in-Some-3
returns-in_ok-push-in-Some-3 c =
    let next : Row = record { machine = c.args.machine; groups = c.args.groups; steps = 1 } in
    ap (λ (rows : List Row). expanded rows) c.in_ok-push-in-Some-3.ensures.items
    ∙ expanded-new c.push-else-shows.new.self.items next refl
    ∙ ap (λ (rows : List Row). expanded rows ++ seen_of next ∷ []) (c.in_ok-push-in-Some-2.ensures.items ∙ sym c.in-Some.ensures.items)
