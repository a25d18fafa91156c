use Rattle.std.proofs.Common.{ℕ, List, [], ◌∷◌, ◌++◌, map, take, get_or, ap, sym, ◌∙◌}
use Rattle.std.proofs.lemmas.List.{take_more, take_all, map-append}
use denote.Ref.{Bor}
use Rattle.charts.specs.declared.watching.Shown.{Shown}
use Rattle.charts.specs.Watched.{shown_at}
use Rattle.charts.proofs.RowLemmas.{map-now}
use Rattle.charts.proofs.watching.row_of.Goals as goal

pub loop-at-preserved : goal.loop-at-preserved
loop-at-preserved c = λ opened.
    let f : Bor (List ℕ) → Shown = λ p. shown_at c.args.is_detailed c.args.book.now p.now in
    let paths : List (Bor (List ℕ)) = c.args.paths.now in
    let none : Bor (List ℕ) = record { ref_ptr = (0, 0); now = [] } in
    let i : ℕ = c.loop-at.at in
    c.in_ok-push.ensures.items
    ∙ ap (λ (row : List Shown). row ++ c.show.result ∷ []) (c.loop-at.invariant opened)
    ∙ ap (λ (shown : Shown). map f (take i paths) ++ shown ∷ []) (c.show.ensures opened)
    ∙ sym (ap (λ (ps : List (Bor (List ℕ))). map f ps) (take_more paths i none c.loop-at-test.true) ∙ map-append f (take i paths) (get_or paths i none ∷ []))

pub returns : goal.returns
returns c = λ opened.
    let f : Bor (List ℕ) → Shown = λ p. shown_at c.args.is_detailed c.args.book.now p.now in
    let paths : List (Bor (List ℕ)) = c.args.paths.now in
    c.loop-at.invariant opened
    ∙ ap (λ (ps : List (Bor (List ℕ))). map f ps) (take_all c.loop-at.at paths c.loop-at-test.false)
    ∙ map-now (shown_at c.args.is_detailed c.args.book.now) paths
