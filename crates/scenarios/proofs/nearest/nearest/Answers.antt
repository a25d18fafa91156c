use Rattle.std.proofs.Common.{◌≡◌, ℕ, ◌+◌, List, [], Bor, length, Some, sym, ap, subst, ◌∙◌, arith}
use Rattle.std.proofs.lemmas.List.{length-map, get_or-map}
use Rattle.scenarios.specs.Nearest.{near_edits, texts, IsNearestOf, IsBestOf}
use Rattle.scenarios.proofs.NearestLemmas.{one_more}
use Rattle.scenarios.proofs.nearest.nearest.Goals as goal

pub loop-place-preserved : goal.loop-place-preserved
loop-place-preserved c = subst (IsBestOf c.args.word.now (texts c.args.known.now) (c.loop-place.place + 1)) (sym c.nearer-best.ensures) (one_more c.args.word.now (texts c.args.known.now) c.loop-place.place c.loop-place.best c.in_ok-near_edits.field-0
    (ap (near_edits c.args.word.now) (get_or-map (λ (k : Bor (List ℕ)). k.now) c.args.known.now c.loop-place.place _ [] c.loop-place-test.true) ∙ sym c.in_ok-near_edits.ensures) c.loop-place.invariant)

pub returns-in-Some : goal.returns-in-Some
returns-in-Some c =
    let known = texts c.args.known.now in
    let best : IsBestOf c.args.word.now known c.loop-place.place (Some (c.in-Some.place, c.in-Some.field-0-1)) = subst (IsBestOf c.args.word.now known c.loop-place.place) c.in-Some.is c.loop-place.invariant in
    let all : c.loop-place.place ≡ length known = omega (arith, c.loop-place.auto.place-end, length-map c.args.known.now (λ k. k.now)) in
    (c.in-Some.field-0-1, subst (λ (n : ℕ). IsNearestOf c.args.word.now known n c.in-Some.place c.in-Some.field-0-1) all best)
