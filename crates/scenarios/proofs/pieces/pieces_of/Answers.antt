use Rattle.std.proofs.Common.{◌≡◌, ℕ, List, get_or, Some, sym, ap, ◌∙◌}
use Rattle.scenarios.specs.Pieces.{fits}
use Rattle.scenarios.proofs.PieceLemmas.{around_brace, first_ones, misfit, goes_on, ends}
use Rattle.scenarios.proofs.pieces.pieces_of.Goals as goal

pub range-before-requires-clause-end_boundary : goal.range-before-requires-clause-end_boundary
range-before-requires-clause-end_boundary c = (around_brace c.loop-at.rest.now c.in-Some.at c.loop-at.invariant.1 (sym c.first_brace.ensures ∙ c.in-Some.is)).0

pub range_from-rest-requires : goal.range_from-rest-requires
range_from-rest-requires c = λ _. (around_brace c.loop-at.rest.now c.in-Some.at c.loop-at.invariant.1 (sym c.first_brace.ensures ∙ c.in-Some.is)).1

pub returns-then-not-fits : goal.returns-then-not-fits
returns-then-not-fits c =
    let bs = c.loop-at.rest.now in
    let at = c.in-Some.at in
    let cut = first_ones bs c.range-before.result.now at c.range-before.ensures.value in
    misfit c.loop-at.pieces.items c.loop-at.hole c.args.word.now bs c.range-before.result.now at (get_or c.as_bytes.result.now at 0) (sym c.first_brace.ensures ∙ c.in-Some.is) cut
    (ap (λ (xs : List ℕ). get_or xs at 0) c.as_bytes.ensures.value) (sym c.fits.ensures ∙ c.if-not-fits.true) c.loop-at.invariant.0

pub loop-at-preserved : goal.loop-at-preserved
loop-at-preserved c =
    let bs = c.loop-at.rest.now in
    let at = c.in-Some.at in
    let cut = first_ones bs c.range-before.result.now at c.range-before.ensures.value in
    let same : get_or c.as_bytes-in-Some.result.now at 0 ≡ get_or c.as_bytes.result.now at 0 = ap (λ (xs : List ℕ). get_or xs at 0) (c.as_bytes-in-Some.ensures.value ∙ sym c.as_bytes.ensures.value) in (
      goes_on c.loop-at.pieces.items c.add_piece.new.pieces.items c.loop-at.hole c.args.word.now bs c.range-before.result.now c.range_from-rest.result.now at (get_or c.as_bytes-in-Some.result.now at 0)
          (sym c.first_brace.ensures ∙ c.in-Some.is) cut (ap (λ (xs : List ℕ). get_or xs at 0) c.as_bytes-in-Some.ensures.value) c.range_from-rest.ensures.value
          (ap (fits c.loop-at.hole c.range-before.result.now) same ∙ sym c.fits.ensures ∙ c.if-not-fits.false) c.in_ok-add_piece.ensures c.loop-at.invariant.0,
      c.range_from-rest.utf8,
    )

pub returns-then-hole : goal.returns-then-hole
returns-then-hole c = rw c.if-hole.true at (ends c.loop-at.pieces.items c.loop-at.hole c.args.word.now c.loop-at.rest.now (sym c.first_brace.ensures ∙ c.in_default.is) c.loop-at.invariant.0)

pub returns : goal.returns
returns c =
    ap Some c.in_ok-add_text.ensures
    ∙ rw c.if-hole.false at (ends c.loop-at.pieces.items c.loop-at.hole c.args.word.now c.loop-at.rest.now (sym c.first_brace.ensures ∙ c.in_default.is) c.loop-at.invariant.0)
