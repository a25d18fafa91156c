use Rattle.std.proofs.Common.{◌≡◌, ◌-◌, sym, ◌∙◌, arith}
use Rattle.scripts.proofs.Splits.{around_blank, kept_more, kept_last}
use Rattle.scripts.proofs.words.add_words.Goals as goal

pub range-requires-clause-end_boundary : goal.range-requires-clause-end_boundary
range-requires-clause-end_boundary c = (around_blank c.loop-at.rest.now c.in-Some.at c.loop-at.invariant.1 (sym c.first_blank.ensures ∙ c.in-Some.is)).0

pub range_from-rest-requires : goal.range_from-rest-requires
range_from-rest-requires c = λ _. (around_blank c.loop-at.rest.now c.in-Some.at c.loop-at.invariant.1 (sym c.first_blank.ensures ∙ c.in-Some.is)).1

pub loop-at-preserved : goal.loop-at-preserved
loop-at-preserved c =
    let at : c.in-Some.at - 0 ≡ c.in-Some.at = omega arith in (
      rw c.range_from-rest.ensures.value
          (kept_more 8 c.loop-at.words.items c.add_part.new.words.items _ c.loop-at.rest.now c.in-Some.at (sym c.first_blank.ensures ∙ c.in-Some.is) (rw (c.range.ensures.value, at) at c.add_part.ensures)
          c.loop-at.invariant.0),
      c.range_from-rest.utf8,
    )

pub returns : goal.returns
returns c = kept_last 8 c.loop-at.words.items c.add_part-2.new.words.items _ c.loop-at.rest.now (sym c.first_blank.ensures ∙ c.in_default.is) c.add_part-2.ensures c.loop-at.invariant.0
