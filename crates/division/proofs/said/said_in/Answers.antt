use Rattle.std.proofs.Common.{rules, ◌≡◌, length, refl, arith}
use Rattle.std.specs.Str.Lines.{lines}
use Rattle.division.proofs.SaidLemmas.{one_more, at_end, no_line}
use Rattle.division.proofs.said.said_in.Goals as goal

pub loop-steps-preserved : goal.loop-steps-preserved
loop-steps-preserved c = (
  λ is h. one_more is _ _ _ _ _ _ c.loop-steps.number _ _ _ _ _ _ _ (c.loop-steps.invariant.0 is h) c.first_line.ensures.lines c.line_goes-goes.ensures c.width-width.ensures.is c.in_ok-said_by.ensures c.in_ok-push.ensures.items
      c.rest_of-steps.ensures c.rest_of-numbers.ensures refl,
  omega arith,
)

pub returns : goal.returns
returns c =
    let empty : length c.loop-steps.rest.now ≡ 0 = search rules in
    λ is h. at_end is _ _ _ _ (lines c.loop-steps.rest.now) (c.loop-steps.invariant.0 is h) (no_line _ empty)
