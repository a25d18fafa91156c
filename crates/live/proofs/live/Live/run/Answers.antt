use Rattle.std.proofs.Common.{rules}
use Rattle.live.proofs.RowLemmas.{under_more, under_closed}
use Rattle.live.proofs.ShareLemmas.{carries-both}
use Rattle.live.proofs.live.Live.run.Goals as goal

pub loop-turn-preserved : goal.loop-turn-preserved
loop-turn-preserved g c = record {
  can = tt;
  finite = tt;
  under = under_more _ _ _ _ _ _ _ _ _ _ _ c.loop-turn.invariant.under c.in-Some-step.ensures.goes;
  own = c.in-Some-step.ensures.own;
  hand = c.in-Some-step.ensures.hand;
  caller = search rules;
  held = c.in-Some-step.ensures.held;
  space = c.in-Some-step.ensures.space;
  share = carries-both _ _ _ _ _ _ c.loop-turn.invariant.share c.in-Some-step.ensures.share;
}

pub returns-in-None-step-clause-ran : goal.returns-in-None-step-clause-ran
returns-in-None-step-clause-ran g c = under_closed _ _ _ _ _ _ _ _ _ _ c.loop-turn.invariant.under c.in-None-step.ensures.ends
