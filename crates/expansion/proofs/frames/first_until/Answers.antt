use Rattle.std.proofs.Common.{◌∙◌, sym}
use Rattle.expansion.proofs.FrameLemmas.{until_here, until_later}
use Rattle.expansion.proofs.frames.first_until.Goals as goal

pub returns-then-is_at-clause-place : goal.returns-then-is_at-clause-place
returns-then-is_at-clause-place c = sym (until_here c.args.words.now c.loop-at.at c.loop-at.at c.loop-at-test.true (sym c.is_at.ensures ∙ c.if-is_at.true)) ∙ c.loop-at.invariant

pub loop-at-preserved : goal.loop-at-preserved
loop-at-preserved c = sym (until_later c.args.words.now c.loop-at.at c.loop-at.at c.loop-at-test.true (sym c.is_at.ensures ∙ c.if-is_at.false)) ∙ c.loop-at.invariant
