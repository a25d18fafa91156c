use Rattle.std.proofs.Common.{sym, ◌∙◌}
use Rattle.division.proofs.TrialLemmas.{find_next, found_at, there}
use Rattle.division.proofs.trial.first_refusal.Goals as goal

pub returns-then-refuses : goal.returns-then-refuses
returns-then-refuses c =
    sym (found_at c.args.said.now c.loop-reply.reply-index c.reply-item.result (there _ _ _ c.loop-reply-test.true c.reply-item.is) c.loop-reply.invariant (sym c.refuses.ensures ∙ c.if-refuses.true))

pub loop-reply-preserved : goal.loop-reply-preserved
loop-reply-preserved c = find_next c.args.said.now c.loop-reply.reply-index c.reply-item.result c.loop-reply-test.true c.reply-item.is c.loop-reply.invariant (sym c.refuses.ensures ∙ c.if-refuses.false)
