use Rattle.explorer.proofs.CarriedLemmas.{carries-more, take-next}
use Rattle.explorer.proofs.plan.carry_out.Goals as goal

pub loop-step-preserved : goal.loop-step-preserved
loop-step-preserved c =
    carries-more c.args.run.now c.loop-step.run c.carry_one.new.run _ c.step-item.result _ c.args.said.now.items c.loop-step.said.items c.carry_one.new.said.items
    (take-next c.args.steps.now c.loop-step.step-index c.step-item.result c.loop-step-test.true c.step-item.is) c.loop-step.invariant c.in_ok-carry_one.ensures
