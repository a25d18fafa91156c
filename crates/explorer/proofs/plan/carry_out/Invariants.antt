use Rattle.std.proofs.Common.{take}
use Rattle.explorer.specs.Carried.{Carries}
use Rattle.explorer.proofs.plan.carry_out.Given as goal

abbrev pub invariant-loop-step : goal.invariant-loop-step
invariant-loop-step l = Carries l.fn.run (take l.step-index l.steps) l.fn.said.items l.said.items l.run
