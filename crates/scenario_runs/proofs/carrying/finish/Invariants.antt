use Rattle.std.proofs.Common.{ℕ}
use Rattle.scenario_runs.specs.Carried.{TakesTurns}
use Rattle.scenario_runs.proofs.carrying.finish.Given as goal

-- the turns so far
abbrev pub invariant-loop : goal.invariant-loop
invariant-loop g l = (turns : ℕ) × TakesTurns g.O.Sink.took g.O.Sink.saw g.O.Observer.goes_on turns l.fn.observer l.fn.stepper l.actor l.observer l.stepper
