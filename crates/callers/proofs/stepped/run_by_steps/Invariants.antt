use Rattle.std.proofs.Common.{◌≡◌, true, take}
use Rattle.driver.specs.Schedule.{first_world, fits}
use Rattle.driver.specs.Desks.{RunsTo}
use Rattle.callers.proofs.stepped.run_by_steps.Given as goal

abbrev pub invariant-loop-at : goal.invariant-loop-at
invariant-loop-at g l = record {
  fit : fits l.fn.config l.fn.device ≡ true;
  ran : RunsTo g.S.Sink.took g.S.Sink.saw l.fn.sink l.sink (first_world l.fn.config l.fn.device) (take l.at l.steps) l.run;
}
