use Rattle.std.proofs.Common.{List}
use Rattle.schedules.specs.declared.schedule.Entry.{Entry}
use Rattle.scenario_runs.specs.Carried.{CarriesAll}
use Rattle.scenario_runs.proofs.carrying.carry_raw.Given as goal

-- the entries so far
abbrev pub invariant-loop-line : goal.invariant-loop-line
invariant-loop-line g l = (es : List Entry) × CarriesAll g.O.Sink.took g.O.Sink.saw g.O.Observer.goes_on l.fn.observer l.fn.stepper es l.observer l.stepper
