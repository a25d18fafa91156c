use Rattle.std.proofs.Common.{◌≡◌, true, List}
use Rattle.expansion.specs.ToCome.{still}
use Rattle.expansion.specs.Walk.{Out, ends, onto}
use Rattle.scenario_runs.specs.Carried.{CarriesItems}
use Rattle.scenario_runs.proofs.carrying.carry_out.Given as goal

-- the items so far
abbrev pub invariant-loop : goal.invariant-loop
invariant-loop g l =
    ends (still l.fn.expansion).ending ≡ true
    → (outs : List Out) × (still l.fn.expansion ≡ onto outs (still l.expansion)) × CarriesItems g.O.Sink.took g.O.Sink.saw g.O.Observer.goes_on g.O.Observer.judged l.fn.observer l.fn.stepper outs l.observer l.stepper
