use Rattle.expansion.specs.ToCome.{still}
use Rattle.scenario_reports.specs.Confirming.{IsLeft}
use Rattle.scenario_reports.proofs.confirming.stops.Given as goal

-- the items so far came first
abbrev pub invariant-loop : goal.invariant-loop
invariant-loop l = record { left : IsLeft (still l.fn.expansion) (still l.expansion) }
