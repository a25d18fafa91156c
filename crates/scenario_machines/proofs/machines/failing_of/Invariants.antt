use Rattle.std.proofs.Common.{◌≡◌, take}
use Rattle.scenario_machines.specs.Machines.{failing_calls}
use Rattle.scenario_machines.proofs.machines.failing_of.Given as goal

-- the calls before this one
abbrev pub invariant-loop-failing : goal.invariant-loop-failing
invariant-loop-failing l = l.numbers.items ≡ failing_calls l.call (take l.failing-index l.failing-items)
