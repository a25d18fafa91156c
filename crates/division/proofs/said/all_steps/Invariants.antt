use Rattle.std.proofs.Common.{◌≡◌, take}
use Rattle.schedules.specs.Schedule.{steps_of}
use Rattle.division.proofs.said.all_steps.Given as goal

abbrev pub invariant-loop-line : goal.invariant-loop-line
invariant-loop-line l = l.steps.items ≡ steps_of (take l.line-index l.lines)
