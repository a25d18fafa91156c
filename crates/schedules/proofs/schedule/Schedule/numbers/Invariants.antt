use Rattle.std.proofs.Common.{◌≡◌, take}
use Rattle.schedules.specs.Schedule.{numbers_of}
use Rattle.schedules.proofs.schedule.Schedule.numbers.Given as goal

-- the numbers of the lines before this one
abbrev pub invariant-loop-line : goal.invariant-loop-line
invariant-loop-line l = l.numbers.items ≡ numbers_of (take l.line-index l.line-items)
