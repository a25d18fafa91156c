use Rattle.std.proofs.Common.{◌≡◌, ◌+◌, ◌≤◌, length}
use Rattle.std.specs.Str.Lines.{lines}
use Rattle.scenarios.specs.Scenario.{scenario_of}
use Rattle.scenarios.specs.Building.{places_of, AreOpen, rest_of}
use Rattle.scenarios.proofs.scenario.read.Given as goal

abbrev pub invariant-loop-rest : goal.invariant-loop-rest
invariant-loop-rest l =
    (rest_of l.reading (l.number + 1) (lines l.rest) ≡ scenario_of l.text) × AreOpen (places_of l.reading.opened.items) (length l.reading.lines.items) × (l.number + length l.rest ≤ length l.text)

abbrev pub decreases-loop-rest : goal.decreases-loop-rest
decreases-loop-rest l = length l.rest
