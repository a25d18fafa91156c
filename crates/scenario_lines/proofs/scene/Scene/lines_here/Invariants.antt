use Rattle.std.proofs.Common.{◌≡◌, drop}
use Rattle.scenario_lines.specs.HeaderLines.{lines_here}
use Rattle.scenario_lines.proofs.OpeningLemmas.{counted}
use Rattle.scenario_lines.proofs.scene.Scene.lines_here.Given as goal

-- the lines so far, with those from this one on, are all
abbrev pub invariant-loop-count : goal.invariant-loop-count
invariant-loop-count l = counted l.count (lines_here l.self l.lines.items (drop l.count l.all)) ≡ lines_here l.fn.self l.fn.lines.items l.all
