use Rattle.std.proofs.Common.{◌≡◌, map, take}
use Rattle.std.specs.List.{filter}
use Rattle.embedding.specs.Scenarios.{is_filled}
use Rattle.embedding.proofs.scenario.filled_lines.Given as goal

-- the lines so far that are not empty
abbrev pub invariant-loop-line : goal.invariant-loop-line
invariant-loop-line l = map (λ t. t.now) l.filled.items ≡ filter is_filled (map (λ t. t.now) (take l.line-index l.line-items))
