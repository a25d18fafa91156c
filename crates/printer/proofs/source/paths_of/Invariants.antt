use Rattle.std.proofs.Common.{◌≡◌, ℕ, List, map, take}
use Rattle.std.specs.List.{filter_map}
use denote.Ref.{Bor}
use Rattle.schedules.specs.Schedule.{steps_of}
use Rattle.printer.specs.Paths.{path_begun, firsts}
use Rattle.printer.proofs.source.paths_of.Given as goal

-- the paths that the lines before this one make
abbrev pub invariant-loop-line : goal.invariant-loop-line
invariant-loop-line l = record {
  same : l.known.keys ≡ l.paths.items;
  first : map (λ (p : Bor (List ℕ)). p.now) l.paths.items ≡ firsts (filter_map path_begun (steps_of (take l.line-index l.line-items)));
}
