use Rattle.std.proofs.Common.{◌≡◌, drop}
use Rattle.std.specs.List.{list_any}
use Rattle.scenario_words.specs.Paths.{is_below}
use Rattle.scenario_lines.proofs.scene.has_below.Given as goal

-- one of the groups from this one on passes, if one of all does
abbrev pub invariant-loop-group : goal.invariant-loop-group
invariant-loop-group l = list_any (λ g. is_below g l.path) (drop l.group-index l.groups) ≡ list_any (λ g. is_below g l.path) l.groups
