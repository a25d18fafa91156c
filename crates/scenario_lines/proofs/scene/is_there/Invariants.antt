use Rattle.std.proofs.Common.{◌≡◌, drop}
use Rattle.std.specs.List.{list_any}
use Rattle.scenario_words.specs.Paths.{same_path}
use Rattle.scenario_lines.proofs.scene.is_there.Given as goal

-- one of the groups from this one on passes, if one of all does
abbrev pub invariant-loop-group : goal.invariant-loop-group
invariant-loop-group l = list_any (λ g. same_path g l.path) (drop l.group-index l.groups) ≡ list_any (λ g. same_path g l.path) l.groups
