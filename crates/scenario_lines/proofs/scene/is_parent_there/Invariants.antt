use Rattle.std.proofs.Common.{◌≡◌, drop}
use Rattle.std.specs.List.{list_any}
use Rattle.scenario_words.specs.Paths.{has_parent}
use Rattle.scenario_lines.proofs.scene.is_parent_there.Given as goal

-- one of the groups from this one on passes, if one of all does
abbrev pub invariant-loop-group : goal.invariant-loop-group
invariant-loop-group l = list_any (λ g. has_parent l.path g) (drop l.group-index l.groups) ≡ list_any (λ g. has_parent l.path g) l.groups
