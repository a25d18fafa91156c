use Rattle.std.proofs.Common.{◌≡◌, map, drop}
use Rattle.scenario_faults.specs.Settings.{has_unnamed}
use Rattle.scenario_faults.proofs.settings.check_settings.Given as goal

-- each text so far has the name of a `let`
abbrev pub invariant-loop-text : goal.invariant-loop-text
invariant-loop-text l = has_unnamed l.scenario.lines.items (map (λ t. t.now) (drop l.text-index l.texts)) ≡ has_unnamed l.scenario.lines.items (map (λ t. t.now) l.texts)
