use Rattle.std.proofs.Common.{◌≡◌, map, take}
use Rattle.scenario_faults.specs.Settings.{settings_of}
use Rattle.scenario_faults.proofs.settings.settings_of.Given as goal

-- the settings of the texts so far
abbrev pub invariant-loop-text : goal.invariant-loop-text
invariant-loop-text l = l.settings.items ≡ settings_of (map (λ t. t.now) (take l.text-index l.texts))
