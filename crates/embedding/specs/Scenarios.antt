-- What a call says of a scenario.
use Rattle.std.specs.Prelude.{ℕ, ◌<◌, ◌==◌, Bool, not, ◌⊎◌, List, length, filter}
use Rattle.std.specs.Str.Lines.{lines}
use Rattle.machine.specs.declared.limit.TheConstants.{SCRIPT_BYTES}
use Rattle.scenario_reports.specs.Faulty.{IsFaulty}

abbrev pub is_filled : List ℕ → Bool
is_filled line = not (length line == 0)

-- the settings or the paths that a text has: its lines that are not empty. (Excludes a line that is left out, and another order.)
abbrev pub filled_lines : List ℕ → List (List ℕ)
filled_lines text = filter is_filled (lines text)

-- the scenario can't be run: it has more bytes than a script may have, or it is faulty with these settings
abbrev pub IsUnsoundScenario : List ℕ → List ℕ → Type 0
IsUnsoundScenario text settings = (SCRIPT_BYTES < length text) ⊎ IsFaulty text (filled_lines settings)
