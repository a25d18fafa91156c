-- A line `raw` of a scenario, as a script of its own.
use Rattle.std.specs.Prelude.{ℕ, List, ◌++◌, codes, decimal, flat_map}
use Rattle.std.specs.Str.Lines.{lines}
use Rattle.scripts.specs.declared.fault.Cause.{Cause}
use Rattle.scripts.specs.declared.mode.Mode.TheVariants.{Schedule}
use Rattle.scripts.specs.Script.{IsFirstFault}
use Rattle.scenario_words.specs.declared.header.FileSize.{FileSize}
use Rattle.scenario_words.specs.Header.{Machine}
use Rattle.scenario_words.specs.Names.{script_name}

-- `file NAME PAGES`, by the script's name of the file
abbrev pub file_line : List (List ℕ) → FileSize → List ℕ
file_line names f = codes "file " ++ script_name names f.name ++ codes " " ++ decimal f.pages ++ codes "\n"

-- a script of one line, for a machine of this size and with these files
abbrev pub one_line : Machine → List (List ℕ) → List ℕ → List ℕ
one_line m names line =
    codes "frames " ++ decimal m.frames ++ codes "\n" ++ (codes "swap " ++ decimal m.swap ++ codes "\n") ++ flat_map (file_line names) m.files ++ (line ++ codes "\n")

-- a script can't have this line: a script of it alone is faulty
abbrev pub IsNoLine : Machine → List (List ℕ) → List ℕ → Type 0
IsNoLine m names line = (number : ℕ) × (cause : Cause) × IsFirstFault Schedule (lines (one_line m names line)) number cause
