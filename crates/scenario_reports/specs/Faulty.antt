-- Scenarios that can't be run or expanded to their end.
use Rattle.std.specs.Prelude.{◌≡◌, ℕ, Bool, true, false, ◌⊎◌, List, ◌∷◌, ◌++◌, Result, Ok, Err}
use Rattle.scenarios.specs.declared.fault.Fault.{Fault as TextFault}
use Rattle.scenarios.specs.Holes.{NamedText}
use Rattle.scenarios.specs.Lines.{TextLine}
use Rattle.scenarios.specs.Scenario.{scenario_of}
use Rattle.scenario_words.specs.declared.fault.Fault.{Fault}
use Rattle.scenario_machines.specs.RawLines.{IsNoLine}
use Rattle.scenario_lines.specs.HeaderLines.{header_read}
use Rattle.scenario_lines.specs.Scene.{SceneNow, at_first}
use Rattle.scenario_faults.specs.Settings.{settings_of, has_unnamed}
use Rattle.expansion.specs.declared.expansion.Item.{Item}
use Rattle.expansion.specs.declared.expansion.Item.TheVariants as item
use Rattle.expansion.specs.Walk.{Out, ends, expanded}

-- ---- lines `raw`

-- an item is a line `raw` that a script can't have
abbrev pub IsOdd : SceneNow → Item → Type 0
IsOdd s (item.Raw line) = IsNoLine s.machine s.names line
IsOdd s (item.Entry who what) = ⊥
IsOdd s (item.Note words) = ⊥
IsOdd s item.Opened = ⊥
IsOdd s (item.Unreached line) = ⊥

-- one of the items is
pub record OddIn (s : SceneNow) (outs : List Out) : Type 0 where
  pub before : List Out
  pub out : Out
  pub after : List Out
  pub split : outs ≡ before ++ out ∷ after
  pub odd : IsOdd s out.item

abbrev pub HasOdd : Result (ℕ × SceneNow) Fault → List Out → Type 0
HasOdd (Ok p) outs = OddIn p.1 outs
HasOdd (Err f) outs = ⊥

-- ---- faulty scenarios

-- lines are faulty with these words in place of those of `let` lines
abbrev pub AreFaulty : List TextLine → List NamedText → Type 0
AreFaulty ls named = (ends (expanded ls named).ending ≡ false) ⊎ HasOdd (header_read (at_first named) ls) (expanded ls named).outs

abbrev pub IsFaultyBy : Result (List TextLine) TextFault → List NamedText → Type 0
IsFaultyBy (Err f) named = Unit {0}
IsFaultyBy (Ok ls) named = AreFaulty ls named

-- a text is a faulty scenario with these settings: it does not read, or its lines are faulty
abbrev pub IsFaulty : List ℕ → List (List ℕ) → Type 0
IsFaulty text settings = IsFaultyBy (scenario_of text) (settings_of settings)

-- ---- settings

abbrev pub LacksNameBy : Result (List TextLine) TextFault → List (List ℕ) → Type 0
LacksNameBy (Err f) settings = ⊥
LacksNameBy (Ok ls) settings = has_unnamed ls settings ≡ true

-- no `let` of the scenario has the name of one of the settings
abbrev pub LacksName : List ℕ → List (List ℕ) → Type 0
LacksName text settings = LacksNameBy (scenario_of text) settings
