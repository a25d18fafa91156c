-- A walk through what a scenario stands for, up to a fault.
use Rattle.std.specs.Prelude.{◌≡◌, true, false, ◌⊎◌, List, [], ◌∷◌, ◌++◌, Option, Some, None}
use Rattle.scenario_lines.specs.Scene.{SceneNow}
use Rattle.expansion.specs.declared.expansion.Item.{Item}
use Rattle.expansion.specs.declared.expansion.Item.TheVariants as item
use Rattle.expansion.specs.Walk.{Out, Ran, ends, onto}
use Rattle.expansion.specs.ToCome.{is_said}
use Rattle.scenario_reports.specs.declared.confirming.Seen.{Seen}
use Rattle.scenario_reports.specs.declared.confirming.Seen.TheVariants as seen
use Rattle.scenario_machines.specs.RawLines.{IsNoLine}

-- the walk stops at an item: a list with `until` begins, or a script can't have the line
abbrev pub IsStop : SceneNow → Item → Type 0
IsStop s item.Opened = Unit {0}
IsStop s (item.Raw line) = IsNoLine s.machine s.names line
IsStop s (item.Entry who what) = ⊥
IsStop s (item.Note words) = ⊥
IsStop s (item.Unreached line) = ⊥

pub record StopIn (s : SceneNow) (outs : List Out) : Type 0 where
  pub before : List Out
  pub out : Out
  pub after : List Out
  pub split : outs ≡ before ++ out ∷ after
  pub stop : IsStop s out.item

-- what comes does not come to its end, or the walk stops at one of its items
abbrev pub Stops : SceneNow → Ran → Type 0
Stops s r = (ends r.ending ≡ false) ⊎ StopIn s r.outs

-- so much was seen of what comes
abbrev pub Sees : SceneNow → Ran → Seen → Ran → Type 0
Sees s now seen.Item later = is_said now ≡ true → (o : Out) × (now ≡ onto (o ∷ []) later)
Sees s now seen.Stop later = is_said now ≡ true → Stops s now
Sees s now seen.End later = Unit {0}

-- by the item
abbrev pub SeesItem : SceneNow → Option Item → Seen → Type 0
SeesItem s (Some i) seen.Item = Unit {0}
SeesItem s (Some i) seen.Stop = IsStop s i
SeesItem s (Some i) seen.End = Unit {0}
SeesItem s None seen.Item = ⊥
SeesItem s None seen.Stop = ⊥
SeesItem s None seen.End = Unit {0}

-- so much was seen, and this is left; or a list with `until` began
abbrev pub IsLeft : Ran → Ran → Type 0
IsLeft all left = (ends all.ending ≡ false) ⊎ ((before : List Out) × (all ≡ onto before left))
