-- How a table keeps its rows, and how it finds one. No public clause cites it but by the model of a table.
use Rattle.std.specs.Prelude.{◌≡◌, ℕ, ◌+◌, List, [], ◌∷◌, Option, Some, None, map, string_bytes, if◌then◌else◌}
use denote.Ref.{Bor}
use Rattle.std.specs.Str.{bytes_eq}
use Rattle.std.specs.declared.string.String.{String}
use Rattle.std.specs.declared.alloc.Global.{Global}
use Rattle.explorer.specs.declared.table.Found.{Found}
use Rattle.explorer.specs.Tally.{Counted}

-- an entry as a row
abbrev pub shown : String Global × Found → Counted
shown entry = record { outcome = string_bytes entry.0; orders = entry.1.orders; first = entry.1.first.items }

-- what is found of an outcome as a row
abbrev pub shown_found : Bor (String Global) × Bor Found → Counted
shown_found entry = record { outcome = string_bytes entry.0.now; orders = entry.1.now.orders; first = entry.1.now.first.items }

abbrev pub shown_rows : List (String Global × Found) → List Counted
shown_rows entries = map shown entries

-- the row of the outcome, if there is one
abbrev pub row_for : List ℕ → List Counted → Option Counted
row_for outcome [] = None
row_for outcome (row ∷ rows) = if bytes_eq outcome row.outcome then Some row else row_for outcome rows

-- what is found of an outcome once another order with this path gives it
abbrev pub IsFoundWith : Option Counted → List ℕ → Found → Type 0
IsFoundWith None path found = (found.orders ≡ 1) × (found.first.items ≡ path)
IsFoundWith (Some row) path found = (found.orders ≡ row.orders + 1) × (found.first.items ≡ row.first)
