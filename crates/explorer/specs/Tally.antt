-- How many orders give each outcome.
use Rattle.std.specs.Prelude.{◌≡◌, ℕ, ◌+◌, List, [], ◌∷◌, Option, Some, None, fold, if◌then◌else◌}
use Rattle.std.specs.Str.{bytes_eq}

-- an outcome, how many orders give it, and the path of the first of them: the actors that took its turns
pub record Counted : Type 0 where
  pub outcome : List ℕ
  pub orders : ℕ
  pub first : List ℕ

-- what is found of some orders: the outcomes of those that are counted, how many are left out, and how many turns the shortest and the longest of all have
pub record Findings : Type 0 where
  pub rows : List Counted
  pub left_out : ℕ
  pub shortest : ℕ
  pub longest : ℕ

-- another order gives this outcome. (Excludes an order that is counted twice or not at all, and another outcome's first order.)
abbrev pub with_order : List Counted → List ℕ → List ℕ → List Counted
with_order [] outcome path = record { outcome = outcome; orders = 1; first = path } ∷ []
with_order (row ∷ rows) outcome path =
    if bytes_eq outcome row.outcome then record row { orders = row.orders + 1 } ∷ rows else row ∷ with_order rows outcome path

-- an order gives this outcome, or is left out
abbrev pub IsAdded : Option (List ℕ) → List ℕ → List Counted → ℕ → List Counted → ℕ → Type 0
IsAdded None path old before new after = (new ≡ old) × (after ≡ before + 1)
IsAdded (Some outcome) path old before new after = (new ≡ with_order old outcome path) × (after ≡ before)

-- a run's path with its outcome
abbrev pub add_order : List Counted → List ℕ × List ℕ → List Counted
add_order rows order = with_order rows order.1 order.0

-- the outcomes of these orders, each once, by first appearance
abbrev pub tally : List (List ℕ × List ℕ) → List Counted
tally orders = fold add_order [] orders
