-- The two parts of a pass, as it walks. No public clause cites this.
use Rattle.std.specs.Prelude.{◌≡◌, ℕ, ◌==◌, Bool, true, false, if◌then◌else◌, List, [], ◌∷◌, find, All, Option, Some, None}
use Rattle.std.specs.List.{list_any}
use Rattle.machine.specs.Order.{round_from, place_in}
use Rattle.machine.specs.Tree.{Node, is_live, under, preorder}
use Rattle.group_tree.specs.Walk.{behind}

abbrev pub is_at : Option ℕ → ℕ → Bool
is_at None g = false
is_at (Some a) g = g == a

-- what is behind a place, and nothing where the list does not come to it
abbrev pub behind_last : List ℕ → Option ℕ → List ℕ
behind_last gs None = []
behind_last gs (Some g) = behind gs g

-- what is up to a place and at it, and all where the list does not come to it
abbrev pub up_to : List ℕ → Option ℕ → List ℕ
up_to [] last = []
up_to (g ∷ gs) last = g ∷ (if is_at last g then [] else up_to gs last)

-- the first that passes, from behind a place on and round to it
abbrev pub in_walk : List Node → (ℕ → Bool) → ℕ → Option ℕ → Option ℕ
in_walk tree test target last = find test (round_from (preorder tree target) (place_in (preorder tree target) last))

-- the list of the one, or of none
abbrev pub ones : Option ℕ → List ℕ
ones None = []
ones (Some g) = g ∷ []

-- all are live, and at or below the target
abbrev pub AreAsked : List Node → ℕ → List ℕ → Type 0
AreAsked tree target gs = All (λ g. (is_live tree g ≡ true) × (under tree target g ≡ true)) gs

-- no number is twice in the list
abbrev pub IsOnce : List ℕ → Type 0
IsOnce [] = Unit {0}
IsOnce (g ∷ gs) = (list_any (λ a. a == g) gs ≡ false) × IsOnce gs
