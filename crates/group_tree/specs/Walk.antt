-- The children of a group by number, and what is behind a group in a walk.
use Rattle.std.specs.Prelude.{ℕ, ◌+◌, ◌==◌, if◌then◌else◌, List, [], ◌∷◌, drop}
use Rattle.machine.specs.Tree.{Node, is_child}

-- the children of p in a list of groups, of which the first is numbered k
abbrev pub children_among : ℕ → ℕ → List Node → List ℕ
children_among p k [] = []
children_among p k (node ∷ nodes) = if is_child p node then k ∷ children_among p (k + 1) nodes else children_among p (k + 1) nodes

-- the children of p that are numbered k or more
abbrev pub children_from : List Node → ℕ → ℕ → List ℕ
children_from tree p k = children_among p k (drop k tree)

-- what is behind a number in a list, and nothing where the list does not have it
abbrev pub behind : List ℕ → ℕ → List ℕ
behind [] g = []
behind (a ∷ rest) g = if a == g then rest else behind rest g
