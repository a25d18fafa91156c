-- A tree, given by the actors that are ready at each of its points, and its paths from the root to the leaves.
use Rattle.std.specs.Prelude.{◌≡◌, ◌⊎◌, ℕ, zero, suc, ◌<◌, ◌≤◌, List, [], ◌∷◌, ◌++◌, length, All, AllPairs, Contains}
use Rattle.std.specs.List.{flat_map}
use Rattle.std.specs.List.Sorted.{IsStrictlyIncreasing}

-- the actors that are ready after the turns of these, by their numbers, in order: none at a leaf
abbrev pub Tree : Type 0
Tree = List ℕ → List ℕ

-- the path alone if no actor is ready, and otherwise the longer paths
abbrev pub alone_or : List ℕ → List ℕ → List (List ℕ) → List (List ℕ)
alone_or path [] further = path ∷ []
alone_or path (who ∷ others) further = further

-- the whole paths that begin with this one, in order: the path itself at a leaf; otherwise those by the first ready actor, then those by the second, and so
-- on. The number limits how many turns are added: a path that has not reached a leaf by then ends there.
abbrev pub paths_from : ℕ → Tree → List ℕ → List (List ℕ)
paths_from zero tree path = path ∷ []
paths_from (suc more) tree path =
    alone_or path (tree path) (flat_map (λ (who : ℕ). paths_from more tree (path ++ who ∷ [])) (tree path))

-- all paths of a tree, from the root to a leaf or to this depth
abbrev pub paths : ℕ → Tree → List (List ℕ)
paths depth tree = paths_from depth tree []

-- the paths that begin with this one, followed by one of these actors
abbrev pub paths_by : ℕ → Tree → List ℕ → List ℕ → List (List ℕ)
paths_by more tree path others = flat_map (λ (who : ℕ). paths_from more tree (path ++ who ∷ [])) others

-- ---- what these are

-- after this path, each of these actors is ready when its turn comes
abbrev pub IsWayFrom : Tree → List ℕ → List ℕ → Type 0
IsWayFrom tree path [] = Unit {0}
IsWayFrom tree path (who ∷ way) = Contains (tree path) who × IsWayFrom tree (path ++ who ∷ []) way

-- the same, and no actor is ready at the end
abbrev pub IsPathFrom : Tree → List ℕ → List ℕ → Type 0
IsPathFrom tree path [] = tree path ≡ []
IsPathFrom tree path (who ∷ rest) = Contains (tree path) who × IsPathFrom tree (path ++ who ∷ []) rest

-- a path from the root to a leaf
abbrev pub IsPath : Tree → List ℕ → Type 0
IsPath tree path = IsPathFrom tree [] path

-- one path comes before another: where they differ first, it has the lesser number
abbrev pub IsBefore : List ℕ → List ℕ → Type 0
IsBefore [] later = ⊥
IsBefore (a ∷ path) [] = ⊥
IsBefore (a ∷ path) (b ∷ later) = (a < b) ⊎ ((a ≡ b) × IsBefore path later)

-- no way is longer than this
abbrev pub IsNoDeeper : ℕ → Tree → Type 0
IsNoDeeper depth tree = (way : List ℕ) → IsWayFrom tree [] way → length way ≤ depth

-- at every point the ready actors are in rising order, each once
abbrev pub IsRising : Tree → Type 0
IsRising tree = (path : List ℕ) → IsStrictlyIncreasing (tree path)

-- these are the paths of the tree, all of them, each once, in the order of their numbers
pub record AreThePaths (tree : Tree) (found : List (List ℕ)) : Type 0 where
  pub paths : All (IsPath tree) found
  pub all : (path : List ℕ) → IsPath tree path → Contains found path
  pub in_order : AllPairs IsBefore found

-- [paths] lists them, if the depth is at least the tree's
abbrev pub PathsAreThePaths : Type 0
PathsAreThePaths = (depth : ℕ) (tree : Tree) → IsNoDeeper depth tree → IsRising tree → AreThePaths tree (paths depth tree)
