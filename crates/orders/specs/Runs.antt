-- Runs that were made: which actors were ready at each point, and which one took the turn.
use Rattle.std.specs.Prelude.{◌≡◌, ◌⊎◌, ℕ, ◌<◌, nat_eq, List, [], ◌∷◌, ◌++◌, All, AllPairs, map, take, Option, Some, None, if◌then◌else◌}
use Rattle.std.specs.List.Sorted.{IsStrictlyIncreasing}
use Rattle.orders.specs.declared.point.Point.{Point}
use Rattle.orders.specs.Paths.{Tree, paths, IsBefore}
use Rattle.orders.specs.Course.{Course, chosen, left}

-- the actors that were ready at a point, and the one that took the turn
pub record Turn : Type 0 where
  pub ready : List ℕ
  pub who : ℕ

-- a whole run, or the beginning of one
abbrev pub Run : Type 0
Run = List Turn

-- the actors that took the turns, in sequence
abbrev pub path_of_run : Run → List ℕ
path_of_run [] = []
path_of_run (turn ∷ run) = turn.who ∷ path_of_run run

abbrev pub turn_at : Point → Turn
turn_at point = record { ready = point.ready.items; who = chosen point }

abbrev pub turns_at : List Point → Run
turns_at [] = []
turns_at (point ∷ points) = turn_at point ∷ turns_at points

-- the turns of the current run so far
abbrev pub turns : Course → Run
turns course = turns_at (take course.depth course.points)

-- ---- runs of a tree

-- after this path, the actors that were ready at each point of the run are those of the tree
abbrev pub IsWithinFrom : Tree → List ℕ → Run → Type 0
IsWithinFrom tree path [] = Unit {0}
IsWithinFrom tree path (turn ∷ run) = (turn.ready ≡ tree path) × IsWithinFrom tree (path ++ turn.who ∷ []) run

-- it is the beginning of a run of the tree
abbrev pub IsWithin : Tree → Run → Type 0
IsWithin tree run = IsWithinFrom tree [] run

-- the same, and no actor is ready at the end
abbrev pub IsRunFrom : Tree → List ℕ → Run → Type 0
IsRunFrom tree path [] = tree path ≡ []
IsRunFrom tree path (turn ∷ run) = (turn.ready ≡ tree path) × IsRunFrom tree (path ++ turn.who ∷ []) run

-- it is a whole run of the tree
abbrev pub IsRun : Tree → Run → Type 0
IsRun tree run = IsRunFrom tree [] run

-- these are the runs of one tree: all of them, each once, in the order of their numbers. (Excludes a run that is left out, and one that went another way
-- although it began with the same turns.)
pub record AreAllRuns (depth : ℕ) (runs : List Run) : Type 0 where
  pub tree : Tree
  pub each : All (IsRun tree) runs
  pub all : map path_of_run runs ≡ paths depth tree
  pub in_order : AllPairs (λ (a b : Run). IsBefore (path_of_run a) (path_of_run b)) runs

-- ---- how the runs made so far compare

-- as long as two runs take the same turns, the same actors are ready
abbrev pub Agree : Run → Run → Type 0
Agree [] [] = Unit {0}
Agree [] (b ∷ later) = ⊥
Agree (a ∷ run) [] = ⊥
Agree (a ∷ run) (b ∷ later) = (a.ready ≡ b.ready) × (a.who ≡ b.who → Agree run later)

-- any two of the runs agree, and the earlier one has the lesser numbers
pub record AreRuns (runs : List Run) : Type 0 where
  pub agree : AllPairs Agree runs
  pub in_order : AllPairs (λ (a b : Run). IsBefore (path_of_run a) (path_of_run b)) runs

-- the run left the current path at some point, with a lesser number; up to there the same actors were ready
abbrev pub Precedes : Run → List Point → Type 0
Precedes [] points = ⊥
Precedes (turn ∷ run) [] = ⊥
Precedes (turn ∷ run) (point ∷ points) =
    (turn.ready ≡ point.ready.items) × ((turn.who < chosen point) ⊎ ((turn.who ≡ chosen point) × Precedes run points))

-- the walk reached this path after these runs
pub record CameBy (runs : List Run) (course : Course) : Type 0 where
  pub before : All (λ (run : Run). Precedes run course.points) runs
  pub rising : All (λ (point : Point). IsStrictlyIncreasing point.ready.items) course.points
  pub runs_are : AreRuns runs

-- the same; and for every tree of which these are runs, and the current run a beginning: its paths are those of the runs, and then those that are left
pub record IsWalk (depth : ℕ) (runs : List Run) (course : Course) : Type 0 where
  pub came_by : CameBy runs course
  pub whole : (tree : Tree) → All (IsRun tree) runs → IsWithin tree (turns course) → map path_of_run runs ++ left depth tree course ≡ paths depth tree

-- ---- the tree of some runs

-- the actors that were ready after this path, if the run reached that point
abbrev pub seen : Run → List ℕ → Option (List ℕ)
seen [] [] = Some []
seen [] (who ∷ path) = None
seen (turn ∷ run) [] = Some turn.ready
seen (turn ∷ run) (who ∷ path) = if nat_eq turn.who who then seen run path else None

-- the actors that were ready there in the first of these runs that reached it
abbrev pub found_or : Option (List ℕ) → List ℕ → List ℕ
found_or (Some ready) others = ready
found_or None others = others

abbrev pub tree_of : List Run → Tree
tree_of [] path = []
tree_of (run ∷ runs) path = found_or (seen run path) (tree_of runs path)

-- runs that agree are runs of one tree
abbrev pub RunsHaveATree : Type 0
RunsHaveATree = (runs : List Run) → AllPairs Agree runs → All (IsRun (tree_of runs)) runs
