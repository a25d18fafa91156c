-- Which runs a walk made.
use Rattle.std.specs.Prelude.{◌≡◌, ℕ, ◌+◌, ◌<◌, ◌≤◌, List, [], ◌∷◌, ◌++◌, length, All as Each}
use Rattle.orders.specs.Paths.{Tree, paths}
use Rattle.orders.specs.Course.{Course, taken, IsThrough}
use Rattle.orders.specs.Runs.{Run, turns, IsRun, AreAllRuns, AreRuns, IsWalk}
use Rattle.walks.specs.declared.Walk.{Walk}
use Rattle.walks.specs.declared.Walk.TheVariants.{All, Stopped, TooDeep, Sample}

-- all runs were made and gathered, and this is their number. (Excludes a walk that leaves a run out and says all.)
pub record MadeAll {M : Type 0} (gathered : M → List Run → Type 0) (machine : M) (depth count : ℕ) : Type 0 where
  pub runs : List Run
  pub all : AreAllRuns depth runs
  pub count_is : length runs ≡ count
  pub gathers : gathered machine runs

-- this many runs were made and gathered, each once, and every tree of which they are runs has more. (Excludes a walk that stops early, and one that says so although
-- all runs were made.)
pub record MadeSome {M : Type 0} (gathered : M → List Run → Type 0) (machine : M) (depth count : ℕ) : Type 0 where
  pub runs : List Run
  pub runs_are : AreRuns runs
  pub count_is : length runs ≡ count
  pub gathers : gathered machine runs
  pub more : (tree : Tree) → Each (IsRun tree) runs → count < length (paths depth tree)

-- the machine's run has had this many turns, and some actor is ready still. (Excludes a shorter run, and one that is over.)
pub record IsCut {M : Type 0} (came : M → Run → Type 0) (may : M → List ℕ → Type 0) (machine : M) (depth : ℕ) : Type 0 where
  pub run : Run
  pub ready : List ℕ
  pub comes : came machine run
  pub count_is : length run ≡ depth
  pub may_be : may machine ready
  pub some : ready ≡ [] → ⊥

-- fewer runs than this were made and gathered, each once, and then one was cut
pub record MadeUntil {M : Type 0} (came : M → Run → Type 0) (may : M → List ℕ → Type 0) (gathered : M → List Run → Type 0) (machine : M) (depth most : ℕ) : Type 0 where
  pub runs : List Run
  pub runs_are : AreRuns runs
  pub fewer : length runs < most
  pub gathers : gathered machine runs
  pub cut : IsCut came may machine depth

abbrev pub IsWalked : {M : Type 0} → (M → Run → Type 0) → (M → List ℕ → Type 0) → (M → List Run → Type 0) → M → ℕ → ℕ → Walk → Type 0
IsWalked came may gathered machine depth most (All count) = MadeAll gathered machine depth count
IsWalked came may gathered machine depth most Stopped = MadeSome gathered machine depth most
IsWalked came may gathered machine depth most TooDeep = MadeUntil came may gathered machine depth most
IsWalked came may gathered machine depth most (Sample count) = ⊥

-- ---- a sample

-- no run is longer than this
abbrev pub AreShort : ℕ → List Run → Type 0
AreShort depth runs = Each (λ (run : Run). length run ≤ depth) runs

-- these runs were drawn and gathered, and no others. One run may have been drawn more than once. (Excludes a run that is made but not gathered.)
pub record Draws {M : Type 0} (gathered : M → List Run → Type 0) (machine : M) (depth count : ℕ) : Type 0 where
  pub runs : List Run
  pub count_is : length runs ≡ count
  pub short : AreShort depth runs
  pub gathers : gathered machine runs

-- fewer runs than this were drawn, and then one was cut
pub record DrawsUntil {M : Type 0} (came : M → Run → Type 0) (may : M → List ℕ → Type 0) (gathered : M → List Run → Type 0) (machine : M) (depth most : ℕ) : Type 0 where
  pub count : ℕ
  pub fewer : count < most
  pub draws : Draws gathered machine depth count
  pub cut : IsCut came may machine depth

abbrev pub IsSampled : {M : Type 0} → (M → Run → Type 0) → (M → List ℕ → Type 0) → (M → List Run → Type 0) → M → ℕ → ℕ → Walk → Type 0
IsSampled came may gathered machine depth most (Sample count) = (count ≡ most) × Draws gathered machine depth most
IsSampled came may gathered machine depth most TooDeep = DrawsUntil came may gathered machine depth most
IsSampled came may gathered machine depth most (All count) = ⊥
IsSampled came may gathered machine depth most Stopped = ⊥

-- ---- on the way

-- this many runs were made so far
pub record MadeSoFar {M : Type 0} (gathered : M → List Run → Type 0) (machine : M) (depth count : ℕ) (course : Course) : Type 0 where
  pub runs : List Run
  pub walk : IsWalk depth runs course
  pub count_is : length runs ≡ count
  pub gathers : gathered machine runs

-- some turns were taken since the run began, this many
pub record Taken {M : Type 0} (came : M → Run → Type 0) (machine : M) (count : ℕ) : Type 0 where
  pub run : Run
  pub count_is : length run ≡ count
  pub comes : came machine run

-- another run was drawn
pub record DrawsOne {M : Type 0} (gathered : M → List Run → Type 0) (old new : M) (depth : ℕ) : Type 0 where
  pub one : (runs : List Run) → gathered old runs → (run : Run) × (length run ≤ depth) × gathered new (runs ++ run ∷ [])

-- a turn was taken
pub record Goes {M : Type 0} (came : M → Run → Type 0) (gathered : M → List Run → Type 0) (old new : M) (before after : Course) : Type 0 where
  pub comes : came new (turns after)
  pub one : length (taken after) ≡ length (taken before) + 1
  pub walks : (depth : ℕ) (runs : List Run) → length (taken before) < depth → IsWalk depth runs before → IsWalk depth runs after
  pub gathers : (runs : List Run) → gathered old runs → gathered new runs

-- the run is over, and was gathered
pub record Ends {M : Type 0} (gathered : M → List Run → Type 0) (old new : M) (before after : Course) : Type 0 where
  pub same : after ≡ before
  pub through : IsThrough after
  pub gathers : (runs : List Run) → gathered old runs → gathered new (runs ++ turns after ∷ [])
