-- What is known of all orders.
use Rattle.std.specs.Prelude.{◌≡◌, ℕ, ◌<◌, Bool, ◌&&◌, not, List, [], ◌∷◌, filter, length, map, All as Each}
use Rattle.orders.specs.Paths.{Tree, paths}
use Rattle.machine.specs.declared.command.Step.{Step}
use Rattle.machine.specs.declared.command.Reply.{Reply as Told_by}
use Rattle.orders.specs.Runs.{Run, IsRun, AreRuns, AreAllRuns, path_of_run}
use Rattle.walks.specs.declared.Walk.{Walk}
use Rattle.walks.specs.declared.Walk.TheVariants.{All, Stopped, TooDeep, Sample}
use Rattle.walks.specs.Walks.{AreShort}
use Rattle.explorer.specs.declared.explorer.Exploration.{Exploration}
use Rattle.explorer.specs.declared.parts.Parts.{Parts}
use Rattle.explorer.specs.declared.choice.Choice.{Choice}
use Rattle.explorer.specs.Work.{Point, eligible_in}
use Rattle.explorer.specs.Outcome.{Reaches, IsOutcome}
use Rattle.explorer.specs.Tally.{Counted, Findings, tally}
use Rattle.explorer.specs.Turns.{Spans}

-- an order: whether a command met a page in transfer in it, and its outcome
pub record Order : Type 0 where
  pub run : Run
  pub busy : Bool
  pub outcome : List ℕ

-- of each of these orders this is the outcome
abbrev pub AreOutcomes : Choice → Parts → List Order → Type 0
AreOutcomes choice parts [] = Unit {0}
AreOutcomes choice parts (order ∷ orders) = IsOutcome choice parts order.run order.busy order.outcome × AreOutcomes choice parts orders

-- what is counted of an order
abbrev pub counted : Order → List ℕ × List ℕ
counted order = (path_of_run order.run, order.outcome)

-- commands wait for the end of a transfer, and in this order one did not. (Excludes an order in which no command met a page in transfer.)
abbrev pub is_left_out : Bool → Order → Bool
is_left_out waits order = waits && order.busy

abbrev pub is_kept : Bool → Order → Bool
is_kept waits order = not (is_left_out waits order)

-- the runs are orders of the work. Some may be left out. These rows are the outcomes of the others, each once, with how many of the orders give it. (Excludes a row for an outcome
-- that no order has, an outcome that has no row, and a wrong number.)
pub record Counts (choice : Choice) (parts : Parts) (waits : Bool) (runs : List Run) (rows : List Counted) (left_out : ℕ) : Type 0 where
  pub orders : List Order
  pub runs_are : map (λ (order : Order). order.run) orders ≡ runs
  pub outcomes : AreOutcomes choice parts orders
  pub rows_are : rows ≡ tally (map counted (filter (is_kept waits) orders))
  pub left_out_is : left_out ≡ length (filter (is_left_out waits) orders)

-- what an exploration found
abbrev pub findings : Exploration → Findings
findings exploration = record { rows = exploration.table; left_out = exploration.left_out; shortest = exploration.shortest; longest = exploration.longest }

-- what was found of these runs. (Excludes a number of turns that none of them has.)
pub record Finds (choice : Choice) (parts : Parts) (waits : Bool) (runs : List Run) (found : Findings) : Type 0 where
  pub counts : Counts choice parts waits runs found.rows found.left_out
  pub spans : Spans runs found.shortest found.longest

-- an order of the work is too long: it comes to a point after this number of turns where an actor can take another. (Excludes a shorter order, and one that is over.)
pub record IsTooLong (choice : Choice) (parts : Parts) (depth : ℕ) : Type 0 where
  pub run : Run
  pub steps : List Step
  pub answers : List Told_by
  pub said : List Told_by
  pub point : Point
  pub reaches : Reaches choice parts run steps answers said point
  pub turns : length run ≡ depth
  pub more : eligible_in choice parts.rows.items point.world ≡ [] → ⊥

-- ---- all orders

-- all orders of the work were run, this many: wherever one of them took an actor's turn, each other actor that could have taken it there does in another that began as this one.
-- (Excludes an order that is not run, and one that is run twice.)
pub record AllExplored (choice : Choice) (parts : Parts) (waits : Bool) (depth count : ℕ) (found : Findings) : Type 0 where
  pub runs : List Run
  pub all : AreAllRuns depth runs
  pub count_is : length runs ≡ count
  pub finds : Finds choice parts waits runs found

-- this many orders were run, each once, and there are more
pub record SomeExplored (choice : Choice) (parts : Parts) (waits : Bool) (depth count : ℕ) (found : Findings) : Type 0 where
  pub runs : List Run
  pub runs_are : AreRuns runs
  pub count_is : length runs ≡ count
  pub finds : Finds choice parts waits runs found
  pub more : (tree : Tree) → Each (IsRun tree) runs → count < length (paths depth tree)

-- fewer orders than this were run, each once, and then one that is too long. (Excludes an order that is called too long, and is not.)
pub record FewExplored (choice : Choice) (parts : Parts) (waits : Bool) (depth most : ℕ) (found : Findings) : Type 0 where
  pub runs : List Run
  pub runs_are : AreRuns runs
  pub fewer : length runs < most
  pub finds : Finds choice parts waits runs found
  pub too_long : IsTooLong choice parts depth

-- by how the walk ended
abbrev pub Explored : Choice → Parts → Bool → ℕ → ℕ → Walk → Findings → Type 0
Explored choice parts waits depth most (All count) found = AllExplored choice parts waits depth count found
Explored choice parts waits depth most Stopped found = SomeExplored choice parts waits depth most found
Explored choice parts waits depth most TooDeep found = FewExplored choice parts waits depth most found
Explored choice parts waits depth most (Sample count) found = ⊥

-- ---- a sample

-- this many orders were drawn, one of them perhaps more than once. Nothing is said of any other order. (Excludes an outcome that none of them has, and counts of other orders.)
pub record Drawn (choice : Choice) (parts : Parts) (waits : Bool) (depth count : ℕ) (found : Findings) : Type 0 where
  pub runs : List Run
  pub count_is : length runs ≡ count
  pub short : AreShort depth runs
  pub finds : Finds choice parts waits runs found

-- fewer orders than this were drawn, and then one that is too long
pub record FewDrawn (choice : Choice) (parts : Parts) (waits : Bool) (depth most : ℕ) (found : Findings) : Type 0 where
  pub count : ℕ
  pub fewer : count < most
  pub drawn : Drawn choice parts waits depth count found
  pub too_long : IsTooLong choice parts depth

-- by how the walk ended. (Excludes a smaller sample.)
abbrev pub Sampled : Choice → Parts → Bool → ℕ → ℕ → Walk → Findings → Type 0
Sampled choice parts waits depth most (Sample count) found = (count ≡ most) × Drawn choice parts waits depth most found
Sampled choice parts waits depth most TooDeep found = FewDrawn choice parts waits depth most found
Sampled choice parts waits depth most (All count) found = ⊥
Sampled choice parts waits depth most Stopped found = ⊥
