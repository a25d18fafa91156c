-- What an explorer keeps of the current order. Clauses of private functions cite it.
use Rattle.std.specs.Prelude.{◌≡◌, ℕ, Bool, true, List, [], ◌++◌, length, Option, Some, None, Result, Ok}
use Rattle.machine.specs.declared.config.Config.{Config}
use Rattle.machine.specs.declared.command.Step.{Step}
use Rattle.machine.specs.declared.command.Reply.{Reply as Told_by}
use Rattle.block_store.specs.Device.{Disk}
use Rattle.driver.specs.Schedule.{World, first_world, fits, Runs, Schedules}
use Rattle.orders.specs.Runs.{Run, path_of_run}
use Rattle.walks.specs.declared.Walk.{Walk}
use Rattle.explorer.specs.declared.explorer.Exploration.{Exploration}
use Rattle.explorer.specs.declared.parts.Parts.{Parts}
use Rattle.explorer.specs.declared.parts.Row.{Row}
use Rattle.explorer.specs.declared.choice.Choice.{Choice}
use Rattle.explorer.specs.Work.{AllGoOn, eligible_in}
use Rattle.explorer.specs.Outcome.{at_go, Reaches}
use Rattle.explorer.specs.Carried.{at}
use Rattle.explorer.specs.Tally.{Counted}
use Rattle.explorer.specs.Turns.{Keeps}
use Rattle.explorer.specs.Explored.{Counts}

-- the setup was carried out, and then each actor began its first line
pub record Starts (parts : Parts) (old : World) (begun : List ℕ) (said : List Told_by) (new : World) : Type 0 where
  pub set_up : World
  pub setup_answers : List Told_by
  pub first_steps : List Step
  pub sets_up : Runs old parts.setup.items setup_answers set_up
  pub begins : AllGoOn parts.rows.items (at_go parts.rows.items set_up) (length parts.rows.items) first_steps said (at new begun)

-- these steps are a schedule that ends in this world
pub record EndsAt (config : Config) (disk : Disk) (steps : List Step) (answers : List Told_by) (end : World) : Type 0 where
  pub schedules : Schedules config disk steps answers end.disk
  pub ends : schedules.end ≡ end

-- the looks were carried out in this world, and whatever steps led there, they and the looks are a schedule
pub record LooksAt (world : World) (looks : List Step) (before after : List Told_by) : Type 0 where
  pub answers : List Told_by
  pub end : World
  pub adds : after ≡ before ++ answers
  pub runs : Runs world looks answers end
  pub closes : (config : Config) (disk : Disk) (steps : List Step) (earlier : List Told_by) → fits config disk ≡ true → Runs (first_world config disk) steps earlier world → EndsAt config disk (steps ++ looks) (earlier ++ answers) end

-- these turns of an order led to this world
pub record Came (choice : Choice) (parts : Parts) (run : Run) (world : World) (begun : List ℕ) (said : List Told_by) (path : List ℕ) : Type 0 where
  pub steps : List Step
  pub answers : List Told_by
  pub reaches : Reaches choice parts run steps answers said (at world begun)
  pub path_is : path ≡ path_of_run run

-- an explorer's run, if there is one, is at the end of these turns
abbrev pub IsAt : Option World → Choice → Parts → Run → List ℕ → List Told_by → List ℕ → Type 0
IsAt None choice parts run begun said path = ⊥
IsAt (Some world) choice parts run begun said path = Came choice parts run world begun said path

-- the places of the actors that can take the next turn in it
abbrev pub eligible_now : Option World → Choice → List Row → List ℕ
eligible_now None choice rows = []
eligible_now (Some world) choice rows = eligible_in choice rows world

-- what it keeps of these runs
pub record Gathers (choice : Choice) (parts : Parts) (waits : Bool) (runs : List Run) (rows : List Counted) (left_out shortest longest : ℕ) : Type 0 where
  pub counts : Counts choice parts waits runs rows left_out
  pub keeps : Keeps runs shortest longest

-- what is handed on of a walk that did not fail
pub record IsHandedOn {E : Type 0} (walked : Result Walk E) (rows : List Counted) (left_out shortest longest : ℕ) (found : Exploration) : Type 0 where
  pub walk_is : walked ≡ Ok found.walk
  pub rows_are : found.table ≡ rows
  pub left_out_is : found.left_out ≡ left_out
  pub shortest_is : found.shortest ≡ shortest
  pub longest_is : found.longest ≡ longest
