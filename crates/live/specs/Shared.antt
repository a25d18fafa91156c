-- What lies under the lock: the book's past, with the history of what workers were told. No public clause cites this.
use Rattle.std.specs.Prelude.{◌≡◌, ℕ, List, [], ◌∷◌, map}
use Rattle.atomic_table.specs.Seated.{TableId}
use Rattle.machine.specs.Tree.{Node, find_group}
use Rattle.machine.specs.State.{Opening}
use Rattle.machine.specs.Call.{Past}
use Rattle.live.specs.declared.history.Exchange.{Exchange}
use Rattle.live.specs.declared.history.Row.{Row}
use Rattle.live.specs.Passes.{PassOf}
use Rattle.live.specs.Rules.{row}
use Rattle.live.specs.Logs.{LogOf}
use Rattle.live.specs.Hands.{HandsAre}
use Rattle.live.specs.OneRun.{Act, Merged, Leads, told_in}
use Rattle.live.specs.Works.{finds_of}

-- one run of the machine led to the past, and told workers what the history has; and each ticket in hand is its worker's own
pub record IsShared (table : TableId) (opening : Opening) (past : Past) (log : LogOf) : Type 0 where
  pub of : log.table ≡ table
  pub opened : past.state.opening ≡ opening
  pub given : log.given ≡ past.passes
  pub acts : List Act
  pub leads : Leads opening acts past
  pub told_is : told_in acts ≡ log.log
  pub hands : HandsAre past log.log

-- marks are merged, any number of times, the newest first
abbrev pub MergeOn : Past → List (ℕ × ℕ) → Past → Type 0
MergeOn old [] new = new ≡ old
MergeOn old (mark ∷ marks) new = (before : Past) × MergeOn old marks before × Merged before mark.0 mark.1 new

pub record Gathers (old new : Past) : Type 0 where
  pub marks : List (ℕ × ℕ)
  pub merges : MergeOn old marks new
  pub same : new ≡ record old { order = new.order }

-- what is found for these paths
abbrev pub found_in : List Node → List (List ℕ) → List Exchange
found_in tree paths = finds_of paths (map (find_group tree) paths)

-- what passes have, by worker
abbrev pub rows_of : List PassOf → List Row
rows_of passes = map (λ (pass : PassOf). row pass.caller.worker pass.exchanges) passes
