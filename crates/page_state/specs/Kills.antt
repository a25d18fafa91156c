-- How far a kill of a group has come, which goes over the task numbers.
use Rattle.std.specs.Prelude.{◌≡◌, ℕ, ◌+◌, ◌≤◌, ◌^◌, ◌&&◌, nat_lt, Bool, take}
use Rattle.machine.specs.Victim.{is_candidate, killed_with, counts_of_killed}
use Rattle.page_state.specs.States.{StateOf, AreAtMost}
use Rattle.page_state.specs.Changes.{counts_events}

-- `oom_kill` is counted for the tasks below this number, and they are so many
pub record CountsBelow (old now : StateOf) (h n tasks : ℕ) : Type 0 where
  pub counts : now ≡ counts_events old (counts_of_killed old.tables.tree (take n old.tables.tasks) h)
  pub many : tasks ≡ killed_with old.tables.tree (take n old.tables.tasks) h
  pub few : tasks ≤ n
  pub most : AreAtMost now.tables (2 ^ 63 + 2 + n)

-- the task is one of those below this number
abbrev pub is_ended_below : StateOf → ℕ → ℕ → ℕ → Bool
is_ended_below old h n u = nat_lt u n && is_candidate old.tables.tree old.tables.tasks h u
