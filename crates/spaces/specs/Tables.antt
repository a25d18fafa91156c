-- The tables that the tasks, their page tables and the counts stand in. No public clause cites this.
use Rattle.std.specs.Prelude.{◌≡◌, ℕ, ◌-◌, ◌≤◌, if◌then◌else◌, List, length, slice_index, vec_len, vec_capacity}
use Rattle.machine.specs.Access.{task_pages}
use Rattle.machine.specs.Slots.{count_there}
use Rattle.machine.specs.Tasks.{Tasks, PageTables, lives, live_tasks, is_live_in, table_of, mappers}
use Rattle.spaces.specs.Space.{Space}
use Rattle.spaces.specs.declared.Spaces.TheInside.{Inside}

-- what the tables say. There is memory for as many groups more as their counts have room for
abbrev pub space_of : Inside → Space
space_of s =
    record { tasks = s.tasks.items; page_tables = s.tables.items; numbers = length s.mappers.items; groups = length s.by_group.items; room = vec_capacity s.by_group - vec_len s.by_group }

-- how many live tasks are of a group
abbrev pub tasks_in : Tasks → ℕ → ℕ
tasks_in tasks g = count_there (is_live_in g) tasks

-- no task's number is above 65,535; `live` is how many tasks live; `by_group` has by group how many of its tasks live, and no live task is of a group past its
-- end; a live task has a table of all its virtual pages, and any other number one without a place; and `counts` has by page number how many virtual pages show
-- the page
pub record AreSpaces (tasks : Tasks) (tables : PageTables) (live : ℕ) (by_group counts : List ℕ) : Type 0 where
  pub within : length tasks ≤ 65536
  pub as_many : length tables ≡ length tasks
  pub living : live ≡ live_tasks tasks
  pub grouped : (g : ℕ) → tasks_in tasks g ≡ slice_index by_group g
  pub whole : (t : ℕ) → length (table_of tables t) ≡ (if lives tasks t then task_pages else 0)
  pub counted : (p : ℕ) → mappers tables p ≡ slice_index counts p
