-- Tasks, and the pages that their virtual pages show (kernel: mm/memory.c).
use Rattle.std.specs.Prelude.{◌≡◌, ◌≢◌, ℕ, ◌==◌, ◌&&◌, Bool, true, false, List, [], sum_by, slice_index_or, Option, Some, None, option_map}
use Rattle.machine.specs.declared.record.Life.{Life}
use Rattle.machine.specs.declared.record.Life.TheVariants.{Live, Exited, Killed}
use Rattle.machine.specs.declared.record.Task.{Task}
use Rattle.machine.specs.declared.id.PageId.{PageId}
use Rattle.machine.specs.Slots.{at, Changes, there_and, count_there, any_there}

-- the tasks by number. Ended ones stay, so that no number comes twice
abbrev pub Tasks : Type 0
Tasks = List (Option Task)

abbrev pub task_at : Tasks → ℕ → Option Task
task_at tasks t = at tasks t

abbrev pub is_live_life : Life → Bool
is_live_life Live = true
is_live_life Exited = false
is_live_life Killed = false

abbrev pub is_live_task : Task → Bool
is_live_task task = is_live_life task.life

-- the task of a number is there and runs
abbrev pub lives : Tasks → ℕ → Bool
lives tasks t = there_and is_live_task (task_at tasks t)

abbrev pub live_tasks : Tasks → ℕ
live_tasks tasks = count_there is_live_task tasks

abbrev pub is_live_in : ℕ → Task → Bool
is_live_in g task = is_live_task task && (task.group.0 == g)

-- the group has a live task
abbrev pub has_tasks : Tasks → ℕ → Bool
has_tasks tasks g = any_there (is_live_in g) tasks

abbrev pub task_of : ℕ → Life → Task
task_of g life = record { group = record { 0 = g }; life = life }

abbrev pub group_of : Option Task → ℕ
group_of None = 0
group_of (Some task) = task.group.0

-- the group of a task that is there
abbrev pub group_of_task : Tasks → ℕ → ℕ
group_of_task tasks t = group_of (task_at tasks t)

-- a task of a group begins, goes to it, or ends so, under its number
abbrev pub SetsTask : Tasks → ℕ → ℕ → Life → Tasks → Type 0
SetsTask old t g life new = Changes old new t (Some (task_of g life))

-- a task's page table: by virtual page the page that it shows, or nothing (kernel: struct mm_struct, its page table entries)
abbrev pub PageTable : Type 0
PageTable = List (Option PageId)

-- the page tables by task number
abbrev pub PageTables : Type 0
PageTables = List PageTable

-- the page table of a task. A number that has none shows nothing
abbrev pub table_of : PageTables → ℕ → PageTable
table_of tables t = slice_index_or tables t []

abbrev pub number_of_page : PageId → ℕ
number_of_page page = page.0

-- the page that a virtual page of a task shows
abbrev pub mapped_at : PageTables → ℕ → ℕ → Option ℕ
mapped_at tables t v = option_map number_of_page (at (table_of tables t) v)

abbrev pub is_page : ℕ → PageId → Bool
is_page p page = page.0 == p

-- how many virtual pages of a task show a page (kernel: the resident set size, with the pages in swap)
abbrev pub size_of : PageTables → ℕ → ℕ
size_of tables t = count_there (λ page. true) (table_of tables t)

-- how many virtual pages of a table, and of all, show this page (kernel: the page's mapcount)
abbrev pub mappers_in : ℕ → PageTable → ℕ
mappers_in p table = count_there (is_page p) table

abbrev pub mappers : PageTables → ℕ → ℕ
mappers tables p = sum_by (mappers_in p) tables

-- one virtual page of a task shows this from now on, and every other what it showed
pub record Shows (old new : PageTables) (t v : ℕ) (to : Option ℕ) : Type 0 where
  pub changed : mapped_at new t v ≡ to
  pub others : (u w : ℕ) → ((t == u) && (v == w)) ≡ false → mapped_at new u w ≡ mapped_at old u w

-- a task's virtual pages show from now on what those of another showed, and those of every other what they showed. (Excludes a child that begins with less than all of it.)
pub record Copies (old new : PageTables) (from to : ℕ) : Type 0 where
  pub copied : (v : ℕ) → mapped_at new to v ≡ mapped_at old from v
  pub others : (u w : ℕ) → u ≢ to → mapped_at new u w ≡ mapped_at old u w

-- a task's virtual pages show nothing from now on, and those of every other what they showed
pub record ShowsNothing (old new : PageTables) (t : ℕ) : Type 0 where
  pub none : (v : ℕ) → mapped_at new t v ≡ None
  pub others : (u w : ℕ) → u ≢ t → mapped_at new u w ≡ mapped_at old u w
