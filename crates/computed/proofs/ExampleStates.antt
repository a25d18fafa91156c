-- The groups, tasks, pages and states that the examples are about.
use Rattle.std.proofs.Common.{ℕ, ◌+◌, ◌*◌, ◌-◌, Bool, true, false, List, [], ◌∷◌, Option, Some, None}
use Rattle.std.specs.Prelude.{codes, map, replicate}
use Rattle.machine.specs.declared.config.Placement.TheVariants.{Own}
use Rattle.machine.specs.declared.amount.Amount.TheVariants as amount
use Rattle.machine.specs.declared.id.GroupId.{GroupId}
use Rattle.machine.specs.declared.id.TaskId.{TaskId}
use Rattle.machine.specs.declared.id.FrameId.{FrameId}
use Rattle.machine.specs.declared.id.PageId.{PageId}
use Rattle.machine.specs.declared.id.TicketId.{TicketId}
use Rattle.machine.specs.declared.record.Life.TheVariants.{Live, Exited, Killed}
use Rattle.machine.specs.declared.record.Limits.{Limits}
use Rattle.machine.specs.declared.record.OomGroup.{OomGroup}
use Rattle.machine.specs.declared.record.OomGroup.TheVariants.{Single}
use Rattle.machine.specs.Order.{Cursor, no_cursor, one_page_of}
use Rattle.machine.specs.Tree.{Node, root}
use Rattle.machine.specs.Pages.{Memory, OfFile, Residence, Held, Coming, Going, Away, Page, Pages}
use Rattle.machine.specs.Counts.{no_limits, no_counts}
use Rattle.machine.specs.Tasks.{Tasks, PageTables, task_of}
use Rattle.machine.specs.State.{Opening, State}
use Rattle.machine.specs.Generations.{Listed, Gens, new_gens}
use Rattle.machine.specs.Lists.{Order}
use Rattle.machine.specs.History.{Spot, at_first}

-- ---- numbers

abbrev pub group : ℕ → GroupId
group n = record { 0 = n }

abbrev pub task : ℕ → TaskId
task n = record { 0 = n }

abbrev pub frame : ℕ → FrameId
frame n = record { 0 = n }

abbrev pub ticket : ℕ → TicketId
ticket n = record { 0 = n }

-- a virtual page shows the page of this number
abbrev pub shows : ℕ → Option PageId
shows n = Some (record { 0 = n })

-- ---- groups

abbrev pub below : ℕ → List ℕ → Node
below parent path = record { parent = Some parent; path = path; live = true }

-- 0 is "/", 1 "/p", 2 "/p/a", 3 "/p/b", 4 "/q", which was removed, and 5 "/r"
abbrev pub tree : List Node
tree = root ∷ below 0 (codes "/p") ∷ below 1 (codes "/p/a") ∷ below 1 (codes "/p/b") ∷ record (below 0 (codes "/q")) { live = false } ∷ below 0 (codes "/r") ∷ []

abbrev pub max_of : ℕ → Limits
max_of n = record no_limits { max = amount.Pages n }

abbrev pub min_of : ℕ → Limits
min_of n = record no_limits { min = amount.Pages n }

abbrev pub low_of : ℕ → Limits
low_of n = record no_limits { low = amount.Pages n }

-- the flags of so many groups, none of which is killed as one
abbrev pub single : ℕ → List OomGroup
single n = replicate n Single

-- ---- a state with a page in each residence, and a task in each life

-- a page of memory of a group
abbrev pub memory : ℕ → Residence → Page
memory g residence = record { content = Memory; group = g; dirty = false; residence = residence }

-- a page of a file of a group
abbrev pub of_file : ℕ → Bool → Residence → Page
of_file g dirty residence = record { content = OfFile 0 0; group = g; dirty = dirty; residence = residence }

-- pages 0 and 1 of /p/a in frames 4 and 5; its page 2, coming into frame 0 from block 1 under ticket 7; page 3 of /p/b, going from frame 1 to block 2 under
-- ticket 8; and its page 4 on block 3
abbrev pub pages : Pages
pages = Some (memory 2 (Held 4)) ∷ Some (memory 2 (Held 5)) ∷ Some (memory 2 (Coming 0 1 7)) ∷ Some (memory 3 (Going 1 2 8)) ∷ Some (memory 3 (Away 3)) ∷ []

-- 1 of /p/a and 2 of /p/b run; 3 was killed, and 4 exited
abbrev pub tasks : Tasks
tasks = None ∷ Some (task_of 2 Live) ∷ Some (task_of 3 Live) ∷ Some (task_of 3 Killed) ∷ Some (task_of 3 Exited) ∷ []

-- task 1 shows pages 0, 1 and 2; task 2 shows page 0 too, at its place 1 nothing, then pages 3 and 4
abbrev pub tables : PageTables
tables = [] ∷ (shows 0 ∷ shows 1 ∷ shows 2 ∷ []) ∷ (shows 0 ∷ None ∷ shows 3 ∷ shows 4 ∷ []) ∷ []

-- 4 of 6 frames are used, and 3 of 4 swap blocks
abbrev pub opening : Opening
opening = record { frames = 6; swap = 4; files = []; watermarks = record { low = 0; high = 0 }; trace_limit = 8; recursive = false; placement = Own; page_size = 4096 }

-- /p has 4 pages and a max of 4, and /p/a has 3 of these and a max of 3: both are full, and /p/b, which has 1, is not
abbrev pub busy : State
busy = record {
  opening = opening;
  tree = tree;
  limits = no_limits ∷ max_of 4 ∷ max_of 3 ∷ no_limits ∷ no_limits ∷ no_limits ∷ [];
  flags = single 6;
  pages = pages;
  tasks = tasks;
  page_tables = tables;
  counted = replicate 6 no_counts;
}

-- ---- bytes

-- what files have before the run: of each byte of the first pages another
abbrev pub in_files : ℕ → ℕ → ℕ → ℕ
in_files f q o = 1 + 100 * f + 10 * q + o

-- what bytes are at first
abbrev pub first_bytes : Spot → ℕ
first_bytes spot = at_first in_files spot

-- ---- lists

-- page p, of the generation with this number
abbrev pub listed_at : ℕ → ℕ → Listed
listed_at p seq = record { page = p; seq = seq }

-- the lists of a group that has only had pages of memory: its youngest number, its oldest, and the pages
abbrev pub of_memory : ℕ → ℕ → List Listed → Gens
of_memory max_seq min_seq pages = record { max_seq = max_seq; anon = record { min_seq = min_seq; pages = pages }; file = record { min_seq = 0; pages = [] } }

-- the lists of a new group with these pages in its youngest generation
abbrev pub young : List Listed → Gens
young pages = of_memory 3 0 pages

-- the same after a search for a page: of the other type the two youngest generations are left
abbrev pub searched : ℕ → ℕ → List Listed → Gens
searched max_seq min_seq pages = record { max_seq = max_seq; anon = record { min_seq = min_seq; pages = pages }; file = record { min_seq = max_seq - 1; pages = [] } }

-- of groups 2 and 3 these lists, and of no other group a page
abbrev pub lists_of : Gens → Gens → List Gens
lists_of two three = new_gens ∷ new_gens ∷ two ∷ three ∷ new_gens ∷ new_gens ∷ []

-- ten page numbers, none of them marked
abbrev pub no_marks : List Bool
no_marks = false ∷ false ∷ false ∷ false ∷ false ∷ false ∷ false ∷ false ∷ false ∷ false ∷ []

-- whose turn it is where a page of each group is taken: behind this group, or behind none
abbrev pub turn_behind : Option ℕ → Cursor
turn_behind None = no_cursor
turn_behind (Some g) = one_page_of g

-- by target the group that was served last, where a page of each is taken
abbrev pub by_turns : List (Option ℕ) → List Cursor
by_turns last = map turn_behind last

-- no target for which a group was served
abbrev pub none_served : List Cursor
none_served = by_turns (None ∷ None ∷ None ∷ None ∷ None ∷ None ∷ [])

-- of groups 2 and 3 these lists, no page marked, and no group served
abbrev pub ordered : Gens → Gens → Order
ordered two three = record { held = record { groups = lists_of two three; marks = no_marks; hits = [] }; cursors = none_served }

-- page 1 came into its frame before page 0, and no group was served
abbrev pub busy_order : Order
busy_order = ordered (young (listed_at 1 3 ∷ listed_at 0 3 ∷ [])) new_gens

-- ---- a state in which nothing can be taken

-- task 1 of /p/a shows page 0, and task 2 of /p/b pages 1 and 2. /p, which has a max of 3, is full, and there is no swap block
abbrev pub stuck : State
stuck = record {
  opening = record opening { swap = 0 };
  tree = tree;
  limits = no_limits ∷ max_of 3 ∷ no_limits ∷ no_limits ∷ no_limits ∷ no_limits ∷ [];
  flags = single 6;
  pages = Some (memory 2 (Held 0)) ∷ Some (memory 3 (Held 1)) ∷ Some (memory 3 (Held 2)) ∷ [];
  tasks = None ∷ Some (task_of 2 Live) ∷ Some (task_of 3 Live) ∷ [];
  page_tables = [] ∷ (shows 0 ∷ []) ∷ (shows 1 ∷ shows 2 ∷ []) ∷ [];
  counted = replicate 6 no_counts;
}

abbrev pub stuck_order : Order
stuck_order =
    record {
      held = record { groups = lists_of (young (listed_at 0 3 ∷ [])) (young (listed_at 1 3 ∷ listed_at 2 3 ∷ [])); marks = false ∷ false ∷ false ∷ false ∷ false ∷ false ∷ []; hits = [] };
      cursors = none_served;
    }
