-- What a contract sees of the joined parts: the machine's tables, the held pages in their lists, the bytes of the pages, the transfers in flight.
use Rattle.std.specs.Prelude.{ℕ, ◌+◌, ◌<◌, ◌≤◌, ◌^◌, List, Option, Some, None}
use Rattle.machine.specs.declared.record.Key.{Key}
use Rattle.machine.specs.Tasks.{mapped_at}
use Rattle.machine.specs.Counts.{total}
use Rattle.machine.specs.State.{State}
use Rattle.machine.specs.Generations.{gens_at}
use Rattle.machine.specs.Lists.{HeldLists, Order}
use Rattle.pages.specs.PagesOf.{byte_in}
use Rattle.pages.specs.declared.flight.Flight.{Flight}

-- the tables; the lists of held pages with the cursors; by page number the bytes; and by ticket number the transfers in flight
pub record StateOf : Type 0 where
  pub tables : State
  pub order : Order
  pub bytes : List (Option (List ℕ))
  pub flights : List (Option Flight)

-- no key was counted more often than so
abbrev pub AreAtMost : State → ℕ → Type 0
AreAtMost s n = (k : Key) → total s.tree s.counted 0 k ≤ n

-- each key was counted so seldom that a number of 64 bits has room for one event more of each task, and for many such kills
abbrev pub AreFew : State → Type 0
AreFew s = AreAtMost s (2 ^ 63)

-- the number of each group's youngest generation is one that a search for a page may still raise
abbrev pub AreYoung : HeldLists → Type 0
AreYoung held = (g : ℕ) → (gens_at held.groups g).max_seq + 4 < 2 ^ 64

-- a byte of what a virtual page shows, zero where it shows nothing
abbrev pub byte_shown : List (Option (List ℕ)) → Option ℕ → ℕ → ℕ
byte_shown bytes None o = 0
byte_shown bytes (Some p) o = byte_in bytes p o

-- the byte at a task's place
abbrev pub byte_at : StateOf → ℕ → ℕ → ℕ → ℕ
byte_at s t v o = byte_shown s.bytes (mapped_at s.tables.page_tables t v) o
