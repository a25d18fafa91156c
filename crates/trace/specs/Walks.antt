-- Walks back through the entries of a trace, which has the oldest first. No public clause cites these.
use Rattle.std.specs.Prelude.{ℕ, ◌==◌, ◌&&◌, Bool, true, false, List, Option, Some, None}
use Rattle.std.proofs.Common.{Bor}
use Rattle.machine.specs.declared.id.TaskId.{TaskId}
use Rattle.machine.specs.declared.event.Place.{Place}
use Rattle.machine.specs.declared.event.Place.TheVariants as place
use Rattle.machine.specs.declared.reply.Reply.{Reply}
use Rattle.machine.specs.declared.reply.Reply.TheVariants as reply
use Rattle.machine.specs.declared.entry.Entry.{Entry}
use Rattle.machine.specs.History as history
use Rattle.machine.specs.History.{Spot, InTask, InFile, Fetched, spot_of, says_if}
use Rattle.machine.specs.Audit.{before}
use Rattle.trace.specs.declared.page.Page.{Page}
use Rattle.trace.specs.declared.page.Page.TheVariants.{Memory, File}
use Rattle.trace.specs.declared.fetch.Access.{Access}
use Rattle.trace.specs.declared.fetch.ReadIn.{ReadIn}
use Rattle.trace.specs.declared.last_written.Seen.{Seen}
use Rattle.trace.specs.declared.last_written.Seen.TheVariants as seen
use Rattle.trace.specs.declared.effect.Effect.{Effect}
use Rattle.trace.specs.declared.effect.Effect.TheVariants.{Byte, Zeros, As, Nothing}

-- ---- bytes by pages

abbrev pub spot_in : Page → ℕ → Spot
spot_in (Memory task v) o = InTask task.0 v o
spot_in (File file q) o = InFile file q o

-- the page in which a place stands, as this task reaches it
abbrev pub page_at : TaskId → Place → Page
page_at t (place.Virtual v offset) = Memory t v
page_at t (place.File file q offset) = File file q

abbrev pub offset_in : Place → ℕ
offset_in (place.Virtual v offset) = offset
offset_in (place.File file q offset) = offset

-- what a word for a page says of the byte at an offset
abbrev pub said : Effect → ℕ → history.Says
said (Byte offset byte) o = says_if (offset == o) (history.Byte byte)
said Zeros o = history.Byte 0
said (As page) o = history.As (spot_in page o)
said Nothing o = history.Nothing

-- ---- tests

abbrev pub is_done : Reply → Bool
is_done (reply.Done byte hit) = true
is_done answer = false

abbrev pub is_ok : Reply → Bool
is_ok reply.Ok = true
is_ok answer = false

-- a task's access of the place reaches into the page
abbrev pub is_place_of : Page → ℕ → Place → Bool
is_place_of (Memory task v) t (place.Virtual v' offset) = (t == task.0) && (v' == v)
is_place_of (File file q) t (place.File file' q' offset) = (file' == file) && (q' == q)
is_place_of page t place = false

abbrev pub is_memory_of : Page → ℕ → Bool
is_memory_of (Memory task v) t = t == task.0
is_memory_of (File file q) t = false

abbrev pub is_page_of_task : Page → ℕ → ℕ → Bool
is_page_of_task (Memory task v) t number = (t == task.0) && (number == v)
is_page_of_task (File file q) t number = false

abbrev pub page_in : Page → TaskId → Page
page_in (Memory task v) t = Memory t v
page_in (File file q) t = File file q

-- ---- read-ins

abbrev pub access_at : List Entry → Access → Fetched
access_at earlier access = record { spot = spot_of access.task.0 access.place; earlier = earlier }

abbrev pub or_access : List Entry → Option Access → Option Fetched → Option Fetched
or_access earlier None others = others
or_access earlier (Some access) others = Some (access_at earlier access)

-- a read-in of the trace, as the definitions see it
abbrev pub fetched_at : List Entry → ReadIn → Fetched
fetched_at entries read_in = access_at (before entries read_in.at) read_in.access

-- what a reference to bytes shows
abbrev pub bytes_of : Option (Bor (List ℕ)) → Option (List ℕ)
bytes_of None = None
bytes_of (Some bytes) = Some bytes.now

-- ---- one byte

-- the byte that an entry tells, or the one before it
abbrev pub looked : Seen → (Spot → ℕ) → ℕ → ℕ
looked (seen.Byte b) earlier o = b
looked (seen.Before page) earlier o = earlier (spot_in page o)
