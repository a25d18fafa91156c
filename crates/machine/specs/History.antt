-- Histories of the machine, the newest entry first: the bytes that they say (what a read gives: the last write), and their order.
use Rattle.std.specs.Prelude.{◌≡◌, ℕ, ◌+◌, ◌<◌, ◌==◌, ◌&&◌, Bool, true, false, if◌then◌else◌, List, [], ◌∷◌, length, filter, slice_index, Option, Some, None}
use Rattle.machine.specs.declared.event.Place.{Place}
use Rattle.machine.specs.declared.event.Place.TheVariants.{Virtual, File}
use Rattle.machine.specs.declared.event.Op.TheVariants.{Read, Write}
use Rattle.machine.specs.declared.event.Event.{Event}
use Rattle.machine.specs.declared.event.Event.TheVariants as event
use Rattle.machine.specs.declared.reply.Reply.{Reply}
use Rattle.machine.specs.declared.reply.Reply.TheVariants as reply
use Rattle.machine.specs.declared.entry.Entry.{Entry}
use Rattle.machine.specs.Access.{page_size}

-- ---- places of bytes

-- a byte of a task's memory: task, virtual page, offset; or of a file: file, page, offset
pub data Spot : Type 0 where
  InTask : ℕ → ℕ → ℕ → Spot
  InFile : ℕ → ℕ → ℕ → Spot

abbrev pub spot_of : ℕ → Place → Spot
spot_of t (Virtual v offset) = InTask t v offset
spot_of t (File file q offset) = InFile file q offset

abbrev pub is_spot : Spot → Spot → Bool
is_spot (InTask t v o) (InTask t' v' o') = (t == t') && ((v == v') && (o == o'))
is_spot (InFile f q o) (InFile f' q' o') = (f == f') && ((q == q') && (o == o'))
is_spot spot other = false

-- the same page of the same task or file, at another offset
abbrev pub at_offset : ℕ → Spot → Spot
at_offset o (InTask t v offset) = InTask t v o
at_offset o (InFile file q offset) = InFile file q o

-- ---- the last write

-- what one entry says of a byte: what it is from then on, or nothing
pub data Says : Type 0 where
  Byte : ℕ → Says
  -- what another byte was
  As : Spot → Says
  Nothing : Says

abbrev pub says_if : Bool → Says → Says
says_if true said = said
says_if false said = Nothing

abbrev pub says_of_task : ℕ → Spot → (ℕ → ℕ → Says) → Says
says_of_task t (InTask t' v o) said = says_if (t == t') (said v o)
says_of_task t (InFile file q o) said = Nothing

-- a write says its byte, to whoever reads a file's page; a task begins with zeros, and a child with its parent's bytes; a page that is freed is zeros. Nothing else says anything: no transfer and no kill
abbrev pub says : Event → Reply → Spot → Says
says (event.Access t place (Write b)) (reply.Done byte hit) spot = says_if (is_spot (spot_of t.0 place) spot) (Byte b)
says (event.Spawn t g) reply.Ok spot = says_of_task t.0 spot (λ v o. Byte 0)
says (event.Fork t child) reply.Ok spot = says_of_task child.0 spot (λ v o. As (InTask t.0 v o))
says (event.Free t page) reply.Ok spot = says_of_task t.0 spot (λ v o. says_if (page == v) (Byte 0))
says what answer spot = Nothing

-- the byte after an entry, from what it says and the bytes before it
abbrev pub follow : Says → (Spot → ℕ) → Spot → ℕ
follow (Byte b) before spot = b
follow (As other) before spot = before other
follow Nothing before spot = before spot

-- what bytes are at first: memory begins as zeros, and a file with what it had before the run, which is given by file, page and offset
abbrev pub at_first : (ℕ → ℕ → ℕ → ℕ) → Spot → ℕ
at_first files (InTask t v offset) = 0
at_first files (InFile file q offset) = files file q offset

-- the byte last written, or what it was at first
abbrev pub last : (Spot → ℕ) → List Entry → Spot → ℕ
last first [] spot = first spot
last first (entry ∷ earlier) spot = follow (says entry.event entry.reply spot) (last first earlier) spot

-- ---- right and honest

-- a read gave the byte last written before it
abbrev pub IsRight : (Spot → ℕ) → List Entry → Event → Reply → Type 0
IsRight first earlier (event.Access t place Read) (reply.Done byte hit) = byte ≡ last first earlier (spot_of t.0 place)
IsRight first earlier what answer = Unit {0}

abbrev pub Right : (Spot → ℕ) → List Entry → Type 0
Right first [] = Unit {0}
Right first (entry ∷ earlier) = Right first earlier × IsRight first earlier entry.event entry.reply

-- where a read-in began: the byte that was accessed, and the entries before
pub record Fetched : Type 0 where
  pub spot : Spot
  pub earlier : List Entry

abbrev pub fetched_by : ℕ → Event → Reply → List Entry → Option Fetched → Option Fetched
fetched_by ticket (event.Access t place op) (reply.Fetch n) earlier others =
    if n.0 == ticket then Some (record { spot = spot_of t.0 place; earlier = earlier }) else others
fetched_by ticket what answer earlier others = others

-- the latest entry that began a read-in under this ticket
abbrev pub fetch_of : ℕ → List Entry → Option Fetched
fetch_of ticket [] = None
fetch_of ticket (entry ∷ earlier) = fetched_by ticket entry.event entry.reply earlier (fetch_of ticket earlier)

abbrev pub HoldsLast : (Spot → ℕ) → List ℕ → Option Fetched → Type 0
HoldsLast first bytes None = ⊥
HoldsLast first bytes (Some fetch) = (o : ℕ) → o < page_size → slice_index bytes o ≡ last first fetch.earlier (at_offset o fetch.spot)

-- what arrived is what was last written when the read-in began; nobody writes to a page in transfer
abbrev pub IsHonest : (Spot → ℕ) → List Entry → Event → Type 0
IsHonest first earlier (event.Arrived ticket bytes) = HoldsLast first bytes (fetch_of ticket.0 earlier)
IsHonest first earlier what = Unit {0}

-- every arrival brought what was last written: the device kept its promise
abbrev pub Honest : (Spot → ℕ) → List Entry → Type 0
Honest first [] = Unit {0}
Honest first (entry ∷ earlier) = Honest first earlier × IsHonest first earlier entry.event

-- ---- who took a ticket

abbrev pub ticket_given : Reply → Option ℕ
ticket_given (reply.Fetch n) = Some n.0
ticket_given (reply.Out n) = Some n.0
ticket_given answer = None

abbrev pub taker_or : ℕ → Option ℕ → ℕ → Option ℕ → Option ℕ
taker_or ticket None worker others = others
taker_or ticket (Some n) worker others = if n == ticket then Some worker else others

-- the worker that was given the ticket of this number last
abbrev pub taker : ℕ → List Entry → Option ℕ
taker ticket [] = None
taker ticket (entry ∷ earlier) = taker_or ticket (ticket_given entry.reply) entry.worker.0 (taker ticket earlier)

-- ---- trace order

abbrev pub is_by : ℕ → Entry → Bool
is_by worker entry = entry.worker.0 == worker

abbrev pub entries_by : ℕ → List Entry → List Entry
entries_by worker history = filter (is_by worker) history

-- each worker's entries are numbered from 1, in order, none left out
abbrev pub Numbered : List Entry → Type 0
Numbered [] = Unit {0}
Numbered (entry ∷ earlier) = Numbered earlier × (entry.count ≡ length (entries_by entry.worker.0 earlier) + 1)
