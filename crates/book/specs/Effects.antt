-- What an event does to the joined parts, said by itself: to bytes, and to transfers.
use Rattle.std.specs.Prelude.{◌≡◌, ◌⊎◌, ℕ, ◌<◌, Bool, true, false, slice_index, IfSome, Option, Some, None}
use Rattle.machine.specs.declared.event.Op.TheVariants.{Read}
use Rattle.machine.specs.declared.event.Event.{Event}
use Rattle.machine.specs.declared.event.Event.TheVariants as event
use Rattle.machine.specs.declared.reply.Reply.{Reply}
use Rattle.machine.specs.declared.reply.Reply.TheVariants as reply
use Rattle.machine.specs.Slots.{at, there_and}
use Rattle.machine.specs.Pages.{Residence, Held, Coming, Going, Pages, page_at}
use Rattle.machine.specs.Access.{page_size}
use Rattle.machine.specs.History.{Spot, InTask, InFile, spot_of, Says, Byte, As, Nothing, says, ticket_given}
use Rattle.pages.specs.PagesOf.{Label, HasResidence}
use Rattle.page_state.specs.States.{StateOf, byte_shown}
use Rattle.book_events.specs.Spots.{offset_of, holder, IsThere}

-- ---- bytes

-- a byte of what a task's place shows, or of a file's page that is in the cache; zero where there is none
abbrev pub byte_at_spot : StateOf → Spot → ℕ
byte_at_spot c spot = byte_shown c.bytes (holder c.tables spot) (offset_of spot)

-- a page whose bytes are in memory: it has a frame, and is not being read in
abbrev pub is_in_memory : Residence → Bool
is_in_memory (Held frame) = true
is_in_memory (Going frame block ticket) = true
is_in_memory residence = false

abbrev pub is_known : Pages → ℕ → Bool
is_known pages p = there_and (λ page. is_in_memory page.residence) (page_at pages p)

-- the byte is in memory: a task's place that shows nothing is zeros, and a page of a file that is not in the cache is on the device alone
abbrev pub knows : StateOf → Spot → Option ℕ → Bool
knows c spot (Some p) = is_known c.tables.pages p
knows c (InTask t v o) None = true
knows c (InFile file q o) None = false

abbrev pub KnowsSpot : StateOf → Spot → Type 0
KnowsSpot c spot = (knows c spot (holder c.tables spot) ≡ true) × (offset_of spot < page_size)

-- a read answers the byte at its place, which is in memory
abbrev pub ReadsByte : StateOf → Event → Reply → Type 0
ReadsByte old (event.Access t place Read) (reply.Done byte hit) = (byte ≡ byte_at_spot old (spot_of t.0 place)) × KnowsSpot old (spot_of t.0 place)
ReadsByte old what answer = Unit {0}

-- the page that has the byte was being read in under the ticket that arrived, and this is the byte
abbrev pub Arrives : StateOf → Event → Spot → ℕ → Type 0
Arrives old (event.Arrived ticket arrived) spot byte =
    (p : ℕ) × (label : Label) × (f : ℕ) × (b : ℕ) × (holder old.tables spot ≡ Some p) × HasResidence old.tables.pages p label (Coming f b ticket.0) × (byte ≡ slice_index arrived (offset_of spot))
Arrives old what spot byte = ⊥

-- this byte of a live task, or of a file, was in memory
abbrev pub WasByte : StateOf → Spot → ℕ → Type 0
WasByte old spot byte = IsThere old.tables spot × KnowsSpot old spot × (byte ≡ byte_at_spot old spot)

-- a byte is what is said of it: written; what another byte was; or what it was
abbrev pub IsSaid : StateOf → Says → Spot → ℕ → Type 0
IsSaid old (Byte b) spot byte = byte ≡ b
IsSaid old (As other) spot byte = WasByte old other byte
IsSaid old Nothing spot byte = WasByte old spot byte

-- the byte is what the event says of it
abbrev pub Follows : StateOf → Event → Reply → Spot → ℕ → Type 0
Follows old what answer spot byte = IsSaid old (says what answer spot) spot byte

-- each byte of a live task or of a file that is in memory
abbrev pub ChangesBytes : StateOf → Event → Reply → StateOf → Type 0
ChangesBytes old what answer new =
    (spot : Spot) → IsThere new.tables spot → KnowsSpot new spot → Arrives old what spot (byte_at_spot new spot) ⊎ Follows old what answer spot (byte_at_spot new spot)

-- ---- transfers

-- each transfer in flight is the one that the reply gives a ticket of, or was in flight before
abbrev pub KeepsFlights : StateOf → Reply → StateOf → Type 0
KeepsFlights old answer new = (n : ℕ) → IfSome (at new.flights n) (λ f. (ticket_given answer ≡ Some n) ⊎ (at old.flights n ≡ Some f))
