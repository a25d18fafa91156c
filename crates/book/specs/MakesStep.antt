-- What the parts answer to one event, and how they change.
use Rattle.std.specs.Prelude.{◌≡◌, ℕ, ◌+◌, ◌<◌, ◌≤◌, Bool, true, false, List, Option, Some, None, slice_index, slice_set}
use Rattle.machine.specs.declared.id.WorkerId.{WorkerId}
use Rattle.machine.specs.Slots.{at}
use Rattle.machine.specs.declared.event.Event.{Event}
use Rattle.machine.specs.declared.event.Event.TheVariants as event
use Rattle.machine.specs.declared.reply.Reply.{Reply}
use Rattle.machine.specs.declared.reply.Reply.TheVariants as reply
use Rattle.machine.specs.Pages.{Coming, Going, in_transfer}
use Rattle.machine.specs.Access.{page_size}
use Rattle.machine.specs.Generations.{gens_at}
use Rattle.machine.specs.Lists.{Orders}
use Rattle.machine.specs.Step.{Step}
use Rattle.machine.specs.Call.{need}
use Rattle.pages.specs.PagesOf.{byte_in, Label, HasResidence}
use Rattle.pages.specs.declared.flight.Flight.{Flight}
use Rattle.pages.specs.Tickets.{new_ticket, stamped}
use Rattle.book_events.specs.declared.event.Reply.{Reply as Given}
use Rattle.book_events.specs.declared.event.Reply.TheVariants as given
use Rattle.book_events.specs.Replies.{IsAccessReply, IsReliefReply, IsReclaimReply, IsOkReply, IsTaskReply, IsShownReply}
use Rattle.page_state.specs.States.{StateOf}
use Rattle.book.specs.Effects.{ReadsByte, ChangesBytes, KeepsFlights}

abbrev pub is_refused : Reply → Bool
is_refused (reply.Refused why) = true
is_refused answer = false

-- no group begins more than three generations
abbrev pub AgesByThree : StateOf → StateOf → Type 0
AgesByThree old new = (g : ℕ) → (gens_at new.order.held.groups g).max_seq ≤ (gens_at old.order.held.groups g).max_seq + 3

-- the machine's step with this reply; where a page is taken it is the one that is evicted next, and only a merge marks pages; a read gives the byte that stood there; and bytes and transfers change as the event says
pub record MakesStep (old : StateOf) (what : Event) (answer : Reply) (new : StateOf) : Type 0 where
  pub steps : Step old.tables what answer new.tables
  pub orders : Orders old.tables old.order what answer new.tables new.order
  pub ages : AgesByThree old new
  pub reads : ReadsByte old what answer
  pub bytes : ChangesBytes old what answer new
  pub flights : KeepsFlights old answer new
  -- a transfer that begins has room for its end, and one that ends gives it back
  pub kept : in_transfer new.tables.pages + 1 ≤ in_transfer old.tables.pages + need old.tables what
  pub given : is_refused answer ≡ false
  pub opening : new.tables.opening ≡ old.tables.opening

-- ---- events without a ticket

-- the event has no ticket, so it ends no transfer; and it leaves an entry
abbrev pub IsAsked : Event → Type 0
IsAsked (event.Arrived ticket arrived) = ⊥
IsAsked (event.FetchFailed ticket) = ⊥
IsAsked (event.Left ticket) = ⊥
IsAsked (event.LeaveFailed ticket) = ⊥
IsAsked (event.MergeMarks word bits) = ⊥
IsAsked what = Unit {0}

abbrev pub RepliesTo : Event → Given → Type 0
RepliesTo (event.Access task place op) said = IsAccessReply said
RepliesTo (event.Relieve cause) said = IsReliefReply said
RepliesTo (event.ReclaimOne group) said = IsReclaimReply said
RepliesTo (event.Spawn task group) said = IsOkReply said
RepliesTo (event.Fork task child) said = IsTaskReply said
RepliesTo (event.Exit task) said = IsTaskReply said
RepliesTo (event.Free task page) said = IsTaskReply said
RepliesTo (event.Attach task group) said = IsOkReply said
RepliesTo (event.Mkdir path) said = IsOkReply said
RepliesTo (event.Rmdir group) said = IsOkReply said
RepliesTo (event.Set group setting) said = IsOkReply said
RepliesTo (event.Show query) said = IsShownReply said
RepliesTo what said = ⊥

-- the ticket that is given out is that of a page in transfer, and nobody's yet; and a write-out has the page's bytes
abbrev pub GivesTicket : StateOf → Given → Type 0
GivesTicket new (given.Fetch ticket) =
    (p : ℕ) × (label : Label) × (f : ℕ) × HasResidence new.tables.pages p label (Coming f ticket.block ticket.number) × (ticket ≡ new_ticket ticket.number ticket.block ticket.bytes)
GivesTicket new (given.Out ticket) =
    (p : ℕ) × (label : Label) × (f : ℕ) × HasResidence new.tables.pages p label (Going f ticket.block ticket.number) × (ticket ≡ new_ticket ticket.number ticket.block ticket.bytes)
    × ((o : ℕ) → o < page_size → slice_index ticket.bytes o ≡ byte_in new.bytes p o)
GivesTicket new said = Unit {0}

-- ---- tickets that are given out

-- the ticket of a reply is given to the worker, by the entry at this place
abbrev pub stamped_reply : ℕ → ℕ → Given → Given
stamped_reply worker entry (given.Fetch ticket) = given.Fetch (stamped ticket worker entry)
stamped_reply worker entry (given.Out ticket) = given.Out (stamped ticket worker entry)
stamped_reply worker entry said = said

-- by page, who took the ticket of its transfer: the worker, of the page whose transfer this is
abbrev pub noted_at : List WorkerId → Option Flight → ℕ → List WorkerId
noted_at takers None worker = takers
noted_at takers (Some flight) worker = slice_set takers flight.page.0 (record { 0 = worker })

-- the same after a reply: of the page whose ticket it gives out, if it gives one
abbrev pub noted : List (Option Flight) → List WorkerId → ℕ → Option ℕ → List WorkerId
noted flights takers worker None = takers
noted flights takers worker (Some n) = noted_at takers (at flights n) worker
