-- The replies that an event can have at all, so that no caller writes an arm for any other; and what is known of the tickets in them.
use Rattle.std.specs.Prelude.{◌≡◌, ℕ, ◌<◌, ◌==◌, ◌||◌, false, length, slice_index, Some}
use Rattle.machine.specs.Pages.{Coming, Going, Page, page_at}
use Rattle.machine.specs.Access.{page_size}
use Rattle.machine.specs.History.{Spot, at_first, last, Honest}
use Rattle.machine.specs.Call.{Past}
use Rattle.pages.specs.Tickets.{TicketOf}
use Rattle.book_events.specs.Spots.{offset_of, holder, IsThere}
use Rattle.book_events.specs.declared.event.Event.{Event}
use Rattle.book_events.specs.declared.event.Event.TheVariants as event
use Rattle.book_events.specs.declared.event.Reply.{Reply}
use Rattle.book_events.specs.declared.event.Reply.TheVariants as reply

-- ---- which replies

-- of an access, a relief, a page that is asked for, and what is done or refused
abbrev pub IsAccessReply : Reply → Type 0
IsAccessReply (reply.Done byte hit) = Unit {0}
IsAccessReply (reply.Fetch ticket) = Unit {0}
IsAccessReply (reply.Over group) = Unit {0}
IsAccessReply reply.NoFrame = Unit {0}
IsAccessReply reply.Busy = Unit {0}
IsAccessReply reply.Killed = Unit {0}
IsAccessReply (reply.Refused why) = Unit {0}
IsAccessReply said = ⊥

abbrev pub IsReliefReply : Reply → Type 0
IsReliefReply reply.Room = Unit {0}
IsReliefReply reply.Dropped = Unit {0}
IsReliefReply (reply.Out ticket) = Unit {0}
IsReliefReply reply.Wait = Unit {0}
IsReliefReply (reply.KilledTask task) = Unit {0}
IsReliefReply (reply.KilledAll victim group tasks) = Unit {0}
IsReliefReply reply.NoVictim = Unit {0}
IsReliefReply (reply.Refused why) = Unit {0}
IsReliefReply said = ⊥

abbrev pub IsReclaimReply : Reply → Type 0
IsReclaimReply reply.Dropped = Unit {0}
IsReclaimReply (reply.Out ticket) = Unit {0}
IsReclaimReply reply.Wait = Unit {0}
IsReclaimReply reply.Nothing = Unit {0}
IsReclaimReply (reply.Refused why) = Unit {0}
IsReclaimReply said = ⊥

abbrev pub IsOkReply : Reply → Type 0
IsOkReply reply.Ok = Unit {0}
IsOkReply (reply.Refused why) = Unit {0}
IsOkReply said = ⊥

-- an event that is never refused
abbrev pub IsAlwaysOk : Reply → Type 0
IsAlwaysOk reply.Ok = Unit {0}
IsAlwaysOk said = ⊥

-- an event of a task, which may have been killed before
abbrev pub IsTaskReply : Reply → Type 0
IsTaskReply reply.Ok = Unit {0}
IsTaskReply reply.Killed = Unit {0}
IsTaskReply (reply.Refused why) = Unit {0}
IsTaskReply said = ⊥

abbrev pub IsShownReply : Reply → Type 0
IsShownReply (reply.Shown numbers) = Unit {0}
IsShownReply (reply.Refused why) = Unit {0}
IsShownReply said = ⊥

-- an end of a transfer is taken, or its ticket is handed back
abbrev pub IsInReply : Reply → Type 0
IsInReply reply.Ok = Unit {0}
IsInReply (reply.StrangeIn ticket) = Unit {0}
IsInReply said = ⊥

abbrev pub IsOutReply : Reply → Type 0
IsOutReply reply.Ok = Unit {0}
IsOutReply (reply.StrangeOut ticket) = Unit {0}
IsOutReply said = ⊥

-- which replies an event can have. (Excludes a reply that no caller has a use for.)
abbrev pub Replies : Event → Reply → Type 0
Replies (event.Access task place op) said = IsAccessReply said
Replies (event.Arrived ticket) said = IsInReply said
Replies (event.FetchFailed ticket) said = IsInReply said
Replies (event.Left ticket) said = IsOutReply said
Replies (event.LeaveFailed ticket) said = IsOutReply said
Replies (event.Relieve cause) said = IsReliefReply said
Replies (event.ReclaimOne group) said = IsReclaimReply said
Replies (event.Spawn task group) said = IsOkReply said
Replies (event.Fork task child) said = IsTaskReply said
Replies (event.Exit task) said = IsTaskReply said
Replies (event.Free task page) said = IsTaskReply said
Replies (event.Attach task group) said = IsOkReply said
Replies (event.Mkdir path) said = IsOkReply said
Replies (event.Rmdir group) said = IsOkReply said
Replies (event.Set group setting) said = IsOkReply said
Replies (event.Show query) said = IsShownReply said
Replies (event.MergeMarks word bits) said = IsAlwaysOk said

-- ---- tickets that are handed back

-- the same ticket; it is marked as handed back where its own worker asked
pub record IsBack (worker : ℕ) (ticket back : TicketOf) : Type 0 where
  pub same : back ≡ record ticket { handed = back.handed }
  pub handed : back.handed ≡ ((ticket.worker == worker) || ticket.handed)

abbrev pub HandsBack : ℕ → TicketOf → Reply → Type 0
HandsBack worker ticket (reply.StrangeIn back) = IsBack worker ticket back
HandsBack worker ticket (reply.StrangeOut back) = IsBack worker ticket back
HandsBack worker ticket said = Unit {0}

-- no ticket is lost: that of an ending that is refused comes back
abbrev pub KeepsTicket : ℕ → Event → Reply → Type 0
KeepsTicket worker (event.Arrived ticket) said = HandsBack worker ticket said
KeepsTicket worker (event.FetchFailed ticket) said = HandsBack worker ticket said
KeepsTicket worker (event.Left ticket) said = HandsBack worker ticket said
KeepsTicket worker (event.LeaveFailed ticket) said = HandsBack worker ticket said
KeepsTicket worker what said = Unit {0}

-- ---- tickets that are given out

-- a page stands in transfer under this ticket, from or to its block; the worker has it, and its entry is the newest
pub record GivesIn (past : Past) (worker : ℕ) (ticket : TicketOf) : Type 0 where
  pub p : ℕ
  pub page : Page
  pub frame : ℕ
  pub there : page_at past.state.pages p ≡ Some page
  pub coming : page.residence ≡ Coming frame ticket.block ticket.number
  pub own : ticket.worker ≡ worker
  pub entry : ticket.entry ≡ length past.history
  pub fresh : ticket.handed ≡ false

-- the same of a write-out; where the history is honest, whatever the files had at first, the ticket's bytes are those last written at each place of the page
pub record GivesOut (past : Past) (worker : ℕ) (ticket : TicketOf) : Type 0 where
  pub p : ℕ
  pub page : Page
  pub frame : ℕ
  pub there : page_at past.state.pages p ≡ Some page
  pub going : page.residence ≡ Going frame ticket.block ticket.number
  pub own : ticket.worker ≡ worker
  pub entry : ticket.entry ≡ length past.history
  pub fresh : ticket.handed ≡ false
  pub bytes : (files : ℕ → ℕ → ℕ → ℕ) → Honest (at_first files) past.history → (spot : Spot) → offset_of spot < page_size → IsThere past.state spot → holder past.state spot ≡ Some p
      → slice_index ticket.bytes (offset_of spot) ≡ last (at_first files) past.history spot

-- what a reply gives out, after the call
abbrev pub HandsOut : Past → ℕ → Reply → Type 0
HandsOut past worker (reply.Fetch ticket) = GivesIn past worker ticket
HandsOut past worker (reply.Out ticket) = GivesOut past worker ticket
HandsOut past worker said = Unit {0}
