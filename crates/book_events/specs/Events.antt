-- What stands in a history of an event and of a reply: a ticket by its number.
use Rattle.std.specs.Prelude.{ℕ, List}
use Rattle.machine.specs.declared.event.Event.{Event as Plain_event}
use Rattle.machine.specs.declared.event.Event.TheVariants as plain
use Rattle.machine.specs.declared.reply.Reply.{Reply as Plain_reply}
use Rattle.machine.specs.declared.reply.Reply.TheVariants as said
use Rattle.machine.specs.declared.refusal.Refusal.TheVariants.{Stranger}
use Rattle.pages.specs.Tickets.{TicketOf}
use Rattle.pages.specs.declared.end.End.{End}
use Rattle.pages.specs.declared.end.End.TheVariants.{InFrame, OnBlock}
use Rattle.machine.specs.declared.record.Direction.{Direction}
use Rattle.machine.specs.declared.record.Direction.TheVariants.{In, Out}
use Rattle.book_events.specs.declared.event.Event.{Event}
use Rattle.book_events.specs.declared.event.Event.TheVariants as event
use Rattle.book_events.specs.declared.event.Reply.{Reply}
use Rattle.book_events.specs.declared.event.Reply.TheVariants as reply

-- what stands in a history of an event; an arrival stands with the bytes that were read. (Excludes a history of another event than the one that was asked.)
abbrev pub event_of : Event → Plain_event
event_of (event.Access task place op) = plain.Access task place op
event_of (event.Arrived ticket) = plain.Arrived (record { 0 = ticket.number }) ticket.bytes
event_of (event.FetchFailed ticket) = plain.FetchFailed (record { 0 = ticket.number })
event_of (event.Left ticket) = plain.Left (record { 0 = ticket.number })
event_of (event.LeaveFailed ticket) = plain.LeaveFailed (record { 0 = ticket.number })
event_of (event.Relieve cause) = plain.Relieve cause
event_of (event.ReclaimOne g) = plain.ReclaimOne g
event_of (event.Spawn task group) = plain.Spawn task group
event_of (event.Fork task child) = plain.Fork task child
event_of (event.Exit task) = plain.Exit task
event_of (event.Free task page) = plain.Free task page
event_of (event.Attach task group) = plain.Attach task group
event_of (event.Mkdir path) = plain.Mkdir path
event_of (event.Rmdir group) = plain.Rmdir group
event_of (event.Set group setting) = plain.Set group setting
event_of (event.Show query) = plain.Show query
event_of (event.MergeMarks word bits) = plain.MergeMarks word bits

-- and of a reply. Where the ticket of an ending comes back, a refusal stands there
abbrev pub reply_of : Reply → Plain_reply
reply_of (reply.Done byte hit) = said.Done byte hit
reply_of (reply.Fetch ticket) = said.Fetch (record { 0 = ticket.number })
reply_of (reply.Over group) = said.Over group
reply_of reply.NoFrame = said.NoFrame
reply_of reply.Busy = said.Busy
reply_of reply.Killed = said.Killed
reply_of reply.Ok = said.Ok
reply_of reply.Room = said.Room
reply_of reply.Dropped = said.Dropped
reply_of (reply.Out ticket) = said.Out (record { 0 = ticket.number })
reply_of reply.Wait = said.Wait
reply_of reply.Nothing = said.Nothing
reply_of (reply.KilledTask task) = said.KilledTask task
reply_of (reply.KilledAll victim group tasks) = said.KilledAll victim group tasks
reply_of reply.NoVictim = said.NoVictim
reply_of (reply.Shown numbers) = said.Shown numbers
reply_of (reply.Refused why) = said.Refused why
reply_of (reply.StrangeIn ticket) = said.Refused Stranger
reply_of (reply.StrangeOut ticket) = said.Refused Stranger

-- the event by which a transfer in this direction ends so, under a ticket of this number, with what was read
abbrev pub ended_with : Direction → End → ℕ → List ℕ → Plain_event
ended_with In InFrame n bytes = plain.Arrived (record { 0 = n }) bytes
ended_with In OnBlock n bytes = plain.FetchFailed (record { 0 = n })
ended_with Out InFrame n bytes = plain.LeaveFailed (record { 0 = n })
ended_with Out OnBlock n bytes = plain.Left (record { 0 = n })

abbrev pub ended : Direction → End → TicketOf → Plain_event
ended direction end ticket = ended_with direction end ticket.number ticket.bytes
