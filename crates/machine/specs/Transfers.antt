-- How many transfers a history began, and how many it ended.
use Rattle.std.specs.Prelude.{ℕ, Bool, true, false, List, count_by}
use Rattle.machine.specs.declared.event.Event.{Event}
use Rattle.machine.specs.declared.event.Event.TheVariants as event
use Rattle.machine.specs.declared.reply.Reply.{Reply}
use Rattle.machine.specs.declared.reply.Reply.TheVariants as reply
use Rattle.machine.specs.declared.entry.Entry.{Entry}

-- a transfer begins with such a reply
abbrev pub begins_transfer : Reply → Bool
begins_transfer (reply.Fetch ticket) = true
begins_transfer (reply.Out ticket) = true
begins_transfer answer = false

-- and ends with such an event
abbrev pub ends_transfer : Event → Bool
ends_transfer (event.Arrived ticket bytes) = true
ends_transfer (event.FetchFailed ticket) = true
ends_transfer (event.Left ticket) = true
ends_transfer (event.LeaveFailed ticket) = true
ends_transfer what = false

-- how many transfers were begun, and how many ended
abbrev pub transfers_begun : List Entry → ℕ
transfers_begun history = count_by (λ (entry : Entry). begins_transfer entry.reply) history

abbrev pub transfers_ended : List Entry → ℕ
transfers_ended history = count_by (λ (entry : Entry). ends_transfer entry.event) history
