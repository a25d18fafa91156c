-- Tickets in hand, and tickets that were handed back.
use Rattle.std.specs.Prelude.{◌≡◌, ℕ, ◌+◌, ◌<◌, Bool, true, false, sum}
use Rattle.machine.specs.State.{Opening}
use Rattle.pages.specs.Tickets.{TicketOf}
use Rattle.book_events.specs.declared.event.Event.{Event}
use Rattle.book_events.specs.declared.event.Event.TheVariants as event
use Rattle.book_events.specs.declared.event.Reply.{Reply}
use Rattle.book_events.specs.declared.event.Reply.TheVariants as reply
use Rattle.turns.specs.declared.turn.Stage.{Stage}
use Rattle.turns.specs.declared.turn.Stage.TheVariants as stage
use Rattle.turns.specs.declared.turn.Want.{Want}
use Rattle.turns.specs.declared.turn.Want.TheVariants as want
use Rattle.turns.specs.declared.turn.Transition.{Transition}
use Rattle.turns.specs.declared.turn.Transition.TheVariants.{Goes, Kills, Waits, Ends}

-- ---- whether a ticket is in hand

abbrev pub holds : Stage → Bool
holds (stage.Read access ticket) = true
holds (stage.Arrive access ticket) = true
holds (stage.FetchFail ticket) = true
holds (stage.Write on ticket) = true
holds (stage.Leave on ticket) = true
holds (stage.LeaveFail ticket) = true
holds other = false

-- the event ends a transfer, and its ticket goes with it
abbrev pub is_ending : Event → Bool
is_ending (event.Arrived ticket) = true
is_ending (event.FetchFailed ticket) = true
is_ending (event.Left ticket) = true
is_ending (event.LeaveFailed ticket) = true
is_ending what = false

abbrev pub holds_want : Want → Bool
holds_want (want.Call remembers what) = is_ending what
holds_want (want.Read access ticket) = true
holds_want (want.Write on ticket) = true
holds_want (want.End said) = false

-- a reply gives one out. (That of an ending which is refused comes back, to be discarded at once.)
abbrev pub gives_ticket : Reply → Bool
gives_ticket (reply.Fetch ticket) = true
gives_ticket (reply.Out ticket) = true
gives_ticket said = false

-- behind a turn
abbrev pub holds_after : Transition → Bool
holds_after (Goes next) = holds next
holds_after (Kills t on) = false
holds_after (Waits on) = false
holds_after (Ends said) = false

-- ---- whose it is

-- how many blocks there are: those of swap, and the homes of files' pages
abbrev pub blocks_in : Opening → ℕ
blocks_in opening = opening.swap + sum opening.files

-- a ticket that this worker took, of one of so many blocks
pub record IsOwn (worker blocks : ℕ) (ticket : TicketOf) : Type 0 where
  pub own : ticket.worker ≡ worker
  pub block : ticket.block < blocks

-- an event that a command asks, so no merge of marks; and the ticket in hand is such a one, where there is one
abbrev pub OwnEvent : ℕ → ℕ → Event → Type 0
OwnEvent worker blocks (event.Arrived ticket) = IsOwn worker blocks ticket
OwnEvent worker blocks (event.FetchFailed ticket) = IsOwn worker blocks ticket
OwnEvent worker blocks (event.Left ticket) = IsOwn worker blocks ticket
OwnEvent worker blocks (event.LeaveFailed ticket) = IsOwn worker blocks ticket
OwnEvent worker blocks (event.MergeMarks word bits) = ⊥
OwnEvent worker blocks what = Unit {0}

-- one that a reply gives out
abbrev pub OwnReply : ℕ → ℕ → Reply → Type 0
OwnReply worker blocks (reply.Fetch ticket) = IsOwn worker blocks ticket
OwnReply worker blocks (reply.Out ticket) = IsOwn worker blocks ticket
OwnReply worker blocks said = Unit {0}

abbrev pub OwnStage : ℕ → ℕ → Stage → Type 0
OwnStage worker blocks (stage.Read access ticket) = IsOwn worker blocks ticket
OwnStage worker blocks (stage.Arrive access ticket) = IsOwn worker blocks ticket
OwnStage worker blocks (stage.FetchFail ticket) = IsOwn worker blocks ticket
OwnStage worker blocks (stage.Write on ticket) = IsOwn worker blocks ticket
OwnStage worker blocks (stage.Leave on ticket) = IsOwn worker blocks ticket
OwnStage worker blocks (stage.LeaveFail ticket) = IsOwn worker blocks ticket
OwnStage worker blocks other = Unit {0}

abbrev pub OwnWant : ℕ → ℕ → Want → Type 0
OwnWant worker blocks (want.Call remembers what) = OwnEvent worker blocks what
OwnWant worker blocks (want.Read access ticket) = IsOwn worker blocks ticket
OwnWant worker blocks (want.Write on ticket) = IsOwn worker blocks ticket
OwnWant worker blocks (want.End said) = Unit {0}

abbrev pub OwnTransition : ℕ → ℕ → Transition → Type 0
OwnTransition worker blocks (Goes next) = OwnStage worker blocks next
OwnTransition worker blocks (Kills t on) = Unit {0}
OwnTransition worker blocks (Waits on) = Unit {0}
OwnTransition worker blocks (Ends said) = Unit {0}

-- ---- tickets that were handed back

-- the ticket of an ending that was refused comes back as one to be discarded
abbrev pub IsHanded : Reply → Type 0
IsHanded (reply.StrangeIn ticket) = ticket.handed ≡ true
IsHanded (reply.StrangeOut ticket) = ticket.handed ≡ true
IsHanded said = Unit {0}

-- whatever ticket is in the reply can be discarded
abbrev pub IsSpendableReply : Reply → Type 0
IsSpendableReply (reply.Fetch ticket) = ticket.handed ≡ true
IsSpendableReply (reply.Out ticket) = ticket.handed ≡ true
IsSpendableReply (reply.StrangeIn ticket) = ticket.handed ≡ true
IsSpendableReply (reply.StrangeOut ticket) = ticket.handed ≡ true
IsSpendableReply said = Unit {0}
