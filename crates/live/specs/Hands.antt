-- Tickets in hand: a worker asks the device for a transfer, and then the book to end it, right behind the answer that gave the ticket out. No public clause cites this.
use Rattle.std.specs.Prelude.{◌≡◌, ℕ, true, List, [], ◌∷◌, ◌++◌}
use Rattle.machine.specs.declared.record.Direction.{Direction}
use Rattle.machine.specs.declared.record.Direction.TheVariants.{In, Out}
use Rattle.machine.specs.declared.reply.Reply.{Reply}
use Rattle.machine.specs.declared.reply.Reply.TheVariants as reply
use Rattle.machine.specs.Call.{Past, took}
use Rattle.machine.specs.declared.event.Event.{Event as Plain_event}
use Rattle.book_events.specs.declared.event.Event.{Event}
use Rattle.book_events.specs.declared.event.Event.TheVariants as event
use Rattle.turns.specs.declared.turn.Stage.{Stage}
use Rattle.turns.specs.declared.turn.Stage.TheVariants as stage
use Rattle.turns.specs.declared.turn.Want.{Want}
use Rattle.turns.specs.declared.turn.Want.TheVariants as want
use Rattle.turns.specs.declared.turn.Transition.{Transition}
use Rattle.turns.specs.declared.turn.Transition.TheVariants.{Goes, Kills, Waits, Ends}
use Rattle.live.specs.declared.history.Exchange.{Exchange}
use Rattle.live.specs.declared.history.Exchange.TheVariants.{Call}
use Rattle.live.specs.declared.history.Told.{Told}
use Rattle.live.specs.Told.{told_to}

-- the answer by which a transfer in this direction begins, under this ticket
abbrev pub begun_by : Direction → ℕ → Reply
begun_by In n = reply.Fetch (record { 0 = n })
begun_by Out n = reply.Out (record { 0 = n })

-- the newest thing that a worker was told is that
pub record IsInHand (direction : Direction) (n : ℕ) (told : List Exchange) : Type 0 where
  pub earlier : List Exchange
  pub asked : Plain_event
  pub last : told ≡ earlier ++ Call asked (begun_by direction n) ∷ []

-- whatever ticket goes with an event is in the hand of a worker that was told this
abbrev pub HasEvent : List Exchange → Event → Type 0
HasEvent told (event.Arrived ticket) = IsInHand In ticket.number told
HasEvent told (event.FetchFailed ticket) = IsInHand In ticket.number told
HasEvent told (event.Left ticket) = IsInHand Out ticket.number told
HasEvent told (event.LeaveFailed ticket) = IsInHand Out ticket.number told
HasEvent told what = Unit {0}

abbrev pub HasStage : List Exchange → Stage → Type 0
HasStage told (stage.Read access ticket) = IsInHand In ticket.number told
HasStage told (stage.Arrive access ticket) = IsInHand In ticket.number told
HasStage told (stage.FetchFail ticket) = IsInHand In ticket.number told
HasStage told (stage.Write on ticket) = IsInHand Out ticket.number told
HasStage told (stage.Leave on ticket) = IsInHand Out ticket.number told
HasStage told (stage.LeaveFail ticket) = IsInHand Out ticket.number told
HasStage told other = Unit {0}

abbrev pub HasWant : List Exchange → Want → Type 0
HasWant told (want.Call remembers what) = HasEvent told what
HasWant told (want.Read access ticket) = IsInHand In ticket.number told
HasWant told (want.Write on ticket) = IsInHand Out ticket.number told
HasWant told (want.End said) = Unit {0}

abbrev pub HasTransition : List Exchange → Transition → Type 0
HasTransition told (Goes next) = HasStage told next
HasTransition told (Kills kill on) = Unit {0}
HasTransition told (Waits on) = Unit {0}
HasTransition told (Ends said) = Unit {0}

-- each ticket in hand is that of a transfer in flight, and its worker's own
abbrev pub HandsAre : Past → List Told → Type 0
HandsAre past log = (worker n : ℕ) (direction : Direction) → IsInHand direction n (told_to worker log) → took past.state.pages past.history (record { worker = worker }) direction n ≡ true
