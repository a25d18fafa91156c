-- As many pages are in transfer as commands have a ticket in hand.
use Rattle.std.proofs.Common.{◌≡◌, inl, inr, ℕ, zero, suc, ◌+◌, Bool, true, false, List, None, refl, sym, ap, ◌∙◌, arith}
use Rattle.std.specs.Prelude.{Result, Ok, Err}
use Rattle.std.proofs.lemmas.List.Sums.{sum_by-cons}
use Rattle.machine.specs.declared.config.Config.{Config}
use Rattle.machine.specs.declared.entry.Entry.{Entry}
use Rattle.machine.specs.declared.reply.Reply.TheVariants as reply
use Rattle.machine.specs.declared.refusal.Refusal.{Refusal}
use Rattle.machine.specs.declared.refusal.Refusal.TheVariants.{Stranger}
use Rattle.machine.specs.declared.command.Actor.{Actor}
use Rattle.machine.specs.declared.command.Step.{Step as Line}
use Rattle.machine.specs.declared.command.Reply.{Reply as Told_by}
use Rattle.machine.specs.Pages.{in_transfer}
use Rattle.machine.specs.Transfers.{begins_transfer, ends_transfer, transfers_begun, transfers_ended}
use Rattle.machine.specs.State.{Opening, State, free_frames, opening_of}
use Rattle.machine.specs.Call.{Past, Caller, entry_of}
use Rattle.machine.proofs.SlotLemmas.{one_if}
use Rattle.block_store.specs.declared.device.Fault.{Fault}
use Rattle.block_store.specs.Device.{Disk}
use Rattle.pages.specs.Tickets.{TicketOf}
use Rattle.book_events.specs.declared.event.Event.{Event}
use Rattle.book_events.specs.declared.event.Event.TheVariants as event
use Rattle.book_events.specs.declared.event.Reply.{Reply}
use Rattle.book_events.specs.declared.event.Reply.TheVariants as said
use Rattle.book_events.specs.Events.{event_of, reply_of}
use Rattle.turns.specs.declared.turn.Access.{Access}
use Rattle.turns.specs.declared.turn.Resume.{Resume}
use Rattle.turns.specs.declared.turn.Stage.{Stage}
use Rattle.turns.specs.declared.turn.Stage.TheVariants as stage
use Rattle.turns.specs.declared.turn.Pending.{Pending}
use Rattle.turns.specs.declared.turn.Pending.TheVariants as pending
use Rattle.turns.specs.declared.turn.Want.{Want}
use Rattle.turns.specs.declared.turn.Want.TheVariants as want
use Rattle.turns.specs.declared.turn.Transition.{Transition}
use Rattle.driver.specs.declared.seat.Outcome.{Outcome}
use Rattle.driver.specs.declared.seat.Activity.{Activity}
use Rattle.driver.specs.declared.seat.Activity.TheVariants.{Rests, Begun, Does}
use Rattle.turns.specs.Turns.{wants_pages, Closed, Told, ReadsIn, WritesOut, after_read, after_write}
use Rattle.driver.specs.Schedule.{activity_of, with_activity, World, first_world, WantTurn, wants_at, StageTurn, left_of, Runs}
use Rattle.turns.specs.Tickets.{holds, is_ending, holds_want, gives_ticket}
use Rattle.driver.specs.Hands.{carries, tickets_in_hand}
use Rattle.legal.proofs.TransferLemmas.{legal-transfers}
use Rattle.driver.proofs.SeatCounts.{count-with_activity}
use Rattle.driver.proofs.Keeps.{number_wanted, balance_either, watch_either, in_hand, number_at, is_idle, FineOutcome, OfCommand, of_command-leaves, FineWant, wants_fine, IsAt, runs_keep}
use Rattle.driver.proofs.CallCases.{IsRefused, IsServed, Comes, ByRefusal, ByEntry, called_comes, Next, Handless, Reads, Writes, told_next}
use Rattle.driver.proofs.MarkLemmas.{Stays, marks-stay}
use Rattle.driver.proofs.Tickets.{KeepsPending, KeepsWanted, pending_known, still_known, LegalPast, served_legal, Tickets, tickets_rest, tickets_turn, tickets_first, own_keeps}

-- ---- in hand as a turn begins

-- a command that wants nothing of a ticket has none
none_held : (now : Stage) → number_wanted (in_hand now) ≡ None → holds now ≡ false
none_held (stage.Read access ticket) e = cc
none_held (stage.Arrive access ticket) e = cc
none_held (stage.FetchFail ticket) e = cc
none_held (stage.Write on ticket) e = cc
none_held (stage.Leave on ticket) e = cc
none_held (stage.LeaveFail ticket) e = cc
none_held others e = refl

none_carried : (what : Activity) → number_at what ≡ None → carries what ≡ false
none_carried Rests e = refl
none_carried (Begun command) e = refl
none_carried (Does now) e = none_held now e

idle_carries : (what : Activity) → is_idle what ≡ true → carries what ≡ false
idle_carries Rests e = refl
idle_carries (Begun command) e = refl
idle_carries (Does now) e = cc

pages_held : (g left : ℕ) → holds_want (wants_pages g left) ≡ false
pages_held g zero = refl
pages_held g (suc left) = refl

wants_held : (past : Past) (now : Stage) → holds_want (wants_at past now) ≡ holds now
wants_held past stage.Watch = watch_either (λ w. holds_want w ≡ false) past.state.opening.watermarks (free_frames past.state) refl refl
wants_held past stage.Balance = balance_either (λ w. holds_want w ≡ false) past.state.opening.watermarks (free_frames past.state) refl refl
wants_held past (stage.Reclaim g left) = pages_held g.0 left
wants_held past others = refl

-- ---- what a reply gives, and an event ends

-- a command that remembers this has asked for the end of a transfer
abbrev closes : Pending → Bool
closes (pending.Arrive access) = true
closes pending.FetchFail = true
closes (pending.Leave on) = true
closes pending.LeaveFail = true
closes others = false

abbrev IsPaired : Want → Type 0
IsPaired (want.Call remembers what) = is_ending what ≡ closes remembers
IsPaired wanted = Unit {0}

pages_paired : (g left : ℕ) → IsPaired (wants_pages g left)
pages_paired g zero = tt
pages_paired g (suc left) = refl

wants_paired : (past : Past) (now : Stage) → IsPaired (wants_at past now)
wants_paired past stage.Watch = watch_either IsPaired past.state.opening.watermarks (free_frames past.state) tt refl
wants_paired past stage.Balance = balance_either IsPaired past.state.opening.watermarks (free_frames past.state) tt refl
wants_paired past (stage.Reclaim g left) = pages_paired g.0 left
wants_paired past (stage.Read access ticket) = tt
wants_paired past (stage.Write on ticket) = tt
wants_paired past others = refl

begins-reply : (answered : Reply) → begins_transfer (reply_of answered) ≡ gives_ticket answered
begins-reply (said.Fetch ticket) = refl
begins-reply (said.Out ticket) = refl
begins-reply others = refl

ends-event : (what : Event) → ends_transfer (event_of what) ≡ is_ending what
ends-event (event.Arrived ticket) = refl
ends-event (event.FetchFailed ticket) = refl
ends-event (event.Left ticket) = refl
ends-event (event.LeaveFailed ticket) = refl
ends-event others = refl

-- what a command has in hand behind a reply is what that gave
next_carries : (answered : Reply) (transition : Transition) → Next answered transition → carries (left_of transition) ≡ gives_ticket answered
next_carries answered transition (Handless quiet none fine) = none_carried (left_of transition) none ∙ sym quiet
next_carries answered transition (Reads access ticket is goes) = ap (λ (t : Transition). carries (left_of t)) goes ∙ sym (ap gives_ticket is)
next_carries answered transition (Writes on ticket is goes) = ap (λ (t : Transition). carries (left_of t)) goes ∙ sym (ap gives_ticket is)

-- the end of a transfer is refused to strangers alone
closed_why : (resumed : Transition) (answered : Reply) (transition : Transition) (why : Refusal) → Closed resumed answered transition → reply_of answered ≡ reply.Refused why → why ≡ Stranger
closed_why resumed said.Ok transition why h e = cc
closed_why resumed (said.StrangeIn ticket) transition why h e = cc
closed_why resumed (said.StrangeOut ticket) transition why h e = cc
closed_why resumed answered transition why h e = absurd h

refused_open : (page_size : ℕ) (remembers : Pending) (answered : Reply) (transition : Transition) (why : Refusal) → Told page_size remembers answered transition → reply_of answered ≡ reply.Refused why → (why ≡ Stranger → ⊥) → closes remembers ≡ false
refused_open page_size (pending.Arrive access) answered transition why h e known = absurd (known (closed_why _ answered transition why h e))
refused_open page_size pending.FetchFail answered transition why h e known = absurd (known (closed_why _ answered transition why h e))
refused_open page_size (pending.Leave on) answered transition why h e known = absurd (known (closed_why _ answered transition why h e))
refused_open page_size pending.LeaveFail answered transition why h e known = absurd (known (closed_why _ answered transition why h e))
refused_open page_size others answered transition why h e known = refl

-- ---- one turn

-- what a turn adds to the pages in transfer it adds to what its actor has in hand
record HandsOn (old : Past) (wanted : Want) (transition : Transition) (new : Past) : Type 0 where
  pub counts : in_transfer new.state.pages + one_if (holds_want wanted) ≡ in_transfer old.state.pages + one_if (carries (left_of transition))

module _ (caller : Caller) (opening : Opening) (old new : Past) (legal : LegalPast opening old) where
  -- the past is the same, and so is what is in hand
  same_hands : (wanted : Want) (transition : Transition) → new ≡ old → carries (left_of transition) ≡ holds_want wanted → HandsOn old wanted transition new
  same_hands wanted transition same carried =
      let pages : in_transfer new.state.pages ≡ in_transfer old.state.pages = ap (λ (p : Past). in_transfer p.state.pages) same in
      let hands : one_if (carries (left_of transition)) ≡ one_if (holds_want wanted) = ap one_if carried in
      record { counts = omega (arith, pages, hands) }

  refused_hands : (remembers : Pending) (what : Event) (answered : Reply) (transition : Transition) → is_ending what ≡ closes remembers → Told old.state.opening.page_size remembers answered transition → IsRefused old (reply_of answered) new
      → Next answered transition → HandsOn old (want.Call remembers what) transition new
  refused_hands remembers what answered transition paired told still next =
      same_hands (want.Call remembers what) transition still.same
      (next_carries answered transition next ∙ sym (begins-reply answered) ∙ ap begins_transfer still.refused ∙ sym (paired ∙ refused_open old.state.opening.page_size remembers answered transition still.why told still.refused still.known))

  served_hands : (remembers : Pending) (what : Event) (answered : Reply) (transition : Transition) → KeepsPending caller old what → IsServed old caller (event_of what) (reply_of answered) new → Next answered transition
      → HandsOn old (want.Call remembers what) transition new
  served_hands remembers what answered transition keeps went next =
      let before = legal-transfers opening old.history old.state legal in
      let after = legal-transfers opening new.history new.state (served_legal caller opening old new legal what answered keeps went) in
      let entry : Entry = entry_of caller old.history (event_of what) (reply_of answered) in
      let begun : transfers_begun new.history ≡ one_if (begins_transfer (reply_of answered)) + transfers_begun old.history =
      ap transfers_begun went.history ∙ sum_by-cons (λ (e : Entry). one_if (begins_transfer e.reply)) entry old.history in
      let ended : transfers_ended new.history ≡ one_if (ends_transfer (event_of what)) + transfers_ended old.history =
      ap transfers_ended went.history ∙ sum_by-cons (λ (e : Entry). one_if (ends_transfer e.event)) entry old.history in
      let given : one_if (begins_transfer (reply_of answered)) ≡ one_if (carries (left_of transition)) = ap one_if (begins-reply answered ∙ sym (next_carries answered transition next)) in
      let ending : one_if (ends_transfer (event_of what)) ≡ one_if (is_ending what) = ap one_if (ends-event what) in
      record { counts = omega (arith, before, after, begun, ended, given, ending) }

  asked_hands : (remembers : Pending) (what : Event) (answered : Reply) (transition : Transition) → is_ending what ≡ closes remembers → OfCommand what → KeepsPending caller old what → Told old.state.opening.page_size remembers answered transition
      → Comes old caller (event_of what) (reply_of answered) new → HandsOn old (want.Call remembers what) transition new
  asked_hands remembers what answered transition paired fine keeps told (ByRefusal still) =
      refused_hands remembers what answered transition paired told still (told_next old.state.opening.page_size remembers answered transition told (still_known old new answered still))
  asked_hands remembers what answered transition paired fine keeps told (ByEntry went) = served_hands remembers what answered transition keeps went (told_next old.state.opening.page_size remembers answered transition told (went.done Stranger))

  read_hands : (disk disk' : Disk) (access : Access) (ticket : TicketOf) (transition : Transition) → new ≡ old → ReadsIn disk access ticket transition disk' → HandsOn old (want.Read access ticket) transition new
  read_hands disk disk' access ticket transition same reads = same_hands (want.Read access ticket) transition same (ap (λ (t : Transition). carries (left_of t)) reads.goes ∙ by_answer reads.answered)
    where
      by_answer : (answered : Result (Unit {0}) Fault) → holds (after_read access answered reads.filled) ≡ true
      by_answer (Ok read) = refl
      by_answer (Err fault) = refl

  write_hands : (disk disk' : Disk) (on : Resume) (ticket : TicketOf) (transition : Transition) → new ≡ old → WritesOut disk on ticket transition disk' → HandsOn old (want.Write on ticket) transition new
  write_hands disk disk' on ticket transition same writes = same_hands (want.Write on ticket) transition same (ap (λ (t : Transition). carries (left_of t)) writes.goes ∙ by_answer writes.answered)
    where
      by_answer : (answered : Result (Unit {0}) Fault) → holds (after_write on answered ticket) ≡ true
      by_answer (Ok written) = refl
      by_answer (Err fault) = refl

  marked_hands : (mid : Past) (wanted : Want) (transition : Transition) → Stays mid new → HandsOn old wanted transition mid → HandsOn old wanted transition new
  marked_hands mid wanted transition stays h =
      let pages : in_transfer new.state.pages ≡ in_transfer mid.state.pages = ap (λ (s : State). in_transfer s.pages) stays.state in
      let counts = h.counts in
      record { counts = omega (arith, counts, pages) }

want_hands : (caller : Caller) (opening : Opening) (old new : Past) (legal : LegalPast opening old) (disk disk' : Disk) (wanted : Want) (transition : Transition) → IsPaired wanted → FineWant wanted → KeepsWanted caller old wanted
    → WantTurn caller old disk wanted transition new disk' → HandsOn old wanted transition new
want_hands caller opening old new legal disk disk' (want.Call remembers what) transition paired fine keeps turn =
    let asks = turn.0 in
    marked_hands caller opening old new legal asks.mid (want.Call remembers what) transition (marks-stay _ caller asks.mid new (reply_of asks.said) asks.marks)
    (asked_hands caller opening old asks.mid legal remembers what asks.said transition paired fine.0 keeps asks.told
    (called_comes old asks.mid caller (event_of what) (reply_of asks.said) (of_command-leaves what fine.0) (pending_known caller old what keeps) asks.called))
want_hands caller opening old new legal disk disk' (want.Read access ticket) transition paired fine keeps turn = read_hands caller opening old new legal disk disk' access ticket transition turn.1 turn.0
want_hands caller opening old new legal disk disk' (want.Write on ticket) transition paired fine keeps turn = write_hands caller opening old new legal disk disk' on ticket transition turn.1 turn.0
want_hands caller opening old new legal disk disk' (want.End answer) transition paired fine keeps turn =
    same_hands caller opening old new legal (want.End answer) transition turn.1 (ap (λ (t : Transition). carries (left_of t)) turn.0)

-- ---- runs

record InHand (opening : Opening) (w : World) : Type 0 where
  pub tickets : Tickets opening w
  pub counts : in_transfer w.past.state.pages ≡ tickets_in_hand w.seats

module _ (opening : Opening) where
  hands_rest : (w : World) (who : Actor) (what : Activity) → is_idle (activity_of who w.seats) ≡ true → is_idle what ≡ true → InHand opening w → InHand opening (record w { seats = with_activity who what w.seats })
  hands_rest w who what was idle h =
      let seats = count-with_activity carries refl who what w.seats in
      let before : one_if (carries (activity_of who w.seats)) ≡ 0 = ap one_if (idle_carries (activity_of who w.seats) was) in
      let after : one_if (carries what) ≡ 0 = ap one_if (idle_carries what idle) in
      let counts = h.counts in
      record { tickets = tickets_rest opening w who what was idle h.tickets; counts = omega (arith, seats, before, after, counts) }

  held_now : (w : World) (who : Actor) (now : Stage) → IsAt w who now → carries (activity_of who w.seats) ≡ holds now
  held_now w who now (inl is) = ap carries is
  held_now w who now (inr none) = idle_carries (activity_of who w.seats) none.0 ∙ sym (none_held now none.1)

  hands_turn : (old new : World) (who : Actor) (now : Stage) (outcome : Outcome) → IsAt old who now → StageTurn old who now outcome new → InHand opening old → InHand opening new × FineOutcome outcome
  hands_turn old new who now outcome at turn h =
      let ticketed = tickets_turn opening old new who now outcome at turn h.tickets in
      let on = want_hands old.caller opening old.past new.past h.tickets.legal old.disk new.disk (wants_at old.past now) turn.transition (wants_paired old.past now) (wants_fine old.past now) (own_keeps opening old who now at h.tickets) turn.turns in
      let counts = on.counts in
      let held : one_if (holds_want (wants_at old.past now)) ≡ one_if (carries (activity_of who old.seats)) = ap one_if (wants_held old.past now ∙ sym (held_now old who now at)) in
      let seats : tickets_in_hand new.seats + one_if (carries (activity_of who old.seats)) ≡ tickets_in_hand old.seats + one_if (carries (left_of turn.transition)) = rw turn.leaves (count-with_activity carries refl who (left_of turn.transition) old.seats) in
      let before = h.counts in
      (record { tickets = ticketed.0; counts = omega (arith, counts, held, seats, before) }, ticketed.1)

pub transfers_are_in_hand : (config : Config) (before : Disk) (steps : List Line) (answers : List Told_by) (end : World) → Runs (first_world config before) steps answers end
    → in_transfer end.past.state.pages ≡ tickets_in_hand end.seats
transfers_are_in_hand config before steps answers end runs =
    (runs_keep (InHand (opening_of config)) (hands_rest (opening_of config)) (hands_turn (opening_of config)) (first_world config before) end steps answers runs first).0.counts
  where
    first : InHand (opening_of config) (first_world config before)
    first = record { tickets = tickets_first config before; counts = refl }
