-- Each ticket in an actor's hand is that of a page in transfer, was given to the worker who asks, and is in no other's hand.
use Rattle.std.proofs.Common.{◌≡◌, inl, inr, ℕ, zero, suc, ◌==◌, Bool, true, false, cond, List, [], ◌∷◌, Option, Some, None, eq-eqb, refl, sym, ap, ◌∙◌, subst}
use Rattle.std.specs.Prelude.{◌⊎◌, Result, Ok, Err}
use Rattle.std.proofs.lemmas.Bool.{or_right}
use Rattle.machine.specs.declared.config.Config.{Config}
use Rattle.machine.specs.declared.entry.Entry.{Entry}
use Rattle.machine.specs.declared.event.Event.{Event as Plain_event}
use Rattle.machine.specs.declared.reply.Reply.{Reply as Plain_reply}
use Rattle.machine.specs.declared.reply.Reply.TheVariants as reply
use Rattle.machine.specs.declared.refusal.Refusal.TheVariants.{Stranger}
use Rattle.machine.specs.declared.command.Actor.{Actor}
use Rattle.machine.specs.declared.command.Answer.{Answer}
use Rattle.machine.specs.Slots.{at, there_and, any_there}
use Rattle.machine.specs.declared.record.Direction.TheVariants.{In, Out}
use Rattle.machine.specs.Pages.{Coming, Going, Page, Pages, page_at, ticket_at, is_ticket_taken, is_flying_at, is_in_flight}
use Rattle.machine.specs.History.{ticket_given, taker_or, taker}
use Rattle.machine.specs.State.{Opening, State, opening_of}
use Rattle.machine.specs.Call.{Past, Caller, is_worker, took, knows_pass, Called}
use Rattle.machine.specs.Legal.{Legal}
use Rattle.machine.proofs.Values.{never_some, unlike}
use Rattle.machine.proofs.TreeLemmas.{eq_cases}
use Rattle.block_store.specs.declared.device.Fault.{Fault}
use Rattle.block_store.specs.Device.{Disk}
use Rattle.pages.specs.Tickets.{TicketOf}
use Rattle.book_events.specs.declared.event.Event.{Event}
use Rattle.book_events.specs.declared.event.Event.TheVariants as event
use Rattle.book_events.specs.declared.event.Reply.{Reply}
use Rattle.book_events.specs.declared.event.Reply.TheVariants as said
use Rattle.book_events.specs.Events.{event_of, reply_of}
use Rattle.book_events.specs.Replies.{HandsOut, GivesIn, GivesOut}
use Rattle.turns.specs.declared.turn.Access.{Access}
use Rattle.turns.specs.declared.turn.Resume.{Resume}
use Rattle.turns.specs.declared.turn.Pending.{Pending}
use Rattle.turns.specs.declared.turn.Stage.{Stage}
use Rattle.turns.specs.declared.turn.Want.{Want}
use Rattle.turns.specs.declared.turn.Want.TheVariants as want
use Rattle.turns.specs.declared.turn.Transition.{Transition}
use Rattle.turns.specs.declared.turn.Transition.TheVariants.{Ends}
use Rattle.driver.specs.declared.seat.Outcome.{Outcome}
use Rattle.driver.specs.declared.seat.Activity.{Activity}
use Rattle.driver.specs.declared.seat.Activity.TheVariants.{Rests, Begun, Does}
use Rattle.driver.specs.declared.seat.Seat.{Seat}
use Rattle.turns.specs.Turns.{ReadsIn, WritesOut, after_read, after_write, Told}
use Rattle.driver.specs.Schedule.{number_of, activity_of, with_activity, World, first_world, WantTurn, wants_at, StageTurn, outcome_of, left_of}
use Rattle.legal.proofs.Effects.{ends, Effect, step_effect}
use Rattle.legal.proofs.SoundLemmas.{legal-files}
use Rattle.legal.proofs.ShownLemmas.{shows_pages-legal}
use Rattle.legal.proofs.SharedLemmas.{legal-live, ticket_taken}
use Rattle.driver.proofs.Keeps.{activity_of-own, activity_of-other, number_pending, number_wanted, in_hand, Alike, Same, Ticketless, wants_alike, wanted_in_hand, number_at, is_idle, idle_none, Fine, FineOutcome, OfCommand, of_command-leaves, FineWant, wants_fine, IsAt}
use Rattle.driver.proofs.CallCases.{IsRefused, IsServed, Comes, ByRefusal, ByEntry, called_comes, Next, Handless, Reads, Writes, told_next}
use Rattle.driver.proofs.MarkLemmas.{Stays, marks-stay}

-- ---- words

-- a page is being read in under this ticket, which was given to the caller
pub record IsComing (caller : Caller) (past : Past) (ticket : TicketOf) : Type 0 where
  pub p : ℕ
  pub page : Page
  pub frame : ℕ
  pub there : page_at past.state.pages p ≡ Some page
  pub coming : page.residence ≡ Coming frame ticket.block ticket.number
  pub taken : taker ticket.number past.history ≡ Some caller.worker

-- or written out
pub record IsGoing (caller : Caller) (past : Past) (ticket : TicketOf) : Type 0 where
  pub p : ℕ
  pub page : Page
  pub frame : ℕ
  pub there : page_at past.state.pages p ≡ Some page
  pub going : page.residence ≡ Going frame ticket.block ticket.number
  pub taken : taker ticket.number past.history ≡ Some caller.worker

abbrev pub KeepsPending : Caller → Past → Event → Type 0
KeepsPending caller past (event.Arrived ticket) = IsComing caller past ticket
KeepsPending caller past (event.FetchFailed ticket) = IsComing caller past ticket
KeepsPending caller past (event.Left ticket) = IsGoing caller past ticket
KeepsPending caller past (event.LeaveFailed ticket) = IsGoing caller past ticket
KeepsPending caller past what = Unit {0}

abbrev pub KeepsWanted : Caller → Past → Want → Type 0
KeepsWanted caller past (want.Call remembers what) = KeepsPending caller past what
KeepsWanted caller past (want.Read access ticket) = IsComing caller past ticket
KeepsWanted caller past (want.Write on ticket) = IsGoing caller past ticket
KeepsWanted caller past (want.End said) = Unit {0}

abbrev pub KeepsAt : Caller → Past → Activity → Type 0
KeepsAt caller past Rests = Unit {0}
KeepsAt caller past (Begun what) = Unit {0}
KeepsAt caller past (Does stage) = KeepsWanted caller past (in_hand stage)

-- the past is one that a legal history leads to
abbrev pub LegalPast : Opening → Past → Type 0
LegalPast opening past = Legal opening past.history past.state

pub record Tickets (opening : Opening) (w : World) : Type 0 where
  pub legal : LegalPast opening w.past
  pub keeps : (a : Actor) → KeepsAt w.caller w.past (activity_of a w.seats)
  pub apart : (a b : Actor) (n : ℕ) → number_at (activity_of a w.seats) ≡ Some n → number_at (activity_of b w.seats) ≡ Some n → number_of a ≡ number_of b

-- ---- small facts

pub any_there-at : {T : Type 0} (test : T → Bool) (xs : List (Option T)) (n : ℕ) → there_and test (at xs n) ≡ true → any_there test xs ≡ true
any_there-at test [] n e = e
any_there-at test (x ∷ xs) zero e = rw e refl
any_there-at test (x ∷ xs) (suc n) e = or_right (there_and test x) (any_there test xs) (any_there-at test xs n e)

page_passes : (test : Page → Bool) (pages : Pages) (p : ℕ) (page : Page) → page_at pages p ≡ Some page → test page ≡ true → any_there test pages ≡ true
page_passes test pages p page there passes = any_there-at test pages p (ap (there_and test) there ∙ passes)

-- a ticket is no event's, so that nothing has to be kept for it
pending_none : (caller : Caller) (past : Past) (what : Event) → number_pending what ≡ None → KeepsPending caller past what
pending_none caller past (event.Arrived ticket) e = cc
pending_none caller past (event.FetchFailed ticket) e = cc
pending_none caller past (event.Left ticket) e = cc
pending_none caller past (event.LeaveFailed ticket) e = cc
pending_none caller past what e = tt

wanted_none : (caller : Caller) (past : Past) (want : Want) → number_wanted want ≡ None → KeepsWanted caller past want
wanted_none caller past (want.Call remembers what) e = pending_none caller past what e
wanted_none caller past (want.Read access ticket) e = cc
wanted_none caller past (want.Write on ticket) e = cc
wanted_none caller past (want.End said) e = tt

at_none : (caller : Caller) (past : Past) (at : Activity) → number_at at ≡ None → KeepsAt caller past at
at_none caller past Rests e = tt
at_none caller past (Begun what) e = tt
at_none caller past (Does stage) e = wanted_none caller past (in_hand stage) e

wanted_alike : (caller : Caller) (past : Past) (w other : Want) → Alike w other → KeepsWanted caller past other → KeepsWanted caller past w
wanted_alike caller past w other (Same e) h = subst (KeepsWanted caller past) (sym e) h
wanted_alike caller past w other (Ticketless e f) h = wanted_none caller past w e

-- a ticket in hand is in flight
pub record InFlight (past : Past) (n : ℕ) : Type 0 where
  pub p : ℕ
  pub page : Page
  pub there : page_at past.state.pages p ≡ Some page
  pub ticket : ticket_at page.residence ≡ Some n

coming_flies : (caller : Caller) (past : Past) (ticket : TicketOf) (n : ℕ) → IsComing caller past ticket → Some ticket.number ≡ Some n → InFlight past n
coming_flies caller past ticket n h e = record { p = h.p; page = h.page; there = h.there; ticket = ap ticket_at h.coming ∙ e }

going_flies : (caller : Caller) (past : Past) (ticket : TicketOf) (n : ℕ) → IsGoing caller past ticket → Some ticket.number ≡ Some n → InFlight past n
going_flies caller past ticket n h e = record { p = h.p; page = h.page; there = h.there; ticket = ap ticket_at h.going ∙ e }

pending_flies : (caller : Caller) (past : Past) (what : Event) (n : ℕ) → KeepsPending caller past what → number_pending what ≡ Some n → InFlight past n
pending_flies caller past (event.Arrived ticket) n h e = coming_flies caller past ticket n h e
pending_flies caller past (event.FetchFailed ticket) n h e = coming_flies caller past ticket n h e
pending_flies caller past (event.Left ticket) n h e = going_flies caller past ticket n h e
pending_flies caller past (event.LeaveFailed ticket) n h e = going_flies caller past ticket n h e
pending_flies caller past what n h e = cc

wanted_flies : (caller : Caller) (past : Past) (want : Want) (n : ℕ) → KeepsWanted caller past want → number_wanted want ≡ Some n → InFlight past n
wanted_flies caller past (want.Call remembers what) n h e = pending_flies caller past what n h e
wanted_flies caller past (want.Read access ticket) n h e = coming_flies caller past ticket n h e
wanted_flies caller past (want.Write on ticket) n h e = going_flies caller past ticket n h e
wanted_flies caller past (want.End said) n h e = cc

pub at_flies : (caller : Caller) (past : Past) (at : Activity) (n : ℕ) → KeepsAt caller past at → number_at at ≡ Some n → InFlight past n
at_flies caller past Rests n h e = cc
at_flies caller past (Begun what) n h e = cc
at_flies caller past (Does stage) n h e = wanted_flies caller past (in_hand stage) n h e

pub flies_taken : (past : Past) (n : ℕ) → InFlight past n → is_ticket_taken past.state.pages n ≡ true
flies_taken past n h = ticket_taken past.state h.p n h.page h.there h.ticket

-- ---- what goes on

-- from one past to a later one: pages in transfer stand as they did, but for one of this ticket, and who took a ticket is known still
pub record TicketsGoOn (caller : Caller) (old new : Past) (left : Option ℕ) : Type 0 where
  pub stays : (p n : ℕ) (page : Page) → page_at old.state.pages p ≡ Some page → ticket_at page.residence ≡ Some n → (left ≡ Some n → ⊥)
      → (now : Page) × (page_at new.state.pages p ≡ Some now) × (now.residence ≡ page.residence)
  pub taken : (n : ℕ) → taker n old.history ≡ Some caller.worker → taker n new.history ≡ Some caller.worker

module _ (caller : Caller) (old new : Past) (left : Option ℕ) (goes : TicketsGoOn caller old new left) where
  coming_goes : (ticket : TicketOf) → (left ≡ Some ticket.number → ⊥) → IsComing caller old ticket → IsComing caller new ticket
  coming_goes ticket other h =
      let on = goes.stays h.p ticket.number h.page h.there (ap ticket_at h.coming) other in
      record { p = h.p; page = on.0; frame = h.frame; there = on.1; coming = on.2 ∙ h.coming; taken = goes.taken ticket.number h.taken }

  going_goes : (ticket : TicketOf) → (left ≡ Some ticket.number → ⊥) → IsGoing caller old ticket → IsGoing caller new ticket
  going_goes ticket other h =
      let on = goes.stays h.p ticket.number h.page h.there (ap ticket_at h.going) other in
      record { p = h.p; page = on.0; frame = h.frame; there = on.1; going = on.2 ∙ h.going; taken = goes.taken ticket.number h.taken }

  pending_goes : (what : Event) → ((n : ℕ) → number_pending what ≡ Some n → left ≡ Some n → ⊥) → KeepsPending caller old what → KeepsPending caller new what
  pending_goes (event.Arrived ticket) other h = coming_goes ticket (other ticket.number refl) h
  pending_goes (event.FetchFailed ticket) other h = coming_goes ticket (other ticket.number refl) h
  pending_goes (event.Left ticket) other h = going_goes ticket (other ticket.number refl) h
  pending_goes (event.LeaveFailed ticket) other h = going_goes ticket (other ticket.number refl) h
  pending_goes what other h = tt

  wanted_goes : (want : Want) → ((n : ℕ) → number_wanted want ≡ Some n → left ≡ Some n → ⊥) → KeepsWanted caller old want → KeepsWanted caller new want
  wanted_goes (want.Call remembers what) other h = pending_goes what other h
  wanted_goes (want.Read access ticket) other h = coming_goes ticket (other ticket.number refl) h
  wanted_goes (want.Write on ticket) other h = going_goes ticket (other ticket.number refl) h
  wanted_goes (want.End said) other h = tt

  at_goes : (at : Activity) → ((n : ℕ) → number_at at ≡ Some n → left ≡ Some n → ⊥) → KeepsAt caller old at → KeepsAt caller new at
  at_goes Rests other h = tt
  at_goes (Begun what) other h = tt
  at_goes (Does stage) other h = wanted_goes (in_hand stage) other h

taker_entry : (caller : Caller) (given : Option ℕ) (n : ℕ) (others : Option ℕ) → others ≡ Some caller.worker → taker_or n given caller.worker others ≡ Some caller.worker
taker_entry caller None n others e = e
taker_entry caller (Some m) n others e = by_test (m == n)
  where
    by_test : (b : Bool) → cond b (Some caller.worker) others ≡ Some caller.worker
    by_test true = refl
    by_test false = e

taker_given : (caller : Caller) (given : Option ℕ) (n : ℕ) (others : Option ℕ) → given ≡ Some n → taker_or n given caller.worker others ≡ Some caller.worker
taker_given caller given n others e = rw e (ap (λ b. cond b (Some caller.worker) others) (eq-eqb n n refl))

-- ---- what an entry does

known_coming : (caller : Caller) (past : Past) (ticket : TicketOf) → IsComing caller past ticket → took past.state.pages past.history caller In ticket.number ≡ true
known_coming caller past ticket h =
    let flies : is_in_flight In past.state.pages ticket.number ≡ true = page_passes _ past.state.pages h.p h.page h.there (ap (is_flying_at In ticket.number) h.coming ∙ eq-eqb ticket.number ticket.number refl) in
    let own : is_worker caller.worker (taker ticket.number past.history) ≡ true = ap (is_worker caller.worker) h.taken ∙ eq-eqb caller.worker caller.worker refl in
    rw (flies, own) refl

known_going : (caller : Caller) (past : Past) (ticket : TicketOf) → IsGoing caller past ticket → took past.state.pages past.history caller Out ticket.number ≡ true
known_going caller past ticket h =
    let flies : is_in_flight Out past.state.pages ticket.number ≡ true = page_passes _ past.state.pages h.p h.page h.there (ap (is_flying_at Out ticket.number) h.going ∙ eq-eqb ticket.number ticket.number refl) in
    let own : is_worker caller.worker (taker ticket.number past.history) ≡ true = ap (is_worker caller.worker) h.taken ∙ eq-eqb caller.worker caller.worker refl in
    rw (flies, own) refl

-- the ticket of an ending is known
pub pending_known : (caller : Caller) (past : Past) (what : Event) → KeepsPending caller past what → knows_pass past.state past.history caller (event_of what) ≡ true
pending_known caller past (event.Arrived ticket) h = known_coming caller past ticket h
pending_known caller past (event.FetchFailed ticket) h = known_coming caller past ticket h
pending_known caller past (event.Left ticket) h = known_going caller past ticket h
pending_known caller past (event.LeaveFailed ticket) h = known_going caller past ticket h
pending_known caller past what h = refl

module _ (caller : Caller) (opening : Opening) (old new : Past) (legal : LegalPast opening old) where
  -- what the machine's step did
  pub served_effect : (what : Plain_event) (answer : Plain_reply) → IsServed old caller what answer new → Effect old.state what answer new.state
  served_effect what answer h =
      step_effect old.state new.state (legal-live opening old.history old.state legal) (shows_pages-legal opening old.history old.state legal) (legal-files opening old.history old.state legal) what answer h.unrefused h.answers.steps

  -- and the history is legal still
  pub served_legal : (what : Event) (answered : Reply) → KeepsPending caller old what → IsServed old caller (event_of what) (reply_of answered) new → LegalPast opening new
  served_legal what answered keeps h =
      rw h.history (old.state, legal, record { kept = h.leaves; known = pending_known caller old what keeps; unrefused = h.unrefused; room = h.room; steps = h.answers.steps })

-- ---- refusals

not_fetch : (old new : Past) (answered : Reply) (ticket : TicketOf) → IsRefused old (reply_of answered) new → answered ≡ said.Fetch ticket → ⊥
not_fetch old new answered ticket still is = absurd (never (sym still.refused ∙ ap reply_of is))
  where
    never : reply.Refused still.why ≡ reply.Fetch (record { 0 = ticket.number }) → ⊥
    never e = cc

pub not_out : (old new : Past) (answered : Reply) (ticket : TicketOf) → IsRefused old (reply_of answered) new → answered ≡ said.Out ticket → ⊥
not_out old new answered ticket still is = absurd (never (sym still.refused ∙ ap reply_of is))
  where
    never : reply.Refused still.why ≡ reply.Out (record { 0 = ticket.number }) → ⊥
    never e = cc

pub still_known : (old new : Past) (answered : Reply) → IsRefused old (reply_of answered) new → reply_of answered ≡ reply.Refused Stranger → ⊥
still_known old new answered still e = still.known (refused_inj (sym still.refused ∙ e))
  where
    refused_inj : reply.Refused still.why ≡ reply.Refused Stranger → still.why ≡ Stranger
    refused_inj f = cc

-- ---- a turn

-- what one turn leaves in the hand of its actor and in those of others
pub record TurnsWell (caller : Caller) (opening : Opening) (old : Past) (want : Want) (transition : Transition) (new : Past) : Type 0 where
  pub legal : LegalPast opening new
  pub own : KeepsAt caller new (left_of transition)
  pub others : (at : Activity) → ((n : ℕ) → number_at at ≡ Some n → number_wanted want ≡ Some n → ⊥) → KeepsAt caller old at → KeepsAt caller new at
  pub number : (n : ℕ) → number_at (left_of transition) ≡ Some n → (number_wanted want ≡ Some n) ⊎ ((at : Activity) → KeepsAt caller old at → number_at at ≡ Some n → ⊥)
  pub fine : FineOutcome (outcome_of transition)

module _ (caller : Caller) (opening : Opening) (old new : Past) (legal : LegalPast opening old) where
  -- the past is the same: a turn of the device, or a refusal
  same_turn : (want : Want) (transition : Transition) → new ≡ old → KeepsAt caller old (left_of transition) → ((n : ℕ) → number_at (left_of transition) ≡ Some n → number_wanted want ≡ Some n) → FineOutcome (outcome_of transition)
      → TurnsWell caller opening old want transition new
  same_turn want transition same own number fine =
      record {
        legal = subst (LegalPast opening) (sym same) legal;
        own = subst (λ (p : Past). KeepsAt caller p (left_of transition)) (sym same) own;
        others = λ at other h. subst (λ (p : Past). KeepsAt caller p at) (sym same) h;
        number = λ n e. inl (number n e);
        fine = fine;
      }

  goes_of : (what : Plain_event) (answer : Plain_reply) → IsServed old caller what answer new → TicketsGoOn caller old new (ends what)
  goes_of what answer h =
      record {
        stays = (served_effect caller opening old new legal what answer h).pages.stays;
        taken = λ n e. subst (λ (es : List Entry). taker n es ≡ Some caller.worker) (sym h.history) (taker_entry caller (ticket_given answer) n (taker n old.history) e);
      }

  -- the ticket that a reply gave is the turn's new one
  module _ (remembers : Pending) (what : Event) (answered : Reply) (transition : Transition) (went : IsServed old caller (event_of what) (reply_of answered) new) where
    on_others : (at : Activity) → ((n : ℕ) → number_at at ≡ Some n → number_pending what ≡ Some n → ⊥) → KeepsAt caller old at → KeepsAt caller new at
    on_others at other h = at_goes caller old new (ends (event_of what)) (goes_of (event_of what) (reply_of answered) went) at other h

    given_taken : (n : ℕ) → ticket_given (reply_of answered) ≡ Some n → taker n new.history ≡ Some caller.worker
    given_taken n e = subst (λ (es : List Entry). taker n es ≡ Some caller.worker) (sym went.history) (taker_given caller (ticket_given (reply_of answered)) n (taker n old.history) e)

    given_fresh : (n : ℕ) → ticket_given (reply_of answered) ≡ Some n → (at : Activity) → KeepsAt caller old at → number_at at ≡ Some n → ⊥
    given_fresh n e at h number =
        unlike (is_ticket_taken old.state.pages n) (flies_taken old n (at_flies caller old at n h number)) ((served_effect caller opening old new legal (event_of what) (reply_of answered) went).fresh n e)

    on_turn : KeepsPending caller old what → HandsOut new caller.worker answered → Next answered transition → TurnsWell caller opening old (want.Call remembers what) transition new
    on_turn keeps gives (Handless quiet none fine) =
        record {
          legal = served_legal caller opening old new legal what answered keeps went;
          own = at_none caller new (left_of transition) none;
          others = on_others;
          number = λ n e. never_some (number_at (left_of transition)) none e;
          fine = fine;
        }
    on_turn keeps gives (Reads access ticket is goes) =
        let given : GivesIn new caller.worker ticket = subst (λ (r : Reply). HandsOut new caller.worker r) is gives in
        let ticketed : ticket_given (reply_of answered) ≡ Some ticket.number = ap (λ (r : Reply). ticket_given (reply_of r)) is in
        record {
          legal = served_legal caller opening old new legal what answered keeps went;
          own = subst (λ (t : Transition). KeepsAt caller new (left_of t)) (sym goes) (record { p = given.p; page = given.page; frame = given.frame; there = given.there; coming = given.coming; taken = given_taken ticket.number ticketed });
          others = on_others;
          number = λ n e. inr (given_fresh n (ticketed ∙ sym (ap (λ (t : Transition). number_at (left_of t)) goes) ∙ e));
          fine = subst (λ (t : Transition). FineOutcome (outcome_of t)) (sym goes) tt;
        }
    on_turn keeps gives (Writes on ticket is goes) =
        let given : GivesOut new caller.worker ticket = subst (λ (r : Reply). HandsOut new caller.worker r) is gives in
        let ticketed : ticket_given (reply_of answered) ≡ Some ticket.number = ap (λ (r : Reply). ticket_given (reply_of r)) is in
        record {
          legal = served_legal caller opening old new legal what answered keeps went;
          own = subst (λ (t : Transition). KeepsAt caller new (left_of t)) (sym goes) (record { p = given.p; page = given.page; frame = given.frame; there = given.there; going = given.going; taken = given_taken ticket.number ticketed });
          others = on_others;
          number = λ n e. inr (given_fresh n (ticketed ∙ sym (ap (λ (t : Transition). number_at (left_of t)) goes) ∙ e));
          fine = subst (λ (t : Transition). FineOutcome (outcome_of t)) (sym goes) tt;
        }

  still_turn : (remembers : Pending) (what : Event) (answered : Reply) (transition : Transition) → IsRefused old (reply_of answered) new → Next answered transition → TurnsWell caller opening old (want.Call remembers what) transition new
  still_turn remembers what answered transition still (Handless quiet none fine) =
      same_turn (want.Call remembers what) transition still.same (at_none caller old (left_of transition) none) (λ n e. never_some (number_at (left_of transition)) none e) fine
  still_turn remembers what answered transition still (Reads access ticket is goes) = absurd (not_fetch old new answered ticket still is)
  still_turn remembers what answered transition still (Writes on ticket is goes) = absurd (not_out old new answered ticket still is)

  pub asked_turn : (remembers : Pending) (what : Event) (said : Reply) (transition : Transition) → OfCommand what → KeepsPending caller old what → Called old caller (event_of what) (reply_of said) new → HandsOut new caller.worker said
      → Told old.state.opening.page_size remembers said transition → TurnsWell caller opening old (want.Call remembers what) transition new
  asked_turn remembers what said transition fine keeps called gives told = by_comes (called_comes old new caller (event_of what) (reply_of said) (of_command-leaves what fine) (pending_known caller old what keeps) called)
    where
      by_comes : Comes old caller (event_of what) (reply_of said) new → TurnsWell caller opening old (want.Call remembers what) transition new
      by_comes (ByRefusal still) = still_turn remembers what said transition still (told_next old.state.opening.page_size remembers said transition told (still_known old new said still))
      by_comes (ByEntry went) = on_turn remembers what said transition went keeps gives (told_next old.state.opening.page_size remembers said transition told (went.done Stranger))

  reads_turn : (disk disk' : Disk) (access : Access) (ticket : TicketOf) (transition : Transition) → IsComing caller old ticket → new ≡ old → ReadsIn disk access ticket transition disk' → TurnsWell caller opening old (want.Read access ticket) transition new
  reads_turn disk disk' access ticket transition coming same reads =
      same_turn (want.Read access ticket) transition same
      (subst (λ (t : Transition). KeepsAt caller old (left_of t)) (sym reads.goes) (own reads.answered))
      (λ n e. sym (number reads.answered) ∙ sym (ap (λ (t : Transition). number_at (left_of t)) reads.goes) ∙ e)
      (subst (λ (t : Transition). FineOutcome (outcome_of t)) (sym reads.goes) tt)
    where
      filled : IsComing caller old reads.filled
      filled =
          subst (λ (t : TicketOf). IsComing caller old t) (sym reads.same)
          (record { p = coming.p; page = coming.page; frame = coming.frame; there = coming.there; coming = coming.coming; taken = coming.taken })

      own : (answered : Result (Unit {0}) Fault) → KeepsWanted caller old (in_hand (after_read access answered reads.filled))
      own (Ok done) = filled
      own (Err fault) = filled

      number : (answered : Result (Unit {0}) Fault) → number_wanted (in_hand (after_read access answered reads.filled)) ≡ Some ticket.number
      number (Ok done) = ap (λ (t : TicketOf). Some t.number) reads.same
      number (Err fault) = ap (λ (t : TicketOf). Some t.number) reads.same

  writes_turn : (disk disk' : Disk) (on : Resume) (ticket : TicketOf) (transition : Transition) → IsGoing caller old ticket → new ≡ old → WritesOut disk on ticket transition disk' → TurnsWell caller opening old (want.Write on ticket) transition new
  writes_turn disk disk' on ticket transition going same writes =
      same_turn (want.Write on ticket) transition same
      (subst (λ (t : Transition). KeepsAt caller old (left_of t)) (sym writes.goes) (own writes.answered))
      (λ n e. sym (number writes.answered) ∙ sym (ap (λ (t : Transition). number_at (left_of t)) writes.goes) ∙ e)
      (subst (λ (t : Transition). FineOutcome (outcome_of t)) (sym writes.goes) tt)
    where
      own : (answered : Result (Unit {0}) Fault) → KeepsWanted caller old (in_hand (after_write on answered ticket))
      own (Ok done) = going
      own (Err fault) = going

      number : (answered : Result (Unit {0}) Fault) → number_wanted (in_hand (after_write on answered ticket)) ≡ Some ticket.number
      number (Ok done) = refl
      number (Err fault) = refl

  ends_turn : (said : Answer) (transition : Transition) → Fine said → new ≡ old → transition ≡ Ends said → TurnsWell caller opening old (want.End said) transition new
  ends_turn said transition fine same ends =
      same_turn (want.End said) transition same
      (subst (λ (t : Transition). KeepsAt caller old (left_of t)) (sym ends) tt)
      (λ n e. never_some (number_at (left_of transition)) (ap (λ (t : Transition). number_at (left_of t)) ends) e)
      (subst (λ (t : Transition). FineOutcome (outcome_of t)) (sym ends) fine)

-- the marks of a hit are merged, and no ticket is touched
stays_goes : (caller : Caller) (mid new : Past) → Stays mid new → TicketsGoOn caller mid new None
stays_goes caller mid new stays =
    record {
      stays = λ p n page there ticket other. (page, ap (λ (s : State). page_at s.pages p) stays.state ∙ there, refl);
      taken = λ n e. ap (λ (es : List Entry). taker n es) stays.history ∙ e;
    }

marks_turn : (caller : Caller) (opening : Opening) (old mid new : Past) (want : Want) (transition : Transition) → Stays mid new → TurnsWell caller opening old want transition mid → TurnsWell caller opening old want transition new
marks_turn caller opening old mid new want transition stays h =
    record {
      legal = rw (stays.history, stays.state) h.legal;
      own = at_goes caller mid new None (stays_goes caller mid new stays) (left_of transition) (λ n e f. cc) h.own;
      others = λ at other k. at_goes caller mid new None (stays_goes caller mid new stays) at (λ n e f. cc) (h.others at other k);
      number = h.number;
      fine = h.fine;
    }

module _ (caller : Caller) (opening : Opening) (old new : Past) (legal : LegalPast opening old) where
  pub want_turn : (disk disk' : Disk) (want : Want) (transition : Transition) → FineWant want → KeepsWanted caller old want → WantTurn caller old disk want transition new disk' → TurnsWell caller opening old want transition new
  want_turn disk disk' (want.Call remembers what) transition fine keeps turn =
      let asks = turn.0 in
      marks_turn caller opening old asks.mid new (want.Call remembers what) transition (marks-stay _ caller asks.mid new (reply_of asks.said) asks.marks)
      (asked_turn caller opening old asks.mid legal remembers what asks.said transition fine.0 keeps asks.called asks.gives asks.told)
  want_turn disk disk' (want.Read access ticket) transition fine keeps turn = reads_turn caller opening old new legal disk disk' access ticket transition keeps turn.1 turn.0
  want_turn disk disk' (want.Write on ticket) transition fine keeps turn = writes_turn caller opening old new legal disk disk' on ticket transition keeps turn.1 turn.0
  want_turn disk disk' (want.End said) transition fine keeps turn = ends_turn caller opening old new legal said transition fine turn.1 turn.0

-- ---- worlds

-- what holds of what an actor is at, and of what all others are at, holds of what all are at then
pub seats_all : (R : Activity → Type 0) (who : Actor) (what : Activity) (seats : List Seat) → R what → ((a : Actor) → (number_of a ≡ number_of who → ⊥) → R (activity_of a seats)) → (a : Actor)
    → R (activity_of a (with_activity who what seats))
seats_all R who what seats own others a =
    elim (eq_cases (number_of a) (number_of who)) [
      | inl same ↦ subst R (sym (activity_of-own a who what seats same)) own
      | inr differs ↦ subst R (sym (activity_of-other a who what seats differs)) (others a differs)
    ]

seats_apart : (who : Actor) (what : Activity) (seats : List Seat)
    → ((a : Actor) (n : ℕ) → (number_of a ≡ number_of who → ⊥) → number_at what ≡ Some n → number_at (activity_of a seats) ≡ Some n → ⊥)
    → ((a b : Actor) (n : ℕ) → number_at (activity_of a seats) ≡ Some n → number_at (activity_of b seats) ≡ Some n → number_of a ≡ number_of b)
    → (a b : Actor) (n : ℕ) → number_at (activity_of a (with_activity who what seats)) ≡ Some n → number_at (activity_of b (with_activity who what seats)) ≡ Some n → number_of a ≡ number_of b
seats_apart who what seats own apart a b n e f =
    elim (eq_cases (number_of a) (number_of who)) [
      | inl same ↦
          elim (eq_cases (number_of b) (number_of who)) [
            | inl same' ↦ same ∙ sym same'
            | inr differs ↦ absurd (own b n differs (sym (ap number_at (activity_of-own a who what seats same)) ∙ e) (sym (ap number_at (activity_of-other b who what seats differs)) ∙ f))
          ]
      | inr differs ↦
          elim (eq_cases (number_of b) (number_of who)) [
            | inl same ↦ absurd (own a n differs (sym (ap number_at (activity_of-own b who what seats same)) ∙ f) (sym (ap number_at (activity_of-other a who what seats differs)) ∙ e))
            | inr differs' ↦ apart a b n (sym (ap number_at (activity_of-other a who what seats differs)) ∙ e) (sym (ap number_at (activity_of-other b who what seats differs')) ∙ f)
          ]
    ]

pub tickets_rest : (opening : Opening) (w : World) (who : Actor) (what : Activity) → is_idle (activity_of who w.seats) ≡ true → is_idle what ≡ true → Tickets opening w → Tickets opening (record w { seats = with_activity who what w.seats })
tickets_rest opening w who what was idle h =
    record {
      legal = h.legal;
      keeps = seats_all (KeepsAt w.caller w.past) who what w.seats (at_none w.caller w.past what (idle_none what idle)) (λ a differs. h.keeps a);
      apart = seats_apart who what w.seats (λ a n differs e f. never_some (number_at what) (idle_none what idle) e) h.apart;
    }

-- the actor's own ticket, and that no other has it
pub own_keeps : (opening : Opening) (w : World) (who : Actor) (now : Stage) → IsAt w who now → Tickets opening w → KeepsWanted w.caller w.past (wants_at w.past now)
own_keeps opening w who now at h = wanted_alike w.caller w.past (wants_at w.past now) (in_hand now) (wants_alike w.past now) (held at)
  where
    held : IsAt w who now → KeepsWanted w.caller w.past (in_hand now)
    held (inl is) = subst (λ (at : Activity). KeepsAt w.caller w.past at) is (h.keeps who)
    held (inr none) = wanted_none w.caller w.past (in_hand now) none.1

pub others_differ : (opening : Opening) (w : World) (who : Actor) (now : Stage) → IsAt w who now → Tickets opening w → (a : Actor) → (number_of a ≡ number_of who → ⊥) → (n : ℕ) → number_at (activity_of a w.seats) ≡ Some n
    → number_wanted (wants_at w.past now) ≡ Some n → ⊥
others_differ opening w who now at h a differs n e f = differ at (sym (wanted_in_hand w.past now) ∙ f)
  where
    differ : IsAt w who now → number_wanted (in_hand now) ≡ Some n → ⊥
    differ (inl is) g = differs (h.apart a who n e (ap number_at is ∙ g))
    differ (inr none) g = never_some (number_wanted (in_hand now)) none.1 g

pub turns_well : (opening : Opening) (old new : World) (who : Actor) (now : Stage) (outcome : Outcome) → IsAt old who now → (turn : StageTurn old who now outcome new) → Tickets opening old → TurnsWell old.caller opening old.past (wants_at old.past now) turn.transition new.past
turns_well opening old new who now outcome at turn h = want_turn old.caller opening old.past new.past h.legal old.disk new.disk (wants_at old.past now) turn.transition (wants_fine old.past now) (own_keeps opening old who now at h) turn.turns

pub tickets_turn : (opening : Opening) (old new : World) (who : Actor) (now : Stage) (outcome : Outcome) → IsAt old who now → StageTurn old who now outcome new → Tickets opening old → Tickets opening new × FineOutcome outcome
tickets_turn opening old new who now outcome at turn h =
    let well = turns_well opening old new who now outcome at turn h in (
      record {
        legal = well.legal;
        keeps = subst (λ (k : Caller). (a : Actor) → KeepsAt k new.past (activity_of a new.seats)) (sym turn.same)
            (subst (λ (ss : List Seat). (a : Actor) → KeepsAt old.caller new.past (activity_of a ss)) (sym turn.leaves)
            (seats_all (KeepsAt old.caller new.past) who (left_of turn.transition) old.seats well.own (λ a differs. well.others (activity_of a old.seats) (others_differ opening old who now at h a differs) (h.keeps a))));
        apart = subst (λ (ss : List Seat). (a b : Actor) (n : ℕ) → number_at (activity_of a ss) ≡ Some n → number_at (activity_of b ss) ≡ Some n → number_of a ≡ number_of b) (sym turn.leaves)
            (seats_apart who (left_of turn.transition) old.seats
            (λ a n differs e f.
            elim (well.number n e) [
              | inl wanted ↦ others_differ opening old who now at h a differs n f wanted
              | inr fresh ↦ fresh (activity_of a old.seats) (h.keeps a) f
            ])
            h.apart);
      },
      subst FineOutcome (sym turn.shows) well.fine,
    )

pub tickets_first : (config : Config) (disk : Disk) → Tickets (opening_of config) (first_world config disk)
tickets_first config disk = record { legal = refl; keeps = λ a. tt; apart = λ a b n e f. cc }
