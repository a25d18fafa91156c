-- Which ticket a worker has in hand, from turn to turn.
use Rattle.std.proofs.Common.{◌≡◌, ℕ, zero, suc, Bool, true, false, List, [], ◌∷◌, ◌++◌, sym, ap, ◌∙◌, append-nil, subst, Ok, Err}
use Rattle.std.specs.Prelude.{Result, nat_le, if◌then◌else◌}
use Rattle.machine.specs.declared.record.Direction.TheVariants.{In, Out}
use Rattle.machine.specs.declared.config.Watermarks.{Watermarks}
use Rattle.machine.specs.State.{Opening}
use Rattle.machine.specs.declared.command.Actor.{Actor}
use Rattle.machine.specs.declared.command.Reply.{Reply as Told_by}
use Rattle.machine.specs.declared.command.Word.TheVariants as word
use Rattle.machine.specs.declared.event.Cause.{Cause}
use Rattle.block_store.specs.declared.device.Fault.{Fault}
use Rattle.pages.specs.Tickets.{TicketOf}
use Rattle.machine.specs.declared.event.Event.{Event}
use Rattle.book_events.specs.declared.event.Event.TheVariants as event
use Rattle.book_events.specs.declared.event.Reply.{Reply}
use Rattle.book_events.specs.declared.event.Reply.TheVariants as said
use Rattle.book_events.specs.Events.{event_of, reply_of}
use Rattle.turns.specs.declared.turn.Access.{Access}
use Rattle.turns.specs.declared.turn.Resume.{Resume}
use Rattle.turns.specs.declared.turn.Resume.TheVariants as resume
use Rattle.turns.specs.declared.turn.Pending.{Pending}
use Rattle.turns.specs.declared.turn.Pending.TheVariants as pending
use Rattle.turns.specs.declared.turn.Stage.{Stage}
use Rattle.turns.specs.declared.turn.Stage.TheVariants as stage
use Rattle.turns.specs.declared.turn.Want.{Want}
use Rattle.turns.specs.declared.turn.Want.TheVariants as want
use Rattle.turns.specs.declared.turn.Transition.{Transition}
use Rattle.turns.specs.declared.turn.Transition.TheVariants.{Goes, Kills, Waits, Ends}
use Rattle.turns.specs.Turns.{Told, Tried, MadeRoom, MaxSet, Lowered, Reclaimed, Balanced, Made as Was_made, TaskDid, WasShown, Closed as Was_closed, done, wants, wants_pages, wants_watch, wants_balance, resumes_at, arrived, after_read, after_write, ends_with}
use Rattle.turns.specs.Tickets.{holds}
use Rattle.live.specs.declared.history.Exchange.{Exchange}
use Rattle.live.specs.declared.history.Exchange.TheVariants.{Call}
use Rattle.live.specs.Works.{WantMade, GoesOn}
use Rattle.live.specs.Runs.{Linked}
use Rattle.live.specs.Hands.{begun_by, IsInHand, HasStage, HasWant, HasTransition}

-- a state that holds no ticket
pub has-none : (kept : List Exchange) (at : Stage) → holds at ≡ false → HasStage kept at
has-none kept (stage.Read access ticket) none = cc
has-none kept (stage.Arrive access ticket) none = cc
has-none kept (stage.FetchFail ticket) none = cc
has-none kept (stage.Write on ticket) none = cc
has-none kept (stage.Leave on ticket) none = cc
has-none kept (stage.LeaveFail ticket) none = cc
has-none kept other none = tt

pub has-resumed : (kept : List Exchange) (on : Resume) → HasStage kept (resumes_at on)
has-resumed kept (resume.Try access) = tt
has-resumed kept (resume.MakeRoom access why) = tt
has-resumed kept (resume.Lower g) = tt
has-resumed kept (resume.Reclaim g left) = tt
has-resumed kept resume.Balance = tt

-- what is wanted is done with the ticket in hand
module _ (marks : Watermarks) (free : ℕ) (kept : List Exchange) where
  has-pages : (g left : ℕ) → HasWant kept (wants_pages g left)
  has-pages g zero = tt
  has-pages g (suc left) = tt

  has-balance : HasWant kept (wants_balance marks free)
  has-balance = by_test (nat_le marks.high free)
    where
      by_test : (b : Bool) → HasWant kept (if b then done else want.Call pending.Balance (event.ReclaimOne (record { 0 = 0 })))
      by_test true = tt
      by_test false = tt

  has-watch : HasWant kept (wants_watch marks free)
  has-watch = by_test (nat_le marks.low free)
    where
      by_test : (b : Bool) → HasWant kept (if b then done else wants_balance marks free)
      by_test true = tt
      by_test false = has-balance

  pub has-want : (at : Stage) → HasStage kept at → HasWant kept (wants marks free at)
  has-want (stage.Reclaim g left) h = has-pages g.0 left
  has-want stage.Watch h = has-watch
  has-want stage.Balance h = has-balance
  has-want (stage.Read access ticket) h = h
  has-want (stage.Arrive access ticket) h = h
  has-want (stage.FetchFail ticket) h = h
  has-want (stage.Write on ticket) h = h
  has-want (stage.Leave on ticket) h = h
  has-want (stage.LeaveFail ticket) h = h
  has-want at h = tt

-- ---- what a reply gives out

module _ (new earlier : List Exchange) (asked : Event) (transition : Transition) where
  stands-so : (is : Transition) → transition ≡ is → HasTransition new is → HasTransition new transition
  stands-so is e h = subst (HasTransition new) (sym e) h

  gives-in : (n : ℕ) → new ≡ earlier ++ Call asked (begun_by In n) ∷ [] → IsInHand In n new
  gives-in n is = record { earlier = earlier; asked = asked; last = is }

  gives-out : (n : ℕ) → new ≡ earlier ++ Call asked (begun_by Out n) ∷ [] → IsInHand Out n new
  gives-out n is = record { earlier = earlier; asked = asked; last = is }

  abbrev Last : Reply → Type 0
  Last answered = new ≡ earlier ++ Call asked (reply_of answered) ∷ []

  tried-has : (access : Access) (answered : Reply) → Last answered → Tried access answered transition → HasTransition new transition
  tried-has access (said.Done byte hit) is h = stands-so _ h tt
  tried-has access (said.Fetch ticket) is h = stands-so _ h (gives-in ticket.number is)
  tried-has access (said.Over g) is h = stands-so _ h tt
  tried-has access said.NoFrame is h = stands-so _ h tt
  tried-has access said.Busy is h = stands-so _ h tt
  tried-has access said.Killed is h = stands-so _ h tt
  tried-has access (said.Refused why) is h = stands-so _ h tt
  tried-has access answered is h = absurd h

  room-has : (access : Access) (why : Cause) (answered : Reply) → Last answered → MadeRoom access why answered transition → HasTransition new transition
  room-has access why said.Room is h = stands-so _ h tt
  room-has access why said.Dropped is h = stands-so _ h tt
  room-has access why (said.Out ticket) is h = stands-so _ h (gives-out ticket.number is)
  room-has access why said.Wait is h = stands-so _ h tt
  room-has access why (said.KilledTask t) is h = stands-so _ h tt
  room-has access why (said.KilledAll victim group tasks) is h = stands-so _ h tt
  room-has access why said.NoVictim is h = stands-so _ h tt
  room-has access why (said.Refused refused) is h = stands-so _ h tt
  room-has access why answered is h = absurd h

  max-has : (g : ℕ) (answered : Reply) → Last answered → MaxSet g answered transition → HasTransition new transition
  max-has g said.Ok is h = stands-so _ h tt
  max-has g (said.Refused why) is h = stands-so _ h tt
  max-has g answered is h = absurd h

  lowered-has : (g : ℕ) (answered : Reply) → Last answered → Lowered g answered transition → HasTransition new transition
  lowered-has g said.Room is h = stands-so _ h tt
  lowered-has g said.Dropped is h = stands-so _ h tt
  lowered-has g (said.Out ticket) is h = stands-so _ h (gives-out ticket.number is)
  lowered-has g said.Wait is h = stands-so _ h tt
  lowered-has g (said.KilledTask t) is h = stands-so _ h tt
  lowered-has g (said.KilledAll victim group tasks) is h = stands-so _ h tt
  lowered-has g said.NoVictim is h = stands-so _ h tt
  lowered-has g (said.Refused why) is h = stands-so _ h tt
  lowered-has g answered is h = absurd h

  reclaimed-has : (g left : ℕ) (answered : Reply) → Last answered → Reclaimed g left answered transition → HasTransition new transition
  reclaimed-has g left said.Dropped is h = stands-so _ h tt
  reclaimed-has g left (said.Out ticket) is h = stands-so _ h (gives-out ticket.number is)
  reclaimed-has g left said.Wait is h = stands-so _ h tt
  reclaimed-has g left said.Nothing is h = stands-so _ h tt
  reclaimed-has g left (said.Refused why) is h = stands-so _ h tt
  reclaimed-has g left answered is h = absurd h

  balanced-has : (answered : Reply) → Last answered → Balanced answered transition → HasTransition new transition
  balanced-has said.Dropped is h = stands-so _ h tt
  balanced-has (said.Out ticket) is h = stands-so _ h (gives-out ticket.number is)
  balanced-has said.Wait is h = stands-so _ h tt
  balanced-has said.Nothing is h = stands-so _ h tt
  balanced-has (said.Refused why) is h = stands-so _ h tt
  balanced-has answered is h = absurd h

  was_made-has : (answered : Reply) → Was_made answered transition → HasTransition new transition
  was_made-has said.Ok h = stands-so _ h tt
  was_made-has (said.Refused why) h = stands-so _ h tt
  was_made-has answered h = absurd h

  did-has : (answered : Reply) → TaskDid answered transition → HasTransition new transition
  did-has said.Ok h = stands-so _ h tt
  did-has said.Killed h = stands-so _ h tt
  did-has (said.Refused why) h = stands-so _ h tt
  did-has answered h = absurd h

  shown-has : (page_size : ℕ) (answered : Reply) → WasShown page_size answered transition → HasTransition new transition
  shown-has page_size (said.Shown numbers) h = stands-so _ h tt
  shown-has page_size (said.Refused why) h = stands-so _ h tt
  shown-has page_size answered h = absurd h

  closed-has : (resumed : Transition) (answered : Reply) → HasTransition new resumed → Was_closed resumed answered transition → HasTransition new transition
  closed-has resumed said.Ok has h = stands-so _ h has
  closed-has resumed (said.StrangeIn ticket) has h = stands-so _ h tt
  closed-has resumed (said.StrangeOut ticket) has h = stands-so _ h tt
  closed-has resumed answered has h = absurd h

  told-has : (page_size : ℕ) (remembers : Pending) (answered : Reply) → Last answered → Told page_size remembers answered transition → HasTransition new transition
  told-has page_size (pending.Try access) answered is h = tried-has access answered is h
  told-has page_size (pending.MakeRoom access why) answered is h = room-has access why answered is h
  told-has page_size (pending.SetMax g) answered is h = max-has g.0 answered is h
  told-has page_size (pending.Lower g) answered is h = lowered-has g.0 answered is h
  told-has page_size (pending.Reclaim g left) answered is h = reclaimed-has g.0 left answered is h
  told-has page_size pending.Balance answered is h = balanced-has answered is h
  told-has page_size pending.Make answered is h = was_made-has answered h
  told-has page_size pending.OfTask answered is h = did-has answered h
  told-has page_size pending.Show answered is h = shown-has page_size answered h
  told-has page_size (pending.Arrive access) answered is h = closed-has (Goes (stage.Try (arrived access))) answered tt h
  told-has page_size pending.FetchFail answered is h = closed-has (ends_with word.Io) answered tt h
  told-has page_size (pending.Leave on) answered is h = closed-has (Goes (resumes_at on)) answered (has-resumed new on) h
  told-has page_size pending.LeaveFail answered is h = closed-has (ends_with word.Io) answered tt h

-- ---- turns

module _ (old new added : List Exchange) (transition : Transition) (keeps : new ≡ old ++ added) where
  same-kept : added ≡ [] → new ≡ old
  same-kept none = keeps ∙ (ap (λ (l : List Exchange). old ++ l) none ∙ append-nil old)

  read-has : (access : Access) (ticket : TicketOf) (answered : Result (Unit {0}) Fault) → IsInHand In ticket.number new → HasStage new (after_read access answered ticket)
  read-has access ticket (Ok _) h = h
  read-has access ticket (Err fault) h = h

  write-has : (on : Resume) (ticket : TicketOf) (answered : Result (Unit {0}) Fault) → IsInHand Out ticket.number new → HasStage new (after_write on answered ticket)
  write-has on ticket (Ok _) h = h
  write-has on ticket (Err fault) h = h

  want-has : (opening : Opening) (w : Want) → HasWant old w → WantMade opening w added transition → HasTransition new transition
  want-has opening (want.Call remembers what) has h = told-has new old (event_of what) transition opening.page_size remembers h.said (keeps ∙ ap (λ (l : List Exchange). old ++ l) h.kept) h.told
  want-has opening (want.Read access ticket) has h =
      let filled : TicketOf = record ticket { bytes = h.filled } in
      subst (HasTransition new) (sym h.goes) (read-has access filled h.answered (subst (IsInHand In ticket.number) (sym (same-kept h.kept)) has))
  want-has opening (want.Write on ticket) has h =
      subst (HasTransition new) (sym h.goes) (write-has on ticket h.answered (subst (IsInHand Out ticket.number) (sym (same-kept h.kept)) has))
  want-has opening (want.End said) has h = subst (HasTransition new) (sym h.1) tt

  goes-has : (who : Actor) (told : List Told_by) (next : Stage) → HasTransition new transition → GoesOn who transition told next → HasStage new next
  goes-has who told next has goes = by transition has goes
    where
      by : (t : Transition) → HasTransition new t → GoesOn who t told next → HasStage new next
      by (Goes on) h g = subst (HasStage new) (sym g.1) h
      by (Kills kill on) h g = subst (HasStage new) (sym g.1) (has-resumed new on)
      by (Waits on) h g = subst (HasStage new) (sym g.1) (has-resumed new on)
      by (Ends said) h g = absurd g

-- behind a turn after which the command goes on
pub linked-has : (opening : Opening) (who : Actor) (old new : List Exchange) (told telling : List Told_by) (at next : Stage) → Linked opening who at old new told telling next → HasStage old at → HasStage new next
linked-has opening who old new told telling at next l h =
    goes-has old new l.added l.link.transition l.keeps who l.said next
    (want-has old new l.added l.link.transition l.keeps opening (wants opening.watermarks l.link.made.free at) (has-want opening.watermarks l.link.made.free old at h) l.link.made.made) l.link.goes
