-- A ticket in hand stays that of a transfer in flight, and its worker's own, whatever others ask meanwhile.
use Rattle.std.proofs.Common.{◌≡◌, ◌≢◌, ◌⊎◌, inl, inr, ℕ, ◌==◌, ◌&&◌, Bool, true, false, cond, List, [], ◌∷◌, ◌++◌, reverse, Option, Some, None, eqb-true, eq-eqb, refl, sym, ap, ◌∙◌, subst}
use Rattle.std.specs.Prelude.{MatchBool}
use Rattle.std.proofs.lemmas.Bool.{and_parts}
use Rattle.std.proofs.lemmas.List.{reverse-append}
use Rattle.machine.specs.declared.record.Direction.{Direction}
use Rattle.machine.specs.declared.record.Direction.TheVariants.{In, Out}
use Rattle.machine.specs.declared.event.Event.{Event}
use Rattle.machine.specs.declared.event.Event.TheVariants as plain
use Rattle.machine.specs.declared.reply.Reply.{Reply}
use Rattle.machine.specs.declared.reply.Reply.TheVariants as reply
use Rattle.machine.specs.declared.refusal.Refusal.{Refusal}
use Rattle.machine.specs.declared.refusal.Refusal.TheVariants.{Stranger, TraceFull}
use Rattle.machine.specs.declared.entry.Entry.{Entry}
use Rattle.machine.specs.Slots.{there_and}
use Rattle.machine.specs.Tree.{Node, find_group}
use Rattle.machine.specs.Pages.{Page, Pages, page_at, ticket_at, is_ticket_taken, is_flying_at, is_in_flight}
use Rattle.machine.specs.Refusals.{refusal}
use Rattle.machine.specs.State.{Opening, State}
use Rattle.machine.specs.Step.{Step}
use Rattle.machine.specs.History.{ticket_given, taker_or, taker}
use Rattle.machine.specs.Call.{Past, Caller, is_worker, took, knows_pass, is_trace_full, leaves_entry, entry_of, Refuses, Answered, JudgedBy, Called}
use Rattle.machine.specs.Legal.{Legal}
use Rattle.machine.proofs.EntryLemmas.{entries-one}
use Rattle.machine.proofs.TreeLemmas.{eq_cases}
use Rattle.machine.proofs.Values.{some_inj, unlike}
use Rattle.legal.proofs.Effects.{ends, Effect, step_effect}
use Rattle.legal.proofs.SharedLemmas.{legal-live, ticket_taken}
use Rattle.legal.proofs.ShownLemmas.{shows_pages-legal}
use Rattle.legal.proofs.SoundLemmas.{legal-files}
use Rattle.pages.specs.PagesOf.{labelled, moving}
use Rattle.pages.proofs.TableLemmas.{any-some}
use Rattle.book.specs.declared.kept.Asked.{Asked}
use Rattle.book.specs.declared.kept.Kept.TheVariants.{Call as Kept_call}
use Rattle.book_events.specs.declared.event.Event.{Event as Asks}
use Rattle.book_events.specs.declared.event.Event.TheVariants as event
use Rattle.book_events.specs.declared.event.Reply.{Reply as Answer}
use Rattle.book_events.specs.declared.event.Reply.TheVariants as answer
use Rattle.book_events.specs.Events.{event_of, reply_of}
use Rattle.book.specs.Passes.{asked_of, call_of}
use Rattle.book_events.specs.Replies.{HandsOut}
use Rattle.book.proofs.FlightLemmas.{flying-stands}
use Rattle.live.specs.declared.history.Exchange.{Exchange}
use Rattle.live.specs.declared.history.Exchange.TheVariants.{Call}
use Rattle.live.specs.declared.history.Told.{Told}
use Rattle.live.specs.Exchanges.{finding}
use Rattle.live.specs.Told.{told, told_to, telling}
use Rattle.live.specs.Matching.{asks_end}
use Rattle.live.specs.Shares.{is_strange}
use Rattle.live.specs.Shared.{found_in}
use Rattle.live.specs.Hands.{begun_by, IsInHand, HasEvent, HandsAre}
use Rattle.live.proofs.ToldLemmas.{told-own, told-other}

-- ---- what a call does

-- it was served
record Serves (old : Past) (caller : Caller) (what : Event) (said : Reply) (new : Past) : Type 0 where
  knows : knows_pass old.state old.history caller what ≡ true
  unrefused : refusal old.state what ≡ None
  steps : Step old.state what said new.state
  history : new.history ≡ entry_of caller old.history what said ∷ old.history

-- or refused
record Stands (old : Past) (said : Reply) (new : Past) : Type 0 where
  why : Refusal
  refused : said ≡ reply.Refused why
  same : new ≡ old

module _ (old new : Past) (caller : Caller) (what : Event) (leaves : leaves_entry what ≡ true) where
  answered-comes : (said : Reply) → knows_pass old.state old.history caller what ≡ true → refusal old.state what ≡ None → Answered old caller what said new → Stands old said new ⊎ Serves old caller what said new
  answered-comes (reply.Refused why) knows none h = inl (record { why = why; refused = refl; same = h.2 })
  answered-comes said knows none h =
      inr (record { knows = knows; unrefused = none; steps = h.steps; history = h.history ∙ ap (λ (es : List Entry). es ++ old.history) (entries-one caller old.history what said leaves) })

  called-comes : (said : Reply) → Called old caller what said new → Stands old said new ⊎ Serves old caller what said new
  called-comes said called = by_ticket (knows_pass old.state old.history caller what) refl called
    where
      by_room : (full : Bool) → knows_pass old.state old.history caller what ≡ true → refusal old.state what ≡ None → MatchBool full (Refuses old TraceFull said new) (Answered old caller what said new) → Stands old said new ⊎ Serves old caller what said new
      by_room true knows none h = inl (record { why = TraceFull; refused = h.0; same = h.1 })
      by_room false knows none h = answered-comes said knows none h

      by_cause : (cause : Option Refusal) → knows_pass old.state old.history caller what ≡ true → refusal old.state what ≡ cause → JudgedBy old caller what cause said new → Stands old said new ⊎ Serves old caller what said new
      by_cause (Some why) knows is h = inl (record { why = why; refused = h.0; same = h.1 })
      by_cause None knows is h = by_room (is_trace_full old what) knows is h

      by_ticket : (b : Bool) → knows_pass old.state old.history caller what ≡ b → MatchBool b (JudgedBy old caller what (refusal old.state what) said new) (Refuses old Stranger said new) → Stands old said new ⊎ Serves old caller what said new
      by_ticket true is h = by_cause (refusal old.state what) is refl h
      by_ticket false is h = inl (record { why = Stranger; refused = h.0; same = h.1 })

-- ---- a transfer of somebody else

one-worker : (a b : ℕ) (by : Option ℕ) → is_worker a by ≡ true → is_worker b by ≡ true → a ≡ b
one-worker a b None one two = cc
one-worker a b (Some c) one two = sym (eqb-true c a one) ∙ eqb-true c b two

-- whoever ends a transfer took its ticket
ends-own : (pages : Pages) (history : List Entry) (caller : Caller) (direction : Direction) (m n : ℕ) → Some m ≡ Some n → took pages history caller direction m ≡ true → is_worker caller.worker (taker n history) ≡ true
ends-own pages history caller direction m n e known =
    ap (λ (k : ℕ). is_worker caller.worker (taker k history)) (sym (some_inj e)) ∙ (and_parts (is_in_flight direction pages m) (is_worker caller.worker (taker m history)) known).1

ended-own : (s : State) (history : List Entry) (caller : Caller) (what : Event) (n : ℕ) → ends what ≡ Some n → knows_pass s history caller what ≡ true → is_worker caller.worker (taker n history) ≡ true
ended-own s history caller (plain.Arrived ticket bytes) n e known = ends-own s.pages history caller In ticket.0 n e known
ended-own s history caller (plain.FetchFailed ticket) n e known = ends-own s.pages history caller In ticket.0 n e known
ended-own s history caller (plain.Left ticket) n e known = ends-own s.pages history caller Out ticket.0 n e known
ended-own s history caller (plain.LeaveFailed ticket) n e known = ends-own s.pages history caller Out ticket.0 n e known
ended-own s history caller what n e known = cc

flies-self : (direction : Direction) (frame block n : ℕ) → is_flying_at direction n (moving direction frame block n) ≡ true
flies-self In frame block n = eq-eqb n n refl
flies-self Out frame block n = eq-eqb n n refl

ticket-self : (direction : Direction) (frame block n : ℕ) → ticket_at (moving direction frame block n) ≡ Some n
ticket-self In frame block n = refl
ticket-self Out frame block n = refl

flies-at : (pages : Pages) (direction : Direction) (p n : ℕ) (page : Page) → page_at pages p ≡ Some page → is_flying_at direction n page.residence ≡ true → is_in_flight direction pages n ≡ true
flies-at pages direction p n page there flies =
    any-some (λ (x : Page). is_flying_at direction n x.residence) pages p (ap (there_and (λ (x : Page). is_flying_at direction n x.residence)) there ∙ flies)

module _ (opening : Opening) (old new : Past) (caller : Caller) (what : Event) (said : Reply) (legal : Legal opening old.history old.state) (served : Serves old caller what said new) where
  effect : Effect old.state what said new.state
  effect =
      step_effect old.state new.state (legal-live opening old.history old.state legal) (shows_pages-legal opening old.history old.state legal) (legal-files opening old.history old.state legal) what said served.unrefused served.steps

  -- who took a ticket in flight is known still
  taker-stays : (n : ℕ) → is_ticket_taken old.state.pages n ≡ true → taker n new.history ≡ taker n old.history
  taker-stays n taken = ap (taker n) served.history ∙ by_given (ticket_given said) refl
    where
      by_number : (m : ℕ) → ticket_given said ≡ Some m → (b : Bool) → (m == n) ≡ b → cond b (Some caller.worker) (taker n old.history) ≡ taker n old.history
      by_number m given true is = absurd (unlike (is_ticket_taken old.state.pages n) taken (effect.fresh n (given ∙ ap (λ (k : ℕ). Some k) (eqb-true m n is))))
      by_number m given false is = refl

      by_given : (given : Option ℕ) → ticket_given said ≡ given → taker_or n given caller.worker (taker n old.history) ≡ taker n old.history
      by_given None is = refl
      by_given (Some m) is = by_number m is (m == n) refl

  other-stays : (worker n : ℕ) (direction : Direction) → caller.worker ≢ worker → took old.state.pages old.history (record { worker = worker }) direction n ≡ true → took new.state.pages new.history (record { worker = worker }) direction n ≡ true
  other-stays worker n direction other h =
      let was = and_parts (is_in_flight direction old.state.pages n) (is_worker worker (taker n old.history)) h in
      let stood = flying-stands old.state.pages direction n was.0 in
      let p = stood.0 in
      let residence = moving direction stood.2 stood.3 n in
      let page = labelled stood.1 residence in
      let there = stood.4 in
      let ticket = ticket-self direction stood.2 stood.3 n in
      let on = effect.pages.stays p n page there ticket (λ (e : ends what ≡ Some n). other (one-worker caller.worker worker (taker n old.history) (ended-own old.state old.history caller what n e served.knows) was.1)) in
      let flies : is_in_flight direction new.state.pages n ≡ true = flies-at new.state.pages direction p n on.0 on.1 (ap (is_flying_at direction n) on.2 ∙ flies-self direction stood.2 stood.3 n) in
      let own : is_worker worker (taker n new.history) ≡ true = ap (is_worker worker) (taker-stays n (ticket_taken old.state p n page there ticket)) ∙ was.1 in
      ap (λ (b : Bool). b && is_worker worker (taker n new.history)) flies ∙ own

-- ---- a ticket that is given out

given-own : (new : Past) (caller : Caller) (what : Event) (history : List Entry) (said : Reply) (n : ℕ) → ticket_given said ≡ Some n → new.history ≡ entry_of caller history what said ∷ history → is_worker caller.worker (taker n new.history) ≡ true
given-own new caller what history said n given is =
    ap (λ (h : List Entry). is_worker caller.worker (taker n h)) is
    ∙ (ap (λ (t : Option ℕ). is_worker caller.worker (taker_or n t caller.worker (taker n history))) given
    ∙ (ap (λ (b : Bool). is_worker caller.worker (cond b (Some caller.worker) (taker n history))) (eq-eqb n n refl) ∙ eq-eqb caller.worker caller.worker refl))

begun-given : (direction : Direction) (n : ℕ) → ticket_given (begun_by direction n) ≡ Some n
begun-given In n = refl
begun-given Out n = refl

-- the page stands in transfer
handed-flies : (new : Past) (worker : ℕ) (answered : Answer) (direction : Direction) (n : ℕ) → HandsOut new worker answered → reply_of answered ≡ begun_by direction n → is_in_flight direction new.state.pages n ≡ true
handed-flies new worker (answer.Fetch ticket) In n gives is =
    let same : ticket.number ≡ n = some_inj (ap ticket_given is) in
    flies-at new.state.pages In gives.p n gives.page gives.there (ap (is_flying_at In n) gives.coming ∙ eq-eqb ticket.number n same)
handed-flies new worker (answer.Out ticket) Out n gives is =
    let same : ticket.number ≡ n = some_inj (ap ticket_given is) in
    flies-at new.state.pages Out gives.p n gives.page gives.there (ap (is_flying_at Out n) gives.going ∙ eq-eqb ticket.number n same)
handed-flies new worker answered In n gives is = cc
handed-flies new worker answered Out n gives is = cc

not-refused : (direction : Direction) (n : ℕ) (why : Refusal) → begun_by direction n ≡ reply.Refused why → ⊥
not-refused In n why e = cc
not-refused Out n why e = cc

-- ---- what workers were told

last-same : (xs ys : List Exchange) (x y : Exchange) → xs ++ x ∷ [] ≡ ys ++ y ∷ [] → x ≡ y
last-same xs ys x y e = heads (sym (reverse-append xs (x ∷ [])) ∙ (ap reverse e ∙ reverse-append ys (y ∷ [])))
  where
    heads : x ∷ reverse xs ≡ y ∷ reverse ys → x ≡ y
    heads f = cc

answers-same : (asked other : Event) (said given : Reply) → Call asked said ≡ Call other given → said ≡ given
answers-same asked other said given e = cc

-- what the newest thing is that the worker itself was told
own-last : (worker n : ℕ) (direction : Direction) (what : Exchange) (log : List Told) (h : IsInHand direction n (told_to worker (told worker what ∷ log))) → what ≡ Call h.asked (begun_by direction n)
own-last worker n direction what log h = last-same (told_to worker log) h.earlier what (Call h.asked (begun_by direction n)) (sym (told-own worker what log) ∙ h.last)

other-last : (by worker n : ℕ) (direction : Direction) (what : Exchange) (log : List Told) → by ≢ worker → IsInHand direction n (told_to worker (told by what ∷ log)) → IsInHand direction n (told_to worker log)
other-last by worker n direction what log ne h = record { earlier = h.earlier; asked = h.asked; last = sym (told-other by worker what log ne) ∙ h.last }

-- ---- tickets in hand go on

pub hands-none : (past : Past) → HandsAre past []
hands-none past worker n direction h = absurd (none h.earlier h.last)
  where
    none : (xs : List Exchange) → [] ≡ xs ++ Call h.asked (begun_by direction n) ∷ [] → ⊥
    none [] e = cc
    none (x ∷ xs) e = cc

pub hands-same : (old new : Past) (log : List Told) → new.state ≡ old.state → new.history ≡ old.history → HandsAre old log → HandsAre new log
hands-same old new log state history hands worker n direction h =
    ap (λ (s : State). took s.pages new.history (record { worker = worker }) direction n) state
    ∙ (ap (λ (es : List Entry). took old.state.pages es (record { worker = worker }) direction n) history ∙ hands worker n direction h)

hands-find : (past : Past) (by : ℕ) (path : List ℕ) (g : Option ℕ) (log : List Told) → HandsAre past log → HandsAre past (told by (finding path g) ∷ log)
hands-find past by path g log hands worker n direction h = by_worker (eq_cases by worker)
  where
    no_call : (asked : Event) (said : Reply) → finding path g ≡ Call asked said → ⊥
    no_call asked said e = cc

    by_worker : (by ≡ worker) ⊎ (by ≡ worker → ⊥) → took past.state.pages past.history (record { worker = worker }) direction n ≡ true
    by_worker (inl same) =
        let own : IsInHand direction n (told_to worker (told worker (finding path g) ∷ log)) = subst (λ (w : ℕ). IsInHand direction n (told_to worker (told w (finding path g) ∷ log))) same h in
        absurd (no_call own.asked (begun_by direction n) (own-last worker n direction (finding path g) log own))
    by_worker (inr other) = hands worker n direction (other-last by worker n direction (finding path g) log other h)

pub hands-finds : (past : Past) (by : ℕ) (tree : List Node) (paths : List (List ℕ)) (log : List Told) → HandsAre past log → HandsAre past (telling by (found_in tree paths) log)
hands-finds past by tree [] log hands = hands
hands-finds past by tree (path ∷ paths) log hands =
    hands-finds past by tree paths (told by (finding path (find_group tree path)) ∷ log) (hands-find past by path (find_group tree path) log hands)

pub hands-call : (opening : Opening) (old new : Past) (caller : Caller) (what : Event) (answered : Answer) (log : List Told) → Legal opening old.history old.state → leaves_entry what ≡ true → Called old caller what (reply_of answered) new → HandsOut new caller.worker answered → HandsAre old log → HandsAre new (told caller.worker (Call what (reply_of answered)) ∷ log)
hands-call opening old new caller what answered log legal leaves called gives hands worker n direction h = by_worker (eq_cases caller.worker worker)
  where
    own : (e : caller.worker ≡ worker) → reply_of answered ≡ begun_by direction n
    own e =
        let here : IsInHand direction n (told_to worker (told worker (Call what (reply_of answered)) ∷ log)) = subst (λ (w : ℕ). IsInHand direction n (told_to worker (told w (Call what (reply_of answered)) ∷ log))) e h in
        answers-same what here.asked (reply_of answered) (begun_by direction n) (own-last worker n direction (Call what (reply_of answered)) log here)

    own-took : caller.worker ≡ worker → reply_of answered ≡ begun_by direction n → Stands old (reply_of answered) new ⊎ Serves old caller what (reply_of answered) new → took new.state.pages new.history (record { worker = worker }) direction n ≡ true
    own-took e is (inl still) = absurd (not-refused direction n still.why (sym is ∙ still.refused))
    own-took e is (inr served) =
        let flies = handed-flies new caller.worker answered direction n gives is in
        let taken = given-own new caller what old.history (reply_of answered) n (ap ticket_given is ∙ begun-given direction n) served.history in
        ap (λ (b : Bool). b && is_worker worker (taker n new.history)) flies ∙ (ap (λ (w : ℕ). is_worker w (taker n new.history)) (sym e) ∙ taken)

    other-took : caller.worker ≢ worker → Stands old (reply_of answered) new ⊎ Serves old caller what (reply_of answered) new → took new.state.pages new.history (record { worker = worker }) direction n ≡ true
    other-took ne (inl still) = ap (λ (p : Past). took p.state.pages p.history (record { worker = worker }) direction n) still.same ∙ hands worker n direction (other-last caller.worker worker n direction (Call what (reply_of answered)) log ne h)
    other-took ne (inr served) = other-stays opening old new caller what (reply_of answered) legal served worker n direction ne (hands worker n direction (other-last caller.worker worker n direction (Call what (reply_of answered)) log ne h))

    by_worker : (caller.worker ≡ worker) ⊎ (caller.worker ≡ worker → ⊥) → took new.state.pages new.history (record { worker = worker }) direction n ≡ true
    by_worker (inl e) = own-took e (own e) (called-comes old new caller what leaves (reply_of answered) called)
    by_worker (inr ne) = other-took ne (called-comes old new caller what leaves (reply_of answered) called)

-- ---- so no end is a stranger's

pub hand-known : (past : Past) (caller : Caller) (what : Asks) (exchanges : List Exchange) (log : List Told) → exchanges ≡ told_to caller.worker log → HandsAre past log → HasEvent exchanges what → knows_pass past.state past.history caller (event_of what) ≡ true
hand-known past caller what exchanges log is hands has = by_event what (subst (λ (l : List Exchange). HasEvent l what) is has)
  where
    by_event : (what : Asks) → HasEvent (told_to caller.worker log) what → knows_pass past.state past.history caller (event_of what) ≡ true
    by_event (event.Arrived ticket) h = hands caller.worker ticket.number In h
    by_event (event.FetchFailed ticket) h = hands caller.worker ticket.number In h
    by_event (event.Left ticket) h = hands caller.worker ticket.number Out h
    by_event (event.LeaveFailed ticket) h = hands caller.worker ticket.number Out h
    by_event what h = refl

-- an end that is known is not answered so
end-known : (old new : Past) (caller : Caller) (what : Event) → refusal old.state what ≡ None → knows_pass old.state old.history caller what ≡ true → Called old caller what (reply.Refused Stranger) new → ⊥
end-known old new caller what none knows called = by_ticket (knows_pass old.state old.history caller what) knows called
  where
    by_room : (full : Bool) → MatchBool full (Refuses old TraceFull (reply.Refused Stranger) new) (Answered old caller what (reply.Refused Stranger) new) → ⊥
    by_room true h = let wrong : reply.Refused Stranger ≡ reply.Refused TraceFull = h.0 in cc
    by_room false h = let wrong = h.0 in cc

    by_ticket : (b : Bool) → b ≡ true → MatchBool b (JudgedBy old caller what (refusal old.state what) (reply.Refused Stranger) new) (Refuses old Stranger (reply.Refused Stranger) new) → ⊥
    by_ticket true is h = by_room (is_trace_full old what) (subst (λ (cause : Option Refusal). JudgedBy old caller what cause (reply.Refused Stranger) new) none h)
    by_ticket false is h = cc

ending-strange : (old new : Past) (caller : Caller) (what : Event) (said : Reply) → refusal old.state what ≡ None → knows_pass old.state old.history caller what ≡ true → Called old caller what said new → is_strange (Kept_call (asked_of what) said) ≡ false
ending-strange old new caller what (reply.Refused Stranger) none knows called = absurd (end-known old new caller what none knows called)
ending-strange old new caller what (reply.Refused why) none knows called = refl
ending-strange old new caller what said none knows called = refl

quiet-strange : (asked : Asked) → asks_end asked ≡ false → (said : Reply) → is_strange (Kept_call asked said) ≡ false
quiet-strange asked none (reply.Refused Stranger) = none
quiet-strange asked none (reply.Refused why) = refl
quiet-strange asked none said = refl

pub known-strange : (old new : Past) (caller : Caller) (what : Asks) (said : Reply) → knows_pass old.state old.history caller (event_of what) ≡ true → Called old caller (event_of what) said new → is_strange (call_of (event_of what) said) ≡ false
known-strange old new caller (event.Arrived ticket) said knows called = ending-strange old new caller (event_of (event.Arrived ticket)) said refl knows called
known-strange old new caller (event.FetchFailed ticket) said knows called = ending-strange old new caller (event_of (event.FetchFailed ticket)) said refl knows called
known-strange old new caller (event.Left ticket) said knows called = ending-strange old new caller (event_of (event.Left ticket)) said refl knows called
known-strange old new caller (event.LeaveFailed ticket) said knows called = ending-strange old new caller (event_of (event.LeaveFailed ticket)) said refl knows called
known-strange old new caller what said knows called = quiet-strange (asked_of (event_of what)) refl said
