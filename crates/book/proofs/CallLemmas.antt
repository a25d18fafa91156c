-- One call: what it answers, and the book after it.
use Rattle.std.proofs.Common.{◌≡◌, ℕ, ◌+◌, ◌*◌, ◌<◌, ◌≤◌, Bool, true, false, List, [], ◌∷◌, ◌++◌, Option, None, refl, sym, ap, ◌∙◌, subst, arith, Some, length, length-append, add-one}
use Rattle.std.specs.Prelude.{slice_index, slice_set, reverse, nat_lt}
use Rattle.std.proofs.lemmas.List.{reverse-append, length-reverse, length-set}
use Rattle.std.proofs.lemmas.List.Sums.{length-filter, count_by-le-length}
use Rattle.std.proofs.lemmas.Bool.Decides.{nat_tests}
use Rattle.machine.specs.declared.entry.Entry.{Entry}
use Rattle.machine.specs.declared.refusal.Refusal.TheVariants.{Stranger, TraceFull}
use Rattle.machine.specs.declared.event.Event.{Event}
use Rattle.machine.specs.declared.event.Event.TheVariants as event
use Rattle.machine.specs.declared.reply.Reply.{Reply}
use Rattle.machine.specs.declared.reply.Reply.TheVariants as reply
use Rattle.machine.specs.declared.id.WorkerId.{WorkerId}
use Rattle.machine.specs.declared.record.Direction.{Direction}
use Rattle.machine.specs.declared.record.Direction.TheVariants.{In, Out}
use Rattle.machine.specs.Pages.{in_transfer}
use Rattle.pages.specs.Tickets.{TicketOf}
use Rattle.pages.specs.declared.end.End.{End}
use Rattle.pages.specs.declared.end.End.TheVariants.{InFrame, OnBlock}
use Rattle.book_events.specs.Events.{ended}
use Rattle.machine.specs.State.{Opening, State, page_numbers}
use Rattle.machine.specs.Slots.{at}
use Rattle.machine.specs.Refusals.{refusal}
use Rattle.machine.specs.History.{is_by, entries_by, ticket_given}
use Rattle.machine.specs.Call.{Past, Caller, took, knows_pass, need, is_trace_full, leaves_entry, entry_of, Answers, Answered, Called}
use Rattle.book.specs.declared.book.Book.TheInside.{Inside}
use Rattle.legal.proofs.CountedLemmas.{few-total}
use Rattle.page_state.specs.States.{StateOf, AreFew}
use Rattle.page_state.specs.Changes.{MergesFrames}
use Rattle.machine.specs.Generations.{Gens, gens_at}
use Rattle.pages.specs.declared.flight.Flight.{Flight}
use Rattle.pages.specs.PagesOf.{AreInFlight}
use Rattle.book.specs.MakesStep.{MakesStep, IsAsked, is_refused, noted, noted_at}
use Rattle.book.specs.Told.{IsHistory}
use Rattle.book.specs.Books.{past_of, IsBook}
use Rattle.book.specs.declared.decision.Decision.{Decision}
use Rattle.book.specs.Decisions.{IsDecided, entries_for}
use Rattle.book.proofs.NeedLemmas.{entries-needed}
use Rattle.book.proofs.HistoryLemmas.{Extending, extends}
use Rattle.book.proofs.PassLemmas.{asked-leaves}
use Rattle.machine.proofs.EntryLemmas.{entries-one}

-- ---- answers of a call

-- an event without a ticket is nobody's
pub asked-knows : (s : State) (history : List Entry) (caller : Caller) (what : Event) → IsAsked what → knows_pass s history caller what ≡ true
asked-knows s history caller (event.Arrived ticket bytes) asked = absurd asked
asked-knows s history caller (event.FetchFailed ticket) asked = absurd asked
asked-knows s history caller (event.Left ticket) asked = absurd asked
asked-knows s history caller (event.LeaveFailed ticket) asked = absurd asked
asked-knows s history caller what asked = refl

pub called-stranger : (old : Past) (caller : Caller) (what : Event) → knows_pass old.state old.history caller what ≡ false → Called old caller what (reply.Refused Stranger) old
called-stranger old caller what strange = rw strange (refl, refl)

-- what is served, where it is no refusal
served : (old : Past) (caller : Caller) (what : Event) (answer : Reply) (new : Past) → is_refused answer ≡ false → Answers old caller what answer new → Answered old caller what answer new
served old caller what (reply.Refused why) new e h = cc
served old caller what answer new e h = h

called-served : (old new : Past) (caller : Caller) (what : Event) (answer : Reply) → knows_pass old.state old.history caller what ≡ true → refusal old.state what ≡ None → is_trace_full old what ≡ false → is_refused answer ≡ false
    → Answers old caller what answer new → Called old caller what answer new
called-served old new caller what answer known none room given h = rw known (rw none (rw room (served old caller what answer new given h)))

-- ---- in a book

abbrev pub history_of : Inside → List Entry
history_of b = reverse b.trace.entries

-- the newest entry stands first
reverse-entries : (entries : List Entry) (counts : List ℕ) (worker : ℕ) (what : Event) (answer : Reply) → slice_index counts worker ≡ length (entries_by worker (reverse entries))
    → reverse (entries ++ record { worker = record { 0 = worker }; count = slice_index counts worker + 1; event = what; reply = answer } ∷ []) ≡ entry_of (record { worker = worker }) (reverse entries) what answer ∷ reverse entries
reverse-entries entries counts worker what answer counted =
    reverse-append entries (record { worker = record { 0 = worker }; count = slice_index counts worker + 1; event = what; reply = answer } ∷ [])
    ∙ ap (λ (n : ℕ). record { worker = record { 0 = worker }; count = n + 1; event = what; reply = answer } ∷ reverse entries) counted

-- no worker has more entries than there are
few_by : (history : List Entry) (worker : ℕ) → length (entries_by worker history) ≤ length history
few_by history worker = let same = length-filter (is_by worker) history in let le = count_by-le-length (is_by worker) history in omega (arith, same, le)

pub few_of : (b : Inside) → IsBook b → b.state.tables.opening.trace_limit ≤ 1048576 → (worker : ℕ) → slice_index b.counts.items worker ≤ 1048576
few_of b is limit worker =
    let counted = is.told.counted worker in
    let few = few_by (history_of b) worker in
    let all = length-reverse b.trace.entries in
    let within = is.within in
    omega (arith, counted, few, all, within, limit)

-- all kills together are at most as many as tasks began, and each entry counts at most three events beside, so no key is counted more often than 64 bits hold
pub few-counted : (b : Inside) → IsBook b → b.state.tables.opening.trace_limit ≤ 1048576 → AreFew b.state.tables
few-counted b is limit k =
    let most = few-total b.state.tables.opening (history_of b) b.state.tables is.told.legal b.state.tables.tree 0 k in
    let all = length-reverse b.trace.entries in
    let within = is.within in
    omega (arith, most, all, within, limit)

-- ---- room

not_full : (limit wanted : ℕ) → wanted ≤ limit → nat_lt limit wanted ≡ false
not_full limit wanted le = grind (arith, nat_tests, le)

fits : (limit wanted : ℕ) → nat_lt limit wanted ≡ false → wanted ≤ limit
fits limit wanted e = grind (arith, nat_tests, e)

-- where an entry extends the history, all entries and all transfers in flight have room
module _ (b : Inside) (new : StateOf) (worker : ℕ) (what : Event) (answer : Reply) (h : Extending b.state new (history_of b) b.counts.items b.takers.items worker what answer) where
  pub fits_more : length b.trace.entries + 1 + in_transfer new.tables.pages ≤ b.state.tables.opening.trace_limit
  fits_more =
      let s = b.state.tables in
      let full = fits b.state.tables.opening.trace_limit (length (history_of b) + in_transfer b.state.tables.pages + need s what) h.room in
      let kept = h.makes_step.kept in
      let all = length-reverse b.trace.entries in
      omega (arith, full, kept, all)

  pub has_room : IsBook b → length b.trace.entries < b.trace.limit
  has_room is =
      let fits = fits_more in
      let room = is.room in
      omega (arith, fits, room)

-- what is asked of a book, as its callers see it
module _ (b : Inside) (past : Past) (is : IsBook b) (view_is : past_of b ≡ past) (new : StateOf) (in_flight : AreInFlight new.tables.pages new.flights) (worker : ℕ) (passed : worker < past.passes) (what : Event) where
  passed_in : worker < length b.counts.items
  passed_in = subst (λ (p : Past). worker < p.passes) (sym view_is) passed

  -- an event without a ticket extends the history, where nothing refuses it and there is room
  pub asks : (answer : Reply) → IsAsked what → refusal b.state.tables what ≡ None → is_trace_full past what ≡ false → MakesStep b.state what answer new → Extending b.state new (history_of b) b.counts.items b.takers.items worker what answer
  asks answer asked none room makes_step =
      record {
        told = is.told;
        passed = passed_in;
        leaves = asked-leaves what asked;
        known = asked-knows b.state.tables (history_of b) (record { worker = worker }) what asked;
        none = none;
        room = subst (λ (p : Past). is_trace_full p what ≡ false) (sym view_is) room;
        makes_step = makes_step;
        in_flight = in_flight;
        sized = is.takers;
      }

  -- an ending extends the history, as it needs no room but that which was kept for it
  pub ends : knows_pass past.state past.history (record { worker = worker }) what ≡ true → refusal b.state.tables what ≡ None → need b.state.tables what ≡ 0 → leaves_entry what ≡ true
      → MakesStep b.state what reply.Ok new → Extending b.state new (history_of b) b.counts.items b.takers.items worker what reply.Ok
  ends known none free leaves makes_step =
      record {
        told = is.told;
        passed = passed_in;
        leaves = leaves;
        known = subst (λ (p : Past). knows_pass p.state p.history (record { worker = worker }) what ≡ true) (sym view_is) known;
        none = none;
        room = not_full b.state.tables.opening.trace_limit (length (history_of b) + in_transfer b.state.tables.pages + need b.state.tables what)
            (let within = is.within in let all = length-reverse b.trace.entries in omega (arith, within, all, free));
        makes_step = makes_step;
        in_flight = in_flight;
        sized = is.takers;
      }

-- whether the trace is full for a decision is whether it is so for its event
pub full-decided : (b : Inside) (past : Past) → past_of b ≡ past → (what : Event) (decided : Decision) → IsDecided b.state what decided → (n : ℕ) → n ≡ entries_for decided → (full : Bool)
    → full ≡ nat_lt past.state.opening.trace_limit (length past.history + in_transfer past.state.pages + n) → full ≡ is_trace_full past what
full-decided b past view_is what decided is n entries full e =
    e ∙ ap (λ (k : ℕ). nat_lt past.state.opening.trace_limit (length past.history + in_transfer past.state.pages + k)) (entries ∙ entries-needed b.state what decided is ∙ ap (λ (p : Past). need p.state what) view_is)

pub called-full : (b : Inside) (past : Past) → past_of b ≡ past → (caller : Caller) (what : Event) → IsAsked what → refusal b.state.tables what ≡ None → is_trace_full past what ≡ true
    → Called past caller what (reply.Refused TraceFull) past
called-full b past view_is caller what asked none full =
    let known = asked-knows past.state past.history caller what asked in
    let unrefused : refusal past.state what ≡ None = sym (ap (λ (p : Past). refusal p.state what) view_is) ∙ none in
    rw known (rw unrefused (rw full (refl, refl)))

-- ---- endings

-- whoever took the ticket may end its transfer, in its direction
pub ended-known : (past : Past) (caller : Caller) (direction : Direction) (end : End) (ticket : TicketOf)
    → knows_pass past.state past.history caller (ended direction end ticket) ≡ took past.state.pages past.history caller direction ticket.number
ended-known past caller In InFrame ticket = refl
ended-known past caller In OnBlock ticket = refl
ended-known past caller Out InFrame ticket = refl
ended-known past caller Out OnBlock ticket = refl

pub ended-none : (s : State) (direction : Direction) (end : End) (ticket : TicketOf) → refusal s (ended direction end ticket) ≡ None
ended-none s In InFrame ticket = refl
ended-none s In OnBlock ticket = refl
ended-none s Out InFrame ticket = refl
ended-none s Out OnBlock ticket = refl

pub ended-free : (s : State) (direction : Direction) (end : End) (ticket : TicketOf) → need s (ended direction end ticket) ≡ 0
ended-free s In InFrame ticket = refl
ended-free s In OnBlock ticket = refl
ended-free s Out InFrame ticket = refl
ended-free s Out OnBlock ticket = refl

pub ended-leaves : (direction : Direction) (end : End) (ticket : TicketOf) → leaves_entry (ended direction end ticket) ≡ true
ended-leaves In InFrame ticket = refl
ended-leaves In OnBlock ticket = refl
ended-leaves Out InFrame ticket = refl
ended-leaves Out OnBlock ticket = refl

-- ---- the book after it

noted-length : (flights : List (Option Flight)) (takers : List WorkerId) (worker : ℕ) (given : Option ℕ) → length (noted flights takers worker given) ≡ length takers
noted-length flights takers worker None = refl
noted-length flights takers worker (Some n) = by_slot (at flights n)
  where
    by_slot : (slot : Option Flight) → length (noted_at takers slot worker) ≡ length takers
    by_slot None = refl
    by_slot (Some f) = length-set takers f.page.0 (record { 0 = worker })

-- the worker's entry stands at the end, who took the ticket is noted, and all else as it was
pub record Appends (b c : Inside) (w : WorkerId) (what : Event) (answer : Reply) : Type 0 where
  pub entries : c.trace.entries ≡ b.trace.entries ++ record { worker = w; count = slice_index b.counts.items w.0 + 1; event = what; reply = answer } ∷ []
  pub room : c.trace.limit ≡ b.trace.limit
  pub counts : c.counts.items ≡ slice_set b.counts.items w.0 (slice_index b.counts.items w.0 + 1)
  pub takers : c.takers.items ≡ noted c.state.flights b.takers.items w.0 (ticket_given answer)

module _ (b c : Inside) (w : WorkerId) (what : Event) (answer : Reply) (is : IsBook b) (h : Extending b.state c.state (history_of b) b.counts.items b.takers.items w.0 what answer) (appends : Appends b c w what answer) where
  history_is : history_of c ≡ entry_of (record { worker = w.0 }) (history_of b) what answer ∷ history_of b
  history_is = ap reverse appends.entries ∙ reverse-entries b.trace.entries b.counts.items w.0 what answer (is.told.counted w.0)

  pub told_more : IsHistory c.state (history_of c) c.counts.items c.takers.items
  told_more =
      subst (λ (h : List Entry). IsHistory c.state h c.counts.items c.takers.items) (sym history_is)
      (subst (λ (counts : List ℕ). IsHistory c.state (entry_of (record { worker = w.0 }) (history_of b) what answer ∷ history_of b) counts c.takers.items) (sym appends.counts)
      (subst
      (λ (takers : List WorkerId). IsHistory c.state (entry_of (record { worker = w.0 }) (history_of b) what answer ∷ history_of b) (slice_set b.counts.items w.0 (slice_index b.counts.items w.0 + 1)) takers)
      (sym appends.takers) (extends b.state c.state (history_of b) b.counts.items b.takers.items w.0 what answer h)))

  pub longer : length (history_of c) ≡ length b.trace.entries + 1
  longer = let more = ap length history_is in let all = length-reverse b.trace.entries in let one = add-one (length (history_of b)) in omega (arith, more, all, one)

  answers_more : Answers (past_of b) (record { worker = w.0 }) what answer (past_of c)
  answers_more =
      record {
        steps = h.makes_step.steps;
        order = h.makes_step.orders;
        history = history_is ∙ sym (ap (λ (es : List Entry). es ++ history_of b) (entries-one (record { worker = w.0 }) (history_of b) what answer h.leaves));
        passes = ap length appends.counts ∙ length-set b.counts.items w.0 (slice_index b.counts.items w.0 + 1);
      }

  pub called_more : Called (past_of b) (record { worker = w.0 }) what answer (past_of c)
  called_more = called-served (past_of b) (past_of c) (record { worker = w.0 }) what answer h.known h.none h.room h.makes_step.given answers_more

  pub book_more : IsBook c
  book_more =
      let same = ap (λ (o : Opening). o.trace_limit) h.makes_step.opening in
      record {
        told = told_more;
        within = (let more = ap length appends.entries ∙ length-append b.trace.entries _ in let fits = fits_more b c.state w.0 what answer h in omega (arith, more, fits, same));
        room = (let room = is.room in let kept = appends.room in omega (arith, room, kept, same));
        few = (let few = is.few in let kept = ap length appends.counts ∙ length-set b.counts.items w.0 _ in omega (arith, few, kept));
        takers = (let sized = is.takers in let kept = ap length appends.takers ∙ noted-length c.state.flights b.takers.items w.0 (ticket_given answer) in let numbers = ap page_numbers h.makes_step.opening in omega (arith, sized, kept, numbers));
      }

-- ---- marks that are merged

-- the parts change, and nothing else
abbrev pub with_state : Inside → StateOf → Inside
with_state b s = record { alloc = b.alloc; state = s; trace = b.trace; counts = b.counts; takers = b.takers }

module _ (b : Inside) (s : StateOf) (word bits : ℕ) (merges : MergesFrames b.state s word bits) (is : IsBook b) where
  other_order : StateOf
  other_order = record b.state { order = record { held = s.order.held; cursors = b.state.order.cursors } }

  told_merged : IsHistory s (history_of b) b.counts.items b.takers.items
  told_merged =
      let told = is.told in
      subst (λ (x : StateOf). IsHistory x (history_of b) b.counts.items b.takers.items) (sym merges.others)
      (record {
        legal = told.legal;
        right = told.right;
        numbered = told.numbered;
        bytes = told.bytes;
        taken = told.taken;
        counted = told.counted;
        young = λ g. subst (λ (groups : List Gens). (gens_at groups g).max_seq ≤ 3 + 3 * length (history_of b)) (sym merges.merges.groups) (told.young g);
      })

  same_tables : s.tables ≡ b.state.tables
  same_tables = ap (λ (x : StateOf). x.tables) merges.others

  pub book-merged : IsBook (with_state b s)
  book-merged =
      record {
        told = told_merged;
        within = subst (λ (t : State). length b.trace.entries + in_transfer t.pages ≤ t.opening.trace_limit) (sym same_tables) is.within;
        room = subst (λ (t : State). t.opening.trace_limit ≤ b.trace.limit) (sym same_tables) is.room;
        few = is.few;
        takers = subst (λ (t : State). page_numbers t.opening ≤ length b.takers.items) (sym same_tables) is.takers;
      }

  -- there is room for it in each trace, as it leaves no entry
  pub called-merged : (caller : Caller) → Called (past_of b) caller (event.MergeMarks word bits) reply.Ok (past_of (with_state b s))
  called-merged caller =
      let room : is_trace_full (past_of b) (event.MergeMarks word bits) ≡ false =
      not_full b.state.tables.opening.trace_limit (length (history_of b) + in_transfer b.state.tables.pages + 0) (let within = is.within in let all = length-reverse b.trace.entries in omega (arith, within, all)) in
      rw room (record { steps = same_tables; order = (merges.merges, ap (λ (x : StateOf). x.order.cursors) merges.others); history = refl; passes = refl })

  pub past-merged : past_of (with_state b s) ≡ record (past_of b) { order = s.order }
  past-merged = ap (λ (t : State). let p : Past = record { state = t; history = history_of b; order = s.order; passes = length b.counts.items } in p) same_tables
