-- What the device holds of each page that has no frame and of each page of a file, and what each actor brings in or takes out: so that a run is honest.
use Rattle.std.proofs.Common.{◌≡◌, inl, inr, ℕ, ◌+◌, ◌<◌, ◌≤◌, ◌==◌, Bool, true, false, cond, List, [], length, Option, Some, None, eq-eqb, refl, sym, ap, ◌∙◌, subst, arith, get_or-set_other}
use Rattle.std.specs.Prelude.{Result, Ok, Err, slice_index, sum, nat_le}
use Rattle.std.proofs.Math.ListN.{length-set}
use Rattle.std.proofs.lemmas.Bool.{and_parts}
use Rattle.std.proofs.lemmas.List.{get_or-set_same}
use Rattle.std.proofs.lemmas.Bool.Decides.{nat_tests}
use Rattle.machine.specs.declared.config.Config.{Config}
use Rattle.machine.specs.declared.refusal.Refusal.TheVariants.{Stranger}
use Rattle.machine.specs.declared.command.Actor.{Actor}
use Rattle.machine.specs.declared.command.Answer.{Answer}
use Rattle.machine.specs.declared.command.Reply.{Reply as Told_by}
use Rattle.machine.specs.declared.command.Step.{Step as Line}
use Rattle.machine.specs.declared.entry.Entry.{Entry}
use Rattle.machine.specs.declared.id.TicketId.{TicketId}
use Rattle.machine.specs.declared.record.Direction.TheVariants.{In, Out}
use Rattle.machine.specs.declared.event.Place.TheVariants.{Virtual, File}
use Rattle.machine.specs.declared.event.Event.{Event as Plain_event}
use Rattle.machine.specs.declared.event.Event.TheVariants as plain
use Rattle.machine.specs.declared.reply.Reply.{Reply as Plain_reply}
use Rattle.machine.specs.Pages.{Content, Memory, OfFile, Residence, Held, Coming, Going, Away, Page, page_at, is_held_at, in_transfer_at, block_at, ticket_at, is_ticket_taken, is_anon, home_block, IsAtHome, IsFiledAs}
use Rattle.machine.specs.Tasks.{mapped_at}
use Rattle.machine.specs.State.{Opening, opening_of, blocks_of, is_config}
use Rattle.machine.specs.Access.{page_size}
use Rattle.machine.specs.History.{InTask, InFile, Says, follow, at_first, last, Fetched, fetched_by, fetch_of, HoldsLast, IsHonest, Honest, ticket_given}
use Rattle.machine.specs.Call.{Past, Caller, Called}
use Rattle.machine.proofs.Values.{some_inj, never_some, unlike}
use Rattle.block_store.specs.declared.device.Fault.{Fault}
use Rattle.block_store.specs.Device.{Disk, bytes_on, KeepsOthers, ReadsBlock, WritesBlock}
use Rattle.pages.specs.Tickets.{TicketOf}
use Rattle.book_events.specs.declared.event.Event.{Event}
use Rattle.book_events.specs.declared.event.Event.TheVariants as event
use Rattle.book_events.specs.declared.event.Reply.{Reply}
use Rattle.book_events.specs.Events.{event_of, reply_of}
use Rattle.book_events.specs.Replies.{HandsOut, GivesOut}
use Rattle.turns.specs.declared.turn.Access.{Access}
use Rattle.turns.specs.declared.turn.Resume.{Resume}
use Rattle.turns.specs.declared.turn.Pending.{Pending}
use Rattle.turns.specs.declared.turn.Stage.{Stage}
use Rattle.turns.specs.declared.turn.Want.{Want}
use Rattle.turns.specs.declared.turn.Want.TheVariants as want
use Rattle.turns.specs.declared.turn.Transition.{Transition}
use Rattle.turns.specs.declared.turn.Transition.TheVariants.{Ends}
use Rattle.driver.specs.declared.seat.Outcome.{Outcome}
use Rattle.driver.specs.declared.seat.Seat.{Seat}
use Rattle.driver.specs.declared.seat.Activity.{Activity}
use Rattle.driver.specs.declared.seat.Activity.TheVariants.{Rests, Begun, Does}
use Rattle.turns.specs.Turns.{ReadsIn, WritesOut, after_read, after_write, Told}
use Rattle.turns.specs.Tickets.{blocks_in}
use Rattle.driver.specs.Schedule.{World, first_world, activity_of, with_activity, left_of, WantTurn, wants_at, StageTurn, Runs, files_on, fits}
use Rattle.machine.proofs.FileLemmas.{file_page-is, home_above, homes_differ}
use Rattle.legal.proofs.FileSteps.{slot_in, slot_of, slot_of-is, is_home_at, is_home, is_written, LeftHome, home-unwritten, transfer-unwritten}
use Rattle.legal.proofs.ShownLemmas.{shows_pages-legal}
use Rattle.legal.proofs.Effects.{ComesFrom, Fetches, ReadsIn as ReadsHome, EndsOnBlock, Stood, InFrame, ItStays, ItFetches, ItReads, ItLeaves, OnBlock, Effect}
use Rattle.legal.proofs.SharedLemmas.{fetch_other}
use Rattle.legal.proofs.SoundLemmas.{IsFit, legal-sound, pages_share_no_block, pages_share_no_ticket, block_below, legal-fit, legal-single}
use Rattle.driver.proofs.Keeps.{number_pending, number_wanted, in_hand, Alike, Same, Ticketless, wants_alike, number_at, is_idle, idle_none, FineOutcome, OfCommand, of_command-leaves, FineWant, wants_fine, IsAt, runs_keep}
use Rattle.driver.proofs.CallCases.{IsRefused, IsServed, Comes, ByRefusal, ByEntry, called_comes, Next, Handless, Reads, Writes, told_next}
use Rattle.driver.proofs.Tickets.{IsGoing, KeepsPending, KeepsWanted, KeepsAt, at_flies, flies_taken, pending_known, not_out, still_known, LegalPast, served_effect, served_legal, Tickets, seats_all, tickets_rest, tickets_turn, tickets_first, own_keeps, others_differ}
use Rattle.machine.specs.Lists.{Order}
use Rattle.driver.proofs.MarkLemmas.{marks-stay, stays-as}

-- ---- words

-- what files have at first, by file, page and offset
abbrev pub FirstBytes : Type 0
FirstBytes = ℕ → ℕ → ℕ → ℕ

-- these are the bytes of the page that is written out under this number: at each place that shows it, and of the page of a file that it holds
pub record PageHolds (files : FirstBytes) (past : Past) (number : ℕ) (bytes : List ℕ) : Type 0 where
  pub places : (p frame b t v o : ℕ) (page : Page) → page_at past.state.pages p ≡ Some page → page.residence ≡ Going frame b number → mapped_at past.state.page_tables t v ≡ Some p → o < page_size
      → slice_index bytes o ≡ last (at_first files) past.history (InTask t v o)
  pub of_file : (p frame b f q o : ℕ) (page : Page) → page_at past.state.pages p ≡ Some page → page.residence ≡ Going frame b number → page.content ≡ OfFile f q → o < page_size
      → slice_index bytes o ≡ last (at_first files) past.history (InFile f q o)

-- what an ending brings: the bytes of its block; or that its block holds the page
abbrev pub BringsPending : FirstBytes → Past → List (List ℕ) → Event → Type 0
BringsPending files past contents (event.Arrived ticket) = ticket.bytes ≡ bytes_on contents ticket.block
BringsPending files past contents (event.Left ticket) = PageHolds files past ticket.number (bytes_on contents ticket.block)
BringsPending files past contents what = Unit {0}

abbrev pub BringsWanted : FirstBytes → Past → List (List ℕ) → Want → Type 0
BringsWanted files past contents (want.Call remembers what) = BringsPending files past contents what
BringsWanted files past contents (want.Read access ticket) = Unit {0}
BringsWanted files past contents (want.Write on ticket) = PageHolds files past ticket.number ticket.bytes
BringsWanted files past contents (want.End said) = Unit {0}

abbrev pub BringsAt : FirstBytes → Past → List (List ℕ) → Activity → Type 0
BringsAt files past contents Rests = Unit {0}
BringsAt files past contents (Begun what) = Unit {0}
BringsAt files past contents (Does stage) = BringsWanted files past contents (in_hand stage)

-- the block that holds a page's bytes
abbrev pub stored_at : Residence → Option ℕ
stored_at (Coming frame block ticket) = Some block
stored_at (Away block) = Some block
stored_at residence = None

-- it holds what was last written at each place that shows the page
abbrev pub IsStored : FirstBytes → Past → List (List ℕ) → Type 0
IsStored files past contents =
    (t v p b o : ℕ) (page : Page) → mapped_at past.state.page_tables t v ≡ Some p → page_at past.state.pages p ≡ Some page → stored_at page.residence ≡ Some b → o < page_size
    → slice_index (bytes_on contents b) o ≡ last (at_first files) past.history (InTask t v o)

-- the home block of a page of a file holds what was last written there, or what the file had at first: but where the page was written to since it was read in, or is being written out
abbrev pub IsStoredInFiles : FirstBytes → Opening → Past → List (List ℕ) → Type 0
IsStoredInFiles files opening past contents =
    (f q o : ℕ) → q < slice_index opening.files f → is_home (slot_of past.state f q) ≡ true → o < page_size
    → slice_index (bytes_on contents (home_block opening.swap opening.files f q)) o ≡ last (at_first files) past.history (InFile f q o)

-- the block of a page that is being read in holds what was last written when that began
abbrev pub IsFetched : FirstBytes → Past → List (List ℕ) → Type 0
IsFetched files past contents =
    (p f b n : ℕ) (page : Page) → page_at past.state.pages p ≡ Some page → page.residence ≡ Coming f b n → HoldsLast (at_first files) (bytes_on contents b) (fetch_of n past.history)

-- what is known of a past and of a device
pub record Holds (files : FirstBytes) (opening : Opening) (past : Past) (contents : List (List ℕ)) : Type 0 where
  pub legal : LegalPast opening past
  pub honest : Honest (at_first files) past.history
  pub room : blocks_in opening ≤ length contents
  pub stored : IsStored files past contents
  pub in_files : IsStoredInFiles files opening past contents
  pub fetched : IsFetched files past contents

-- what one turn leaves of that
pub record TurnsFaithful (files : FirstBytes) (caller : Caller) (opening : Opening) (old : Past) (contents : List (List ℕ)) (want : Want) (transition : Transition) (new : Past) (contents' : List (List ℕ)) : Type 0 where
  pub holds : Holds files opening new contents'
  pub own : BringsAt files new contents' (left_of transition)
  pub others : (at : Activity) → ((n : ℕ) → number_at at ≡ Some n → number_wanted want ≡ Some n → ⊥) → KeepsAt caller old at → BringsAt files old contents at → BringsAt files new contents' at

-- ---- small facts

stored_frameless : (r : Residence) (b : ℕ) → stored_at r ≡ Some b → is_held_at r ≡ false
stored_frameless (Held f) b e = cc
stored_frameless (Coming f b' n) b e = refl
stored_frameless (Going f b' n) b e = refl
stored_frameless (Away b') b e = refl

stored_block : (r : Residence) (b : ℕ) → stored_at r ≡ Some b → block_at r ≡ Some b
stored_block (Held f) b e = cc
stored_block (Coming f b' n) b e = e
stored_block (Going f b' n) b e = cc
stored_block (Away b') b e = e

-- a page of a number is one
one_page : (past : Past) (p q : ℕ) (page other : Page) → p ≡ q → page_at past.state.pages p ≡ Some page → page_at past.state.pages q ≡ Some other → page ≡ other
one_page past p q page other same there there' = some_inj (sym there ∙ ap (page_at past.state.pages) same ∙ there')

-- a residence that is two is none
coming_going : {P : Type 0} (r : Residence) (f b n f' b' n' : ℕ) → r ≡ Coming f b n → r ≡ Going f' b' n' → P
coming_going r f b n f' b' n' e e' = cc

coming_held : {P : Type 0} (r : Residence) (f b n f' : ℕ) → r ≡ Coming f b n → r ≡ Held f' → P
coming_held r f b n f' e e' = cc

coming_away : {P : Type 0} (r : Residence) (f b n b' : ℕ) → r ≡ Coming f b n → r ≡ Away b' → P
coming_away r f b n b' e e' = cc

going_held : {P : Type 0} (r : Residence) (f b n f' : ℕ) → r ≡ Going f b n → r ≡ Held f' → P
going_held r f b n f' e e' = cc

going_away : {P : Type 0} (r : Residence) (f b n b' : ℕ) → r ≡ Going f b n → r ≡ Away b' → P
going_away r f b n b' e e' = cc

-- an event without a ticket brings nothing
pending_none : (files : FirstBytes) (past : Past) (contents : List (List ℕ)) (what : Event) → number_pending what ≡ None → BringsPending files past contents what
pending_none files past contents (event.Arrived ticket) e = cc
pending_none files past contents (event.Left ticket) e = cc
pending_none files past contents what e = tt

wanted_none : (files : FirstBytes) (past : Past) (contents : List (List ℕ)) (want : Want) → number_wanted want ≡ None → BringsWanted files past contents want
wanted_none files past contents (want.Call remembers what) e = pending_none files past contents what e
wanted_none files past contents (want.Read access ticket) e = tt
wanted_none files past contents (want.Write on ticket) e = cc
wanted_none files past contents (want.End said) e = tt

wanted_alike : (files : FirstBytes) (past : Past) (contents : List (List ℕ)) (w other : Want) → Alike w other → BringsWanted files past contents other → BringsWanted files past contents w
wanted_alike files past contents w other (Same e) h = subst (BringsWanted files past contents) (sym e) h
wanted_alike files past contents w other (Ticketless e f) h = wanted_none files past contents w e

pub brings_none : (files : FirstBytes) (past : Past) (contents : List (List ℕ)) (at : Activity) → number_at at ≡ None → BringsAt files past contents at
brings_none files past contents Rests e = tt
brings_none files past contents (Begun what) e = tt
brings_none files past contents (Does stage) e = wanted_none files past contents (in_hand stage) e

-- a book's event that is an end of a write-out
left_event : (what : Event) (ticket : TicketId) → event_of what ≡ plain.Left ticket → (own : TicketOf) × (what ≡ event.Left own) × (own.number ≡ ticket.0)
left_event (event.Left own) ticket e = (own, refl, number e)
  where
    number : plain.Left (record { 0 = own.number }) ≡ plain.Left ticket → own.number ≡ ticket.0
    number f = ap (λ (t : TicketId). t.0) (let same : record { 0 = own.number } ≡ ticket = cc in same)
left_event what ticket e = cc

-- ---- an entry more

module _ (files : FirstBytes) (caller : Caller) (opening : Opening) (old new : Past) (contents : List (List ℕ)) (what : Event) (answered : Reply)
    (h : Holds files opening old contents) (keeps : KeepsPending caller old what) (brings : BringsPending files old contents what) (went : IsServed old caller (event_of what) (reply_of answered) new) where
  effect : Effect old.state (event_of what) (reply_of answered) new.state
  effect = served_effect caller opening old new h.legal (event_of what) (reply_of answered) went

  legal_on : LegalPast opening new
  legal_on = served_legal caller opening old new h.legal what answered keeps went

  fetch_on : (n : ℕ) → (ticket_given (reply_of answered) ≡ Some n → ⊥) → fetch_of n new.history ≡ fetch_of n old.history
  fetch_on n other = ap (fetch_of n) went.history ∙ fetch_other n (event_of what) (reply_of answered) old.history (fetch_of n old.history) other

  -- the opening is the run's
  opening_is : old.state.opening ≡ opening
  opening_is = (legal-sound opening old.history old.state h.legal).0

  -- a ticket in flight is not given out
  not_given : (p n : ℕ) (page : Page) → page_at old.state.pages p ≡ Some page → ticket_at page.residence ≡ Some n → ticket_given (reply_of answered) ≡ Some n → ⊥
  not_given p n page there ticket given = unlike (is_ticket_taken old.state.pages n) (flies_taken old n (record { p = p; page = page; there = there; ticket = ticket })) (effect.fresh n given)

  -- a place of a page that stands in no frame alone comes from one that showed it before
  abbrev Came : ℕ → ℕ → ℕ → Type 0
  Came t v p = ComesFrom old.state (event_of what) (reply_of answered) t v p

  -- and has the bytes that were last written there
  came_last : (t v p : ℕ) (from : Came t v p) (o : ℕ) → last (at_first files) new.history (InTask t v o) ≡ last (at_first files) old.history (InTask from.task v o)
  came_last t v p from o = ap (λ (es : List Entry). last (at_first files) es (InTask t v o)) went.history ∙ from.follows (last (at_first files) old.history) o

  -- a page of a file that was not just written to has the bytes that it had
  file_last : (f q o : ℕ) → is_written (slot_of new.state f q) ≡ false → last (at_first files) new.history (InFile f q o) ≡ last (at_first files) old.history (InFile f q o)
  file_last f q o unwritten =
      ap (λ (es : List Entry). last (at_first files) es (InFile f q o)) went.history ∙ ap (λ (said : Says). follow said (last (at_first files) old.history) (InFile f q o)) (effect.files.silent f q o unwritten)

  -- so it is with one in transfer
  moving_last : (p f q o : ℕ) (page : Page) → page_at new.state.pages p ≡ Some page → page.content ≡ OfFile f q → in_transfer_at page.residence ≡ true
      → last (at_first files) new.history (InFile f q o) ≡ last (at_first files) old.history (InFile f q o)
  moving_last p f q o page there holds moving =
      file_last f q o (ap is_written (slot_of-is new.state (legal-single opening new.history new.state legal_on) f q p page there holds) ∙ transfer-unwritten page moving)

  -- the page of an ending in hand is the one of that number
  going_block : (ticket : TicketOf) (p f b : ℕ) (before : Page) → IsGoing caller old ticket → page_at old.state.pages p ≡ Some before → before.residence ≡ Going f b ticket.number → b ≡ ticket.block
  going_block ticket p f b before own there going =
      let same : p ≡ own.p = pages_share_no_ticket opening old.history old.state h.legal p own.p ticket.number before own.page there own.there (ap ticket_at going) (ap ticket_at own.going) in
      let is : before ≡ own.page = one_page old p own.p before own.page same there own.there in
      some_inj (sym (ap block_at going) ∙ ap (λ (x : Page). block_at x.residence) is ∙ ap block_at own.going)

  stored_on : IsStored files new contents
  stored_on t v p b o page mapped there stands within = by_stood (effect.pages.stood p page there)
    where
      from : Came t v p
      from = effect.places.place t v p page mapped there (stored_frameless page.residence b stands)

      before_stored : (before : Page) → page_at old.state.pages p ≡ Some before → stored_at before.residence ≡ Some b → slice_index (bytes_on contents b) o ≡ last (at_first files) new.history (InTask t v o)
      before_stored before at block = h.stored from.task v p b o before from.mapped at block within ∙ sym (came_last t v p from o)

      by_left : (k : EndsOnBlock Out old.state (event_of what) p page.residence) → (own : TicketOf) → what ≡ event.Left own → own.number ≡ k.ticket.0 → k.block ≡ b → slice_index (bytes_on contents b) o ≡ last (at_first files) new.history (InTask t v o)
      by_left k own is number block =
          let hold : PageHolds files old own.number (bytes_on contents own.block) = subst (λ (e : Event). BringsPending files old contents e) is brings in
          let kept : IsGoing caller old own = subst (λ (e : Event). KeepsPending caller old e) is keeps in
          let going : k.before.residence ≡ Going k.frame k.block own.number = k.flew ∙ ap (λ n. Going k.frame k.block n) (sym number) in
          let same : own.block ≡ b = sym (going_block own p k.frame k.block k.before kept k.there going) ∙ block in
          ap (λ x. slice_index (bytes_on contents x) o) (sym same) ∙ hold.places p k.frame k.block from.task v o k.before k.there going from.mapped within ∙ sym (came_last t v p from o)

      by_stood : Stood old.state (event_of what) (reply_of answered) p page → slice_index (bytes_on contents b) o ≡ last (at_first files) new.history (InTask t v o)
      by_stood (InFrame f e) = never_some (stored_at page.residence) (ap stored_at e) stands
      by_stood (ItStays k) = before_stored k.before k.there (sym (ap stored_at k.same) ∙ stands)
      by_stood (ItFetches k) = before_stored k.before k.there (ap stored_at k.away ∙ sym (ap stored_at k.coming) ∙ stands)
      by_stood (ItReads k) = unlike (is_anon page.content) ((shows_pages-legal opening new.history new.state legal_on).memory t v p page mapped there) (ap is_anon k.holds)
      by_stood (ItLeaves k) = never_some (stored_at page.residence) (ap stored_at k.going) stands
      by_stood (OnBlock In k) = before_stored k.before k.there (ap stored_at k.flew ∙ sym (ap stored_at k.away) ∙ stands)
      by_stood (OnBlock Out k) = let left = left_event what k.ticket k.is in by_left k left.0 left.1 left.2 (some_inj (sym (ap stored_at k.away) ∙ stands))

  in_files_on : IsStoredInFiles files opening new contents
  in_files_on f q o has home within =
      elim (effect.files.home f q home) [
        | inl before ↦ h.in_files f q o has before within ∙ sym unwritten
        | inr left ↦ let is = left_event what left.ticket left.is in by_left left is.0 is.1 is.2
      ]
    where
      unwritten : last (at_first files) new.history (InFile f q o) ≡ last (at_first files) old.history (InFile f q o)
      unwritten = file_last f q o (home-unwritten (slot_of new.state f q) home)

      by_left : (k : LeftHome old.state (event_of what) f q) → (own : TicketOf) → what ≡ event.Left own → own.number ≡ k.ticket.0
          → slice_index (bytes_on contents (home_block opening.swap opening.files f q)) o ≡ last (at_first files) new.history (InFile f q o)
      by_left k own is number =
          let hold : PageHolds files old own.number (bytes_on contents own.block) = subst (λ (e : Event). BringsPending files old contents e) is brings in
          let kept : IsGoing caller old own = subst (λ (e : Event). KeepsPending caller old e) is keeps in
          let going : k.page.residence ≡ Going k.frame k.block own.number = k.going ∙ ap (λ n. Going k.frame k.block n) (sym number) in
          let home : own.block ≡ home_block opening.swap opening.files f q = sym (going_block own k.p k.frame k.block k.page kept k.there going) ∙ k.home ∙ ap (λ (x : Opening). home_block x.swap x.files f q) opening_is in
          ap (λ x. slice_index (bytes_on contents x) o) (sym home) ∙ hold.of_file k.p k.frame k.block f q o k.page k.there going k.holds within ∙ sym unwritten

  fetched_on : IsFetched files new contents
  fetched_on p f b n page there coming = by_stood (effect.pages.stood p page there)
    where
      by_fetch : (k : Fetches old.state (event_of what) (reply_of answered) p page.residence) → HoldsLast (at_first files) (bytes_on contents b) (fetch_of n new.history)
      by_fetch k =
          let both : Coming k.frame k.block k.ticket.0 ≡ Coming f b n = sym k.coming ∙ coming in
          let block : k.block ≡ b = some_inj (ap block_at both) in
          let number : k.ticket.0 ≡ n = some_inj (ap ticket_at both) in
          let began : fetch_of n new.history ≡ Some (record { spot = InTask k.task.0 k.v k.offset; earlier = old.history }) =
          ap (fetch_of n) went.history
          ∙ ap (λ (e : Plain_event). fetched_by n e (reply_of answered) old.history (fetch_of n old.history)) k.is
          ∙ ap (λ (r : Plain_reply). fetched_by n (plain.Access k.task (Virtual k.v k.offset) k.op) r old.history (fetch_of n old.history)) k.answers
          ∙ ap (λ (x : Bool). cond x (Some (record { spot = InTask k.task.0 k.v k.offset; earlier = old.history })) (fetch_of n old.history)) (ap (λ (m : ℕ). m == n) number ∙ eq-eqb n n refl) in
          subst (λ (x : Option Fetched). HoldsLast (at_first files) (bytes_on contents b) x) (sym began)
          (λ o within. h.stored k.task.0 k.v p b o k.before k.mapped k.there (ap stored_at k.away ∙ ap (λ (x : ℕ). Some x) block) within)

      by_home : (k : ReadsHome old.state (event_of what) (reply_of answered) page) → HoldsLast (at_first files) (bytes_on contents b) (fetch_of n new.history)
      by_home k =
          let both : Coming k.frame (home_block old.state.opening.swap old.state.opening.files k.file k.q) k.ticket.0 ≡ Coming f b n = sym k.coming ∙ coming in
          let block : home_block opening.swap opening.files k.file k.q ≡ b = ap (λ (x : Opening). home_block x.swap x.files k.file k.q) (sym opening_is) ∙ some_inj (ap block_at both) in
          let number : k.ticket.0 ≡ n = some_inj (ap ticket_at both) in
          let began : fetch_of n new.history ≡ Some (record { spot = InFile k.file k.q k.offset; earlier = old.history }) =
          ap (fetch_of n) went.history
          ∙ ap (λ (e : Plain_event). fetched_by n e (reply_of answered) old.history (fetch_of n old.history)) k.is
          ∙ ap (λ (r : Plain_reply). fetched_by n (plain.Access k.task (File k.file k.q k.offset) k.op) r old.history (fetch_of n old.history)) k.answers
          ∙ ap (λ (x : Bool). cond x (Some (record { spot = InFile k.file k.q k.offset; earlier = old.history })) (fetch_of n old.history)) (ap (λ (m : ℕ). m == n) number ∙ eq-eqb n n refl) in
          let filed : IsFiledAs opening.swap opening.files page (OfFile k.file k.q) = subst (λ (x : Content). IsFiledAs opening.swap opening.files page x) k.holds (legal-fit opening new.history new.state legal_on p page there).filed in
          subst (λ (x : Option Fetched). HoldsLast (at_first files) (bytes_on contents b) x) (sym began)
          (λ o within. ap (λ x. slice_index (bytes_on contents x) o) (sym block) ∙ h.in_files k.file k.q o filed.0 (ap (λ (x : Option ℕ). is_home (slot_in old.state.pages x)) k.none) within)

      by_stood : Stood old.state (event_of what) (reply_of answered) p page → HoldsLast (at_first files) (bytes_on contents b) (fetch_of n new.history)
      by_stood (InFrame f' e) = coming_held page.residence f b n f' coming e
      by_stood (ItStays k) =
          let before : k.before.residence ≡ Coming f b n = sym k.same ∙ coming in
          subst (λ (x : Option Fetched). HoldsLast (at_first files) (bytes_on contents b) x) (sym (fetch_on n (not_given p n k.before k.there (ap ticket_at before)))) (h.fetched p f b n k.before k.there before)
      by_stood (ItFetches k) = by_fetch k
      by_stood (ItReads k) = by_home k
      by_stood (ItLeaves k) = coming_going page.residence f b n k.frame k.block k.ticket.0 coming k.going
      by_stood (OnBlock direction k) = coming_away page.residence f b n k.block coming k.away

  honest_event : (e : Event) → KeepsPending caller old e → BringsPending files old contents e → IsHonest (at_first files) old.history (event_of e)
  honest_event (event.Arrived ticket) kept brought =
      subst (λ (bytes : List ℕ). HoldsLast (at_first files) bytes (fetch_of ticket.number old.history)) (sym brought) (h.fetched kept.p kept.frame ticket.block ticket.number kept.page kept.there kept.coming)
  honest_event e kept brought = tt

  honest_on : Honest (at_first files) new.history
  honest_on = rw went.history (h.honest, honest_event what keeps brings)

  -- a page was being written out before, and held what it holds
  abbrev WasGoing : ℕ → ℕ → ℕ → ℕ → Page → Type 0
  WasGoing p frame b number page = (before : Page) × (page_at old.state.pages p ≡ Some before) × (before.residence ≡ Going frame b number) × (page.content ≡ before.content)

  -- a ticket in another's hand, or one that is taken up now
  hold_on : (number : ℕ) (bytes : List ℕ) → (ticket_given (reply_of answered) ≡ Some number → ⊥) → PageHolds files old number bytes → PageHolds files new number bytes
  hold_on number bytes other hold = record { places = places; of_file = of_file }
    where
      was_so : (p frame b : ℕ) (page : Page) → page_at new.state.pages p ≡ Some page → page.residence ≡ Going frame b number → WasGoing p frame b number page
      was_so p frame b page there going = by_stood (effect.pages.stood p page there)
        where
          by_stood : Stood old.state (event_of what) (reply_of answered) p page → WasGoing p frame b number page
          by_stood (InFrame f' e) = going_held page.residence frame b number f' going e
          by_stood (ItStays k) = (k.before, k.there, sym k.same ∙ going, k.content)
          by_stood (ItFetches k) = coming_going page.residence k.frame k.block k.ticket.0 frame b number k.coming going
          by_stood (ItReads k) = coming_going page.residence k.frame (home_block old.state.opening.swap old.state.opening.files k.file k.q) k.ticket.0 frame b number k.coming going
          by_stood (ItLeaves k) =
              let number_is : k.ticket.0 ≡ number = some_inj (ap ticket_at (sym k.going ∙ going)) in
              absurd (other (ap ticket_given k.answers ∙ ap (λ (x : ℕ). Some x) number_is))
          by_stood (OnBlock direction k) = going_away page.residence frame b number k.block going k.away

      places : (p frame b t v o : ℕ) (page : Page) → page_at new.state.pages p ≡ Some page → page.residence ≡ Going frame b number → mapped_at new.state.page_tables t v ≡ Some p → o < page_size
          → slice_index bytes o ≡ last (at_first files) new.history (InTask t v o)
      places p frame b t v o page there going mapped within =
          let from : Came t v p = effect.places.place t v p page mapped there (ap is_held_at going) in
          let was = was_so p frame b page there going in
          hold.places p frame b from.task v o was.0 was.1 was.2 from.mapped within ∙ sym (came_last t v p from o)

      of_file : (p frame b f q o : ℕ) (page : Page) → page_at new.state.pages p ≡ Some page → page.residence ≡ Going frame b number → page.content ≡ OfFile f q → o < page_size
          → slice_index bytes o ≡ last (at_first files) new.history (InFile f q o)
      of_file p frame b f q o page there going holds within =
          let was = was_so p frame b page there going in
          hold.of_file p frame b f q o was.0 was.1 was.2 (sym was.3 ∙ holds) within ∙ sym (moving_last p f q o page there holds (ap in_transfer_at going))

  pending_on : (e : Event) → ((n : ℕ) → number_pending e ≡ Some n → ticket_given (reply_of answered) ≡ Some n → ⊥) → BringsPending files old contents e → BringsPending files new contents e
  pending_on (event.Arrived ticket) other brought = brought
  pending_on (event.Left ticket) other brought = hold_on ticket.number (bytes_on contents ticket.block) (other ticket.number refl) brought
  pending_on e other brought = tt

  wanted_on : (w : Want) → ((n : ℕ) → number_wanted w ≡ Some n → ticket_given (reply_of answered) ≡ Some n → ⊥) → BringsWanted files old contents w → BringsWanted files new contents w
  wanted_on (want.Call remembers e) other brought = pending_on e other brought
  wanted_on (want.Read access ticket) other brought = tt
  wanted_on (want.Write on ticket) other brought = hold_on ticket.number ticket.bytes (other ticket.number refl) brought
  wanted_on (want.End said) other brought = tt

  at_on : (at : Activity) → ((n : ℕ) → number_at at ≡ Some n → ticket_given (reply_of answered) ≡ Some n → ⊥) → BringsAt files old contents at → BringsAt files new contents at
  at_on Rests other brought = tt
  at_on (Begun e) other brought = tt
  at_on (Does stage) other brought = wanted_on (in_hand stage) other brought

  flies_ungiven : (at : Activity) → KeepsAt caller old at → (n : ℕ) → number_at at ≡ Some n → ticket_given (reply_of answered) ≡ Some n → ⊥
  flies_ungiven at kept n number given = let flies = at_flies caller old at n kept number in not_given flies.p n flies.page flies.there flies.ticket given

  holds_on : Holds files opening new contents
  holds_on = record { legal = legal_on; honest = honest_on; room = h.room; stored = stored_on; in_files = in_files_on; fetched = fetched_on }

  -- the bytes of a page that begins to be written out
  sends : (ticket : TicketOf) → GivesOut new caller.worker ticket → PageHolds files new ticket.number ticket.bytes
  sends ticket given =
      record {
        places = λ p frame b t v o page there going mapped within.
            given.bytes files honest_on (InTask t v o) within (effect.places.live t v p mapped) (mapped ∙ ap (λ (x : ℕ). Some x) (given_is p frame b page there going));
        of_file = λ p frame b f q o page there going holds within.
            given.bytes files honest_on (InFile f q o) within tt
            (file_page-is new.state.pages (legal-single opening new.history new.state legal_on) f q p page there holds ∙ ap (λ (x : ℕ). Some x) (given_is p frame b page there going));
      }
    where
      given_is : (p frame b : ℕ) (page : Page) → page_at new.state.pages p ≡ Some page → page.residence ≡ Going frame b ticket.number → p ≡ given.p
      given_is p frame b page there going =
          pages_share_no_ticket opening new.history new.state legal_on p given.p ticket.number page given.page there given.there (ap ticket_at going) (ap ticket_at given.going)

  own_on : (transition : Transition) → HandsOut new caller.worker answered → Next answered transition → BringsAt files new contents (left_of transition)
  own_on transition gives (Handless quiet none fine) = brings_none files new contents (left_of transition) none
  own_on transition gives (Reads access ticket is goes) = subst (λ (t : Transition). BringsAt files new contents (left_of t)) (sym goes) tt
  own_on transition gives (Writes on ticket is goes) =
      subst (λ (t : Transition). BringsAt files new contents (left_of t)) (sym goes) (sends ticket (subst (λ (r : Reply). HandsOut new caller.worker r) is gives))

  pub faithful_on : (w : Want) (transition : Transition) → HandsOut new caller.worker answered → Next answered transition → TurnsFaithful files caller opening old contents w transition new contents
  faithful_on w transition gives next =
      record { holds = holds_on; own = own_on transition gives next; others = λ at differ kept brought. at_on at (flies_ungiven at kept) brought }

-- ---- a call of the device

-- a write to the block of a page that is written out
module _ (files : FirstBytes) (caller : Caller) (opening : Opening) (past : Past) (contents contents' : List (List ℕ)) (h : Holds files opening past contents) (ticket : TicketOf) (going : IsGoing caller past ticket) (kept : KeepsOthers contents contents' ticket.block) where
  -- changes no other page's
  held_other : (p b : ℕ) (page : Page) → page_at past.state.pages p ≡ Some page → block_at page.residence ≡ Some b → (page ≡ going.page → ⊥) → bytes_on contents' b ≡ bytes_on contents b
  held_other p b page there block differs =
      kept.others b
      (λ same.
      let block' : block_at going.page.residence ≡ Some b = ap block_at going.going ∙ ap (λ (x : ℕ). Some x) (sym same) in
      let one : p ≡ going.p = pages_share_no_block opening past.history past.state h.legal p going.p b page going.page there going.there block block' in
      differs (one_page past p going.p page going.page one there going.there))

  stored_written : IsStored files past contents'
  stored_written t v p b o page mapped there stands within =
      ap (λ bytes. slice_index bytes o)
      (held_other p b page there (stored_block page.residence b stands)
      (λ is. never_some (stored_at page.residence) (ap (λ (x : Page). stored_at x.residence) is ∙ ap stored_at going.going) stands))
      ∙ h.stored t v p b o page mapped there stands within

  -- nor the home block of a page of a file that holds its bytes
  home_other : (f q : ℕ) → q < slice_index opening.files f → is_home (slot_of past.state f q) ≡ true
      → bytes_on contents' (home_block opening.swap opening.files f q) ≡ bytes_on contents (home_block opening.swap opening.files f q)
  home_other f q has home = kept.others (home_block opening.swap opening.files f q) (λ same. by_content same going.page.content refl fit.filed)
    where
      fit : IsFit opening.swap opening.files past.state.tree going.page
      fit = legal-fit opening past.history past.state h.legal going.p going.page going.there

      by_content : home_block opening.swap opening.files f q ≡ ticket.block → (content : Content) → going.page.content ≡ content → IsFiledAs opening.swap opening.files going.page content → ⊥
      by_content same Memory is filed =
          let above = home_above opening.swap opening.files f q in
          let below : ticket.block < opening.swap = fit.within ticket.block (ap is_anon is) (ap block_at going.going) in
          absurd (omega (arith, above, below, same))
      by_content same (OfFile f' q') is filed =
          let stands = subst (IsAtHome (home_block opening.swap opening.files f' q') going.page.dirty) going.going filed.1 in
          let one = homes_differ opening.swap opening.files f q f' q' has filed.0 (same ∙ stands.0) in
          let holds : going.page.content ≡ OfFile f q = is ∙ ap (λ (x : ℕ). OfFile x q') (sym one.0) ∙ ap (λ (x : ℕ). OfFile f x) (sym one.1) in
          unlike (is_home (slot_of past.state f q)) home
          (ap is_home (slot_of-is past.state (legal-single opening past.history past.state h.legal) f q going.p going.page going.there holds) ∙ ap (is_home_at going.page.dirty) going.going)

  in_files_written : IsStoredInFiles files opening past contents'
  in_files_written f q o has home within = ap (λ bytes. slice_index bytes o) (home_other f q has home) ∙ h.in_files f q o has home within

  fetched_written : IsFetched files past contents'
  fetched_written p f b n page there coming =
      subst (λ (bytes : List ℕ). HoldsLast (at_first files) bytes (fetch_of n past.history))
      (sym (held_other p b page there (ap block_at coming) (λ is. coming_going page.residence f b n going.frame ticket.block ticket.number coming (ap (λ (x : Page). x.residence) is ∙ going.going))))
      (h.fetched p f b n page there coming)

  holds_written : Holds files opening past contents'
  holds_written = record { legal = h.legal; honest = h.honest; room = (let room = h.room in let blocks = kept.blocks in omega (arith, room, blocks)); stored = stored_written; in_files = in_files_written; fetched = fetched_written }

  pending_written : (e : Event) → ((n : ℕ) → number_pending e ≡ Some n → Some ticket.number ≡ Some n → ⊥) → KeepsPending caller past e → BringsPending files past contents e → BringsPending files past contents' e
  pending_written (event.Arrived own) differ coming brought =
      brought
      ∙ sym (held_other coming.p own.block coming.page coming.there (ap block_at coming.coming)
      (λ is. coming_going coming.page.residence coming.frame own.block own.number going.frame ticket.block ticket.number coming.coming (ap (λ (x : Page). x.residence) is ∙ going.going)))
  pending_written (event.Left own) differ leaving brought =
      subst (PageHolds files past own.number)
      (sym (held_other leaving.p own.block leaving.page leaving.there (ap block_at leaving.going)
      (λ is. differ own.number refl (sym (ap ticket_at going.going) ∙ sym (ap (λ (x : Page). ticket_at x.residence) is) ∙ ap ticket_at leaving.going))))
      brought
  pending_written e differ kept' brought = tt

  wanted_written : (w : Want) → ((n : ℕ) → number_wanted w ≡ Some n → Some ticket.number ≡ Some n → ⊥) → KeepsWanted caller past w → BringsWanted files past contents w → BringsWanted files past contents' w
  wanted_written (want.Call remembers e) differ kept' brought = pending_written e differ kept' brought
  wanted_written (want.Read access own) differ kept' brought = tt
  wanted_written (want.Write on own) differ kept' brought = brought
  wanted_written (want.End said) differ kept' brought = tt

  at_written : (at : Activity) → ((n : ℕ) → number_at at ≡ Some n → Some ticket.number ≡ Some n → ⊥) → KeepsAt caller past at → BringsAt files past contents at → BringsAt files past contents' at
  at_written Rests differ kept' brought = tt
  at_written (Begun e) differ kept' brought = tt
  at_written (Does stage) differ kept' brought = wanted_written (in_hand stage) differ kept' brought

keeps_others : (disk disk' : Disk) (block : ℕ) (bytes : List ℕ) (answered : Result (Unit {0}) Fault) → WritesBlock disk block bytes answered disk' → KeepsOthers disk.contents disk'.contents block
keeps_others disk disk' block bytes (Ok done) writes =
    subst (λ (d : Disk). KeepsOthers disk.contents d.contents block) (sym writes.sets)
    (record { blocks = length-set disk.contents block bytes; others = λ k differs. get_or-set_other disk.contents block k bytes [] differs })
keeps_others disk disk' block bytes (Err fault) writes = writes.keeps

module _ (files : FirstBytes) (caller : Caller) (opening : Opening) (past : Past) (disk disk' : Disk) (h : Holds files opening past disk.contents) where
  writes_faithful : (on : Resume) (ticket : TicketOf) (transition : Transition) → IsGoing caller past ticket → PageHolds files past ticket.number ticket.bytes → WritesOut disk on ticket transition disk'
      → TurnsFaithful files caller opening past disk.contents (want.Write on ticket) transition past disk'.contents
  writes_faithful on ticket transition going hold writes =
      record {
        holds = holds_written files caller opening past disk.contents disk'.contents h ticket going kept;
        own = subst (λ (t : Transition). BringsAt files past disk'.contents (left_of t)) (sym writes.goes) (own writes.answered writes.writes);
        others = λ at differ keeps brought. at_written files caller opening past disk.contents disk'.contents h ticket going kept at differ keeps brought;
      }
    where
      kept : KeepsOthers disk.contents disk'.contents ticket.block
      kept = keeps_others disk disk' ticket.block ticket.bytes writes.answered writes.writes

      there : ticket.block < length disk.contents
      there =
          let within : ticket.block < opening.swap + sum opening.files = block_below opening past.history past.state h.legal going.p ticket.block going.page going.there (ap block_at going.going) in
          let room = h.room in
          omega (arith, within, room)

      own : (answered : Result (Unit {0}) Fault) → WritesBlock disk ticket.block ticket.bytes answered disk' → BringsWanted files past disk'.contents (in_hand (after_write on answered ticket))
      own (Ok done) e =
          let written : bytes_on disk'.contents ticket.block ≡ ticket.bytes = ap (λ (d : Disk). bytes_on d.contents ticket.block) e.sets ∙ get_or-set_same disk.contents ticket.block ticket.bytes [] there in
          subst (PageHolds files past ticket.number) (sym written) hold
      own (Err fault) e = tt

  -- a read changes nothing, but that it may fail
  reads_faithful : (access : Access) (ticket : TicketOf) (transition : Transition) → ReadsIn disk access ticket transition disk' → TurnsFaithful files caller opening past disk.contents (want.Read access ticket) transition past disk'.contents
  reads_faithful access ticket transition reads =
      subst (λ (c : List (List ℕ)). TurnsFaithful files caller opening past disk.contents (want.Read access ticket) transition past c) (sym (same reads.answered reads.reads))
      (record {
        holds = h;
        own = subst (λ (t : Transition). BringsAt files past disk.contents (left_of t)) (sym reads.goes) (own reads.answered reads.reads);
        others = λ at differ keeps brought. brought;
      })
    where
      same : (answered : Result (Unit {0}) Fault) → ReadsBlock disk ticket.block answered reads.filled.bytes disk' → disk'.contents ≡ disk.contents
      same (Ok done) e = ap (λ (d : Disk). d.contents) e.counts
      same (Err fault) e = ap (λ (d : Disk). d.contents) e.counts

      own : (answered : Result (Unit {0}) Fault) → ReadsBlock disk ticket.block answered reads.filled.bytes disk' → BringsWanted files past disk.contents (in_hand (after_read access answered reads.filled))
      own (Ok done) e = e.gives ∙ ap (bytes_on disk.contents) (sym (ap (λ (t : TicketOf). t.block) reads.same))
      own (Err fault) e = tt

-- ---- a turn

module _ (files : FirstBytes) (caller : Caller) (opening : Opening) (old new : Past) (disk disk' : Disk) (h : Holds files opening old disk.contents) where
  asked_faithful : (remembers : Pending) (what : Event) (said : Reply) (transition : Transition) → OfCommand what → KeepsPending caller old what → BringsPending files old disk.contents what → Called old caller (event_of what) (reply_of said) new
      → HandsOut new caller.worker said → Told old.state.opening.page_size remembers said transition → TurnsFaithful files caller opening old disk.contents (want.Call remembers what) transition new disk.contents
  asked_faithful remembers what said transition fine keeps brings called gives told = by_comes (called_comes old new caller (event_of what) (reply_of said) (of_command-leaves what fine) (pending_known caller old what keeps) called)
    where
      own : IsRefused old (reply_of said) new → Next said transition → BringsAt files old disk.contents (left_of transition)
      own still (Handless quiet none fine) = brings_none files old disk.contents (left_of transition) none
      own still (Reads access ticket is goes) = subst (λ (t : Transition). BringsAt files old disk.contents (left_of t)) (sym goes) tt
      own still (Writes on ticket is goes) = absurd (not_out old new said ticket still is)

      by_comes : Comes old caller (event_of what) (reply_of said) new → TurnsFaithful files caller opening old disk.contents (want.Call remembers what) transition new disk.contents
      by_comes (ByRefusal still) =
          subst (λ (p : Past). TurnsFaithful files caller opening old disk.contents (want.Call remembers what) transition p disk.contents) (sym still.same)
          (record {
            holds = h;
            own = own still (told_next old.state.opening.page_size remembers said transition told (still_known old new said still));
            others = λ at differ kept brought. brought;
          })
      by_comes (ByEntry went) =
          faithful_on files caller opening old new disk.contents what said h keeps brings went (want.Call remembers what) transition gives (told_next old.state.opening.page_size remembers said transition told (went.done Stranger))

  ends_faithful : (said : Answer) (transition : Transition) → transition ≡ Ends said → TurnsFaithful files caller opening old disk.contents (want.End said) transition old disk.contents
  ends_faithful said transition ends =
      record { holds = h; own = subst (λ (t : Transition). BringsAt files old disk.contents (left_of t)) (sym ends) tt; others = λ at differ kept brought. brought }

-- the marks of a hit are merged: what is known does not ask in which order pages are taken
module _ (files : FirstBytes) (contents : List (List ℕ)) (past : Past) (order : Order) where
  page_order : (number : ℕ) (bytes : List ℕ) → PageHolds files past number bytes → PageHolds files (record past { order = order }) number bytes
  page_order number bytes h = record { places = h.places; of_file = h.of_file }

  pending_order : (what : Event) → BringsPending files past contents what → BringsPending files (record past { order = order }) contents what
  pending_order (event.Arrived ticket) h = h
  pending_order (event.Left ticket) h = page_order ticket.number (bytes_on contents ticket.block) h
  pending_order what h = tt

  wanted_order : (want : Want) → BringsWanted files past contents want → BringsWanted files (record past { order = order }) contents want
  wanted_order (want.Call remembers what) h = pending_order what h
  wanted_order (want.Read access ticket) h = tt
  wanted_order (want.Write on ticket) h = page_order ticket.number ticket.bytes h
  wanted_order (want.End said) h = tt

  at_order : (at : Activity) → BringsAt files past contents at → BringsAt files (record past { order = order }) contents at
  at_order Rests h = tt
  at_order (Begun what) h = tt
  at_order (Does stage) h = wanted_order (in_hand stage) h

  turn_order : (caller : Caller) (opening : Opening) (old : Past) (before : List (List ℕ)) (want : Want) (transition : Transition) → TurnsFaithful files caller opening old before want transition past contents
      → TurnsFaithful files caller opening old before want transition (record past { order = order }) contents
  turn_order caller opening old before want transition h =
      let holds = h.holds in
      record {
        holds = record { legal = holds.legal; honest = holds.honest; room = holds.room; stored = holds.stored; in_files = holds.in_files; fetched = holds.fetched };
        own = at_order (left_of transition) h.own;
        others = λ at differ kept brought. at_order at (h.others at differ kept brought);
      }

module _ (files : FirstBytes) (caller : Caller) (opening : Opening) (old new : Past) (disk disk' : Disk) (h : Holds files opening old disk.contents) where
  pub want_faithful : (w : Want) (transition : Transition) → FineWant w → KeepsWanted caller old w → BringsWanted files old disk.contents w → WantTurn caller old disk w transition new disk' → TurnsFaithful files caller opening old disk.contents w transition new disk'.contents
  want_faithful (want.Call remembers what) transition fine keeps brings turn =
      let asks = turn.0 in
      let mid = asked_faithful files caller opening old asks.mid disk disk' h remembers what asks.said transition fine.0 keeps brings asks.called asks.gives asks.told in
      subst (λ (d : Disk). TurnsFaithful files caller opening old disk.contents (want.Call remembers what) transition new d.contents) (sym turn.1)
      (subst (λ (p : Past). TurnsFaithful files caller opening old disk.contents (want.Call remembers what) transition p disk.contents) (sym (stays-as asks.mid new (marks-stay _ caller asks.mid new (reply_of asks.said) asks.marks)))
      (turn_order files disk.contents asks.mid new.order caller opening old disk.contents (want.Call remembers what) transition mid))
  want_faithful (want.Read access ticket) transition fine keeps brings turn =
      subst (λ (p : Past). TurnsFaithful files caller opening old disk.contents (want.Read access ticket) transition p disk'.contents) (sym turn.1) (reads_faithful files caller opening old disk disk' h access ticket transition turn.0)
  want_faithful (want.Write on ticket) transition fine keeps brings turn =
      subst (λ (p : Past). TurnsFaithful files caller opening old disk.contents (want.Write on ticket) transition p disk'.contents) (sym turn.1)
      (writes_faithful files caller opening old disk disk' h on ticket transition keeps brings turn.0)
  want_faithful (want.End said) transition fine keeps brings turn =
      subst (λ (p : Past). TurnsFaithful files caller opening old disk.contents (want.End said) transition p disk'.contents) (sym turn.1)
      (subst (λ (d : Disk). TurnsFaithful files caller opening old disk.contents (want.End said) transition old d.contents) (sym turn.2) (ends_faithful files caller opening old new disk disk' h said transition turn.0))

-- ---- worlds

pub record Faithful (files : FirstBytes) (opening : Opening) (w : World) : Type 0 where
  pub tickets : Tickets opening w
  pub holds : Holds files opening w.past w.disk.contents
  pub brings : (a : Actor) → BringsAt files w.past w.disk.contents (activity_of a w.seats)

module _ (files : FirstBytes) (opening : Opening) where
  faithful_rest : (w : World) (who : Actor) (what : Activity) → is_idle (activity_of who w.seats) ≡ true → is_idle what ≡ true → Faithful files opening w → Faithful files opening (record w { seats = with_activity who what w.seats })
  faithful_rest w who what was idle h =
      record {
        tickets = tickets_rest opening w who what was idle h.tickets;
        holds = h.holds;
        brings = seats_all (BringsAt files w.past w.disk.contents) who what w.seats (brings_none files w.past w.disk.contents what (idle_none what idle)) (λ a differs. h.brings a);
      }

  own_brings : (w : World) (who : Actor) (now : Stage) → IsAt w who now → Faithful files opening w → BringsWanted files w.past w.disk.contents (wants_at w.past now)
  own_brings w who now at h = wanted_alike files w.past w.disk.contents (wants_at w.past now) (in_hand now) (wants_alike w.past now) (held at)
    where
      held : IsAt w who now → BringsWanted files w.past w.disk.contents (in_hand now)
      held (inl is) = subst (λ (at : Activity). BringsAt files w.past w.disk.contents at) is (h.brings who)
      held (inr none) = wanted_none files w.past w.disk.contents (in_hand now) none.1

  faithful_turn : (old new : World) (who : Actor) (now : Stage) (outcome : Outcome) → IsAt old who now → StageTurn old who now outcome new → Faithful files opening old → Faithful files opening new × FineOutcome outcome
  faithful_turn old new who now outcome at turn h =
      let ticketed = tickets_turn opening old new who now outcome at turn h.tickets in
      let turns = want_faithful files old.caller opening old.past new.past old.disk new.disk h.holds (wants_at old.past now) turn.transition (wants_fine old.past now) (own_keeps opening old who now at h.tickets) (own_brings old who now at h) turn.turns in (
        record {
          tickets = ticketed.0;
          holds = turns.holds;
          brings = subst (λ (ss : List Seat). (a : Actor) → BringsAt files new.past new.disk.contents (activity_of a ss)) (sym turn.leaves)
              (seats_all (BringsAt files new.past new.disk.contents) who (left_of turn.transition) old.seats turns.own
              (λ a differs. turns.others (activity_of a old.seats) (others_differ opening old who now at h.tickets a differs) (h.tickets.keeps a) (h.brings a)));
        },
        ticketed.1,
      )

faithful_first : (config : Config) (disk : Disk) → fits config disk ≡ true → Faithful (files_on config disk) (opening_of config) (first_world config disk)
faithful_first config disk fit =
    record {
      tickets = tickets_first config disk;
      holds = record { legal = refl; honest = tt; room = within (and_parts (is_config config) (nat_le (blocks_of config) (length disk.contents)) fit).1; stored = λ t v p b o page mapped there stands within. cc; in_files = λ f q o has home within. refl; fetched = λ p f b n page there coming. cc };
      brings = λ a. tt;
    }
  where
    within : nat_le (blocks_of config) (length disk.contents) ≡ true → blocks_of config ≤ length disk.contents
    within e = grind (arith, nat_tests, e)

pub runs_are_honest : (config : Config) (before : Disk) (steps : List Line) (answers : List Told_by) (end : World) → fits config before ≡ true → Runs (first_world config before) steps answers end
    → Honest (at_first (files_on config before)) end.past.history
runs_are_honest config before lines answers end fit runs =
    (runs_keep (Faithful (files_on config before) (opening_of config)) (faithful_rest (files_on config before) (opening_of config)) (faithful_turn (files_on config before) (opening_of config)) (first_world config before) end lines answers runs (faithful_first config before fit)).0.holds.honest
