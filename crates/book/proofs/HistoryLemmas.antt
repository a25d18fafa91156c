-- One entry more: what a history tells goes on to hold.
use Rattle.std.proofs.Common.{◌≡◌, ◌≢◌, ◌⊎◌, inl, inr, ℕ, zero, suc, ◌+◌, ◌*◌, ◌<◌, ◌≤◌, ◌==◌, Bool, true, false, cond, List, [], ◌∷◌, Option, Some, None, eq-eqb, ne_eqb, refl, sym, ap, ◌∙◌, subst, length, add-one, arith}
use Rattle.std.specs.Prelude.{slice_index, slice_set, IfSome}
use Rattle.std.proofs.lemmas.List.{get_or-set_same, get_or-set_other}
use Rattle.machine.specs.declared.entry.Entry.{Entry}
use Rattle.machine.specs.declared.record.Life.{Life}
use Rattle.machine.specs.declared.record.Life.TheVariants.{Live, Exited, Killed}
use Rattle.machine.specs.declared.record.Task.{Task}
use Rattle.machine.specs.declared.id.FrameId.{FrameId}
use Rattle.machine.specs.declared.id.WorkerId.{WorkerId}
use Rattle.machine.specs.declared.record.Direction.{Direction}
use Rattle.machine.specs.declared.record.Direction.TheVariants.{In, Out}
use Rattle.machine.specs.declared.event.Place.{Place}
use Rattle.machine.specs.declared.event.Place.TheVariants.{Virtual, File}
use Rattle.machine.specs.declared.event.Op.{Op}
use Rattle.machine.specs.declared.event.Op.TheVariants.{Read}
use Rattle.machine.specs.declared.event.Event.{Event}
use Rattle.machine.specs.declared.event.Event.TheVariants as event
use Rattle.machine.specs.declared.reply.Reply.{Reply}
use Rattle.machine.specs.declared.reply.Reply.TheVariants as reply
use Rattle.machine.specs.Slots.{at, there_and}
use Rattle.machine.specs.Pages.{Coming, Page, Pages, page_at, file_page, ticket_at}
use Rattle.machine.specs.Tasks.{PageTables, is_live_task, is_live_life, lives, task_at, mapped_at}
use Rattle.machine.specs.State.{Opening, State, page_numbers, first_state}
use Rattle.machine.specs.Generations.{new_gens, gens_at}
use Rattle.machine.specs.Lists.{Order, first_order}
use Rattle.machine.specs.Access.{page_size}
use Rattle.machine.specs.Refusals.{refusal}
use Rattle.machine.specs.Step.{Step, TaskStep, LifeStep}
use Rattle.machine.specs.Legal.{Legal}
use Rattle.machine.specs.History.{IsRight, Spot, InTask, InFile, spot_of, at_offset, Says, Byte, As, Nothing, says, follow, at_first, last, Fetched, HoldsLast, IsHonest, Honest, ticket_given, taker_or, taker, entries_by}
use Rattle.machine.specs.Call.{is_full_for, knows_pass, entry_of, leaves_entry}
use Rattle.machine.proofs.TreeLemmas.{eq_cases}
use Rattle.machine.proofs.Values.{some_inj, unlike}
use Rattle.machine.proofs.FileLemmas.{file_page-there}
use Rattle.legal.proofs.StepLemmas.{legal-numbered}
use Rattle.legal.proofs.SharedLemmas.{FetchedSo, legal-fetched}
use Rattle.pages.specs.PagesOf.{labelled, moving, IsInTransfer, AreInFlight}
use Rattle.pages.specs.declared.flight.Flight.{Flight}
use Rattle.page_state.specs.States.{StateOf, byte_at}
use Rattle.book_events.specs.Spots.{offset_of, holder, IsThere}
use Rattle.book.specs.Effects.{byte_at_spot, knows, KnowsSpot, ReadsByte, Arrives, IsSaid}
use Rattle.book.specs.MakesStep.{MakesStep, noted, noted_at}
use Rattle.book.specs.Told.{taker_of, IsHistory}
use Rattle.book.proofs.StepLemmas.{holder-same}

-- ---- reads

-- an access that is done is of a live task
done_lives : (s : State) (t : ℕ) (place : Place) (op : Op) (byte : ℕ) (hit : Option FrameId) (new : State) → Step s (event.Access (record { 0 = t }) place op) (reply.Done byte hit) new → lives s.tasks t ≡ true
done_lives s t place op byte hit new step = by_slot (task_at s.tasks t) _ step
  where
    by_life : (ending : Life) (Living : Type 0) → LifeStep s ending Living (reply.Done byte hit) new → is_live_life ending ≡ true
    by_life Live Living h = refl
    by_life Exited Living h = absurd h
    by_life Killed Living h = absurd (let e = h.0 in cc)

    by_slot : (slot : Option Task) (F : Task → Type 0) → TaskStep s slot F (reply.Done byte hit) new → there_and is_live_task slot ≡ true
    by_slot None F h = absurd h
    by_slot (Some task) F h = by_life task.life (F task) h

-- each byte that is in memory is the one last written there
abbrev pub AreLast : (Spot → ℕ) → StateOf → List Entry → Type 0
AreLast first c history = (spot : Spot) → IsThere c.tables spot → KnowsSpot c spot → byte_at_spot c spot ≡ last first history spot

-- an access that is done reaches for a byte that is there
done_there : (s : State) (t : ℕ) (place : Place) (op : Op) (byte : ℕ) (hit : Option FrameId) (new : State) → Step s (event.Access (record { 0 = t }) place op) (reply.Done byte hit) new → IsThere s (spot_of t place)
done_there s t (Virtual v o) op byte hit new step = done_lives s t (Virtual v o) op byte hit new step
done_there s t (File f q o) op byte hit new step = tt

-- a read that is done gave the last write
pub read_right : (first : Spot → ℕ) (c : StateOf) (history : List Entry) (what : Event) (answer : Reply) (new : State)
    → AreLast first c history → Step c.tables what answer new → ReadsByte c what answer → IsRight first history what answer
read_right first c history (event.Access t place Read) (reply.Done byte hit) new bytes step reads =
    reads.0 ∙ bytes (spot_of t.0 place) (done_there c.tables t.0 place Read byte hit new step) reads.1
read_right first c history what answer new bytes step reads = tt

-- ---- bytes

-- a byte that is what an entry says of it is the last write, where the bytes in memory were
said_last : (first : Spot → ℕ) (old : StateOf) (history : List Entry) → AreLast first old history → (said : Says) (spot : Spot) (byte : ℕ) → IsSaid old said spot byte → byte ≡ follow said (last first history) spot
said_last first old history bytes (Byte b) spot byte is = is
said_last first old history bytes (As other) spot byte is = is.2 ∙ bytes other is.0 is.1
said_last first old history bytes Nothing spot byte is = is.2 ∙ bytes spot is.0 is.1

-- the bytes last written to a page that is being read in are those that were when that began, whoever has them
fetched_last : (first : Spot → ℕ) (history : List Entry) (s : State) (p ticket : ℕ) (fetched : FetchedSo first history s p ticket) (spot : Spot) → holder s spot ≡ Some p
    → last first history spot ≡ last first fetched.fetch.earlier (at_offset (offset_of spot) fetched.fetch.spot)
fetched_last first history s p ticket fetched (InTask t v o) is = fetched.same t v o is
fetched_last first history s p ticket fetched (InFile f q o) is = let there = file_page-there s.pages f q p is in fetched.of_file f q o there.0 there.1 there.2

-- what an honest arrival brought is the last write
arrived_last : (first : Spot → ℕ) (old : StateOf) (history : List Entry) (s : State) → s.pages ≡ old.tables.pages → s.page_tables ≡ old.tables.page_tables → (opening : Opening) → Legal opening history s → (what : Event) (answer : Reply) (spot : Spot) (byte : ℕ)
    → IsHonest first history what → offset_of spot < page_size → Arrives old what spot byte → byte ≡ follow (says what answer spot) (last first history) spot
arrived_last first old history s pages tables opening legal (event.Arrived ticket bytes) answer spot byte honest lt (p, label, f, b, had, stands, is) =
    let there : page_at s.pages p ≡ Some (labelled label (Coming f b ticket.0)) = ap (λ (ps : Pages). page_at ps p) pages ∙ stands in
    let now : holder s spot ≡ Some p = holder-same old.tables s spot (λ t v. ap (λ (ts : PageTables). mapped_at ts t v) tables) (λ g q. ap (λ (ps : Pages). file_page ps g q) pages) ∙ had in
    let fetched = legal-fetched opening first history s legal p f b ticket.0 _ there refl in
    is ∙ subst (λ (fetch : Option Fetched). HoldsLast first bytes fetch) fetched.is honest (offset_of spot) lt ∙ sym (fetched_last first history s p ticket.0 fetched spot now)
arrived_last first old history s pages tables opening legal what answer spot byte honest lt arrives = absurd arrives

-- ---- who took which ticket

-- the ticket of a page in transfer
abbrev ticket_there : Option Page → Option ℕ
ticket_there None = None
ticket_there (Some page) = ticket_at page.residence

moving-ticket : (direction : Direction) (frame block n : ℕ) → ticket_at (moving direction frame block n) ≡ Some n
moving-ticket In frame block n = refl
moving-ticket Out frame block n = refl

-- what is noted of a ticket that is given out: the taker of its page, and of no other page that is in transfer
module _ (new : StateOf) (takers : List WorkerId) (worker : ℕ) (in_flight : AreInFlight new.tables.pages new.flights) (placed : (p : ℕ) → IfSome (page_at new.tables.pages p) (λ page. p < length takers)) where
  flies : (n : ℕ) (f : Flight) → at new.flights n ≡ Some f → IsInTransfer new.tables.pages n f
  flies n f is = subst (λ (slot : Option Flight). IfSome slot (λ flight. IsInTransfer new.tables.pages n flight)) is (in_flight.known n)

  ticket_is : (n : ℕ) (f : Flight) → at new.flights n ≡ Some f → ticket_there (page_at new.tables.pages f.page.0) ≡ Some n
  ticket_is n f is = let flight = flies n f is in ap ticket_there flight.stands ∙ moving-ticket f.direction flight.frame flight.block n

  -- a page has one ticket
  other_page : (n m : ℕ) (f g : Flight) → at new.flights n ≡ Some f → at new.flights m ≡ Some g → n ≢ m → f.page.0 ≢ g.page.0
  other_page n m f g first second differ same =
      differ (some_inj (sym (ticket_is n f first) ∙ ap (λ (p : ℕ). ticket_there (page_at new.tables.pages p)) same ∙ ticket_is m g second))

  within : (n : ℕ) (f : Flight) → at new.flights n ≡ Some f → f.page.0 < length takers
  within n f is = subst (λ (slot : Option Page). IfSome slot (λ page. f.page.0 < length takers)) (flies n f is).stands (placed f.page.0)

  -- the ticket's own page
  noted-own : (n : ℕ) (f : Flight) → at new.flights n ≡ Some f → taker_of (noted_at takers (at new.flights n) worker) f.page.0 ≡ worker
  noted-own n f is =
      ap (λ (slot : Option Flight). taker_of (noted_at takers slot worker) f.page.0) is
      ∙ ap (λ (w : WorkerId). w.0) (get_or-set_same takers f.page.0 (record { 0 = worker }) (record { 0 = 0 }) (within n f is))

  noted-other : (n m : ℕ) (f : Flight) → at new.flights n ≡ Some f → n ≢ m → taker_of (noted_at takers (at new.flights m) worker) f.page.0 ≡ taker_of takers f.page.0
  noted-other n m f is differ = by_slot (at new.flights m) refl
    where
      by_slot : (slot : Option Flight) → at new.flights m ≡ slot → taker_of (noted_at takers slot worker) f.page.0 ≡ taker_of takers f.page.0
      by_slot None none = refl
      by_slot (Some g) other = ap (λ (w : WorkerId). w.0) (get_or-set_other takers g.page.0 f.page.0 (record { 0 = worker }) (record { 0 = 0 }) (other_page n m f g is other differ))

-- ---- one entry more

-- an event whose ticket is its worker's, that nothing refuses, and that is served with room for its entry
pub record Extending (old new : StateOf) (history : List Entry) (counts : List ℕ) (takers : List WorkerId) (worker : ℕ) (what : Event) (answer : Reply) : Type 0 where
  pub told : IsHistory old history counts takers
  pub passed : worker < length counts
  pub leaves : leaves_entry what ≡ true
  pub known : knows_pass old.tables history (record { worker = worker }) what ≡ true
  pub none : refusal old.tables what ≡ None
  pub room : is_full_for old.tables history what ≡ false
  pub makes_step : MakesStep old what answer new
  -- the transfers in flight after it are those of the pages in transfer, and each page number has a place for a taker
  pub in_flight : AreInFlight new.tables.pages new.flights
  pub sized : page_numbers old.tables.opening ≤ length takers

module _ (old new : StateOf) (history : List Entry) (counts : List ℕ) (takers : List WorkerId) (worker : ℕ) (what : Event) (answer : Reply) (h : Extending old new history counts takers worker what answer) where
  abbrev more : List Entry
  more = entry_of (record { worker = worker }) history what answer ∷ history

  pub read_on : (files : ℕ → ℕ → ℕ → ℕ) → Honest (at_first files) history → IsRight (at_first files) history what answer
  read_on files honest = read_right (at_first files) old history what answer _ (h.told.bytes files honest) h.makes_step.steps h.makes_step.reads

  bytes_on : (files : ℕ → ℕ → ℕ → ℕ) → Honest (at_first files) more → AreLast (at_first files) new more
  bytes_on files honest spot there known =
      elim (h.makes_step.bytes spot there known) [
        | inl arrives ↦ arrived_last (at_first files) old history old.tables refl refl old.tables.opening h.told.legal what answer spot (byte_at_spot new spot) honest.1 known.1 arrives
        | inr follows ↦ said_last (at_first files) old history (h.told.bytes files honest.0) (says what answer spot) spot (byte_at_spot new spot) follows
      ]

  pub legal_more : Legal old.tables.opening more new.tables
  legal_more = (old.tables, h.told.legal, record { kept = h.leaves; known = h.known; unrefused = h.none; room = h.room; steps = h.makes_step.steps })

  placed : (p : ℕ) → IfSome (page_at new.tables.pages p) (λ page. p < length takers)
  placed p = by_slot (page_at new.tables.pages p) ((legal-numbered old.tables.opening more new.tables legal_more).below p)
    where
      by_slot : (slot : Option Page) → IfSome slot (λ page. p < page_numbers old.tables.opening) → IfSome slot (λ page. p < length takers)
      by_slot None lt = tt
      by_slot (Some page) lt = let le = h.sized in omega (arith, lt, le)

  -- and so each page in transfer has one
  pub flights_within : (n : ℕ) → IfSome (at new.flights n) (λ f. f.page.0 < length takers)
  flights_within n = by_slot (at new.flights n) refl
    where
      by_slot : (slot : Option Flight) → at new.flights n ≡ slot → IfSome slot (λ f. f.page.0 < length takers)
      by_slot None is = tt
      by_slot (Some f) is = within new takers worker h.in_flight placed n f is

  takers_on : (n : ℕ) → IfSome (at new.flights n) (λ f. taker n more ≡ Some (taker_of (noted new.flights takers worker (ticket_given answer)) f.page.0))
  takers_on n = by_flight (at new.flights n) refl
    where
      -- a transfer that was in flight before has its taker
      earlier : (f : Flight) → at new.flights n ≡ Some f → (ticket_given answer ≡ Some n → ⊥) → taker n history ≡ Some (taker_of takers f.page.0)
      earlier f is other =
          elim (subst (λ (slot : Option Flight). IfSome slot (λ f. (ticket_given answer ≡ Some n) ⊎ (at old.flights n ≡ Some f))) is (h.makes_step.flights n)) [
            | inl given ↦ absurd (other given)
            | inr before ↦ subst (λ (slot : Option Flight). IfSome slot (λ f. taker n history ≡ Some (taker_of takers f.page.0))) before (h.told.taken n)
          ]

      by_given : (f : Flight) → at new.flights n ≡ Some f → (given : Option ℕ) → ticket_given answer ≡ given → taker_or n given worker (taker n history) ≡ Some (taker_of (noted new.flights takers worker given) f.page.0)
      by_given f is None none = earlier f is (λ given. let wrong : None ≡ Some n = sym none ∙ given in cc)
      by_given f is (Some m) given =
          elim (eq_cases m n) [
            | inl same ↦
                ap (λ (b : Bool). cond b (Some worker) (taker n history)) (eq-eqb m n same)
                ∙ ap (λ (w : ℕ). Some w) (sym (ap (λ (k : ℕ). taker_of (noted_at takers (at new.flights k) worker) f.page.0) same ∙ noted-own new takers worker h.in_flight placed n f is))
            | inr other ↦
                ap (λ (b : Bool). cond b (Some worker) (taker n history)) (ne_eqb m n other)
                ∙ earlier f is (λ also. other (some_inj (sym given ∙ also)))
                ∙ ap (λ (w : ℕ). Some w) (sym (noted-other new takers worker h.in_flight placed n m f is (λ e. other (sym e))))
          ]

      by_flight : (slot : Option Flight) → at new.flights n ≡ slot → IfSome slot (λ f. taker n more ≡ Some (taker_of (noted new.flights takers worker (ticket_given answer)) f.page.0))
      by_flight None is = tt
      by_flight (Some f) is = by_given f is (ticket_given answer) refl

  counted_on : (w : ℕ) → slice_index (slice_set counts worker (slice_index counts worker + 1)) w ≡ length (entries_by w more)
  counted_on w =
      elim (eq_cases w worker) [
        | inl same ↦
            (let hit : (worker == w) ≡ true = eq-eqb worker w (sym same) in
            ap (slice_index (slice_set counts worker (slice_index counts worker + 1))) same ∙ get_or-set_same counts worker (slice_index counts worker + 1) 0 h.passed
            ∙ ap (λ n. n + 1) (ap (slice_index counts) (sym same) ∙ h.told.counted w)
            ∙ add-one (length (entries_by w history))
            ∙ ap (λ b. length (cond b (entry_of (record { worker = worker }) history what answer ∷ entries_by w history) (entries_by w history))) (sym hit))
        | inr other ↦
            (let miss : (worker == w) ≡ false = ne_eqb worker w (λ e. other (sym e)) in
            get_or-set_other counts worker w (slice_index counts worker + 1) 0 other ∙ h.told.counted w
            ∙ ap (λ b. length (cond b (entry_of (record { worker = worker }) history what answer ∷ entries_by w history) (entries_by w history))) (sym miss))
      ]

  young_on : (g : ℕ) → (gens_at new.order.held.groups g).max_seq ≤ 3 + 3 * length more
  young_on g =
      let before = h.told.young g in
      let ages = h.makes_step.ages g in
      let one = add-one (length history) in
      omega (arith, before, ages, one)

  pub extends : IsHistory new more (slice_set counts worker (slice_index counts worker + 1)) (noted new.flights takers worker (ticket_given answer))
  extends =
      record {
        legal = subst (λ opening. Legal opening more new.tables) (sym h.makes_step.opening) legal_more;
        right = λ files honest. (h.told.right files honest.0, read_on files honest.0);
        numbered = (h.told.numbered, refl);
        bytes = bytes_on;
        taken = takers_on;
        counted = counted_on;
        young = young_on;
      }

-- ---- the beginning

-- at the opening nothing is told
pub told-first : (c : StateOf) (opening : Opening) (takers : List WorkerId) → c.tables ≡ first_state opening → c.order ≡ first_order opening → c.flights ≡ [] → ((t v o : ℕ) → byte_at c t v o ≡ 0) → IsHistory c [] [] takers
told-first c opening takers tables order flights zeros =
    record {
      legal = subst (λ (s : State). s ≡ first_state s.opening) (sym tables) refl;
      right = λ files honest. tt;
      numbered = tt;
      bytes = λ files honest spot there known. first_byte files spot known;
      taken = λ n. subst (λ (fs : List (Option Flight)). IfSome (at fs n) (λ f. taker n [] ≡ Some (taker_of takers f.page.0))) (sym flights) tt;
      counted = λ w. refl;
      young = λ g. subst (λ (o : Order). (gens_at o.held.groups g).max_seq ≤ 3 + 3 * 0) (sym order) (first g);
    }
  where
    -- tasks begin with zeros, and no page of a file is in memory
    first_byte : (files : ℕ → ℕ → ℕ → ℕ) (spot : Spot) → KnowsSpot c spot → byte_at_spot c spot ≡ at_first files spot
    first_byte files (InTask t v o) known = zeros t v o
    first_byte files (InFile f q o) known =
        unlike (knows c (InFile f q o) (file_page c.tables.pages f q)) known.0 (ap (knows c (InFile f q o)) (ap (λ (s : State). file_page s.pages f q) tables))

    first : (g : ℕ) → (gens_at (new_gens ∷ []) g).max_seq ≤ 3 + 3 * 0
    first zero = omega arith
    first (suc g) = omega arith
