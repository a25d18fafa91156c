-- What a page that comes to stand elsewhere is to the plain machine: transfers that begin and end, and pages that are dropped.
use Rattle.std.proofs.Common.{List, ◌≡◌, ◌≢◌, ◌⊎◌, inl, inr, ℕ, ◌+◌, ◌≤◌, ◌==◌, ◌&&◌, Bool, true, false, MatchBool, cond, Option, Some, None, refl, sym, ap, subst, ◌∙◌, arith}
use Rattle.std.specs.Prelude.{IfSome, is_some, slice_index}
use Rattle.machine.specs.declared.event.Goal.{Goal}
use Rattle.machine.specs.declared.event.Goal.TheVariants.{Amount}
use Rattle.machine.specs.declared.id.GroupId.{GroupId}
use Rattle.machine.specs.declared.event.Cause.{Cause}
use Rattle.machine.specs.declared.event.Event.{Event}
use Rattle.machine.specs.declared.event.Event.TheVariants as event
use Rattle.machine.specs.declared.reply.Reply.{Reply}
use Rattle.machine.specs.declared.reply.Reply.TheVariants as reply
use Rattle.machine.specs.Slots.{at, Changes, there_and}
use Rattle.machine.specs.Pages.{Content, Memory, OfFile, Residence, Held, Coming, Going, Away, Page, Pages, page_at, file_page, home_block, is_anon, is_page_of, is_in_transfer, in_transfer, in_transfer_at}
use Rattle.machine.specs.Tasks.{PageTables, mapped_at, mappers}
use Rattle.machine.specs.State.{State}
use Rattle.machine.specs.Access.{Meeting, charges, is_fetch}
use Rattle.machine.specs.Call.{need}
use Rattle.machine.specs.declared.record.EventCounts.{EventCounts}
use Rattle.machine.specs.Reclaim.{stands, target_of, goal_of, goal_in, is_takeable, has_takeable, counted_at_take}
use Rattle.page_lists.proofs.TakeableLemmas.{next-takeable}
use Rattle.machine.specs.Lists.{Order, Youngest, entry_after, TakesNext, Orders}
use Rattle.machine.specs.Step.{Step, MeetStep, StartsFetch, StartsLeave, Drops, LeavesBy, Takes, EndsTransfer, or_gone, in_frame, on_block, on_block_of}
use Rattle.machine.specs.History.{Spot, InTask, InFile, Nothing, says, ticket_given}
use Rattle.machine.proofs.Values.{some_inj, unlike}
use Rattle.machine.proofs.TreeLemmas.{eq_cases}
use Rattle.machine.proofs.SlotLemmas.{one_if}
use Rattle.machine.proofs.FileLemmas.{IsSingle, holds_page, file_page-beside, file_page-gone, file_page-gone_other, file_page-new, file_page-new_other}
use Rattle.files.specs.Files.{FilesOf}
use Rattle.pages.specs.PagesOf.{Label, labelled, of_file, byte_in, HasResidence, flight, AreFiled}
use Rattle.pages.specs.declared.flight.Flight.{Flight}
use Rattle.machine.specs.declared.record.Direction.{Direction}
use Rattle.machine.specs.declared.record.Direction.TheVariants.{In, Out}
use Rattle.page_state.specs.States.{StateOf, byte_shown}
use Rattle.book_events.specs.Spots.{offset_of, holder}
use Rattle.book.specs.Effects.{byte_at_spot, is_in_memory, is_known, knows, KnowsSpot, ReadsByte, Arrives, Follows, ChangesBytes, KeepsFlights}
use Rattle.book.specs.MakesStep.{AgesByThree, MakesStep, is_refused}
use Rattle.pages.specs.Tickets.{TicketOf}
use Rattle.pages.specs.declared.end.End.{End}
use Rattle.pages.specs.declared.end.End.TheVariants.{InFrame, OnBlock}
use Rattle.page_state.specs.Changes.{BeginsReadIn, IsWrittenTo, BeginsWriteOut, DropsClean, ended_as, EndsTransfer as Settles, HasRoom}
use Rattle.book_events.specs.Events.{ended}
use Rattle.book.specs.Decisions.{with_counted, AsksPage, IsFault, met_by, HasRoomFor}
use Rattle.pages.proofs.TableLemmas.{any-some}
use Rattle.book.proofs.FlightLemmas.{in_transfer-changes}
use Rattle.book.proofs.StepLemmas.{order-on, was, there-same, holder-same, stays-was, flight-kept, flights-kept, quiet-access, reads-access, met_step, asks_step, asks-need}
use Rattle.book.specs.declared.decision.PageFault.{PageFault}
use Rattle.book.proofs.JudgeLemmas.{room-for}

-- ---- which page has a byte, as one page changes

-- a page of a file is found wherever it stands
pub filed-single : (files : FilesOf) (pages : Pages) → AreFiled files pages → IsSingle pages
filed-single files pages filed = record { single = λ f q p p' page page' there there' holds holds'. some_inj (sym (found f q p page there holds) ∙ found f q p' page' there' holds') }
  where
    found : (f q p : ℕ) (page : Page) → page_at pages p ≡ Some page → page.content ≡ OfFile f q → file_page pages f q ≡ Some p
    found f q p page there holds = subst (λ (slot : Option Page). IfSome slot (λ page. page.content ≡ OfFile f q → file_page pages f q ≡ Some p)) there (filed.single p f q) holds

-- only the pages change, and what is counted
abbrev pub MovesPages : State → State → Type 0
MovesPages old new = new ≡ record old { pages = new.pages; counted = new.counted }

-- only the pages change
pub moves-pages : (old new : State) → new ≡ record old { pages = new.pages } → MovesPages old new
moves-pages old new same = same ∙ ap (λ (cs : List EventCounts). record old { pages = new.pages; counted = cs }) (sym (ap (λ (s : State). s.counted) same))

module _ (old new : StateOf) (tables : MovesPages old.tables new.tables) where
  same_place : (t v : ℕ) → mapped_at new.tables.page_tables t v ≡ mapped_at old.tables.page_tables t v
  same_place t v = ap (λ (s : State). mapped_at s.page_tables t v) tables

  -- what changes holds what it held
  pub holders-beside : (p : ℕ) (to : Option Page) → Changes old.tables.pages new.tables.pages p to → ((f q : ℕ) → holds_page f q to ≡ holds_page f q (page_at old.tables.pages p)) → (spot : Spot) → KnowsSpot new spot → holder new.tables spot ≡ holder old.tables spot
  holders-beside p to changes same spot known = holder-same old.tables new.tables spot same_place (λ f q. file_page-beside old.tables.pages new.tables.pages p to changes f q (same f q))

  -- a page of a file comes or goes, and is not in memory after: what it has is on the device alone
  holders-but : (f q : ℕ) → ((f' q' : ℕ) → ((f ≡ f') × (q ≡ q') → ⊥) → file_page new.tables.pages f' q' ≡ file_page old.tables.pages f' q') → ((o : ℕ) → knows new (InFile f q o) (file_page new.tables.pages f q) ≡ false)
      → (spot : Spot) → KnowsSpot new spot → holder new.tables spot ≡ holder old.tables spot
  holders-but f q elsewhere unknown (InTask t v o) known = same_place t v
  holders-but f q elsewhere unknown (InFile f' q' o) known = by_file (eq_cases f f') (eq_cases q q')
    where
      by_file : (f ≡ f') ⊎ (f ≢ f') → (q ≡ q') ⊎ (q ≢ q') → file_page new.tables.pages f' q' ≡ file_page old.tables.pages f' q'
      by_file (inl fs) (inl qs) = unlike (knows new (InFile f' q' o) (file_page new.tables.pages f' q')) known.0 (rw fs at rw qs at unknown o)
      by_file (inl fs) (inr other) = elsewhere f' q' (λ same. other same.1)
      by_file (inr other) qs = elsewhere f' q' (λ same. other same.0)

  pub holders-gone : (p f q : ℕ) (page : Page) → IsSingle old.tables.pages → Changes old.tables.pages new.tables.pages p None → page_at old.tables.pages p ≡ Some page → page.content ≡ OfFile f q
      → (spot : Spot) → KnowsSpot new spot → holder new.tables spot ≡ holder old.tables spot
  holders-gone p f q page single changes there holds =
      holders-but f q (file_page-gone_other old.tables.pages new.tables.pages p f q page changes there holds)
      (λ o. ap (knows new (InFile f q o)) (file_page-gone old.tables.pages new.tables.pages p f q page single changes there holds))

  pub holders-new : (p f q : ℕ) (page : Page) → Changes old.tables.pages new.tables.pages p (Some page) → page_at old.tables.pages p ≡ None → page.content ≡ OfFile f q → file_page old.tables.pages f q ≡ None → is_in_memory page.residence ≡ false
      → (spot : Spot) → KnowsSpot new spot → holder new.tables spot ≡ holder old.tables spot
  holders-new p f q page changes free holds uncached absent =
      holders-but f q (file_page-new_other old.tables.pages new.tables.pages p f q page changes free holds)
      (λ o. ap (knows new (InFile f q o)) (file_page-new old.tables.pages new.tables.pages p f q page changes holds uncached) ∙ ap (there_and (λ (page : Page). is_in_memory page.residence)) changes.changed ∙ absent)

-- ---- one page changes

-- one page comes to stand elsewhere, or goes; the event says nothing of any byte
pub record IsMove (old new : StateOf) (what : Event) (answer : Reply) (p : ℕ) (to : Option Page) : Type 0 where
  pub tables : MovesPages old.tables new.tables
  pub placed : Changes old.tables.pages new.tables.pages p to
  pub others : (q o : ℕ) → q ≢ p → byte_in new.bytes q o ≡ byte_in old.bytes q o
  pub silent : (spot : Spot) → says what answer spot ≡ Nothing
  pub given : is_refused answer ≡ false
  -- a byte that is in memory is had by the page that had it
  pub holders : (spot : Spot) → KnowsSpot new spot → holder new.tables spot ≡ holder old.tables spot
  -- the bytes of the page itself, where it is in memory: they arrive, or are as they were
  pub own : (spot : Spot) → holder old.tables spot ≡ Some p → there_and (λ page. is_in_memory page.residence) to ≡ true
      → Arrives old what spot (byte_in new.bytes p (offset_of spot)) ⊎ ((is_known old.tables.pages p ≡ true) × (byte_in new.bytes p (offset_of spot) ≡ byte_in old.bytes p (offset_of spot)))

module _ (old new : StateOf) (what : Event) (answer : Reply) (p : ℕ) (to : Option Page) (move : IsMove old new what answer p to) where
  moved-bytes : ChangesBytes old what answer new
  moved-bytes spot there known = by_holder (holder old.tables spot) refl
    where
      same : holder new.tables spot ≡ holder old.tables spot
      same = move.holders spot known

      -- what no other page has that is not as it was
      follows : ((q : ℕ) → holder old.tables spot ≡ Some q → is_known new.tables.pages q ≡ true → (is_known old.tables.pages q ≡ true) × (byte_in new.bytes q (offset_of spot) ≡ byte_in old.bytes q (offset_of spot)))
          → Follows old what answer spot (byte_at_spot new spot)
      follows kept = was old what answer spot (byte_at_spot new spot) (move.silent spot) (stays-was old new spot (there-same old.tables new.tables spot (ap (λ (s : State). s.tasks) move.tables) there) same kept known)

      now : (q : ℕ) → holder old.tables spot ≡ Some q → byte_at_spot new spot ≡ byte_in new.bytes q (offset_of spot)
      now q is = ap (λ (m : Option ℕ). byte_shown new.bytes m (offset_of spot)) (same ∙ is)

      at_page : holder old.tables spot ≡ Some p → Arrives old what spot (byte_at_spot new spot) ⊎ Follows old what answer spot (byte_at_spot new spot)
      at_page is =
          let there_now : is_known new.tables.pages p ≡ true = sym (ap (knows new spot) (same ∙ is)) ∙ known.0 in
          elim (move.own spot is (sym (ap (there_and (λ (page : Page). is_in_memory page.residence)) move.placed.changed) ∙ there_now)) [
            | inl arrives ↦ inl (subst (λ (byte : ℕ). Arrives old what spot byte) (sym (now p is)) arrives)
            | inr kept ↦ inr (follows (λ q at in_memory. let one : p ≡ q = some_inj (sym is ∙ at) in subst (λ (x : ℕ). (is_known old.tables.pages x ≡ true) × (byte_in new.bytes x (offset_of spot) ≡ byte_in old.bytes x (offset_of spot))) one kept))
          ]

      by_holder : (m : Option ℕ) → holder old.tables spot ≡ m → Arrives old what spot (byte_at_spot new spot) ⊎ Follows old what answer spot (byte_at_spot new spot)
      by_holder None is = inr (follows (λ q at in_memory. let wrong : Some q ≡ None = sym at ∙ is in absurd cc))
      by_holder (Some q) is =
          elim (eq_cases q p) [
            | inl same ↦ at_page (is ∙ ap (λ (x : ℕ). Some x) same)
            | inr other ↦
                inr
                (follows
                (λ r at in_memory.
                let one : q ≡ r = some_inj (sym is ∙ at) in
                let elsewhere : r ≢ p = λ e. other (one ∙ e) in
                (sym (ap (there_and (λ (page : Page). is_in_memory page.residence)) (move.placed.others r elsewhere)) ∙ in_memory, move.others r (offset_of spot) elsewhere)))
          ]

  pub makes_step-move : Step old.tables what answer new.tables → Orders old.tables old.order what answer new.tables new.order × AgesByThree old new → ReadsByte old what answer → KeepsFlights old answer new
      → in_transfer new.tables.pages + 1 ≤ in_transfer old.tables.pages + need old.tables what → MakesStep old what answer new
  makes_step-move steps orders reads flights kept =
      record {
        steps = steps;
        orders = orders.0;
        ages = orders.1;
        reads = reads;
        bytes = moved-bytes;
        flights = flights;
        kept = kept;
        given = move.given;
        opening = ap (λ (s : State). s.opening) move.tables;
      }

-- ---- the transfers in flight

-- what is in flight under one ticket changes
flights-changed : (old new : StateOf) (n : ℕ) (to : Option Flight) (answer : Reply) → IfSome to (λ f. ticket_given answer ≡ Some n) → Changes old.flights new.flights n to → KeepsFlights old answer new
flights-changed old new n to answer given changes m =
    elim (eq_cases m n) [
      | inl same ↦ by_flight to given (at new.flights m) (ap (at new.flights) same ∙ changes.changed) same
      | inr other ↦ flight-kept answer m (at new.flights m) (at old.flights m) (changes.others m other)
    ]
  where
    by_flight : (to : Option Flight) → IfSome to (λ f. ticket_given answer ≡ Some n) → (slot : Option Flight) → slot ≡ to → m ≡ n → IfSome slot (λ f. (ticket_given answer ≡ Some m) ⊎ (at old.flights m ≡ Some f))
    by_flight to given None is same = tt
    by_flight (Some f) given (Some f') is same = inl (given ∙ ap (λ (k : ℕ). Some k) (sym same))
    by_flight None given (Some f) is same = cc

-- a ticket is given to the page
pub flights-begun : (old new : StateOf) (p n : ℕ) (direction : Direction) (answer : Reply) → ticket_given answer ≡ Some n → Changes old.flights new.flights n (Some (flight p direction)) → KeepsFlights old answer new
flights-begun old new p n direction answer given listed = flights-changed old new n (Some (flight p direction)) answer given listed

-- a transfer is in flight no more
pub flights-ended : (old new : StateOf) (n : ℕ) (answer : Reply) → Changes old.flights new.flights n None → KeepsFlights old answer new
flights-ended old new n answer unlisted = flights-changed old new n None answer tt unlisted

-- ---- a read-in begins

-- it needs an entry for the end too
pub fetch-needs : (s : State) (fault : PageFault) (met : Meeting) (g : ℕ) → IsFault s fault → HasRoomFor s fault → met_by s fault ≡ met → is_fetch met ≡ true → charges s.opening.placement met fault.group.0 ≡ Some g
    → need s (event.Access fault.task fault.place fault.op) ≡ 2
fetch-needs s fault met g is has meeting fetch needs =
    let room = room-for s fault met g has meeting needs in
    rw is.known (rw meeting (rw fetch (rw needs (rw room.under (rw room.free refl)))))

starts-fetch : (old new : StateOf) (p b : ℕ) (label : Label) (ticket : TicketOf) → label.dirty ≡ false → BeginsReadIn old new p label b ticket → StartsFetch old.tables p label.group label.content b (reply.Fetch (record { 0 = ticket.number })) new.tables
starts-fetch old new p b label ticket clean begins =
    record {
      frame = begins.frame;
      ticket = ticket.number;
      frame_free = begins.frame_free;
      ticket_free = begins.begins.ticket_free;
      placed = subst (λ (dirty : Bool). Changes old.tables.pages new.tables.pages p (Some (labelled (record label { dirty = dirty }) (Coming begins.frame b ticket.number)))) clean begins.begins.placed;
      answers = refl;
      state = begins.tables;
    }

-- a page begins to be read in, whichever it is
pub makes_step-fetch : (old new : StateOf) (fault : PageFault) (met : Meeting) (g p b : ℕ) (label : Label) (ticket : TicketOf) → IsFault old.tables fault → HasRoomFor old.tables fault → met_by old.tables fault ≡ met → is_fetch met ≡ true
    → charges old.tables.opening.placement met fault.group.0 ≡ Some g → there_and is_in_transfer (page_at old.tables.pages p) ≡ false → label.dirty ≡ false → BeginsReadIn old new p label b ticket
    → (HasRoom old.tables g → StartsFetch old.tables p label.group label.content b (reply.Fetch (record { 0 = ticket.number })) new.tables
    → MeetStep old.tables fault.task.0 fault.group.0 fault.op met (reply.Fetch (record { 0 = ticket.number })) new.tables)
    → ((spot : Spot) → KnowsSpot new spot → holder new.tables spot ≡ holder old.tables spot)
    → MakesStep old (event.Access fault.task fault.place fault.op) (reply.Fetch (record { 0 = ticket.number })) new
makes_step-fetch old new fault met g p b label ticket is has meeting fetch needs rested clean begins starts holders =
    makes_step-move old new (event.Access fault.task fault.place fault.op) (reply.Fetch (record { 0 = ticket.number })) p (Some (labelled label (Coming begins.frame b ticket.number)))
    (record {
      tables = moves-pages old.tables new.tables begins.tables;
      placed = begins.begins.placed;
      others = begins.bytes;
      silent = (quiet-access fault.task.0 fault.place fault.op (reply.Fetch (record { 0 = ticket.number })) refl refl).says;
      given = refl;
      holders = holders;
      own = λ spot is there. unlike false there refl;
    })
    (met_step old.tables fault met _ _ is meeting (starts (room-for old.tables fault met g has meeting needs) (starts-fetch old new p b label ticket clean begins)))
    (order-on Youngest old old.order.held new refl begins.held begins.cursors) (reads-access old fault.task.0 fault.place fault.op (reply.Fetch (record { 0 = ticket.number })) refl)
    (flights-begun old new p ticket.number In (reply.Fetch (record { 0 = ticket.number })) refl begins.begins.listed)
    (let more = in_transfer-changes old.tables.pages new.tables.pages p (Some (labelled label (Coming begins.frame b ticket.number))) begins.begins.placed in
    let was : one_if (there_and is_in_transfer (page_at old.tables.pages p)) ≡ 0 = ap one_if rested in
    let two = fetch-needs old.tables fault met g is has meeting fetch needs in
    omega (arith, more, was, two))

-- ---- a write-out begins

-- a page is taken for the target, whatever asks for it, and whether it is written out or dropped
module _ (old new : StateOf) (goal : Goal) (target : ℕ) (answer : Reply) (p : ℕ) (to : Option Page) (some : has_takeable old.tables target ≡ true)
    (takes : Takes old.tables target answer new.tables)
    (relief_order : (why : Cause) → target_of why ≡ target → goal_of why ≡ goal → Orders old.tables old.order (event.Relieve why) answer new.tables new.order)
    (reclaim_order : (h : GroupId) → h.0 ≡ target → Amount ≡ goal → Orders old.tables old.order (event.ReclaimOne h) answer new.tables new.order) (ages : AgesByThree old new) (tables : MovesPages old.tables new.tables)
    (placed : Changes old.tables.pages new.tables.pages p to) (others : (q o : ℕ) → q ≢ p → byte_in new.bytes q o ≡ byte_in old.bytes q o) (given : is_refused answer ≡ false) (flights : KeepsFlights old answer new)
    (holders : (spot : Spot) → KnowsSpot new spot → holder new.tables spot ≡ holder old.tables spot)
    (own : (spot : Spot) → holder old.tables spot ≡ Some p → there_and (λ page. is_in_memory page.residence) to ≡ true → (is_known old.tables.pages p ≡ true) × (byte_in new.bytes p (offset_of spot) ≡ byte_in old.bytes p (offset_of spot)))
    (rested : there_and is_in_transfer (page_at old.tables.pages p) ≡ false) where
  at_most_one : (slot : Option Page) → one_if (there_and is_in_transfer slot) ≤ 1
  at_most_one slot = grind arith

  makes_step-asked : (what : Event) → AsksPage old.tables what target → Orders old.tables old.order what answer new.tables new.order → ReadsByte old what answer → ((spot : Spot) → says what answer spot ≡ Nothing) → MakesStep old what answer new
  makes_step-asked what asks orders reads silent =
      makes_step-move old new what answer p to
      (record { tables = tables; placed = placed; others = others; silent = silent; given = given; holders = holders; own = λ spot is there. inr (own spot is there) })
      (asks_step old.tables what target answer new.tables asks (λ Idle. rw some takes)) (orders, ages) reads flights
      (let more = in_transfer-changes old.tables.pages new.tables.pages p to placed in
      let was : one_if (there_and is_in_transfer (page_at old.tables.pages p)) ≡ 0 = ap one_if rested in
      let now = at_most_one to in
      let two : need old.tables what ≡ 2 = asks-need old.tables what target true asks some in
      omega (arith, more, was, now, two))

  pub makes_step-taken : (what : Event) → AsksPage old.tables what target → goal_in what ≡ goal → MakesStep old what answer new
  makes_step-taken (event.Relieve why) asks wants = makes_step-asked (event.Relieve why) asks (relief_order why asks.1 wants) tt (λ spot. refl)
  makes_step-taken (event.ReclaimOne h) asks wants = makes_step-asked (event.ReclaimOne h) asks (reclaim_order h asks wants) tt (λ spot. refl)
  makes_step-taken other asks wants = absurd asks

-- what is counted beside it says nothing of whose turn it is
next-counted : (old : State) (counted : List EventCounts) (order : Order) (goal : Goal) (target : ℕ) (new : State) (order' : Order) → TakesNext (record old { counted = counted }) order goal target new order' → TakesNext old order goal target new order'
next-counted old counted order goal target new order' next =
    record { g = next.g; next = next.next; p = next.p; looked = next.looked; picked = next.picked; was = next.was; taken = next.taken; leaves = next.leaves; moves = next.moves }

-- it begins to be written out, where this stands counted
module _ (old new : StateOf) (counted : List EventCounts) (goal : Goal) (target g : ℕ) (ticket : TicketOf) (taken : BeginsWriteOut (with_counted old counted) new goal target g ticket) (counts : counted ≡ counted_at_take old.tables target g) where
  out-some : has_takeable old.tables target ≡ true
  out-some = any-some (is_takeable old.tables target) old.tables.pages taken.p (ap (there_and (is_takeable old.tables target)) taken.stood ∙ next-takeable old.tables target (labelled taken.label (Held taken.frame)) taken.may)

  starts_leave : (block : ℕ) → ticket.block ≡ block → StartsLeave old.tables taken.p (labelled taken.label (Held taken.frame)) taken.frame block counted (reply.Out (record { 0 = ticket.number })) new.tables
  starts_leave block same =
      record {
        ticket = ticket.number;
        ticket_free = taken.begins.ticket_free;
        placed = subst (λ (b : ℕ). Changes old.tables.pages new.tables.pages taken.p (Some (labelled taken.label (Going taken.frame b ticket.number)))) same taken.begins.placed;
        answers = refl;
        state = taken.tables;
      }

  leaves_by : (content : Content) → IsWrittenTo old.tables content taken.label.dirty ticket.block
      → LeavesBy old.tables taken.p (labelled taken.label (Held taken.frame)) content taken.frame counted (reply.Out (record { 0 = ticket.number })) new.tables
  leaves_by Memory free = record { block = ticket.block; block_free = record { in_range = free.in_range; unused = free.unused }; leave = starts_leave ticket.block refl }
  leaves_by (OfFile file q) home =
      subst
      (λ (dirty : Bool). MatchBool dirty
      (StartsLeave old.tables taken.p (labelled taken.label (Held taken.frame)) taken.frame (home_block old.tables.opening.swap old.tables.opening.files file q) counted (reply.Out (record { 0 = ticket.number })) new.tables)
      (Drops old.tables taken.p counted (reply.Out (record { 0 = ticket.number })) new.tables))
      (sym home.0) (starts_leave (home_block old.tables.opening.swap old.tables.opening.files file q) home.1)

  -- the block is free whatever is counted
  written_to : (content : Content) → IsWrittenTo (with_counted old counted).tables content taken.label.dirty ticket.block → IsWrittenTo old.tables content taken.label.dirty ticket.block
  written_to Memory free = record { in_range = free.in_range; unused = free.unused }
  written_to (OfFile file q) home = home

  takes_out : Takes old.tables target (reply.Out (record { 0 = ticket.number })) new.tables
  takes_out =
      record {
        p = taken.p;
        page = labelled taken.label (Held taken.frame);
        there = taken.stood;
        next = taken.may;
        leaves = subst (λ cs. LeavesBy old.tables taken.p (labelled taken.label (Held taken.frame)) taken.label.content taken.frame cs (reply.Out (record { 0 = ticket.number })) new.tables)
            (counts ∙ ap (counted_at_take old.tables target) (sym taken.own)) (leaves_by taken.label.content (written_to taken.label.content taken.block));
      }

  moved : MovesPages old.tables new.tables
  moved = taken.tables ∙ ap (λ (cs : List EventCounts). record old.tables { pages = new.tables.pages; counted = cs }) (sym (ap (λ (s : State). s.counted) taken.tables))

  turn : TakesNext old.tables old.order goal target new.tables new.order
  turn = next-counted old.tables counted old.order goal target new.tables new.order taken.next

  pub makes_step-out : (what : Event) → AsksPage old.tables what target → goal_in what ≡ goal → MakesStep old what (reply.Out (record { 0 = ticket.number })) new
  makes_step-out what asks wants =
      makes_step-taken old new goal target (reply.Out (record { 0 = ticket.number })) taken.p (Some (labelled taken.label (Going taken.frame ticket.block ticket.number))) out-some takes_out
      (λ why same one. rw (same, one) turn) (λ h same one. rw (same, one) turn)
      taken.ages moved taken.begins.placed (λ q k other. taken.bytes q k) refl
      (flights-begun old new taken.p ticket.number Out (reply.Out (record { 0 = ticket.number })) refl taken.begins.listed)
      (holders-beside old new moved taken.p (Some (labelled taken.label (Going taken.frame ticket.block ticket.number))) taken.begins.placed (λ f q. sym (ap (holds_page f q) taken.stood)))
      (λ spot is there. (ap (there_and (λ (page : Page). is_in_memory page.residence)) taken.stood, taken.bytes taken.p (offset_of spot)))
      (ap (there_and is_in_transfer) taken.stood)
      what asks wants

-- it is dropped
module _ (old new : StateOf) (counted : List EventCounts) (goal : Goal) (target g : ℕ) (single : IsSingle old.tables.pages) (taken : DropsClean (with_counted old counted) new goal target g) (counts : counted ≡ counted_at_take old.tables target g) where
  dropped-some : has_takeable old.tables target ≡ true
  dropped-some = any-some (is_takeable old.tables target) old.tables.pages taken.p (ap (there_and (is_takeable old.tables target)) taken.stood ∙ next-takeable old.tables target (labelled (of_file taken.file taken.q taken.g false) (Held taken.frame)) taken.may)

  takes_away : Takes old.tables target reply.Dropped new.tables
  takes_away =
      record {
        p = taken.p;
        page = labelled (of_file taken.file taken.q taken.g false) (Held taken.frame);
        there = taken.stood;
        next = taken.may;
        leaves = record { answers = refl; gone = taken.drops.gone; state = taken.tables ∙ ap (λ (cs : List EventCounts). record old.tables { pages = new.tables.pages; counted = cs }) (counts ∙ ap (counted_at_take old.tables target) (sym taken.own)) };
      }

  gone_pages : MovesPages old.tables new.tables
  gone_pages = taken.tables ∙ ap (λ (cs : List EventCounts). record old.tables { pages = new.tables.pages; counted = cs }) (sym (ap (λ (s : State). s.counted) taken.tables))

  its_turn : TakesNext old.tables old.order goal target new.tables new.order
  its_turn = next-counted old.tables counted old.order goal target new.tables new.order taken.next

  pub makes_step-dropped : (what : Event) → AsksPage old.tables what target → goal_in what ≡ goal → MakesStep old what reply.Dropped new
  makes_step-dropped what asks wants =
      makes_step-taken old new goal target reply.Dropped taken.p None dropped-some takes_away
      (λ why same one. rw (same, one) its_turn) (λ h same one. rw (same, one) its_turn)
      taken.ages gone_pages taken.drops.gone taken.drops.others refl
      (flights-kept old new reply.Dropped taken.drops.flights)
      (holders-gone old new gone_pages taken.p taken.file taken.q (labelled (of_file taken.file taken.q taken.g false) (Held taken.frame)) single taken.drops.gone taken.stood refl)
      (λ spot is there. unlike false there refl)
      (ap (there_and is_in_transfer) taken.stood)
      what asks wants

-- ---- transfers end

-- what is left of a page that nothing maps: as it is, or nothing
left-test : (test : Page → Bool) (tables : PageTables) (p : ℕ) (page : Page) → test page ≡ false → there_and test (or_gone tables p page) ≡ false
left-test test tables p page fails = by_test (is_anon page.content && (mappers tables p == 0))
  where
    by_test : (b : Bool) → there_and test (cond b None (Some page)) ≡ false
    by_test true = refl
    by_test false = fails

left-holds : (tables : PageTables) (p f q : ℕ) (page : Page) → holds_page f q (or_gone tables p page) ≡ is_page_of f q page.content
left-holds tables p f q page = by_content page.content (mappers tables p == 0)
  where
    by_content : (content : Content) (unmapped : Bool) → holds_page f q (cond (is_anon content && unmapped) None (Some (record page { content = content }))) ≡ is_page_of f q content
    by_content Memory true = refl
    by_content Memory false = refl
    by_content (OfFile f' q') unmapped = refl

-- the end of a transfer, whatever it comes to
module _ (old new : StateOf) (p n : ℕ) (direction : Direction) (label : Label) (from : Residence) (to : Option Page) (what : Event) (stood : HasResidence old.tables.pages p label from) (moves : in_transfer_at from ≡ true)
    (rests : there_and is_in_transfer to ≡ false) (ends : Settles old new direction p n to) where
  pub makes_step-end : Step old.tables what reply.Ok new.tables → Orders old.tables old.order what reply.Ok new.tables new.order × AgesByThree old new → ReadsByte old what reply.Ok → ((spot : Spot) → says what reply.Ok spot ≡ Nothing)
      → ((spot : Spot) → KnowsSpot new spot → holder new.tables spot ≡ holder old.tables spot)
      → ((spot : Spot) → holder old.tables spot ≡ Some p → there_and (λ (page : Page). is_in_memory page.residence) to ≡ true
      → Arrives old what spot (byte_in new.bytes p (offset_of spot)) ⊎ ((is_known old.tables.pages p ≡ true) × (byte_in new.bytes p (offset_of spot) ≡ byte_in old.bytes p (offset_of spot))))
      → MakesStep old what reply.Ok new
  makes_step-end steps orders reads silent holders own =
      makes_step-move old new what reply.Ok p to
      (record { tables = moves-pages old.tables new.tables ends.tables; placed = ends.settles.placed; others = ends.settles.others; silent = silent; given = refl; holders = holders; own = own })
      steps orders reads
      (flights-ended old new n reply.Ok ends.settles.unlisted)
      (let less = in_transfer-changes old.tables.pages new.tables.pages p to ends.settles.placed in
      let was : one_if (there_and is_in_transfer (page_at old.tables.pages p)) ≡ 1 = ap (λ (slot : Option Page). one_if (there_and is_in_transfer slot)) stood ∙ ap one_if moves in
      let now : one_if (there_and is_in_transfer to) ≡ 0 = ap one_if rests in
      omega (arith, less, was, now))

-- what a page on its block alone comes to
module _ (old new : StateOf) (p f b n : ℕ) (direction : Direction) (label : Label) (from : Residence) (stood : HasResidence old.tables.pages p label from) (single : IsSingle old.tables.pages)
    (ends : Settles old new direction p n (on_block old.tables.page_tables p (labelled label from) f b)) where
  block-test : (test : Page → Bool) → test (labelled label (Away b)) ≡ false → there_and test (on_block old.tables.page_tables p (labelled label from) f b) ≡ false
  block-test test fails = by_content label.content
    where
      by_content : (content : Content) → there_and test (on_block_of content old.tables.page_tables p (labelled label from) b) ≡ false
      by_content Memory = left-test test old.tables.page_tables p (labelled label (Away b)) fails
      by_content (OfFile file q) = refl

  block-holders : (spot : Spot) → KnowsSpot new spot → holder new.tables spot ≡ holder old.tables spot
  block-holders = by_content label.content refl ends.settles.placed
    where
      by_content : (content : Content) → label.content ≡ content → Changes old.tables.pages new.tables.pages p (on_block_of content old.tables.page_tables p (labelled label from) b)
          → (spot : Spot) → KnowsSpot new spot → holder new.tables spot ≡ holder old.tables spot
      by_content Memory is placed =
          holders-beside old new (moves-pages old.tables new.tables ends.tables) p (or_gone old.tables.page_tables p (labelled label (Away b))) placed
          (λ g q. left-holds old.tables.page_tables p g q (labelled label (Away b)) ∙ sym (ap (holds_page g q) stood))
      by_content (OfFile file q) is placed = holders-gone old new (moves-pages old.tables new.tables ends.tables) p file q (labelled label from) single placed stood is

-- and one in its frame
module _ (old new : StateOf) (p f b n : ℕ) (direction : Direction) (label : Label) (from : Residence) (stood : HasResidence old.tables.pages p label from)
    (ends : Settles old new direction p n (in_frame old.tables.page_tables p (labelled label from) f b)) where
  frame-holders : (spot : Spot) → KnowsSpot new spot → holder new.tables spot ≡ holder old.tables spot
  frame-holders =
      holders-beside old new (moves-pages old.tables new.tables ends.tables) p (in_frame old.tables.page_tables p (labelled label from) f b) ends.settles.placed
      (λ g q. left-holds old.tables.page_tables p g q (labelled label (Held f)) ∙ sym (ap (holds_page g q) stood))

  -- where it is in memory it is there
  frame-there : there_and (λ (page : Page). is_in_memory page.residence) (in_frame old.tables.page_tables p (labelled label from) f b) ≡ true → is_some (page_at new.tables.pages p) ≡ true
  frame-there there = by_slot (in_frame old.tables.page_tables p (labelled label from) f b) ends.settles.placed.changed there
    where
      by_slot : (slot : Option Page) → page_at new.tables.pages p ≡ slot → there_and (λ (page : Page). is_in_memory page.residence) slot ≡ true → is_some (page_at new.tables.pages p) ≡ true
      by_slot None is e = cc
      by_slot (Some page) is e = ap is_some is

-- a page that is being written out is in memory
pub going-known : (pages : Pages) (p f b n : ℕ) (label : Label) → HasResidence pages p label (Going f b n) → is_known pages p ≡ true
going-known pages p f b n label stands = ap (there_and (λ (page : Page). is_in_memory page.residence)) stands

-- what the machine's step says of it
ends-as : (old new : StateOf) (p f b n : ℕ) (direction : Direction) (label : Label) (from : ℕ → ℕ → Residence) (end : PageTables → ℕ → Page → ℕ → ℕ → Option Page) → HasResidence old.tables.pages p label (from f b)
    → Settles old new direction p n (end old.tables.page_tables p (labelled label (from f b)) f b) → EndsTransfer old.tables from end reply.Ok new.tables
ends-as old new p f b n direction label from end stood ends =
    record { p = p; page = labelled label (from f b); frame = f; block = b; there = stood; moves = refl; placed = ends.settles.placed; answers = refl; state = ends.tables }

-- ---- the ends of transfers, as the parts make them

pub makes_step-settled_in : (old new : StateOf) (p f b : ℕ) (label : Label) (ticket : TicketOf) (end : End) → IsSingle old.tables.pages → HasResidence old.tables.pages p label (Coming f b ticket.number)
    → Settles old new In p ticket.number (ended_as end old.tables.page_tables p (labelled label (Coming f b ticket.number)) f b)
    → (end ≡ InFrame → is_some (page_at new.tables.pages p) ≡ true → (k : ℕ) → byte_in new.bytes p k ≡ slice_index ticket.bytes k) → MakesStep old (ended In end ticket) reply.Ok new
makes_step-settled_in old new p f b label ticket InFrame single stood ends own =
    makes_step-end old new p ticket.number In label (Coming f b ticket.number) (in_frame old.tables.page_tables p (labelled label (Coming f b ticket.number)) f b) (event.Arrived (record { 0 = ticket.number }) ticket.bytes) stood refl
    (left-test is_in_transfer old.tables.page_tables p (labelled label (Held f)) refl) ends
    (ends-as old new p f b ticket.number In label (λ f b. Coming f b ticket.number) in_frame stood ends)
    (order-on (entry_after old.tables.opening.placement In) old old.order.held new refl ends.held ends.cursors) tt (λ spot. refl)
    (frame-holders old new p f b ticket.number In label (Coming f b ticket.number) stood ends)
    (λ spot is there. inl (p, label, f, b, is, stood, own refl (frame-there old new p f b ticket.number In label (Coming f b ticket.number) stood ends there) (offset_of spot)))
makes_step-settled_in old new p f b label ticket OnBlock single stood ends own =
    makes_step-end old new p ticket.number In label (Coming f b ticket.number) (on_block old.tables.page_tables p (labelled label (Coming f b ticket.number)) f b) (event.FetchFailed (record { 0 = ticket.number })) stood refl
    (block-test old new p f b ticket.number In label (Coming f b ticket.number) stood single ends is_in_transfer refl) ends
    (ends-as old new p f b ticket.number In label (λ f b. Coming f b ticket.number) on_block stood ends)
    (order-on (entry_after old.tables.opening.placement In) old old.order.held new refl ends.held ends.cursors) tt (λ spot. refl)
    (block-holders old new p f b ticket.number In label (Coming f b ticket.number) stood single ends)
    (λ spot is there. unlike _ there (block-test old new p f b ticket.number In label (Coming f b ticket.number) stood single ends (λ (page : Page). is_in_memory page.residence) refl))

pub makes_step-settled_out : (old new : StateOf) (p f b : ℕ) (label : Label) (ticket : TicketOf) (end : End) → IsSingle old.tables.pages → HasResidence old.tables.pages p label (Going f b ticket.number)
    → Settles old new Out p ticket.number (ended_as end old.tables.page_tables p (labelled label (Going f b ticket.number)) f b)
    → (end ≡ InFrame → is_some (page_at new.tables.pages p) ≡ true → (k : ℕ) → byte_in new.bytes p k ≡ byte_in old.bytes p k) → MakesStep old (ended Out end ticket) reply.Ok new
makes_step-settled_out old new p f b label ticket InFrame single stood ends own =
    makes_step-end old new p ticket.number Out label (Going f b ticket.number) (in_frame old.tables.page_tables p (labelled label (Going f b ticket.number)) f b) (event.LeaveFailed (record { 0 = ticket.number })) stood refl
    (left-test is_in_transfer old.tables.page_tables p (labelled label (Held f)) refl) ends
    (ends-as old new p f b ticket.number Out label (λ f b. Going f b ticket.number) in_frame stood ends)
    (order-on (entry_after old.tables.opening.placement Out) old old.order.held new refl ends.held ends.cursors) tt (λ spot. refl)
    (frame-holders old new p f b ticket.number Out label (Going f b ticket.number) stood ends)
    (λ spot is there. inr (going-known old.tables.pages p f b ticket.number label stood, own refl (frame-there old new p f b ticket.number Out label (Going f b ticket.number) stood ends there) (offset_of spot)))
makes_step-settled_out old new p f b label ticket OnBlock single stood ends own =
    makes_step-end old new p ticket.number Out label (Going f b ticket.number) (on_block old.tables.page_tables p (labelled label (Going f b ticket.number)) f b) (event.Left (record { 0 = ticket.number })) stood refl
    (block-test old new p f b ticket.number Out label (Going f b ticket.number) stood single ends is_in_transfer refl) ends
    (ends-as old new p f b ticket.number Out label (λ f b. Going f b ticket.number) on_block stood ends)
    (order-on (entry_after old.tables.opening.placement Out) old old.order.held new refl ends.held ends.cursors) tt (λ spot. refl)
    (block-holders old new p f b ticket.number Out label (Going f b ticket.number) stood single ends)
    (λ spot is there. unlike _ there (block-test old new p f b ticket.number Out label (Going f b ticket.number) stood single ends (λ (page : Page). is_in_memory page.residence) refl))
