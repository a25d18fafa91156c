-- What each change of the parts is to the plain machine: changes that move no page.
use Rattle.std.proofs.Common.{◌≡◌, ◌⊎◌, inr, ℕ, zero, suc, ◌<◌, ◌≤◌, ◌&&◌, Bool, true, false, cond, List, [], ◌∷◌, ◌++◌, Option, Some, None, refl, sym, ap, subst, ◌∙◌, arith}
use Rattle.std.specs.Prelude.{IfSome, nat_lt, slice_index}
use Rattle.machine.specs.declared.record.Key.TheVariants as key
use Rattle.machine.specs.declared.record.Life.{Life}
use Rattle.machine.specs.declared.record.Life.TheVariants.{Live, Exited, Killed}
use Rattle.machine.specs.declared.record.Task.{Task}
use Rattle.machine.specs.declared.event.Place.{Place}
use Rattle.machine.specs.declared.event.Place.TheVariants.{Virtual, File}
use Rattle.machine.specs.declared.event.Op.{Op}
use Rattle.machine.specs.declared.event.Op.TheVariants.{Read, Write}
use Rattle.machine.specs.declared.event.Cause.{Cause}
use Rattle.machine.specs.declared.event.Setting.{Setting}
use Rattle.machine.specs.declared.event.Query.{Query}
use Rattle.machine.specs.declared.event.Event.{Event}
use Rattle.machine.specs.declared.event.Event.TheVariants as event
use Rattle.machine.specs.declared.reply.Shown.{Shown}
use Rattle.machine.specs.declared.reply.Reply.{Reply}
use Rattle.machine.specs.declared.reply.Reply.TheVariants as reply
use Rattle.machine.specs.Slots.{at, there_and}
use Rattle.machine.specs.Pages.{Held, Page, Pages, file_page, is_held_in, in_transfer}
use Rattle.machine.specs.Counts.{no_limits, no_counts, with_event}
use Rattle.machine.specs.Tasks.{Tasks, PageTables, task_at, lives, mapped_at}
use Rattle.machine.specs.State.{State, Opening}
use Rattle.machine.specs.Access.{Meeting, Hits, page_size, meets, Unmapped, NeedsPage, NeedsCopy, NeedsSwapIn, NeedsRead, task_pages, is_place, charged_from_swap, charges, Transferring}
use Rattle.machine.specs.Call.{fetches, need}
use Rattle.machine.specs.Reclaim.{stands, target_of, has_takeable, has_transfer}
use Rattle.machine.specs.Generations.{Gens, new_gens, gens_at}
use Rattle.machine.specs.Lists.{HeldLists, Order, ListsHeld, Generation, Youngest, GoesOn, AddsLists, Orders}
use Rattle.machine.specs.Victim.{IsVictim}
use Rattle.machine.specs.Step.{Step, ChargeStep, MeetStep, TaskStep, LifeStep, RelieveStep, ReclaimOneStep, KillStep, new_node, with_setting, shown_of, TriesCharge, MakesPage, StartsFetch, ReadsFile, ReclaimStep}
use Rattle.machine.specs.History.{Spot, InTask, InFile, spot_of, Says, Nothing, says, ticket_given}
use Rattle.pages.specs.PagesOf.{labelled, byte_in, moving}
use Rattle.pages.specs.declared.flight.Flight.{Flight}
use Rattle.page_state.specs.States.{StateOf, byte_shown}
use Rattle.book_events.specs.Spots.{offset_of, holder, IsThere}
use Rattle.book.specs.Effects.{byte_at_spot, is_in_memory, is_known, knows, KnowsSpot, ReadsByte, WasByte, IsSaid, Follows, KeepsFlights}
use Rattle.book.specs.MakesStep.{AgesByThree, MakesStep, is_refused}
use Rattle.page_lists.proofs.HeldChanges.{goes-on-same}
use Rattle.page_lists.proofs.HeldLemmas.{goes-still, goes-max}
use Rattle.machine.specs.declared.record.Key.{Key}
use Rattle.book.specs.declared.decision.PageFault.{PageFault}
use Rattle.book.specs.Decisions.{spot_at, offset_at, IsFault, Finds, met_by, HasLife, IsOfKilled, AsksPage, FindsNothing}
use Rattle.page_state.specs.Changes.{counts_event}
use Rattle.machine.proofs.Values.{some_inj}
use Rattle.std.proofs.lemmas.Bool.{and_parts}
use Rattle.std.proofs.lemmas.Bool.Decides.{nat_tests}
use Rattle.machine.specs.declared.record.Limits.{Limits}
use Rattle.machine.specs.declared.record.OomGroup.{OomGroup}
use Rattle.machine.specs.declared.record.OomGroup.TheVariants.{Single}
use Rattle.legal.proofs.Did.{setting-is}
use Rattle.machine.specs.declared.record.EventCounts.{EventCounts}
use Rattle.machine.specs.Tree.{Node}

-- ---- where nothing changes that an event may tell of

-- the pages with their bytes and transfers, the tasks and what they map are as they were
pub record IsStill (old new : StateOf) : Type 0 where
  pub pages : new.tables.pages ≡ old.tables.pages
  pub tasks : new.tables.tasks ≡ old.tables.tasks
  pub page_tables : new.tables.page_tables ≡ old.tables.page_tables
  pub bytes : new.bytes ≡ old.bytes
  pub flights : new.flights ≡ old.flights
  pub opening : new.tables.opening ≡ old.tables.opening

-- the event with its reply says nothing of a byte, and is no refusal
pub record IsQuiet (what : Event) (answer : Reply) : Type 0 where
  pub says : (spot : Spot) → says what answer spot ≡ Nothing
  pub given : is_refused answer ≡ false

-- the reply gives a byte
abbrev pub is_done : Reply → Bool
is_done (reply.Done byte hit) = true
is_done answer = false

pub still-self : (s : StateOf) → IsStill s s
still-self s = record { pages = refl; tasks = refl; page_tables = refl; bytes = refl; flights = refl; opening = refl }

-- groups come or go, and their limits, flags and counts change
still-groups : (old new : StateOf) (tree : List Node) (limits : List Limits) (flags : List OomGroup) (counted : List EventCounts) → new.tables ≡ record old.tables { tree = tree; limits = limits; flags = flags; counted = counted } → new.bytes ≡ old.bytes → new.flights ≡ old.flights → IsStill old new
still-groups old new tree limits flags counted tables bytes flights =
    record {
      pages = ap (λ (s : State). s.pages) tables;
      tasks = ap (λ (s : State). s.tasks) tables;
      page_tables = ap (λ (s : State). s.page_tables) tables;
      bytes = bytes;
      flights = flights;
      opening = ap (λ (s : State). s.opening) tables;
    }

pub still-counts : (old new : StateOf) (g : ℕ) (key : Key) → new ≡ counts_event old g key → IsStill old new
still-counts old new g key counts = still-groups old new _ _ _ _ (ap (λ (s : StateOf). s.tables) counts) (ap (λ (s : StateOf). s.bytes) counts) (ap (λ (s : StateOf). s.flights) counts)

-- ---- the order

-- each page that is held stands in its list, and no other
abbrev pub InOrder : StateOf → Type 0
InOrder s = ListsHeld s.tables.pages s.order.held

-- the lists go on, no cursor moves, and no group ages by more than three generations
abbrev pub GoesOnIn : Generation → StateOf → HeldLists → StateOf → Type 0
GoesOnIn generation old held new = (GoesOn generation old.tables.pages held new.tables.pages new.order.held × (new.order.cursors ≡ old.order.cursors)) × AgesByThree old new

-- lists that go on have the generations that they had
pub order-on : (generation : Generation) (old : StateOf) (held : HeldLists) (new : StateOf) → held.groups ≡ old.order.held.groups → GoesOn generation old.tables.pages held new.tables.pages new.order.held → new.order.cursors ≡ old.order.cursors
    → GoesOnIn generation old held new
order-on generation old held new same goes cursors = (
  (goes, cursors),
  λ g.
      (let on = goes-max generation old.tables.pages new.tables.pages held new.order.held goes g in
      let were : (gens_at held.groups g).max_seq ≡ (gens_at old.order.held.groups g).max_seq = ap (λ (groups : List Gens). (gens_at groups g).max_seq) same in
      omega (arith, on, were)),
)

-- where no page and no cursor changes
pub order-still : (old new : StateOf) → InOrder old → new.tables.pages ≡ old.tables.pages → new.order ≡ old.order → GoesOnIn Youngest old old.order.held new
order-still old new listed pages order =
    order-on Youngest old old.order.held new refl
    (subst (λ (held : HeldLists). GoesOn Youngest old.tables.pages old.order.held new.tables.pages held) (sym (ap (λ (o : Order). o.held) order)) (goes-still Youngest old.tables.pages new.tables.pages old.order.held listed pages))
    (ap (λ (o : Order). o.cursors) order)

-- where each page that is held is held still
pub order-written : (old new : StateOf) → InOrder old → ((q : ℕ) → is_held_in new.tables.pages q ≡ is_held_in old.tables.pages q) → new.order ≡ old.order → GoesOnIn Youngest old old.order.held new
order-written old new listed same order =
    order-on Youngest old old.order.held new refl
    (subst (λ (lists : HeldLists). GoesOn Youngest old.tables.pages old.order.held new.tables.pages lists) (sym (ap (λ (o : Order). o.held) order))
    (goes-on-same Youngest old.tables.pages new.tables.pages old.order.held listed same))
    (ap (λ (o : Order). o.cursors) order)

-- a group that comes begins as what is no group's
begins-new : (groups : List Gens) (g : ℕ) → gens_at (groups ++ new_gens ∷ []) g ≡ gens_at groups g
begins-new [] zero = refl
begins-new [] (suc g) = refl
begins-new (gens ∷ groups) zero = refl
begins-new (gens ∷ groups) (suc g) = begins-new groups g

-- where a group comes, with no page
pub order-more : (old new : StateOf) → AddsLists old.order new.order → AddsLists old.order new.order × AgesByThree old new
order-more old new adds = (
  adds,
  λ g.
      (let more : (gens_at new.order.held.groups g).max_seq ≡ (gens_at old.order.held.groups g).max_seq =
      ap (λ (o : Order). (gens_at o.held.groups g).max_seq) adds ∙ ap (λ (x : Gens). x.max_seq) (begins-new old.order.held.groups g) in
      omega (arith, more)),
)

-- ---- bytes

-- a byte of which nothing is said, and which was in memory
pub was : (old : StateOf) (what : Event) (answer : Reply) (spot : Spot) (byte : ℕ) → says what answer spot ≡ Nothing → WasByte old spot byte → Follows old what answer spot byte
was old what answer spot byte quiet h = subst (λ (said : Says). IsSaid old said spot byte) (sym quiet) h

-- with the same tasks the same bytes are there
pub there-same : (old new : State) (spot : Spot) → new.tasks ≡ old.tasks → IsThere new spot → IsThere old spot
there-same old new (InTask t v o) same there = sym (ap (λ (ts : Tasks). lives ts t) same) ∙ there
there-same old new (InFile f q o) same there = tt

-- a byte is had by the same page where each place shows what it did, and each page of a file is found where it was
pub holder-same : (old new : State) (spot : Spot) → ((t v : ℕ) → mapped_at new.page_tables t v ≡ mapped_at old.page_tables t v) → ((f q : ℕ) → file_page new.pages f q ≡ file_page old.pages f q) → holder new spot ≡ holder old spot
holder-same old new (InTask t v o) places files = places t v
holder-same old new (InFile f q o) places files = files f q

-- a page in a frame is in memory
pub held-known : (pages : Pages) (p : ℕ) → is_held_in pages p ≡ true → is_known pages p ≡ true
held-known pages p held = grind (arith, held)

-- what no page has is known by its place alone
knows-none : (c d : StateOf) (spot : Spot) → knows c spot None ≡ true → knows d spot None ≡ true
knows-none c d (InTask t v o) known = refl
knows-none c d (InFile f q o) known = cc

-- a byte that a page has is known where the page is in memory
pub knows-some : (c : StateOf) (spot : Spot) (p : ℕ) → holder c.tables spot ≡ Some p → is_known c.tables.pages p ≡ true → knows c spot (holder c.tables spot) ≡ true
knows-some c spot p is known = ap (knows c spot) is ∙ known

-- a byte of the same page, which was in memory too, with the same bytes
pub spot-was : (old new : StateOf) (spot from : Spot) → IsThere old.tables from → offset_of from ≡ offset_of spot → ((c : StateOf) → knows c spot None ≡ true → knows c from None ≡ true) → holder new.tables spot ≡ holder old.tables from
    → ((p : ℕ) → holder old.tables from ≡ Some p → is_known new.tables.pages p ≡ true → (is_known old.tables.pages p ≡ true) × (byte_in new.bytes p (offset_of spot) ≡ byte_in old.bytes p (offset_of spot)))
    → KnowsSpot new spot → WasByte old from (byte_at_spot new spot)
spot-was old new spot from there offset none same kept known = by_holder (holder old.tables from) refl
  where
    by_holder : (m : Option ℕ) → holder old.tables from ≡ m → WasByte old from (byte_at_spot new spot)
    by_holder None is = (
      there,
      (ap (knows old from) is ∙ knows-none new old from (none new (sym (ap (knows new spot) (same ∙ is)) ∙ known.0)), subst (λ (o : ℕ). o < page_size) (sym offset) known.1),
      ap (λ (m : Option ℕ). byte_shown new.bytes m (offset_of spot)) (same ∙ is) ∙ sym (ap (λ (m : Option ℕ). byte_shown old.bytes m (offset_of from)) is),
    )
    by_holder (Some p) is =
        let ok = kept p is (sym (ap (knows new spot) (same ∙ is)) ∙ known.0) in (
          there,
          (knows-some old from p is ok.0, subst (λ (o : ℕ). o < page_size) (sym offset) known.1),
          ap (λ (m : Option ℕ). byte_shown new.bytes m (offset_of spot)) (same ∙ is) ∙ ok.1 ∙ ap (λ (o : ℕ). byte_in old.bytes p o) (sym offset) ∙ sym (ap (λ (m : Option ℕ). byte_shown old.bytes m (offset_of from)) is),
        )

-- the same byte, of the same page
pub stays-was : (old new : StateOf) (spot : Spot) → IsThere old.tables spot → holder new.tables spot ≡ holder old.tables spot
    → ((p : ℕ) → holder old.tables spot ≡ Some p → is_known new.tables.pages p ≡ true → (is_known old.tables.pages p ≡ true) × (byte_in new.bytes p (offset_of spot) ≡ byte_in old.bytes p (offset_of spot)))
    → KnowsSpot new spot → WasByte old spot (byte_at_spot new spot)
stays-was old new spot there same kept known = spot-was old new spot spot there refl (λ c is. is) same kept known

-- a byte where all pages, places and bytes are what they were
pub still-was : (old new : StateOf) (spot : Spot) → IsThere old.tables spot → new.tables.pages ≡ old.tables.pages → new.tables.page_tables ≡ old.tables.page_tables → new.bytes ≡ old.bytes → KnowsSpot new spot → WasByte old spot (byte_at_spot new spot)
still-was old new spot there pages tables bytes known =
    stays-was old new spot there
    (holder-same old.tables new.tables spot (λ t v. ap (λ (ts : PageTables). mapped_at ts t v) tables) (λ f q. ap (λ (ps : Pages). file_page ps f q) pages))
    (λ p is now. (sym (ap (λ (ps : Pages). is_known ps p) pages) ∙ now, ap (λ (bs : List (Option (List ℕ))). byte_in bs p (offset_of spot)) bytes))
    known

-- ---- an event after which all is still

-- a transfer that was in flight
pub flight-kept : (answer : Reply) (n : ℕ) (slot before : Option Flight) → slot ≡ before → IfSome slot (λ f. (ticket_given answer ≡ Some n) ⊎ (before ≡ Some f))
flight-kept answer n None before e = tt
flight-kept answer n (Some f) before e = inr (sym e)

pub flights-kept : (old new : StateOf) (answer : Reply) → new.flights ≡ old.flights → KeepsFlights old answer new
flights-kept old new answer same n = flight-kept answer n (at new.flights n) (at old.flights n) (ap (λ (fs : List (Option Flight)). at fs n) same)

-- where no transfer begins or ends, and each byte is what the event says of it
pub makes_step-alike : (old new : StateOf) (what : Event) (answer : Reply) → Step old.tables what answer new.tables → Orders old.tables old.order what answer new.tables new.order × AgesByThree old new → ReadsByte old what answer
    → ((spot : Spot) → IsThere new.tables spot → KnowsSpot new spot → Follows old what answer spot (byte_at_spot new spot)) → new.flights ≡ old.flights → in_transfer new.tables.pages ≡ in_transfer old.tables.pages → 1 ≤ need old.tables what
    → is_refused answer ≡ false → new.tables.opening ≡ old.tables.opening → MakesStep old what answer new
makes_step-alike old new what answer steps orders reads bytes flights moving needs given opening =
    record {
      steps = steps;
      orders = orders.0;
      ages = orders.1;
      reads = reads;
      bytes = λ spot there known. inr (bytes spot there known);
      flights = flights-kept old new answer flights;
      kept = omega (arith, moving, needs);
      given = given;
      opening = opening;
    }

pub makes_step-still : (old new : StateOf) (what : Event) (answer : Reply) → IsStill old new → IsQuiet what answer
    → Step old.tables what answer new.tables → Orders old.tables old.order what answer new.tables new.order × AgesByThree old new → ReadsByte old what answer → 1 ≤ need old.tables what → MakesStep old what answer new
makes_step-still old new what answer still quiet steps orders reads needs =
    makes_step-alike old new what answer steps orders reads
    (λ spot there known. was old what answer spot (byte_at_spot new spot) (quiet.says spot) (still-was old new spot (there-same old.tables new.tables spot still.tasks there) still.pages still.page_tables still.bytes known))
    still.flights (ap in_transfer still.pages) needs quiet.given still.opening

-- ---- how many entries an event needs

one_or_two : (b : Bool) → 1 ≤ cond b 2 1
one_or_two b = grind arith

pub access-needs : (s : State) (t : ℕ) (place : Place) (op : Op) → 1 ≤ need s (event.Access (record { 0 = t }) place op)
access-needs s t place op = one_or_two (fetches s t place op)

pub relief-needs : (s : State) (why : Cause) → 1 ≤ need s (event.Relieve why)
relief-needs s why = one_or_two (stands s why && has_takeable s (target_of why))

-- ---- one row of the step at a time

pub live_step : (s : State) (slot : Option Task) (task : Task) (F : Task → Type 0) (answer : Reply) (new : State) → slot ≡ Some task → task.life ≡ Live → F task → TaskStep s slot F answer new
live_step s slot task F answer new is living h = rw is (by_life task.life living)
  where
    by_life : (life : Life) → life ≡ Live → LifeStep s life (F task) answer new
    by_life Live e = h
    by_life Exited e = cc
    by_life Killed e = cc

pub killed_step : (s : State) (t : ℕ) (F : Task → Type 0) → HasLife s t Killed → TaskStep s (task_at s.tasks t) F reply.Killed s
killed_step s t F life = rw life.1 (refl, refl)

pub granted_step : (s : State) (over : Option ℕ) (free : Bool) (Granted : Type 0) (answer : Reply) (new : State) → over ≡ None → free ≡ true → Granted → ChargeStep s over free Granted answer new
granted_step s over free Granted answer new none is h = rw none (rw is h)

pub over_step : (s : State) (over : Option ℕ) (free : Bool) (Granted : Type 0) (a : ℕ) → over ≡ Some a
    → ChargeStep s over free Granted (reply.Over (record { 0 = a })) (record s { counted = with_event s.counted a key.Max })
over_step s over free Granted a is = rw is (refl, refl)

pub frameless_step : (s : State) (over : Option ℕ) (free : Bool) (Granted : Type 0) → over ≡ None → free ≡ false → ChargeStep s over free Granted reply.NoFrame s
frameless_step s over free Granted none is = rw none (rw is (refl, refl))

-- ---- groups

pub makes_step-mkdir : (old new : StateOf) (path : List ℕ)
    → new.tables ≡ record old.tables { tree = old.tables.tree ++ new_node old.tables.tree path ∷ []; limits = old.tables.limits ++ no_limits ∷ []; flags = old.tables.flags ++ Single ∷ []; counted = old.tables.counted ++ no_counts ∷ [] } → new.bytes ≡ old.bytes → new.flights ≡ old.flights
    → AddsLists old.order new.order → MakesStep old (event.Mkdir path) reply.Ok new
makes_step-mkdir old new path tables bytes flights adds =
    makes_step-still old new (event.Mkdir path) reply.Ok
    (still-groups old new _ _ _ _ tables bytes flights) (record { says = λ spot. refl; given = refl }) tables (order-more old new adds) tt (omega arith)

pub makes_step-set : (old new : StateOf) (g : ℕ) (setting : Setting) → new.tables ≡ with_setting old.tables g setting → new.bytes ≡ old.bytes → new.flights ≡ old.flights → InOrder old → new.order ≡ old.order
    → MakesStep old (event.Set (record { 0 = g }) setting) reply.Ok new
makes_step-set old new g setting tables bytes flights listed order =
    let is = tables ∙ setting-is old.tables g setting in
    makes_step-still old new (event.Set (record { 0 = g }) setting) reply.Ok
    (still-groups old new _ _ _ _ is bytes flights) (record { says = λ spot. refl; given = refl }) tables (order-still old new listed (ap (λ (s : State). s.pages) is) order) tt (omega arith)

pub makes_step-show : (s : StateOf) (what : Query) (numbers : Shown) → InOrder s → numbers ≡ shown_of s.tables what
    → MakesStep s (event.Show what) (reply.Shown numbers) s
makes_step-show s what numbers listed is =
    makes_step-still s s (event.Show what) (reply.Shown numbers) (still-self s) (record { says = λ spot. refl; given = refl })
    (is, refl) (order-still s s listed refl refl) tt (omega arith)

-- ---- accesses

-- an access that is not done says nothing of a byte, and reads none
pub quiet-access : (t : ℕ) (place : Place) (op : Op) (answer : Reply) → is_done answer ≡ false → is_refused answer ≡ false → IsQuiet (event.Access (record { 0 = t }) place op) answer
quiet-access t place Read answer undone given = record { says = λ spot. refl; given = given }
quiet-access t place (Write b) (reply.Done byte hit) undone given = cc
quiet-access t place (Write b) other undone given = record { says = λ spot. refl; given = given }

pub reads-access : (s : StateOf) (t : ℕ) (place : Place) (op : Op) (answer : Reply) → is_done answer ≡ false → ReadsByte s (event.Access (record { 0 = t }) place op) answer
reads-access s t place Read (reply.Done byte hit) undone = cc
reads-access s t place Read other undone = tt
reads-access s t place (Write b) answer undone = tt

-- nor does it move a page, where none begins to be read in
pub makes_step-undone : (old new : StateOf) (t : ℕ) (place : Place) (op : Op) (answer : Reply) → is_done answer ≡ false → is_refused answer ≡ false → IsStill old new
    → Step old.tables (event.Access (record { 0 = t }) place op) answer new.tables → InOrder old → new.order ≡ old.order → MakesStep old (event.Access (record { 0 = t }) place op) answer new
makes_step-undone old new t place op answer undone given still steps listed order =
    makes_step-still old new (event.Access (record { 0 = t }) place op) answer still (quiet-access t place op answer undone given)
    steps (order-still old new listed still.pages order) (reads-access old t place op answer undone) (access-needs old.tables t place op)

-- what a live task meets is answered so
pub met_step : (old : State) (fault : PageFault) (met : Meeting) (answer : Reply) (new : State) → IsFault old fault → met_by old fault ≡ met → MeetStep old fault.task.0 fault.group.0 fault.op met answer new
    → Step old (event.Access fault.task fault.place fault.op) answer new
met_step old fault met answer new is meeting step =
    live_step old _ _ _ _ _ is.known refl (subst (λ (m : Meeting). MeetStep old fault.task.0 fault.group.0 fault.op m answer new) (sym meeting) step)

place-within : (opening : Opening) (t : ℕ) (place : Place) → is_place opening place ≡ true → offset_of (spot_of t place) < page_size
place-within opening t (Virtual v o) there = let within = (and_parts (nat_lt v task_pages) (nat_lt o page_size) there).1 in grind (arith, nat_tests, within)
place-within opening t (File file q o) there = let within = (and_parts (nat_lt q (slice_index opening.files file)) (nat_lt o page_size) there).1 in grind (arith, nat_tests, within)

pub fault-within : (s : State) (fault : PageFault) → IsFault s fault → offset_at fault < page_size
fault-within s fault is = place-within s.opening fault.task.0 fault.place is.there

-- a page in transfer is waited for
pub makes_step-busy : (s : StateOf) (fault : PageFault) → IsFault s.tables fault → met_by s.tables fault ≡ Transferring → InOrder s → MakesStep s (event.Access fault.task fault.place fault.op) reply.Busy s
makes_step-busy s fault is meeting listed =
    makes_step-undone s s fault.task.0 fault.place fault.op reply.Busy refl refl (still-self s) (met_step s.tables fault _ _ _ is meeting (refl, refl)) listed refl

-- memory that was never written is zeros
unmapped : (s : State) (t : ℕ) (place : Place) (op : Op) → meets s t place op ≡ Unmapped → holder s (spot_of t place) ≡ None → (op ≡ Read) × ((c : StateOf) → knows c (spot_of t place) None ≡ true)
unmapped s t (Virtual v o) Read meeting none = (refl, λ c. refl)
unmapped s t (Virtual v o) (Write b) meeting none = let other = rw none at meeting in cc
unmapped s t (File f q o) op meeting none = let other = rw none at meeting in cc

pub makes_step-unmapped : (s : StateOf) (fault : PageFault) → IsFault s.tables fault → met_by s.tables fault ≡ Unmapped → holder s.tables (spot_at fault) ≡ None → InOrder s
    → MakesStep s (event.Access fault.task fault.place fault.op) (reply.Done 0 None) s
makes_step-unmapped s fault is meeting none listed =
    let read = unmapped s.tables fault.task.0 fault.place fault.op meeting none in
    makes_step-still s s (event.Access fault.task fault.place fault.op) (reply.Done 0 None) (still-self s) (record { says = λ spot. rw read.0 refl; given = refl })
    (met_step s.tables fault _ _ _ is meeting (refl, refl)) (order-still s s listed refl refl)
    (rw read.0 (sym (ap (λ m. byte_shown s.bytes m (offset_at fault)) none), (ap (knows s (spot_at fault)) none ∙ read.1 s, fault-within s.tables fault is))) (access-needs s.tables fault.task.0 fault.place fault.op)

pub makes_step-hit_read : (s : StateOf) (fault : PageFault) (p f : ℕ) → IsFault s.tables fault → (finds : Finds s.tables fault p (Held f)) → met_by s.tables fault ≡ Hits p (labelled finds.label (Held f)) f → fault.op ≡ Read → InOrder s
    → MakesStep s (event.Access fault.task fault.place fault.op) (reply.Done (byte_in s.bytes p (offset_at fault)) (Some (record { 0 = f }))) s
makes_step-hit_read s fault p f is finds meeting read listed =
    makes_step-still s s (event.Access fault.task fault.place fault.op) (reply.Done (byte_in s.bytes p (offset_at fault)) (Some (record { 0 = f }))) (still-self s) (record { says = λ spot. rw read refl; given = refl })
    (met_step s.tables fault _ _ _ is meeting (rw read (refl, refl))) (order-still s s listed refl refl)
    (rw read (sym (ap (λ m. byte_shown s.bytes m (offset_at fault)) finds.found), (knows-some s (spot_at fault) p finds.found (ap (there_and (λ (page : Page). is_in_memory page.residence)) finds.stands), fault-within s.tables fault is))) (access-needs s.tables fault.task.0 fault.place fault.op)

-- what needs a charge tries it
pub tries_charge : (s : State) (t g h : ℕ) (op : Op) (met : Meeting) (answer : Reply) (new : State) → charges s.opening.placement met g ≡ Some h → ((Granted : Type 0) → TriesCharge s h Granted answer new) → MeetStep s t g op met answer new
tries_charge s t g h op (NeedsPage v) answer new needs tries = subst (λ (x : ℕ). TriesCharge s x (MakesPage s t v g op answer new) answer new) (sym (some_inj needs)) (tries _)
tries_charge s t g h op (NeedsCopy v) answer new needs tries = subst (λ (x : ℕ). TriesCharge s x (MakesPage s t v g op answer new) answer new) (sym (some_inj needs)) (tries _)
tries_charge s t g h op (NeedsSwapIn p page block) answer new needs tries =
    subst (λ (x : ℕ). TriesCharge s x (StartsFetch s p (charged_from_swap s.opening.placement page.group g) page.content block answer new) answer new) (sym (some_inj needs)) (tries _)
tries_charge s t g h op (NeedsRead file q) answer new needs tries = subst (λ (x : ℕ). TriesCharge s x (ReadsFile s file q g answer new) answer new) (sym (some_inj needs)) (tries _)
tries_charge s t g h op other answer new needs tries = cc

-- ---- reclaim

-- an event that asks for a page of the target is a reclaim of it, whatever follows where there is nothing
pub asks_step : (s : State) (what : Event) (target : ℕ) (answer : Reply) (new : State) → AsksPage s what target → ((Idle : Type 0) → ReclaimStep s target Idle answer new) → Step s what answer new
asks_step s (event.Relieve why) target answer new asks reclaims = rw asks.0 (subst (λ (t : ℕ). ReclaimStep s t (KillStep s t answer new) answer new) (sym asks.1) (reclaims _))
asks_step s (event.ReclaimOne g) target answer new asks reclaims = subst (λ (t : ℕ). ReclaimOneStep s t answer new) (sym asks) (reclaims _)
asks_step s other target answer new asks reclaims = absurd asks

pub asks-need : (s : State) (what : Event) (target : ℕ) (some : Bool) → AsksPage s what target → has_takeable s target ≡ some → need s what ≡ cond some 2 1
asks-need s (event.Relieve why) target some asks found = rw asks.0 (ap (λ (b : Bool). cond b 2 1) (ap (has_takeable s) asks.1 ∙ found))
asks-need s (event.ReclaimOne g) target some asks found = ap (λ (b : Bool). cond b 2 1) (ap (has_takeable s) asks ∙ found)
asks-need s other target some asks found = absurd asks

pub makes_step-room : (s : StateOf) (why : Cause) → stands s.tables why ≡ false → InOrder s → MakesStep s (event.Relieve why) reply.Room s
makes_step-room s why met listed =
    makes_step-still s s (event.Relieve why) reply.Room (still-self s) (record { says = λ spot. refl; given = refl }) (rw met (refl, refl)) (order-still s s listed refl refl) tt (relief-needs s.tables why)

pub makes_step-wait : (s : StateOf) (what : Event) (target : ℕ) → AsksPage s.tables what target → has_takeable s.tables target ≡ false → has_transfer s.tables target ≡ true → InOrder s → MakesStep s what reply.Wait s
makes_step-wait s (event.Relieve why) target asks none moving listed =
    makes_step-still s s (event.Relieve why) reply.Wait (still-self s) (record { says = λ spot. refl; given = refl })
    (asks_step s.tables (event.Relieve why) target _ _ asks (λ Idle. rw none (rw moving (refl, refl)))) (order-still s s listed refl refl) tt (relief-needs s.tables why)
makes_step-wait s (event.ReclaimOne g) target asks none moving listed =
    makes_step-still s s (event.ReclaimOne g) reply.Wait (still-self s) (record { says = λ spot. refl; given = refl })
    (asks_step s.tables (event.ReclaimOne g) target _ _ asks (λ Idle. rw none (rw moving (refl, refl)))) (order-still s s listed refl refl) tt (one_or_two (has_takeable s.tables g.0))
makes_step-wait s other target asks none moving listed = absurd asks

pub makes_step-nothing : (s : StateOf) (what : Event) → FindsNothing s.tables what → InOrder s → MakesStep s what reply.Nothing s
makes_step-nothing s (event.ReclaimOne g) idle listed =
    makes_step-still s s (event.ReclaimOne g) reply.Nothing (still-self s) (record { says = λ spot. refl; given = refl }) (rw idle.untakeable (rw idle.settled (refl, refl))) (order-still s s listed refl refl) tt
    (one_or_two (has_takeable s.tables g.0))
makes_step-nothing s other idle listed = absurd idle

-- relief that is wanted, with nothing to reclaim
pub relieve_step : (s : State) (why : Cause) (answer : Reply) (new : State) → stands s why ≡ true → has_takeable s (target_of why) ≡ false → has_transfer s (target_of why) ≡ false
    → KillStep s (target_of why) answer new → RelieveStep s why answer new
relieve_step s why answer new wants untakeable settled kill = rw wants (rw untakeable (rw settled kill))

pub makes_step-no_victim : (old new : StateOf) (why : Cause) → stands old.tables why ≡ true → has_takeable old.tables (target_of why) ≡ false → has_transfer old.tables (target_of why) ≡ false
    → IsVictim old.tables.tree old.tables.tasks old.tables.page_tables (target_of why) None → new ≡ counts_event old (target_of why) key.Oom → InOrder old → MakesStep old (event.Relieve why) reply.NoVictim new
makes_step-no_victim old new why wants untakeable settled nobody counts listed =
    makes_step-still old new (event.Relieve why) reply.NoVictim (still-counts old new (target_of why) key.Oom counts) (record { says = λ spot. refl; given = refl })
    (relieve_step old.tables why reply.NoVictim _ wants untakeable settled (nobody, ap (λ (s : StateOf). s.tables) counts))
    (order-still old new listed (ap (λ (s : StateOf). s.tables.pages) counts) (ap (λ (s : StateOf). s.order) counts)) tt (relief-needs old.tables why)

-- ---- tasks that were killed

-- one that was killed is told so, whatever it asks
pub makes_step-killed : (s : StateOf) (what : Event) → IsOfKilled s.tables what → InOrder s → MakesStep s what reply.Killed s
makes_step-killed s (event.Access t place op) life listed = makes_step-undone s s t.0 place op reply.Killed refl refl (still-self s) (killed_step s.tables t.0 _ life) listed refl
makes_step-killed s (event.Fork t child) life listed =
    makes_step-still s s (event.Fork t child) reply.Killed (still-self s) (record { says = λ spot. refl; given = refl }) (killed_step s.tables t.0 _ life) (order-still s s listed refl refl) tt (omega arith)
makes_step-killed s (event.Free t v) life listed =
    makes_step-still s s (event.Free t v) reply.Killed (still-self s) (record { says = λ spot. refl; given = refl }) (killed_step s.tables t.0 _ life) (order-still s s listed refl refl) tt (omega arith)
makes_step-killed s (event.Exit t) life listed =
    makes_step-still s s (event.Exit t) reply.Killed (still-self s) (record { says = λ spot. refl; given = refl }) (killed_step s.tables t.0 _ life) (order-still s s listed refl refl) tt (omega arith)
makes_step-killed s other life listed = absurd life
