-- What a task's write to its page, a page made for it, and its begin are to the plain machine.
use Rattle.std.proofs.Common.{◌≡◌, ◌≢◌, ◌⊎◌, inl, inr, ℕ, ◌≤◌, ◌==◌, ◌&&◌, not, Bool, true, false, cond, if◌then◌else◌, List, Option, Some, None, eqb-true, eq-eqb, ne_eqb, refl, sym, ap, ◌∙◌, subst, arith}
use Rattle.std.specs.Prelude.{IfSome, is_some, nat_lt}
use Rattle.std.proofs.lemmas.Bool.{and_parts}
use Rattle.std.proofs.lemmas.Bool.Decides.{nat_tests}
use Rattle.machine.specs.declared.record.Life.TheVariants.{Live}
use Rattle.machine.specs.declared.record.Task.{Task}
use Rattle.machine.specs.declared.event.Place.{Place}
use Rattle.machine.specs.declared.event.Place.TheVariants.{Virtual, File}
use Rattle.machine.specs.declared.event.Op.TheVariants.{Write}
use Rattle.machine.specs.declared.event.Event.TheVariants as event
use Rattle.machine.specs.declared.reply.Reply.TheVariants as reply
use Rattle.machine.specs.Slots.{at, Changes, there_and}
use Rattle.machine.specs.Pages.{Content, Memory, OfFile, Held, Page, Pages, page_at, file_page, is_anon, is_page_of, in_transfer_at, is_held, is_in_transfer, in_transfer}
use Rattle.machine.specs.Tasks.{PageTables, SetsTask, task_at, is_live_life, is_live_task, lives, group_of, mapped_at, mappers}
use Rattle.machine.specs.State.{State}
use Rattle.machine.specs.Access.{Meeting, Hits, meets, NeedsCopy}
use Rattle.machine.specs.Lists.{Youngest}
use Rattle.machine.specs.Step.{MeetStep, MakesPage, new_page, touched, still}
use Rattle.machine.specs.History.{Spot, InTask, InFile, spot_of, is_spot, Says, Byte, As, Nothing, says_if, says_of_task}
use Rattle.machine.proofs.Values.{some_inj}
use Rattle.machine.proofs.TreeLemmas.{eq_cases}
use Rattle.machine.proofs.SlotLemmas.{one_if}
use Rattle.machine.proofs.MappingLemmas.{mapped_at-mappers, mapped_at-one}
use Rattle.machine.proofs.FileLemmas.{holds_page, file_page-there, file_page-alike, file_page-kept, file_page-new_memory}
use Rattle.pages.specs.PagesOf.{byte_in, Label, labelled, HasResidence}
use Rattle.page_state.specs.States.{StateOf, byte_shown}
use Rattle.page_state.specs.Changes.{StartsTask, ForksTask, MovesTask, DropsPages, Unmaps, WritesByte, MakesPage as Makes}
use Rattle.page_state.specs.Mapped.{AreMapped}
use Rattle.book_events.specs.Spots.{offset_of, holder, IsThere}
use Rattle.book.specs.Effects.{byte_at_spot, is_in_memory, is_known, knows, KnowsSpot, WasByte, IsSaid}
use Rattle.book.specs.MakesStep.{MakesStep}
use Rattle.book.proofs.FlightLemmas.{in_transfer-changes}
use Rattle.page_state.proofs.DropLemmas.{mapped_stays, moving_alike}
use Rattle.book.proofs.StepLemmas.{InOrder, order-on, order-still, order-written, there-same, holder-same, spot-was, stays-was, still-was, live_step, access-needs, met_step, makes_step-alike}
use Rattle.book.specs.declared.decision.PageFault.{PageFault}
use Rattle.book.specs.Decisions.{spot_at, offset_at, IsFault, WritesAt, Finds, met_by}

-- ---- a write in place

-- one place of a byte
same_spot : (a b : Spot) → is_spot a b ≡ true → a ≡ b
same_spot (InTask t v o) (InTask u w k) e =
    let ts = and_parts (t == u) ((v == w) && (o == k)) e in
    let vs = and_parts (v == w) (o == k) ts.1 in
    ap (λ (x : ℕ). InTask x v o) (eqb-true t u ts.0) ∙ ap (λ (x : ℕ). InTask u x o) (eqb-true v w vs.0) ∙ ap (λ (x : ℕ). InTask u w x) (eqb-true o k vs.1)
same_spot (InFile f q o) (InFile f' q' k) e =
    let fs = and_parts (f == f') ((q == q') && (o == k)) e in
    let qs = and_parts (q == q') (o == k) fs.1 in
    ap (λ (x : ℕ). InFile x q o) (eqb-true f f' fs.0) ∙ ap (λ (x : ℕ). InFile f' x o) (eqb-true q q' qs.0) ∙ ap (λ (x : ℕ). InFile f' q' x) (eqb-true o k qs.1)
same_spot (InTask t v o) (InFile f q k) e = cc
same_spot (InFile f q o) (InTask t v k) e = cc

-- memory is in the cache for no file, and a page of a file is mapped nowhere
module _ (s : State) (mapped : AreMapped s.pages s.page_tables) where
  mapped_or_filed : (t v f q p : ℕ) → mapped_at s.page_tables t v ≡ Some p → file_page s.pages f q ≡ Some p → ⊥
  mapped_or_filed t v f q p shown cached =
      let some = mapped_at-mappers s.page_tables t v p shown in
      let there = file_page-there s.pages f q p cached in
      let none = subst (λ (slot : Option Page). IfSome slot (λ page. is_anon page.content ≡ false → mappers s.page_tables p ≡ 0)) there.1 (mapped.files p) (ap is_anon there.2) in
      omega (arith, some, none)

-- where a page is hit, a byte of it is at one place and offset alone: memory that is written in place is mapped once, and a page of a file is in the cache once
own-spot : (s : StateOf) (t p f : ℕ) (place : Place) (label : Label) (b : ℕ) → AreMapped s.tables.pages s.tables.page_tables → holder s.tables (spot_of t place) ≡ Some p → HasResidence s.tables.pages p label (Held f)
    → meets s.tables t place (Write b) ≡ Hits p (labelled label (Held f)) f → (spot : Spot) → holder s.tables spot ≡ Some p → is_spot (spot_of t place) spot ≡ (offset_of (spot_of t place) == offset_of spot)
own-spot s t p f (Virtual v o) label b mapped shown page meeting (InTask u w k) is = by_test (t == u) (v == w) (mapped_at-one s.tables.page_tables t v u w p (at_most (mappers s.tables.page_tables p) (rw page at rw shown at meeting)) shown is)
  where
    at_most : (n : ℕ) → cond (nat_lt 1 n) (NeedsCopy v) (Hits p (labelled label (Held f)) f) ≡ Hits p (labelled label (Held f)) f → n ≤ 1
    at_most n is = by_count (nat_lt 1 n) refl is
      where
        by_count : (x : Bool) → nat_lt 1 n ≡ x → cond x (NeedsCopy v) (Hits p (labelled label (Held f)) f) ≡ Hits p (labelled label (Held f)) f → n ≤ 1
        by_count true e is = cc
        by_count false e is = grind (arith, nat_tests, e)

    by_test : (x y : Bool) → (x && y) ≡ true → (x && (y && (o == k))) ≡ (o == k)
    by_test true true e = refl
    by_test true false e = cc
    by_test false y e = cc
own-spot s t p f (Virtual v o) label b mapped shown page meeting (InFile h q k) is = absurd (mapped_or_filed s.tables mapped t v h q p shown is)
own-spot s t p f (File h q o) label b mapped cached page meeting (InTask u w k) is = absurd (mapped_or_filed s.tables mapped u w h q p is cached)
own-spot s t p f (File h q o) label b mapped cached page meeting (InFile h' q' k) is =
    let one = file_page-there s.tables.pages h q p cached in
    let other = file_page-there s.tables.pages h' q' p is in
    let page : one.0 ≡ other.0 = some_inj (sym one.1 ∙ other.1) in
    let content : OfFile h q ≡ OfFile h' q' = sym one.2 ∙ ap (λ (x : Page). x.content) page ∙ other.2 in
    let files : h ≡ h' = cc in
    let numbers : q ≡ q' = cc in
    ap (λ (b : Bool). b && ((q == q') && (o == k))) (eq-eqb h h' files) ∙ ap (λ (b : Bool). b && (o == k)) (eq-eqb q q' numbers)

pub makes_step-hit_write : (old new : StateOf) (fault : PageFault) (p f b : ℕ) → IsFault old.tables fault → (finds : Finds old.tables fault p (Held f)) → met_by old.tables fault ≡ Hits p (labelled finds.label (Held f)) f → fault.op ≡ Write b
    → AreMapped old.tables.pages old.tables.page_tables → WritesByte old new p (offset_at fault) b → InOrder old
    → MakesStep old (event.Access fault.task fault.place fault.op) (reply.Done b (Some (record { 0 = f }))) new
makes_step-hit_write old new fault p f b is finds meeting write mapped written listed =
    makes_step-alike old new (event.Access fault.task fault.place fault.op) (reply.Done b (Some (record { 0 = f })))
    (met_step old.tables fault _ _ _ is meeting (rw write (refl, refl, placed, written.tables))) (order-written old new listed (alike is_held refl) written.order) (rw write tt)
    (λ spot there known. rw write (at_spot spot (there-same old.tables new.tables spot (ap (λ (s : State). s.tasks) written.tables) there) known (is_spot (spot_at fault) spot) refl))
    written.flights
    (let same = in_transfer-changes old.tables.pages new.tables.pages p (Some written_page) placed in
    let was : one_if (there_and is_in_transfer (page_at old.tables.pages p)) ≡ 0 = ap (λ (slot : Option Page). one_if (there_and is_in_transfer slot)) finds.stands in
    omega (arith, same, was))
    (access-needs old.tables fault.task.0 fault.place fault.op) refl (ap (λ (s : State). s.opening) written.tables)
  where
    page : Page
    page = labelled finds.label (Held f)

    written_page : Page
    written_page = touched page (Write b)

    placed : Changes old.tables.pages new.tables.pages p (Some written_page)
    placed = written.placed _ finds.stands

    -- each page is where it was
    alike : (test : Page → Bool) → test written_page ≡ test page → (q : ℕ) → there_and test (page_at new.tables.pages q) ≡ there_and test (page_at old.tables.pages q)
    alike test same q =
        elim (eq_cases q p) [
          | inl here ↦ ap (λ (x : ℕ). there_and test (page_at new.tables.pages x)) here ∙ ap (there_and test) placed.changed ∙ same ∙ sym (ap (λ (x : ℕ). there_and test (page_at old.tables.pages x)) here ∙ ap (there_and test) finds.stands)
          | inr other ↦ ap (there_and test) (placed.others q other)
        ]

    -- a byte of the page of another place is at another offset
    own : (spot : Spot) → holder old.tables spot ≡ Some p → is_spot (spot_at fault) spot ≡ (offset_at fault == offset_of spot)
    own = own-spot old fault.task.0 p f fault.place finds.label b mapped finds.found finds.stands (sym (ap (meets old.tables fault.task.0 fault.place) write) ∙ meeting)

    same_holder : (spot : Spot) → holder new.tables spot ≡ holder old.tables spot
    same_holder spot =
        holder-same old.tables new.tables spot (λ u w. ap (λ (s : State). mapped_at s.page_tables u w) written.tables)
        (λ h q. file_page-kept old.tables.pages new.tables.pages p page written_page placed finds.stands refl h q)

    -- at its own place the page has the byte that is written
    here : byte_at_spot new (spot_at fault) ≡ b
    here =
        ap (λ (m : Option ℕ). byte_shown new.bytes m (offset_at fault)) (same_holder (spot_at fault) ∙ finds.found) ∙ written.bytes p (offset_at fault)
        ∙ ap (λ x. cond (x && (offset_at fault == offset_at fault)) b (byte_in old.bytes p (offset_at fault))) (eq-eqb p p refl)
        ∙ ap (λ x. cond x b (byte_in old.bytes p (offset_at fault))) (eq-eqb (offset_at fault) (offset_at fault) refl)

    -- another has the byte that it had
    kept : (spot : Spot) → is_spot (spot_at fault) spot ≡ false → (q : ℕ) → holder old.tables spot ≡ Some q → byte_in new.bytes q (offset_of spot) ≡ byte_in old.bytes q (offset_of spot)
    kept spot miss q at = written.bytes q (offset_of spot) ∙ by_page (q == p) refl
      where
        by_page : (x : Bool) → (q == p) ≡ x → cond ((q == p) && (offset_at fault == offset_of spot)) b (byte_in old.bytes q (offset_of spot)) ≡ byte_in old.bytes q (offset_of spot)
        by_page true hit =
            let elsewhere : (offset_at fault == offset_of spot) ≡ false = sym (own spot (at ∙ ap (λ (x : ℕ). Some x) (eqb-true q p hit))) ∙ miss in
            ap (λ x. cond (x && (offset_at fault == offset_of spot)) b (byte_in old.bytes q (offset_of spot))) hit ∙ ap (λ x. cond x b (byte_in old.bytes q (offset_of spot))) elsewhere
        by_page false other = ap (λ x. cond (x && (offset_at fault == offset_of spot)) b (byte_in old.bytes q (offset_of spot))) other

    at_spot : (spot : Spot) → IsThere old.tables spot → KnowsSpot new spot → (test : Bool) → is_spot (spot_at fault) spot ≡ test → IsSaid old (says_if (is_spot (spot_at fault) spot) (Byte b)) spot (byte_at_spot new spot)
    at_spot spot there known true hit =
        subst (λ (x : Bool). IsSaid old (says_if x (Byte b)) spot (byte_at_spot new spot)) (sym hit) (ap (byte_at_spot new) (sym (same_spot (spot_at fault) spot hit)) ∙ here)
    at_spot spot there known false miss =
        subst (λ (x : Bool). IsSaid old (says_if x (Byte b)) spot (byte_at_spot new spot)) (sym miss)
        (stays-was old new spot there (same_holder spot) (λ q at now. (sym (alike (λ (page : Page). is_in_memory page.residence) refl q) ∙ now, kept spot miss q at)) known)

-- ---- pages that are made

-- of another place an access says nothing
silent_elsewhere : (x y z : Bool) (b : ℕ) → (x && y) ≡ false → says_if (x && (y && z)) (Byte b) ≡ Nothing
silent_elsewhere true true z b miss = cc
silent_elsewhere true false z b miss = refl
silent_elsewhere false y z b miss = refl

-- of its own place it says the byte that it writes, and nothing of the others
said_here : (old : StateOf) (x y z : Bool) (b : ℕ) (spot : Spot) (byte : ℕ) → (x && y) ≡ true → (z ≡ true → byte ≡ b) → (z ≡ false → WasByte old spot byte) → IsSaid old (says_if (x && (y && z)) (Byte b)) spot byte
said_here old true true true b spot byte hit written kept = written refl
said_here old true true false b spot byte hit written kept = kept refl
said_here old true false z b spot byte hit written kept = cc
said_here old false y z b spot byte hit written kept = cc

-- a page is made for a place: of zeros where nothing was shown, or a copy of the page in a frame that others show too
pub makes_step-made : (old new : StateOf) (fault : PageFault) (met : Meeting) (v b : ℕ) → AreMapped old.tables.pages old.tables.page_tables → IsFault old.tables fault → WritesAt fault v b → met_by old.tables fault ≡ met
    → ((u w k : ℕ) → knows old (InTask u w k) (mapped_at old.tables.page_tables fault.task.0 v) ≡ true)
    → (MakesPage old.tables fault.task.0 v fault.group.0 (Write b) (reply.Done b None) new.tables → MeetStep old.tables fault.task.0 fault.group.0 (Write b) met (reply.Done b None) new.tables)
    → Makes old new fault.task.0 v fault.group.0 (offset_at fault) b → MakesStep old (event.Access fault.task fault.place fault.op) (reply.Done b None) new
makes_step-made old new fault met v b mapped is writes meeting knew granted makes =
    makes_step-alike old new (event.Access fault.task fault.place fault.op) (reply.Done b None)
    (met_step old.tables fault met _ _ is meeting (rw writes.op (granted made))) (order-on Youngest old old.order.held new refl makes.held makes.cursors) (rw writes.op tt)
    (λ spot there known. rw writes.op (rw writes.place (at_spot spot (there-same old.tables new.tables spot (ap (λ (s : State). s.tasks) makes.tables) there) known)))
    makes.adds.flights
    (let same = in_transfer-changes old.tables.pages new.tables.pages p (Some (new_page g makes.frame)) makes.adds.placed in
    let was : one_if (there_and is_in_transfer (page_at old.tables.pages p)) ≡ 0 = ap (λ (slot : Option Page). one_if (there_and is_in_transfer slot)) makes.adds.number_free in
    omega (arith, same, was))
    (access-needs old.tables t fault.place fault.op) refl (ap (λ (s : State). s.opening) makes.tables)
  where
    t : ℕ
    t = fault.task.0

    g : ℕ
    g = fault.group.0

    o : ℕ
    o = offset_at fault

    p : ℕ
    p = makes.page

    made : MakesPage old.tables t v g (Write b) (reply.Done b None) new.tables
    made =
        record {
          page = p;
          frame = makes.frame;
          in_range = makes.in_range;
          slot_free = makes.adds.number_free;
          frame_free = makes.frame_free;
          placed = makes.adds.placed;
          shown = makes.shown;
          answers = refl;
          state = makes.tables;
        }

    -- another page is what it was
    another : (q k : ℕ) → q ≢ p → is_known new.tables.pages q ≡ true → (is_known old.tables.pages q ≡ true) × (byte_in new.bytes q k ≡ byte_in old.bytes q k)
    another q k other now = (
      sym (ap (there_and (λ (page : Page). is_in_memory page.residence)) (makes.adds.placed.others q other)) ∙ now,
      makes.adds.bytes q k ∙ ap (λ x. cond x (if o == k then b else byte_shown old.bytes (mapped_at old.tables.page_tables t v) k) (byte_in old.bytes q k)) (ne_eqb q p other),
    )

    unmade : (q : ℕ) → 1 ≤ mappers old.tables.page_tables q → q ≢ p
    unmade q some same =
        absurd (let none = mapped.there q (ap (page_at old.tables.pages) same ∙ makes.adds.number_free) in omega (arith, none, some))

    uncached : (h n q : ℕ) → file_page old.tables.pages h n ≡ Some q → q ≢ p
    uncached h n q cached same = let there = file_page-there old.tables.pages h n q cached in absurd (let wrong : Some there.0 ≡ None = sym there.1 ∙ ap (page_at old.tables.pages) same ∙ makes.adds.number_free in cc)

    same_place : (tables : PageTables) (u w : ℕ) → ((t == u) && (v == w)) ≡ true → mapped_at tables u w ≡ mapped_at tables t v
    same_place tables u w hit =
        let ts = eqb-true t u (and_parts (t == u) (v == w) hit).0 in
        let vs = eqb-true v w (and_parts (t == u) (v == w) hit).1 in
        ap (λ (x : ℕ). mapped_at tables x w) (sym ts) ∙ ap (mapped_at tables t) (sym vs)

    -- of the page that is made one byte is written, and the others are those that the place showed
    own : (u w k : ℕ) → ((t == u) && (v == w)) ≡ true → (z : Bool) → (o == k) ≡ z → byte_at_spot new (InTask u w k) ≡ cond z b (byte_at_spot old (InTask u w k))
    own u w k hit z is =
        ap (λ m. byte_shown new.bytes m k) (same_place new.tables.page_tables u w hit ∙ makes.shown.changed) ∙ makes.adds.bytes p k
        ∙ ap (λ x. cond x (cond (o == k) b (byte_at_spot old (InTask t v k))) (byte_in old.bytes p k)) (eq-eqb p p refl)
        ∙ ap (λ x. cond x b (byte_at_spot old (InTask t v k))) is
        ∙ ap (cond z b) (sym (ap (λ m. byte_shown old.bytes m k) (same_place old.tables.page_tables u w hit)))

    at_place : (u w k : ℕ) → lives old.tables.tasks u ≡ true → KnowsSpot new (InTask u w k) → (test : Bool) → ((t == u) && (v == w)) ≡ test
        → IsSaid old (says_if ((t == u) && ((v == w) && (o == k))) (Byte b)) (InTask u w k) (byte_at_spot new (InTask u w k))
    at_place u w k alive known true hit =
        said_here old (t == u) (v == w) (o == k) b (InTask u w k) (byte_at_spot new (InTask u w k)) hit (own u w k hit true)
        (λ z. (alive, (ap (knows old (InTask u w k)) (same_place old.tables.page_tables u w hit) ∙ knew u w k, known.1), own u w k hit false z))
    at_place u w k alive known false miss =
        subst (λ (said : Says). IsSaid old said (InTask u w k) (byte_at_spot new (InTask u w k))) (sym (silent_elsewhere (t == u) (v == w) (o == k) b miss))
        (stays-was old new (InTask u w k) alive (makes.shown.others u w miss) (λ q at now. another q k (unmade q (mapped_at-mappers old.tables.page_tables u w q at)) now) known)

    at_spot : (spot : Spot) → IsThere old.tables spot → KnowsSpot new spot → IsSaid old (says_if (is_spot (InTask t v o) spot) (Byte b)) spot (byte_at_spot new spot)
    at_spot (InTask u w k) alive known = at_place u w k alive known ((t == u) && (v == w)) refl
    at_spot (InFile h n k) there known =
        stays-was old new (InFile h n k) tt (file_page-new_memory old.tables.pages new.tables.pages p (new_page g makes.frame) makes.adds.placed makes.adds.number_free refl h n) (λ q at now. another q k (uncached h n q at) now) known

-- ---- tasks begin

-- a task begins, and the event says what its bytes are; each other place shows what it did
module _ (old new : StateOf) (t g : ℕ) (starts : SetsTask old.tables.tasks t g Live new.tables.tasks) (others : (u v : ℕ) → u ≢ t → mapped_at new.tables.page_tables u v ≡ mapped_at old.tables.page_tables u v)
    (tables : new.tables ≡ record old.tables { tasks = new.tables.tasks; page_tables = new.tables.page_tables }) (bytes : new.bytes ≡ old.bytes) where
  same_pages : new.tables.pages ≡ old.tables.pages
  same_pages = ap (λ (s : State). s.pages) tables

  -- what a place shows that showed as much before
  shows_still : (spot from : Spot) → IsThere old.tables from → offset_of from ≡ offset_of spot → ((c : StateOf) → knows c spot None ≡ true → knows c from None ≡ true) → holder new.tables spot ≡ holder old.tables from
      → KnowsSpot new spot → WasByte old from (byte_at_spot new spot)
  shows_still spot from there offset none same known =
      spot-was old new spot from there offset none same
      (λ p at now. (sym (ap (λ (ps : Pages). is_known ps p) same_pages) ∙ now, ap (λ (bs : List (Option (List ℕ))). byte_in bs p (offset_of spot)) bytes)) known

  begins-bytes : (said : ℕ → ℕ → Says) → ((v o : ℕ) → KnowsSpot new (InTask t v o) → IsSaid old (said v o) (InTask t v o) (byte_at_spot new (InTask t v o)))
      → (spot : Spot) → IsThere new.tables spot → KnowsSpot new spot → IsSaid old (says_of_task t spot said) spot (byte_at_spot new spot)
  begins-bytes said own (InFile f q o) there known = shows_still (InFile f q o) (InFile f q o) tt refl (λ c is. is) (ap (λ (ps : Pages). file_page ps f q) same_pages) known
  begins-bytes said own (InTask u v o) alive known = by_task (eq_cases u t)
    where
      by_task : (u ≡ t) ⊎ (u ≢ t) → IsSaid old (says_if (t == u) (said v o)) (InTask u v o) (byte_at_spot new (InTask u v o))
      by_task (inl same) =
          rw (eq-eqb t u (sym same))
          (subst (λ (x : ℕ). KnowsSpot new (InTask x v o) → IsSaid old (said v o) (InTask x v o) (byte_at_spot new (InTask x v o))) (sym same) (own v o) known)
      by_task (inr other) =
          rw (ne_eqb t u (λ e. other (sym e)))
          (shows_still (InTask u v o) (InTask u v o) (sym (ap (there_and is_live_task) (starts.others u other)) ∙ alive) refl (λ c is. is) (others u v other) known)

pub makes_step-spawn : (old new : StateOf) (t g : ℕ) → StartsTask old new t g → InOrder old
    → MakesStep old (event.Spawn (record { 0 = t }) (record { 0 = g })) reply.Ok new
makes_step-spawn old new t g begins listed =
    makes_step-alike old new (event.Spawn (record { 0 = t }) (record { 0 = g })) reply.Ok (begins.starts, record { none = begins.none; others = λ u v other. begins.same u v }, begins.tables)
    (order-still old new listed (ap (λ (s : State). s.pages) begins.tables) begins.order) tt
    (begins-bytes old new t g begins.starts (λ u v other. begins.same u v) begins.tables begins.bytes (λ v o. Byte 0) (λ v o known. ap (λ m. byte_shown new.bytes m o) (begins.none v)))
    begins.flights (ap (λ (s : State). in_transfer s.pages) begins.tables) (omega arith) refl (ap (λ (s : State). s.opening) begins.tables)

-- a child shows what its parent shows
pub makes_step-fork : (old new : StateOf) (t child : ℕ) (task : Task) → task_at old.tables.tasks t ≡ Some task → task.life ≡ Live → ForksTask old new t child → InOrder old
    → MakesStep old (event.Fork (record { 0 = t }) (record { 0 = child })) reply.Ok new
makes_step-fork old new t child task is living forks listed =
    makes_step-alike old new (event.Fork (record { 0 = t }) (record { 0 = child })) reply.Ok
    (live_step old.tables _ task _ _ _ is living (refl, subst (λ (g : ℕ). SetsTask old.tables.tasks child g Live new.tables.tasks) (ap group_of is) forks.starts, forks.copies, forks.tables))
    (order-still old new listed (ap (λ (s : State). s.pages) forks.tables) forks.order) tt
    (begins-bytes old new child _ forks.starts forks.copies.others forks.tables forks.bytes (λ v o. As (InTask t v o)) own)
    forks.flights (ap (λ (s : State). in_transfer s.pages) forks.tables) (omega arith) refl (ap (λ (s : State). s.opening) forks.tables)
  where
    own : (v o : ℕ) → KnowsSpot new (InTask child v o) → WasByte old (InTask t v o) (byte_at_spot new (InTask child v o))
    own v o known =
        shows_still old new child _ forks.starts forks.copies.others forks.tables forks.bytes (InTask child v o) (InTask t v o) (ap (there_and is_live_task) is ∙ ap is_live_life living) refl (λ c is. refl) (forks.copies.copied v) known

-- ---- tasks that go elsewhere, and places that show nothing any more

-- a live task is in another group
pub makes_step-attach : (old new : StateOf) (t g : ℕ) → lives old.tables.tasks t ≡ true → MovesTask old new t g → InOrder old
    → MakesStep old (event.Attach (record { 0 = t }) (record { 0 = g })) reply.Ok new
makes_step-attach old new t g living moves listed =
    makes_step-alike old new (event.Attach (record { 0 = t }) (record { 0 = g })) reply.Ok (moves.moves, moves.tables) (order-still old new listed same_pages moves.order) tt
    (λ spot there known. still-was old new spot (there_before spot there) same_pages (ap (λ (s : State). s.page_tables) moves.tables) moves.bytes known)
    moves.flights (ap in_transfer same_pages) (omega arith) refl (ap (λ (s : State). s.opening) moves.tables)
  where
    same_pages : new.tables.pages ≡ old.tables.pages
    same_pages = ap (λ (s : State). s.pages) moves.tables

    lived : (u : ℕ) → lives new.tables.tasks u ≡ true → lives old.tables.tasks u ≡ true
    lived u alive = elim (eq_cases u t) [ inl same ↦ ap (lives old.tables.tasks) same ∙ living | inr other ↦ sym (ap (there_and is_live_task) (moves.moves.others u other)) ∙ alive ]

    there_before : (spot : Spot) → IsThere new.tables spot → IsThere old.tables spot
    there_before (InTask u v o) alive = lived u alive
    there_before (InFile f q o) there = tt

-- a page of a file stays, whatever is mapped
still-filed : (tables : PageTables) (p f q : ℕ) (slot : Option Page) (page : Page) → slot ≡ Some page → page.content ≡ OfFile f q → still tables p slot ≡ slot
still-filed tables p f q slot page is holds =
    rw is (ap (λ (c : Content). cond (is_anon c && ((mappers tables p == 0) && not (in_transfer_at page.residence))) None (Some page)) holds)

-- so what is found for a page of a file is
still-holds : (tables : PageTables) (p f q : ℕ) (slot : Option Page) → holds_page f q (still tables p slot) ≡ holds_page f q slot
still-holds tables p f q None = refl
still-holds tables p f q (Some page) = by_content page.content ((mappers tables p == 0) && not (in_transfer_at page.residence))
  where
    by_content : (content : Content) (goes : Bool) → holds_page f q (cond (is_anon content && goes) None (Some (record page { content = content }))) ≡ is_page_of f q content
    by_content Memory true = refl
    by_content Memory false = refl
    by_content (OfFile f' q') goes = refl

known_there : (pages : Pages) (p : ℕ) → is_known pages p ≡ true → is_some (page_at pages p) ≡ true
known_there pages p known = grind (arith, known)

-- where pages go since nothing maps them any more
module _ (old new : StateOf) (drops : DropsPages old new) where
  same_page : (p k : ℕ) → page_at new.tables.pages p ≡ page_at old.tables.pages p → is_known new.tables.pages p ≡ true → (is_known old.tables.pages p ≡ true) × (byte_in new.bytes p k ≡ byte_in old.bytes p k)
  same_page p k same now = (sym (ap (there_and (λ (page : Page). is_in_memory page.residence)) same) ∙ now, drops.bytes p k (known_there new.tables.pages p now))

  -- a byte of a place that shows what it did
  pub drops-shown : (u w k : ℕ) → mapped_at new.tables.page_tables u w ≡ mapped_at old.tables.page_tables u w → lives old.tables.tasks u ≡ true → KnowsSpot new (InTask u w k) → WasByte old (InTask u w k) (byte_at_spot new (InTask u w k))
  drops-shown u w k same alive known = stays-was old new (InTask u w k) alive same (λ p at now. same_page p k (mapped_stays old new drops u w p (same ∙ at)) now) known

  -- a byte of a file
  pub drops-filed : (f q k : ℕ) → KnowsSpot new (InFile f q k) → WasByte old (InFile f q k) (byte_at_spot new (InFile f q k))
  drops-filed f q k known =
      stays-was old new (InFile f q k) tt
      (file_page-alike old.tables.pages new.tables.pages f q (λ p. ap (holds_page f q) (drops.pages p) ∙ still-holds new.tables.page_tables p f q (page_at old.tables.pages p)))
      (λ p at now.
      let there = file_page-there old.tables.pages f q p at in
      same_page p k (drops.pages p ∙ still-filed new.tables.page_tables p f q (page_at old.tables.pages p) there.0 there.1 there.2) now)
      known

-- a place of a live task shows nothing any more
pub makes_step-free : (old new : StateOf) (t v : ℕ) (task : Task) → task_at old.tables.tasks t ≡ Some task → task.life ≡ Live → Unmaps old new t v
    → MakesStep old (event.Free (record { 0 = t }) v) reply.Ok new
makes_step-free old new t v task is living frees =
    makes_step-alike old new (event.Free (record { 0 = t }) v) reply.Ok
    (live_step old.tables _ task _ _ _ is living (record { answers = refl; shown = frees.shown; pages = frees.drops.pages; state = frees.tables }))
    (order-on Youngest old old.order.held new refl frees.drops.held frees.drops.cursors) tt
    (λ spot there known. at_spot spot (there-same old.tables new.tables spot (ap (λ (s : State). s.tasks) frees.tables) there) known)
    frees.drops.flights (moving_alike old new frees.drops) (omega arith) refl (ap (λ (s : State). s.opening) frees.tables)
  where
    here : (u w : ℕ) → (t == u) ≡ true → (v == w) ≡ true → mapped_at new.tables.page_tables u w ≡ None
    here u w ts vs = ap (λ (x : ℕ). mapped_at new.tables.page_tables x w) (sym (eqb-true t u ts)) ∙ ap (mapped_at new.tables.page_tables t) (sym (eqb-true v w vs)) ∙ frees.shown.changed

    at_place : (u w o : ℕ) → lives old.tables.tasks u ≡ true → KnowsSpot new (InTask u w o) → (x y : Bool) → (t == u) ≡ x → (v == w) ≡ y
        → IsSaid old (says_if (t == u) (says_if (v == w) (Byte 0))) (InTask u w o) (byte_at_spot new (InTask u w o))
    at_place u w o alive known true true ts vs =
        subst (λ (said : Says). IsSaid old said (InTask u w o) (byte_at_spot new (InTask u w o))) (sym (ap (λ (b : Bool). says_if b (says_if (v == w) (Byte 0))) ts ∙ ap (λ (b : Bool). says_if b (Byte 0)) vs)) (ap (λ m. byte_shown new.bytes m o) (here u w ts vs))
    at_place u w o alive known true false ts vs =
        subst (λ (said : Says). IsSaid old said (InTask u w o) (byte_at_spot new (InTask u w o))) (sym (ap (λ (b : Bool). says_if b (says_if (v == w) (Byte 0))) ts ∙ ap (λ (b : Bool). says_if b (Byte 0)) vs))
        (drops-shown old new frees.drops u w o (frees.shown.others u w (ap (λ (b : Bool). b && (v == w)) ts ∙ vs)) alive known)
    at_place u w o alive known false y ts vs =
        subst (λ (said : Says). IsSaid old said (InTask u w o) (byte_at_spot new (InTask u w o))) (sym (ap (λ (b : Bool). says_if b (says_if (v == w) (Byte 0))) ts))
        (drops-shown old new frees.drops u w o (frees.shown.others u w (ap (λ (b : Bool). b && (v == w)) ts)) alive known)

    at_spot : (spot : Spot) → IsThere old.tables spot → KnowsSpot new spot → IsSaid old (says_of_task t spot (λ w o. says_if (v == w) (Byte 0))) spot (byte_at_spot new spot)
    at_spot (InTask u w o) alive known = at_place u w o alive known (t == u) (v == w) refl refl
    at_spot (InFile f q o) there known = drops-filed old new frees.drops f q o known
