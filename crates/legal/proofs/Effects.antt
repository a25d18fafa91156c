-- What one step of the machine does to each page, to each place of a task, and to the numbers of tickets.
use Rattle.std.proofs.Common.{◌≡◌, ◌≢◌, inl, inr, ℕ, ◌==◌, ◌&&◌, not, Bool, true, false, cond, List, Option, Some, None, eq-eqb, ne_eqb, ◌≤◌, arith, refl, sym, ap, ◌∙◌, subst}
use Rattle.std.proofs.lemmas.Bool.Decides.{nat_tests}
use Rattle.std.specs.Prelude.{◌⊎◌, MatchBool, IfSome, is_some, option_map, nat_lt}
use Rattle.machine.specs.declared.id.TaskId.{TaskId}
use Rattle.machine.specs.declared.id.GroupId.{GroupId}
use Rattle.machine.specs.declared.id.TicketId.{TicketId}
use Rattle.machine.specs.declared.record.Life.{Life}
use Rattle.machine.specs.declared.record.Life.TheVariants.{Live, Exited, Killed}
use Rattle.machine.specs.declared.record.Limits.{Limits}
use Rattle.machine.specs.declared.record.OomGroup.{OomGroup}
use Rattle.machine.specs.declared.record.Task.{Task}
use Rattle.machine.specs.declared.record.Direction.{Direction}
use Rattle.machine.specs.declared.record.Direction.TheVariants.{In, Out}
use Rattle.machine.specs.declared.event.Place.{Place}
use Rattle.machine.specs.declared.event.Place.TheVariants.{Virtual, File}
use Rattle.machine.specs.declared.event.Op.{Op}
use Rattle.machine.specs.declared.event.Op.TheVariants.{Read, Write}
use Rattle.machine.specs.declared.event.Cause.{Cause}
use Rattle.machine.specs.declared.event.Event.{Event}
use Rattle.machine.specs.declared.event.Event.TheVariants as event
use Rattle.machine.specs.declared.reply.Reply.{Reply}
use Rattle.machine.specs.declared.reply.Reply.TheVariants as reply
use Rattle.machine.specs.Slots.{Changes, there_and}
use Rattle.machine.specs.Tree.{Node}
use Rattle.machine.specs.Pages.{Content, Memory, OfFile, Residence, Held, Coming, Going, Away, Page, Pages, page_at, file_page, home_block, is_anon, is_held_at, is_held, is_held_in, in_transfer_at, ticket_at, is_ticket_taken}
use Rattle.machine.specs.declared.record.EventCounts.{EventCounts}
use Rattle.machine.specs.Tasks.{Tasks, PageTables, ShowsNothing, SetsTask, task_at, is_live_life, is_live_task, lives, mapped_at, mappers}
use Rattle.machine.specs.State.{State, over_in, is_frame_free}
use Rattle.machine.specs.Access.{Meeting, Unmapped, Hits, Transferring, NeedsPage, NeedsCopy, NeedsSwapIn, NeedsRead, Dangling, meets, is_shared_write}
use Rattle.machine.specs.Reclaim.{counted_at_take, has_takeable, has_transfer, stands, target_of}
use Rattle.machine.specs.Refusals.{refusal}
use Rattle.machine.specs.Step.{ChargeStep, TriesCharge, MakesPage, StartsFetch, ReadsFile, HitStep, UnmappedStep, MeetStep, LifeStep, TaskStep, Takes, StartsLeave, Drops, LeavesBy, LeavesFrom, ReclaimStep, ReclaimOneStep, KillStep, RelieveStep, still, EndsTasks, Exits, Forks, Frees, Attaches, Removes, regrouped, EndsTransfer, in_frame, on_block, Step}
use Rattle.machine.specs.History.{Spot, InTask, is_spot, Byte, As, Nothing, says_if, says, follow, ticket_given}
use Rattle.machine.proofs.Values.{some_inj, never_some, unlike}
use Rattle.machine.proofs.TreeLemmas.{eq_cases}
use Rattle.machine.proofs.MappingLemmas.{by_place, copies-cases, mapped_at-one, shows_nothing-was}
use Rattle.page_lists.proofs.RegroupedLemmas.{regrouped-was}
use Rattle.legal.proofs.FileSteps.{AreFiled, FilesGo, files_go}
use Rattle.legal.proofs.ShownLemmas.{ShowsPages}
use Rattle.legal.proofs.MoveLemmas.{Met, met, MetFile, met_file, Settled, in_frame-cases, on_block-cases}
use Rattle.legal.proofs.Did.{ends-was, setting-is}

-- ---- words

-- the ticket whose transfer the event ends
abbrev pub ends : Event → Option ℕ
ends (event.Arrived ticket bytes) = Some ticket.0
ends (event.FetchFailed ticket) = Some ticket.0
ends (event.Left ticket) = Some ticket.0
ends (event.LeaveFailed ticket) = Some ticket.0
ends what = None

-- where a page in transfer stands
abbrev pub flight : Direction → ℕ → ℕ → ℕ → Residence
flight In frame block ticket = Coming frame block ticket
flight Out frame block ticket = Going frame block ticket

-- the event that ends a transfer with the page on its block: it could not be read in, or it was written out
abbrev pub end_on_block : Direction → TicketId → Event
end_on_block In ticket = event.FetchFailed ticket
end_on_block Out ticket = event.Left ticket

-- whoever shows a page is live
abbrev pub AllLive : PageTables → Tasks → Type 0
AllLive tables tasks = (t v p : ℕ) → mapped_at tables t v ≡ Some p → lives tasks t ≡ true

-- the page stood so before, and held what it holds
pub record Stays (old : State) (p : ℕ) (page : Page) : Type 0 where
  pub before : Page
  pub there : page_at old.pages p ≡ Some before
  pub same : page.residence ≡ before.residence
  pub content : page.content ≡ before.content

-- an access of a place that shows the page began to read it in
pub record Fetches (old : State) (what : Event) (answer : Reply) (p : ℕ) (now : Residence) : Type 0 where
  pub task : TaskId
  pub v : ℕ
  pub offset : ℕ
  pub op : Op
  pub frame : ℕ
  pub block : ℕ
  pub ticket : TicketId
  pub before : Page
  pub is : what ≡ event.Access task (Virtual v offset) op
  pub answers : answer ≡ reply.Fetch ticket
  pub mapped : mapped_at old.page_tables task.0 v ≡ Some p
  pub there : page_at old.pages p ≡ Some before
  pub away : before.residence ≡ Away block
  pub coming : now ≡ Coming frame block ticket.0

-- an access of a page of a file that no page held began to read it in from its home block
pub record ReadsIn (old : State) (what : Event) (answer : Reply) (page : Page) : Type 0 where
  pub task : TaskId
  pub file : ℕ
  pub q : ℕ
  pub offset : ℕ
  pub op : Op
  pub frame : ℕ
  pub ticket : TicketId
  pub is : what ≡ event.Access task (File file q offset) op
  pub answers : answer ≡ reply.Fetch ticket
  pub none : file_page old.pages file q ≡ None
  pub coming : page.residence ≡ Coming frame (home_block old.opening.swap old.opening.files file q) ticket.0
  pub holds : page.content ≡ OfFile file q

-- the page began to be written out
pub record Leaves (answer : Reply) (now : Residence) : Type 0 where
  pub frame : ℕ
  pub block : ℕ
  pub ticket : TicketId
  pub answers : answer ≡ reply.Out ticket
  pub going : now ≡ Going frame block ticket.0

-- its transfer ended, and it stands on its block
pub record EndsOnBlock (direction : Direction) (old : State) (what : Event) (p : ℕ) (now : Residence) : Type 0 where
  pub frame : ℕ
  pub block : ℕ
  pub ticket : TicketId
  pub before : Page
  pub is : what ≡ end_on_block direction ticket
  pub there : page_at old.pages p ≡ Some before
  pub flew : before.residence ≡ flight direction frame block ticket.0
  pub away : now ≡ Away block

-- how a page that stands there after a step came to do so
pub data Stood (old : State) (what : Event) (answer : Reply) (p : ℕ) (page : Page) : Type 0 where
  InFrame : (frame : ℕ) → page.residence ≡ Held frame → Stood old what answer p page
  ItStays : Stays old p page → Stood old what answer p page
  ItFetches : Fetches old what answer p page.residence → Stood old what answer p page
  ItReads : ReadsIn old what answer page → Stood old what answer p page
  ItLeaves : Leaves answer page.residence → Stood old what answer p page
  OnBlock : (direction : Direction) → EndsOnBlock direction old what p page.residence → Stood old what answer p page

-- a page in transfer stands as it does until its own ticket's end; and where each page comes from
pub record PagesGo (old : State) (what : Event) (answer : Reply) (new : State) : Type 0 where
  pub stays : (p n : ℕ) (page : Page) → page_at old.pages p ≡ Some page → ticket_at page.residence ≡ Some n → (ends what ≡ Some n → ⊥)
      → (now : Page) × (page_at new.pages p ≡ Some now) × (now.residence ≡ page.residence)
  pub stood : (p : ℕ) (page : Page) → page_at new.pages p ≡ Some page → Stood old what answer p page

-- the same virtual page of some task, the parent's or its own, showed the page before, and its bytes were what this place's are now
pub record ComesFrom (old : State) (what : Event) (answer : Reply) (t v p : ℕ) : Type 0 where
  pub task : ℕ
  pub mapped : mapped_at old.page_tables task v ≡ Some p
  pub follows : (before : Spot → ℕ) (o : ℕ) → follow (says what answer (InTask t v o)) before (InTask t v o) ≡ before (InTask task v o)

-- two places that show one page are one place, or both come from places that showed it before
abbrev pub AreOneOrCome : State → Event → Reply → ℕ → ℕ → ℕ → ℕ → ℕ → Type 0
AreOneOrCome old what answer t v t' v' p = (((t == t') && (v == v')) ≡ true) ⊎ (ComesFrom old what answer t v p × ComesFrom old what answer t' v' p)

-- each place that shows a page which stands in no frame alone comes from one that did, and so do the places of a shared page; and whoever shows a page is live
pub record PlacesGo (old : State) (what : Event) (answer : Reply) (new : State) : Type 0 where
  pub place : (t v p : ℕ) (page : Page) → mapped_at new.page_tables t v ≡ Some p → page_at new.pages p ≡ Some page → is_held_at page.residence ≡ false → ComesFrom old what answer t v p
  pub shared : (t v t' v' p : ℕ) → mapped_at new.page_tables t v ≡ Some p → mapped_at new.page_tables t' v' ≡ Some p → AreOneOrCome old what answer t v t' v' p
  pub live : AllLive new.page_tables new.tasks

pub record Effect (old : State) (what : Event) (answer : Reply) (new : State) : Type 0 where
  pub pages : PagesGo old what answer new
  pub places : PlacesGo old what answer new
  pub files : FilesGo old what answer new
  pub fresh : (n : ℕ) → ticket_given answer ≡ Some n → is_ticket_taken old.pages n ≡ false

-- the same, but for what becomes of files
record OnTasks (old : State) (what : Event) (answer : Reply) (new : State) : Type 0 where
  pages : PagesGo old what answer new
  places : PlacesGo old what answer new
  fresh : (n : ℕ) → ticket_given answer ≡ Some n → is_ticket_taken old.pages n ≡ false

-- the event says nothing of any byte of a task
abbrev Silent : Event → Reply → Type 0
Silent what answer = (t v o : ℕ) → says what answer (InTask t v o) ≡ Nothing

-- the ticket of what stands at a number
abbrev ticket_in : Option Page → Option ℕ
ticket_in None = None
ticket_in (Some page) = ticket_at page.residence

-- the event may move a page of this ticket: there is none, or the event ends it
abbrev MayMove : Event → Option ℕ → Type 0
MayMove what ticket = (ticket ≡ None) ⊎ (ticket ≡ ends what)

-- ---- small facts

-- an access elsewhere says nothing of a place
other_spot : (t v o t' v' o' : ℕ) → ((t == t') && (v == v')) ≡ false → is_spot (InTask t v o) (InTask t' v' o') ≡ false
other_spot t v o t' v' o' e = by_task (t == t') (v == v') e
  where
    by_task : (a b : Bool) → (a && b) ≡ false → (a && (b && (o == o'))) ≡ false
    by_task true true e = cc
    by_task true false e = refl
    by_task false b e = refl

says_elsewhere : (t : TaskId) (v o : ℕ) (op : Op) (answer : Reply) (t' v' o' : ℕ) → ((t.0 == t') && (v == v')) ≡ false → says (event.Access t (Virtual v o) op) answer (InTask t' v' o') ≡ Nothing
says_elsewhere t v o Read answer t' v' o' e = refl
says_elsewhere t v o (Write b) (reply.Done byte hit) t' v' o' e = ap (λ s. says_if s (Byte b)) (other_spot t.0 v o t' v' o' e)
says_elsewhere t v o (Write b) answer t' v' o' e = refl

abbrev is_done : Reply → Bool
is_done (reply.Done byte hit) = true
is_done answer = false

-- an access that is not done says nothing
says_undone : (t : TaskId) (place : Place) (op : Op) (answer : Reply) (t' v' o' : ℕ) → is_done answer ≡ false → says (event.Access t place op) answer (InTask t' v' o') ≡ Nothing
says_undone t place Read answer t' v' o' e = refl
says_undone t place (Write b) (reply.Done byte hit) t' v' o' e = cc
says_undone t place (Write b) answer t' v' o' e = refl

-- one of two
by_either : {P Q R : Type 0} (b : Bool) → (P → R) → (Q → R) → MatchBool b P Q → R
by_either true f g h = f h
by_either false f g h = g h

-- what a task's end leaves stood there before
still_same : (tables : PageTables) (p : ℕ) (slot : Option Page) (page : Page) → still tables p slot ≡ Some page → slot ≡ Some page
still_same tables p None page e = e
still_same tables p (Some q) page e = by_test (is_anon q.content && ((mappers tables p == 0) && not (in_transfer_at q.residence))) e
  where
    by_test : (b : Bool) → cond b None (Some q) ≡ Some page → Some q ≡ Some page
    by_test true h = cc
    by_test false h = h

-- whoever has a ticket is in transfer
in_transfer : (r : Residence) (n : ℕ) → ticket_at r ≡ Some n → in_transfer_at r ≡ true
in_transfer (Held f) n e = cc
in_transfer (Coming f b ticket) n e = refl
in_transfer (Going f b ticket) n e = refl
in_transfer (Away b) n e = cc

-- and it leaves what is in transfer
still_there : (tables : PageTables) (p n : ℕ) (page : Page) → ticket_at page.residence ≡ Some n → still tables p (Some page) ≡ Some page
still_there tables p n page e = by_tests (is_anon page.content) (mappers tables p == 0) (in_transfer_at page.residence) (in_transfer page.residence n e)
  where
    by_tests : (a b c : Bool) → c ≡ true → cond (a && (b && not c)) None (Some page) ≡ Some page
    by_tests a b false e = cc
    by_tests true true true e = refl
    by_tests true false true e = refl
    by_tests false b true e = refl

-- ---- one step

module _ (old new : State) (alive : AllLive old.page_tables old.tasks) (shows : ShowsPages old) where
  -- a ticket that is given is nobody's
  abbrev Fresh : Reply → Type 0
  Fresh answer = (n : ℕ) → ticket_given answer ≡ Some n → is_ticket_taken old.pages n ≡ false

  -- an answer without a ticket
  gives_none : (answer : Reply) → ticket_given answer ≡ None → Fresh answer
  gives_none answer none n e = never_some (ticket_given answer) none e

  -- an answer with one
  gives : (answer : Reply) (ticket : ℕ) → ticket_given answer ≡ Some ticket → is_ticket_taken old.pages ticket ≡ false → Fresh answer
  gives answer ticket given free n e = ap (is_ticket_taken old.pages) (some_inj (sym e ∙ given)) ∙ free

  -- ---- pages

  -- what stands there came to do so
  abbrev Stands : Event → Reply → ℕ → Option Page → Type 0
  Stands what answer q to = IfSome to (λ page. Stood old what answer q page)

  -- no page changes
  pages_same : (what : Event) (answer : Reply) → new.pages ≡ old.pages → PagesGo old what answer new
  pages_same what answer e =
      record {
        stays = λ p n page there ticket other. (page, ap (λ (ps : Pages). page_at ps p) e ∙ there, refl);
        stood = λ p page there. ItStays (record { before = page; there = sym (ap (λ (ps : Pages). page_at ps p) e) ∙ there; same = refl; content = refl });
      }

  -- one page changes: if it was in transfer the event ends that
  pages_one : (what : Event) (answer : Reply) (q : ℕ) (to : Option Page) → Changes old.pages new.pages q to → MayMove what (ticket_in (page_at old.pages q)) → Stands what answer q to → PagesGo old what answer new
  pages_one what answer q to changes may_move stands =
      record {
        stays = λ p n page there ticket other.
            elim (eq_cases p q) [
              | inl same ↦ moved n may_move (ap (λ (x : ℕ). ticket_in (page_at old.pages x)) (sym same) ∙ ap ticket_in there ∙ ticket) other
              | inr differs ↦ (page, changes.others p differs ∙ there, refl)
            ];
        stood = λ p page there.
            elim (eq_cases p q) [
              | inl same ↦ subst (λ (x : ℕ). Stood old what answer x page) (sym same) (subst (Stands what answer q) (sym changes.changed ∙ ap (page_at new.pages) (sym same) ∙ there) stands)
              | inr differs ↦ ItStays (record { before = page; there = sym (changes.others p differs) ∙ there; same = refl; content = refl })
            ];
      }
    where
      moved : {P : Type 0} (n : ℕ) → MayMove what (ticket_in (page_at old.pages q)) → ticket_in (page_at old.pages q) ≡ Some n → (ends what ≡ Some n → ⊥) → P
      moved n (inl none) ticket other = never_some (ticket_in (page_at old.pages q)) none ticket
      moved n (inr ended) ticket other = absurd (other (sym ended ∙ ticket))

  -- the pages that nothing maps any more go
  pages_still : (what : Event) (answer : Reply) → ((p : ℕ) → page_at new.pages p ≡ still new.page_tables p (page_at old.pages p)) → PagesGo old what answer new
  pages_still what answer pages =
      record {
        stays = λ p n page there ticket other. (page, pages p ∙ ap (still new.page_tables p) there ∙ still_there new.page_tables p n page ticket, refl);
        stood = λ p page there. ItStays (record { before = page; there = still_same new.page_tables p (page_at old.pages p) page (sym (pages p) ∙ there); same = refl; content = refl });
      }

  -- ---- places

  -- a place showed the page before, and nothing is said of its bytes
  was_so : (what : Event) (answer : Reply) (t v p : ℕ) → mapped_at old.page_tables t v ≡ Some p → ((o : ℕ) → says what answer (InTask t v o) ≡ Nothing) → ComesFrom old what answer t v p
  was_so what answer t v p at silent = record { task = t; mapped = at; follows = λ before o. ap (λ said. follow said before (InTask t v o)) (silent o) }

  -- every place that shows a page comes from one that did
  places_come : (what : Event) (answer : Reply) → ((t v p : ℕ) → mapped_at new.page_tables t v ≡ Some p → ComesFrom old what answer t v p × (lives new.tasks t ≡ true)) → PlacesGo old what answer new
  places_come what answer come =
      record {
        place = λ t v p page at there away. (come t v p at).0;
        shared = λ t v t' v' p at at'. inr ((come t v p at).0, (come t' v' p at').0);
        live = λ t v p at. (come t v p at).1;
      }

  -- every place shows what it did
  places_same : (what : Event) (answer : Reply) → new.page_tables ≡ old.page_tables → new.tasks ≡ old.tasks → Silent what answer → PlacesGo old what answer new
  places_same what answer tables tasks silent =
      places_come what answer (λ t v p at. (was_so what answer t v p (was t v p at) (silent t v), ap (λ (ts : Tasks). lives ts t) tasks ∙ alive t v p (was t v p at)))
    where
      was : (t v p : ℕ) → mapped_at new.page_tables t v ≡ Some p → mapped_at old.page_tables t v ≡ Some p
      was t v p at = sym (ap (λ (tables : PageTables). mapped_at tables t v) tables) ∙ at

  -- the place of an access shows nothing now, or a page in a frame, and every other place what it did
  places_one : (t : TaskId) (v o : ℕ) (op : Op) (answer : Reply) → lives old.tasks t.0 ≡ true → new.tasks ≡ old.tasks → ((p : ℕ) → mapped_at new.page_tables t.0 v ≡ Some p → is_held_in new.pages p ≡ true)
      → ((t' v' : ℕ) → ((t.0 == t') && (v == v')) ≡ false → mapped_at new.page_tables t' v' ≡ mapped_at old.page_tables t' v')
      → ((t' v' p : ℕ) → mapped_at new.page_tables t.0 v ≡ Some p → ((t.0 == t') && (v == v')) ≡ false → mapped_at old.page_tables t' v' ≡ Some p → ⊥) → PlacesGo old (event.Access t (Virtual v o) op) answer new
  places_one t v o op answer lives_t tasks held others alone =
      record {
        place = λ t' v' p page at there away.
            by_place t.0 v t' v' (λ same_t same_v. unlike (is_held_at page.residence) (sym (ap (there_and is_held) there) ∙ held p (here t' v' same_t same_v ∙ at)) away)
            (λ differ. elsewhere t' v' p differ at);
        shared = λ t1 v1 t2 v2 p at1 at2.
            by_place t.0 v t1 v1
            (λ same_t same_v.
            by_place t.0 v t2 v2 (λ same_t' same_v'. inl (one_place t1 v1 t2 v2 (sym same_t ∙ same_t') (sym same_v ∙ same_v')))
            (λ differ. absurd (alone t2 v2 p (here t1 v1 same_t same_v ∙ at1) differ (sym (others t2 v2 differ) ∙ at2))))
            (λ differ.
            by_place t.0 v t2 v2 (λ same_t same_v. absurd (alone t1 v1 p (here t2 v2 same_t same_v ∙ at2) differ (sym (others t1 v1 differ) ∙ at1)))
            (λ differ'. inr (elsewhere t1 v1 p differ at1, elsewhere t2 v2 p differ' at2)));
        live = λ t' v' p at.
            ap (λ (ts : Tasks). lives ts t') tasks
            ∙ by_place t.0 v t' v' (λ same_t same_v. ap (lives old.tasks) (sym same_t) ∙ lives_t) (λ differ. alive t' v' p (sym (others t' v' differ) ∙ at));
      }
    where
      here : (t' v' : ℕ) → t.0 ≡ t' → v ≡ v' → mapped_at new.page_tables t.0 v ≡ mapped_at new.page_tables t' v'
      here t' v' same_t same_v = ap (λ (x : ℕ). mapped_at new.page_tables x v) same_t ∙ ap (λ (x : ℕ). mapped_at new.page_tables t' x) same_v

      elsewhere : (t' v' p : ℕ) → ((t.0 == t') && (v == v')) ≡ false → mapped_at new.page_tables t' v' ≡ Some p → ComesFrom old (event.Access t (Virtual v o) op) answer t' v' p
      elsewhere t' v' p differ at = was_so _ answer t' v' p (sym (others t' v' differ) ∙ at) (λ o'. says_elsewhere t v o op answer t' v' o' differ)

      one_place : (t1 v1 t2 v2 : ℕ) → t1 ≡ t2 → v1 ≡ v2 → ((t1 == t2) && (v1 == v2)) ≡ true
      one_place t1 v1 t2 v2 same_t same_v = ap (λ (b : Bool). b && (v1 == v2)) (eq-eqb t1 t2 same_t) ∙ eq-eqb v1 v2 same_v

  -- ---- little changes

  -- no page, no place and no task changes, and nothing is said
  quiet : {tree : List Node} {limits : List Limits} {flags : List OomGroup} {counted : List EventCounts} (what : Event) (answer : Reply) → new ≡ record old { tree = tree; limits = limits; flags = flags; counted = counted } → Silent what answer
      → ticket_given answer ≡ None → OnTasks old what answer new
  quiet what answer e silent none =
      record {
        pages = pages_same what answer (ap (λ (s : State). s.pages) e);
        places = places_same what answer (ap (λ (s : State). s.page_tables) e) (ap (λ (s : State). s.tasks) e) silent;
        fresh = gives_none answer none;
      }

  -- one page changes, no place and no task, and nothing is said
  one_page : {counted : List EventCounts} (what : Event) (answer : Reply) (q : ℕ) (to : Option Page) → new ≡ record old { pages = new.pages; counted = counted } → Changes old.pages new.pages q to
      → MayMove what (ticket_in (page_at old.pages q)) → Stands what answer q to → Silent what answer → Fresh answer → OnTasks old what answer new
  one_page what answer q to e changes may_move stands silent fresh =
      record {
        pages = pages_one what answer q to changes may_move stands;
        places = places_same what answer (ap (λ (s : State). s.page_tables) e) (ap (λ (s : State). s.tasks) e) silent;
        fresh = fresh;
      }

  -- ---- accesses

  -- an access, wherever it goes
  module _ (t : TaskId) (place : Place) (op : Op) where
    abbrev Accessed : Reply → Type 0
    Accessed answer = OnTasks old (event.Access t place op) answer new

    -- an access that is not done
    undone : {counted : List EventCounts} (answer expected : Reply) → answer ≡ expected → is_done expected ≡ false → ticket_given expected ≡ None → new ≡ record old { counted = counted } → Accessed answer
    undone answer expected is not_done none e = quiet _ answer e (λ t' v' o'. says_undone t place op answer t' v' o' (ap is_done is ∙ not_done)) (ap ticket_given is ∙ none)

    -- where a charge is needed
    charged : (g : ℕ) (Granted : Type 0) (answer : Reply) → (Granted → Accessed answer) → TriesCharge old g Granted answer new → Accessed answer
    charged g Granted answer granted step = by_over (over_in old g) step
      where
        by_over : (low : Option ℕ) → ChargeStep old low (is_frame_free old) Granted answer new → Accessed answer
        by_over (Some low) h = undone answer _ h.0 refl refl h.1
        by_over None h = by_either (is_frame_free old) granted (λ k. undone answer reply.NoFrame k.0 refl refl k.1) h

    -- by whose task it is
    of_live : (answer : Reply) → ((g : ℕ) → lives old.tasks t.0 ≡ true → MeetStep old t.0 g op (meets old t.0 place op) answer new → Accessed answer)
        → TaskStep old (task_at old.tasks t.0) (λ task. MeetStep old t.0 task.group.0 op (meets old t.0 place op) answer new) answer new → Accessed answer
    of_live answer living step = by_slot (task_at old.tasks t.0) refl step
      where
        by_life : (task : Task) (life : Life) → task_at old.tasks t.0 ≡ Some task → task.life ≡ life → LifeStep old life (MeetStep old t.0 task.group.0 op (meets old t.0 place op) answer new) answer new → Accessed answer
        by_life task Live known is h = living task.group.0 (ap (there_and is_live_task) known ∙ ap is_live_life is) h
        by_life task Exited known is h = absurd h
        by_life task Killed known is h = undone answer reply.Killed h.0 refl refl h.1

        by_slot : (slot : Option Task) → task_at old.tasks t.0 ≡ slot → TaskStep old slot (λ task. MeetStep old t.0 task.group.0 op (meets old t.0 place op) answer new) answer new → Accessed answer
        by_slot None known h = absurd h
        by_slot (Some task) known h = by_life task task.life known refl h

  -- of a task's memory
  module _ (t : TaskId) (v o : ℕ) (op : Op) where
    -- a page in its frame is read or written
    hit : (p frame : ℕ) (page : Page) (op' : Op) (answer : Reply) → op ≡ op' → lives old.tasks t.0 ≡ true → mapped_at old.page_tables t.0 v ≡ Some p → page_at old.pages p ≡ Some page → page.residence ≡ Held frame
        → is_shared_write old.page_tables p op' ≡ false → HitStep old p page frame op' answer new → Accessed t (Virtual v o) op answer
    hit p frame page Read (reply.Done byte at) is lives_t mapped there stands own h = quiet _ _ h.1 (λ t' v' o'. ap (λ (x : Op). says (event.Access t (Virtual v o) x) (reply.Done byte at) (InTask t' v' o')) is) refl
    hit p frame page (Write b) (reply.Done byte at) is lives_t mapped there stands own h =
        record {
          pages = pages_one _ _ p _ h.2 (inl (ap ticket_in there ∙ ap ticket_at stands)) (InFrame frame stands);
          places =
              places_one t v o op _ lives_t (ap (λ (s : State). s.tasks) h.3)
              (λ p' at'. ap (is_held_in new.pages) (some_inj (sym at' ∙ same t.0 v ∙ mapped)) ∙ ap (there_and is_held) h.2.changed ∙ ap is_held_at stands)
              (λ t' v' differ. same t' v')
              (λ t' v' p' at' differ old_at.
              unlike ((t.0 == t') && (v == v'))
              (mapped_at-one old.page_tables t.0 v t' v' p (once (mappers old.page_tables p) own) mapped (old_at ∙ ap (λ (x : ℕ). Some x) (some_inj (sym at' ∙ same t.0 v ∙ mapped)))) differ);
          fresh = gives_none (reply.Done byte at) refl;
        }
      where
        same : (t' v' : ℕ) → mapped_at new.page_tables t' v' ≡ mapped_at old.page_tables t' v'
        same t' v' = ap (λ (s : State). mapped_at s.page_tables t' v') h.3

        once : (n : ℕ) → nat_lt 1 n ≡ false → n ≤ 1
        once n e = grind (arith, nat_tests)
    hit p frame page op' answer is lives_t mapped there stands own h = absurd h

    -- nothing is mapped there
    unmapped : (answer : Reply) → lives old.tasks t.0 ≡ true → mapped_at old.page_tables t.0 v ≡ None → UnmappedStep old answer new → Accessed t (Virtual v o) op answer
    unmapped (reply.Done byte at) lives_t none h =
        record {
          pages = pages_same _ _ (ap (λ (s : State). s.pages) h.1);
          places =
              places_one t v o op _ lives_t (ap (λ (s : State). s.tasks) h.1) (λ p at'. never_some (mapped_at new.page_tables t.0 v) (same t.0 v ∙ none) at')
              (λ t' v' differ. same t' v') (λ t' v' p at' differ old_at. never_some (mapped_at new.page_tables t.0 v) (same t.0 v ∙ none) at');
          fresh = gives_none (reply.Done byte at) refl;
        }
      where
        same : (t' v' : ℕ) → mapped_at new.page_tables t' v' ≡ mapped_at old.page_tables t' v'
        same t' v' = ap (λ (s : State). mapped_at s.page_tables t' v') h.1
    unmapped answer lives_t none h = absurd h

    -- a page is made for the place
    makes : (g : ℕ) (answer : Reply) → lives old.tasks t.0 ≡ true → MakesPage old t.0 v g op answer new → Accessed t (Virtual v o) op answer
    makes g answer lives_t h =
        record {
          pages = pages_one _ answer h.page _ h.placed (inl (ap ticket_in h.slot_free)) (InFrame h.frame refl);
          places =
              places_one t v o op answer lives_t (ap (λ (s : State). s.tasks) h.state)
              (λ p at. ap (is_held_in new.pages) (some_inj (sym at ∙ h.shown.changed)) ∙ ap (there_and is_held) h.placed.changed) h.shown.others
              (λ t' v' p at differ old_at.
              let fresh : page_at old.pages p ≡ None = ap (page_at old.pages) (some_inj (sym at ∙ h.shown.changed)) ∙ h.slot_free in
              unlike (is_some (page_at old.pages p)) (shows.there t' v' p old_at) (ap is_some fresh));
          fresh = gives_none answer (ap ticket_given h.answers);
        }

    -- a page begins to be read in
    fetches : (p g block : ℕ) (page : Page) (answer : Reply) → mapped_at old.page_tables t.0 v ≡ Some p → page_at old.pages p ≡ Some page → page.residence ≡ Away block
        → StartsFetch old p g page.content block answer new → Accessed t (Virtual v o) op answer
    fetches p g block page answer mapped there away h =
        one_page _ answer p _ h.state h.placed (inl (ap ticket_in there ∙ ap ticket_at away))
        (ItFetches
        (record {
          task = t;
          v = v;
          offset = o;
          op = op;
          frame = h.frame;
          block = block;
          ticket = record { 0 = h.ticket };
          before = page;
          is = refl;
          answers = h.answers;
          mapped = mapped;
          there = there;
          away = away;
          coming = refl;
        }))
        (λ t' v' o'. says_undone t (Virtual v o) op answer t' v' o' (ap is_done h.answers)) (gives answer h.ticket (ap ticket_given h.answers) h.ticket_free)

    -- by what it meets
    meets_so : (g : ℕ) (answer : Reply) (meeting : Meeting) → lives old.tasks t.0 ≡ true → Met old t.0 v op meeting → MeetStep old t.0 g op meeting answer new → Accessed t (Virtual v o) op answer
    meets_so g answer Unmapped lives_t known h = unmapped answer lives_t known h
    meets_so g answer (Hits p page frame) lives_t known h = hit p frame page op answer refl lives_t known.0 known.1 known.2 known.3 h
    meets_so g answer Transferring lives_t known h = undone t (Virtual v o) op answer reply.Busy h.0 refl refl h.1
    meets_so g answer (NeedsPage w) lives_t known h = charged t (Virtual v o) op g _ answer (λ made. makes g answer lives_t (subst (λ (x : ℕ). MakesPage old t.0 x g op answer new) known.0 made)) h
    meets_so g answer (NeedsCopy w) lives_t known h = charged t (Virtual v o) op g _ answer (λ made. makes g answer lives_t (subst (λ (x : ℕ). MakesPage old t.0 x g op answer new) known.0 made)) h
    meets_so g answer (NeedsSwapIn p page block) lives_t known h = charged t (Virtual v o) op _ _ answer (fetches p _ block page answer known.0 known.1 known.2) h
    meets_so g answer (NeedsRead f q) lives_t known h = absurd known
    meets_so g answer Dangling lives_t known h = absurd h

    accesses : (answer : Reply) → TaskStep old (task_at old.tasks t.0) (λ task. MeetStep old t.0 task.group.0 op (meets old t.0 (Virtual v o) op) answer new) answer new → Accessed t (Virtual v o) op answer
    accesses answer step = of_live t (Virtual v o) op answer (λ g lives_t h. meets_so g answer (meets old t.0 (Virtual v o) op) lives_t (met old t.0 v o op) h) step

  -- of a file
  module _ (t : TaskId) (f q o : ℕ) (op : Op) where
    -- it says nothing of a task
    of_file_says : (op : Op) (answer : Reply) → Silent (event.Access t (File f q o) op) answer
    of_file_says Read answer t' v' o' = refl
    of_file_says (Write b) (reply.Done byte hit) t' v' o' = refl
    of_file_says (Write b) answer t' v' o' = refl

    -- a page in its frame is read or written
    hit_file : (p frame : ℕ) (page : Page) (op' : Op) (answer : Reply) → page_at old.pages p ≡ Some page → page.residence ≡ Held frame → HitStep old p page frame op' answer new → Accessed t (File f q o) op answer
    hit_file p frame page Read (reply.Done byte at) there stands h = quiet _ _ h.1 (of_file_says op _) refl
    hit_file p frame page (Write b) (reply.Done byte at) there stands h =
        one_page _ _ p _ h.3 h.2 (inl (ap ticket_in there ∙ ap ticket_at stands)) (InFrame frame stands) (of_file_says op _) (gives_none (reply.Done byte at) refl)
    hit_file p frame page op' answer there stands h = absurd h

    -- a page begins to be read in
    reads : (g : ℕ) (answer : Reply) → file_page old.pages f q ≡ None → ReadsFile old f q g answer new → Accessed t (File f q o) op answer
    reads g answer none h =
        one_page _ answer h.page _ h.fetch.state h.fetch.placed (inl (ap ticket_in h.slot_free))
        (ItReads
        (record {
          task = t;
          file = f;
          q = q;
          offset = o;
          op = op;
          frame = h.fetch.frame;
          ticket = record { 0 = h.fetch.ticket };
          is = refl;
          answers = h.fetch.answers;
          none = none;
          coming = refl;
          holds = refl;
        }))
        (of_file_says op answer) (gives answer h.fetch.ticket (ap ticket_given h.fetch.answers) h.fetch.ticket_free)

    -- by what it meets
    meets_file : (g : ℕ) (answer : Reply) (meeting : Meeting) → MetFile old f q meeting → MeetStep old t.0 g op meeting answer new → Accessed t (File f q o) op answer
    meets_file g answer Unmapped known h = absurd known
    meets_file g answer (Hits p page frame) known h = hit_file p frame page op answer known.1 known.2 h
    meets_file g answer Transferring known h = undone t (File f q o) op answer reply.Busy h.0 refl refl h.1
    meets_file g answer (NeedsPage w) known h = absurd known
    meets_file g answer (NeedsCopy w) known h = absurd known
    meets_file g answer (NeedsSwapIn p page block) known h = absurd known
    meets_file g answer (NeedsRead f' q') known h =
        charged t (File f q o) op g _ answer
        (λ begun. reads g answer known.2 (subst (λ (x : ℕ). ReadsFile old x q g answer new) known.0 (subst (λ (x : ℕ). ReadsFile old f' x g answer new) known.1 begun))) h
    meets_file g answer Dangling known h = absurd h

    accesses_file : (answer : Reply) → TaskStep old (task_at old.tasks t.0) (λ task. MeetStep old t.0 task.group.0 op (meets old t.0 (File f q o) op) answer new) answer new → Accessed t (File f q o) op answer
    accesses_file answer step = of_live t (File f q o) op answer (λ g lives_t h. meets_file g answer (meets old t.0 (File f q o) op) (met_file old t.0 f q o op) h) step

  -- ---- ends of tasks

  -- the tasks of which a test holds are dead, and show nothing
  tasks_end : (what : Event) (answer : Reply) (is_gone : ℕ → Bool) (ended : Life) (counted : List EventCounts) → Silent what answer → ticket_given answer ≡ None → EndsTasks old is_gone ended counted new → OnTasks old what answer new
  tasks_end what answer is_gone ended counted silent none h =
      record {
        pages = pages_still what answer h.pages;
        places = places_come what answer
            (λ t v p at. let was = ends-was h t v p at in (was_so what answer t v p was.1 (silent t v), ap (there_and is_live_task) (h.stays t was.0) ∙ alive t v p was.1));
        fresh = gives_none answer none;
      }

  -- an event of a task, which says nothing where the task was killed
  of_task : (what : Event) (answer : Reply) (slot : Option Task) (Live_step : Task → Type 0) → Silent what reply.Killed
      → ((task : Task) → slot ≡ Some task → is_live_task task ≡ true → Live_step task → OnTasks old what answer new) → TaskStep old slot Live_step answer new → OnTasks old what answer new
  of_task what answer None Live_step silent living h = absurd h
  of_task what answer (Some task) Live_step silent living h = by_life task.life refl h
    where
      by_life : (life : Life) → task.life ≡ life → LifeStep old life (Live_step task) answer new → OnTasks old what answer new
      by_life Live is h = living task refl (ap is_live_life is) h
      by_life Exited is h = absurd h
      by_life Killed is h = quiet what answer h.1 (λ t v o. ap (λ (a : Reply). says what a (InTask t v o)) h.0 ∙ silent t v o) (ap ticket_given h.0)

  -- it ends by itself
  exits : (t : TaskId) (answer : Reply) → TaskStep old (task_at old.tasks t.0) (λ task. Exits old t.0 answer new) answer new → OnTasks old (event.Exit t) answer new
  exits t answer step =
      of_task (event.Exit t) answer (task_at old.tasks t.0) _ (λ t v o. refl)
      (λ task there lives_on h. tasks_end (event.Exit t) answer _ Exited old.counted (λ t' v o. refl) (ap ticket_given h.0) h.1) step

  -- ---- sharing and moving

  -- a child shows what its parent shows, and its bytes were its parent's
  forks : (t child : TaskId) (answer : Reply) → TaskStep old (task_at old.tasks t.0) (λ task. Forks old t.0 child.0 task answer new) answer new → OnTasks old (event.Fork t child) answer new
  forks t child answer step = of_task (event.Fork t child) answer (task_at old.tasks t.0) _ (λ t v o. refl) living step
    where
      -- what is said of the child's bytes, and of nobody else's
      of_child : (answer : Reply) (v o : ℕ) → answer ≡ reply.Ok → says (event.Fork t child) answer (InTask child.0 v o) ≡ As (InTask t.0 v o)
      of_child answer v o is = ap (λ (a : Reply). says (event.Fork t child) a (InTask child.0 v o)) is ∙ ap (λ (b : Bool). says_if b (As (InTask t.0 v o))) (eq-eqb child.0 child.0 refl)

      of_other : (answer : Reply) (u v o : ℕ) → answer ≡ reply.Ok → u ≢ child.0 → says (event.Fork t child) answer (InTask u v o) ≡ Nothing
      of_other answer u v o is other =
          ap (λ (a : Reply). says (event.Fork t child) a (InTask u v o)) is ∙ ap (λ (b : Bool). says_if b (As (InTask t.0 v o))) (ne_eqb child.0 u (λ e. other (sym e)))

      living : (task : Task) → task_at old.tasks t.0 ≡ Some task → is_live_task task ≡ true → Forks old t.0 child.0 task answer new → OnTasks old (event.Fork t child) answer new
      living task there lives_on h =
          record {
            pages = pages_same (event.Fork t child) answer (ap (λ (s : State). s.pages) h.3);
            places = places_come (event.Fork t child) answer come;
            fresh = gives_none answer (ap ticket_given h.0);
          }
        where
          come : (u v p : ℕ) → mapped_at new.page_tables u v ≡ Some p → ComesFrom old (event.Fork t child) answer u v p × (lives new.tasks u ≡ true)
          come u v p at =
              elim (copies-cases old.page_tables new.page_tables t.0 child.0 h.2 u v) [
                | inl here ↦ (
                  record {
                    task = t.0;
                    mapped = sym here.1 ∙ at;
                    follows = λ before o.
                        ap (λ (x : ℕ). follow (says (event.Fork t child) answer (InTask x v o)) before (InTask x v o)) here.0 ∙ ap (λ said. follow said before (InTask child.0 v o)) (of_child answer v o h.0);
                  },
                  ap (lives new.tasks) here.0 ∙ ap (there_and is_live_task) h.1.changed,
                )
                | inr was ↦ (
                  was_so (event.Fork t child) answer u v p (sym was.1 ∙ at) (λ o. of_other answer u v o h.0 was.0),
                  ap (there_and is_live_task) (h.1.others u was.0) ∙ alive u v p (sym was.1 ∙ at),
                )
              ]

  -- a place shows nothing any more
  frees : (t : TaskId) (v : ℕ) (answer : Reply) → TaskStep old (task_at old.tasks t.0) (λ task. Frees old t.0 v answer new) answer new → OnTasks old (event.Free t v) answer new
  frees t v answer step = of_task (event.Free t v) answer (task_at old.tasks t.0) _ (λ t v o. refl) living step
    where
      elsewhere : (answer : Reply) (u w o : ℕ) → answer ≡ reply.Ok → ((t.0 == u) && (v == w)) ≡ false → says (event.Free t v) answer (InTask u w o) ≡ Nothing
      elsewhere answer u w o is differ = ap (λ (a : Reply). says (event.Free t v) a (InTask u w o)) is ∙ by_tests (t.0 == u) (v == w) differ
        where
          by_tests : (a b : Bool) → (a && b) ≡ false → says_if a (says_if b (Byte 0)) ≡ Nothing
          by_tests true true e = cc
          by_tests true false e = refl
          by_tests false b e = refl

      living : (task : Task) → task_at old.tasks t.0 ≡ Some task → is_live_task task ≡ true → Frees old t.0 v answer new → OnTasks old (event.Free t v) answer new
      living task there lives_on h =
          record {
            pages = pages_still (event.Free t v) answer h.pages;
            places = places_come (event.Free t v) answer come;
            fresh = gives_none answer (ap ticket_given h.answers);
          }
        where
          come : (u w p : ℕ) → mapped_at new.page_tables u w ≡ Some p → ComesFrom old (event.Free t v) answer u w p × (lives new.tasks u ≡ true)
          come u w p at =
              by_place t.0 v u w
              (λ same_t same_v.
              never_some (mapped_at new.page_tables u w)
              (ap (λ (x : ℕ). mapped_at new.page_tables x w) (sym same_t) ∙ ap (λ (x : ℕ). mapped_at new.page_tables t.0 x) (sym same_v) ∙ h.shown.changed) at)
              (λ differ.
              let was = sym (h.shown.others u w differ) ∙ at in
              (was_so (event.Free t v) answer u w p was (λ o. elsewhere answer u w o h.answers differ), ap (λ (s : State). lives s.tasks u) h.state ∙ alive u w p was))

  -- a task is in another group
  attaches : (t : TaskId) (g : GroupId) → Attaches old t.0 g.0 new → OnTasks old (event.Attach t g) reply.Ok new
  attaches t g h =
      record {
        pages = pages_same (event.Attach t g) reply.Ok (ap (λ (s : State). s.pages) h.1);
        places = places_come (event.Attach t g) reply.Ok (λ u v p at. let was = sym (ap (λ (s : State). mapped_at s.page_tables u v) h.1) ∙ at in (was_so (event.Attach t g) reply.Ok u v p was (λ o. refl), lives_on u (alive u v p was)));
        fresh = gives_none reply.Ok refl;
      }
    where
      lives_on : (u : ℕ) → lives old.tasks u ≡ true → lives new.tasks u ≡ true
      lives_on u was =
          elim (eq_cases u t.0) [ inl same ↦ ap (lives new.tasks) same ∙ ap (there_and is_live_task) h.0.changed | inr other ↦ ap (there_and is_live_task) (h.0.others u other) ∙ was ]

  -- ---- relief and reclaim

  -- the event takes a page, and says nothing
  module _ (what : Event) (silent : (answer : Reply) → Silent what answer) where
    -- a page begins to be written out
    sent : (p frame block : ℕ) (page : Page) (counted : List EventCounts) (answer : Reply) → page_at old.pages p ≡ Some page → page.residence ≡ Held frame → StartsLeave old p page frame block counted answer new → OnTasks old what answer new
    sent p frame block page counted answer there held h =
        one_page what answer p _ h.state h.placed (inl (ap ticket_in there ∙ ap ticket_at held))
        (ItLeaves (record { frame = frame; block = block; ticket = record { 0 = h.ticket }; answers = h.answers; going = refl })) (silent answer)
        (gives answer h.ticket (ap ticket_given h.answers) h.ticket_free)

    -- or is gone at once
    dropped : (p frame : ℕ) (page : Page) (counted : List EventCounts) (answer : Reply) → page_at old.pages p ≡ Some page → page.residence ≡ Held frame → Drops old p counted answer new → OnTasks old what answer new
    dropped p frame page counted answer there held h =
        one_page what answer p None h.state h.gone (inl (ap ticket_in there ∙ ap ticket_at held)) tt (silent answer) (gives_none answer (ap ticket_given h.answers))

    -- by what the page holds
    leaves_by : (p frame : ℕ) (page : Page) (content : Content) (counted : List EventCounts) (answer : Reply) → page_at old.pages p ≡ Some page → page.residence ≡ Held frame → LeavesBy old p page content frame counted answer new → OnTasks old what answer new
    leaves_by p frame page Memory counted answer there held h = sent p frame h.block page counted answer there held h.leave
    leaves_by p frame page (OfFile file q) counted answer there held h = by_either page.dirty (λ k. sent p frame _ page counted answer there held k) (λ k. dropped p frame page counted answer there held k) h

    -- by where it stands
    takes : (target : ℕ) (answer : Reply) → Takes old target answer new → OnTasks old what answer new
    takes target answer h = by_residence h.page.residence refl h.leaves
      where
        by_residence : (r : Residence) → h.page.residence ≡ r → LeavesFrom old h.p h.page r (counted_at_take old target h.page.group) answer new → OnTasks old what answer new
        by_residence (Held frame) held k = leaves_by h.p frame h.page h.page.content _ answer h.there held k
        by_residence (Coming frame block ticket) held k = absurd k
        by_residence (Going frame block ticket) held k = absurd k
        by_residence (Away block) held k = absurd k

    -- a page is taken, or none can be
    reclaims : (target : ℕ) (Idle : Type 0) (answer : Reply) → (Idle → OnTasks old what answer new) → ReclaimStep old target Idle answer new → OnTasks old what answer new
    reclaims target Idle answer idle step =
        by_either (has_takeable old target) (takes target answer) (λ k. by_either (has_transfer old target) (λ w. quiet what answer w.1 (silent answer) (ap ticket_given w.0)) idle k) step

  -- a task is killed, or there is none
  kills : (why : Cause) (limit : ℕ) (answer : Reply) → KillStep old limit answer new → OnTasks old (event.Relieve why) answer new
  kills why limit (reply.KilledTask t) h = tasks_end (event.Relieve why) (reply.KilledTask t) _ Killed _ (λ t' v o. refl) refl h.2
  kills why limit (reply.KilledAll victim g tasks) h = tasks_end (event.Relieve why) (reply.KilledAll victim g tasks) _ Killed _ (λ t' v o. refl) refl h.3
  kills why limit reply.NoVictim h = quiet (event.Relieve why) reply.NoVictim h.1 (λ t v o. refl) refl
  kills why limit answer h = absurd h

  -- where the cause stands
  relieves : (why : Cause) (answer : Reply) → RelieveStep old why answer new → OnTasks old (event.Relieve why) answer new
  relieves why answer step =
      by_either (stands old why) (reclaims (event.Relieve why) (λ any t v o. refl) (target_of why) _ answer (kills why (target_of why) answer))
      (λ r. quiet (event.Relieve why) answer r.1 (λ t v o. refl) (ap ticket_given r.0)) step

  -- as it is asked for
  takes_one : (g : GroupId) (answer : Reply) → ReclaimOneStep old g.0 answer new → OnTasks old (event.ReclaimOne g) answer new
  takes_one g answer step = reclaims (event.ReclaimOne g) (λ any t v o. refl) g.0 _ answer (λ n. quiet (event.ReclaimOne g) answer n.1 (λ t v o. refl) (ap ticket_given n.0)) step

  -- ---- ends of transfers

  module _ (what : Event) (answer : Reply) (direction : Direction) (ticket : TicketId) (ended : ends what ≡ Some ticket.0) (silent : Silent what answer) where
    -- the page has the ticket that ends
    under : (frame block : ℕ) → ticket_at (flight direction frame block ticket.0) ≡ ends what
    under frame block = by_direction direction ∙ sym ended
      where
        by_direction : (direction : Direction) → ticket_at (flight direction frame block ticket.0) ≡ Some ticket.0
        by_direction In = refl
        by_direction Out = refl

    -- the page is gone, or stands there
    stands_so : (p : ℕ) (page now : Page) (to : Option Page) → Settled old.page_tables p page to now → Stood old what answer p now → Stands what answer p to
    stands_so p page now to (inl gone) stood = subst (Stands what answer p) (sym gone.0) tt
    stands_so p page now to (inr is) stood = subst (Stands what answer p) (sym is.0) stood

    -- the transfer ends in the frame
    lands : EndsTransfer old (λ frame block. flight direction frame block ticket.0) in_frame answer new → OnTasks old what answer new
    lands h =
        one_page what answer h.p _ h.state h.placed (inr (ap ticket_in h.there ∙ ap ticket_at h.moves ∙ under h.frame h.block))
        (stands_so h.p h.page _ _ (in_frame-cases old.page_tables h.p h.page h.frame h.block) (InFrame h.frame refl)) silent (gives_none answer (ap ticket_given h.answers))

    -- or on the block
    lies : what ≡ end_on_block direction ticket → EndsTransfer old (λ frame block. flight direction frame block ticket.0) on_block answer new → OnTasks old what answer new
    lies is h =
        one_page what answer h.p _ h.state h.placed (inr (ap ticket_in h.there ∙ ap ticket_at h.moves ∙ under h.frame h.block))
        (stands_so h.p h.page _ _ (on_block-cases old.page_tables h.p h.page h.frame h.block)
        (OnBlock direction (record { frame = h.frame; block = h.block; ticket = ticket; before = h.page; is = is; there = h.there; flew = h.moves; away = refl }))) silent
        (gives_none answer (ap ticket_given h.answers))

  -- ---- groups that go

  -- every page stands where it did, and nothing is said
  removes : (g : GroupId) → Removes old g.0 new → OnTasks old (event.Rmdir g) reply.Ok new
  removes g h =
      record {
        pages = record {
          stays = λ p n page there ticket other. (regrouped old.opening.placement g.0 h.parent page, h.pages p ∙ ap (option_map (regrouped old.opening.placement g.0 h.parent)) there, refl);
          stood = λ p page there.
              let was = regrouped-was old.opening.placement g.0 h.parent (page_at old.pages p) page (sym (h.pages p) ∙ there) in
              ItStays (record { before = was.0; there = was.1; same = ap (λ (x : Page). x.residence) was.2; content = ap (λ (x : Page). x.content) was.2 });
        };
        places = places_same (event.Rmdir g) reply.Ok (ap (λ (s : State). s.page_tables) h.state) (ap (λ (s : State). s.tasks) h.state) (λ t v o. refl);
        fresh = gives_none reply.Ok refl;
      }

  -- ---- new tasks

  -- a task begins, and shows nothing
  spawns : (t : TaskId) (g : GroupId) → SetsTask old.tasks t.0 g.0 Live new.tasks → ShowsNothing old.page_tables new.page_tables t.0 → new ≡ record old { tasks = new.tasks; page_tables = new.page_tables }
      → OnTasks old (event.Spawn t g) reply.Ok new
  spawns t g sets shown state =
      record {
        pages = pages_same (event.Spawn t g) reply.Ok (ap (λ (s : State). s.pages) state);
        places = places_come (event.Spawn t g) reply.Ok come;
        fresh = gives_none reply.Ok refl;
      }
    where
      come : (u v p : ℕ) → mapped_at new.page_tables u v ≡ Some p → ComesFrom old (event.Spawn t g) reply.Ok u v p × (lives new.tasks u ≡ true)
      come u v p at =
          let was = shows_nothing-was old.page_tables new.page_tables t.0 shown u v p at in
          (was_so (event.Spawn t g) reply.Ok u v p was.1 (λ o. ap (λ b. says_if b (Byte 0)) (ne_eqb t.0 u (λ e. was.0 (sym e)))), ap (there_and is_live_task) (sets.others u was.0) ∙ alive u v p was.1)

  -- what each step does
  step_on_tasks : (what : Event) (answer : Reply) → refusal old what ≡ None → Step old what answer new → OnTasks old what answer new
  step_on_tasks (event.Access t (Virtual v o) op) answer none h = accesses t v o op answer h
  step_on_tasks (event.Access t (File f q o) op) answer none h = accesses_file t f q o op answer h
  step_on_tasks (event.Arrived ticket bytes) answer none h = lands (event.Arrived ticket bytes) answer In ticket refl (λ t v o. refl) h
  step_on_tasks (event.FetchFailed ticket) answer none h = lies (event.FetchFailed ticket) answer In ticket refl (λ t v o. refl) refl h
  step_on_tasks (event.Left ticket) answer none h = lies (event.Left ticket) answer Out ticket refl (λ t v o. refl) refl h
  step_on_tasks (event.LeaveFailed ticket) answer none h = lands (event.LeaveFailed ticket) answer Out ticket refl (λ t v o. refl) h
  step_on_tasks (event.Relieve why) answer none h = relieves why answer h
  step_on_tasks (event.ReclaimOne g) answer none h = takes_one g answer h
  step_on_tasks (event.Spawn t g) reply.Ok none h = spawns t g h.0 h.1 h.2
  step_on_tasks (event.Fork t child) answer none h = forks t child answer h
  step_on_tasks (event.Exit t) answer none h = exits t answer h
  step_on_tasks (event.Free t v) answer none h = frees t v answer h
  step_on_tasks (event.Attach t g) reply.Ok none h = attaches t g h
  step_on_tasks (event.Mkdir path) reply.Ok none h = quiet (event.Mkdir path) reply.Ok h (λ t v o. refl) refl
  step_on_tasks (event.Rmdir g) reply.Ok none h = removes g h
  step_on_tasks (event.Set g setting) reply.Ok none h = quiet (event.Set g setting) reply.Ok (h ∙ setting-is old g.0 setting) (λ t v o. refl) refl
  step_on_tasks (event.Show what) (reply.Shown numbers) none h = quiet (event.Show what) (reply.Shown numbers) h.1 (λ t v o. refl) refl
  step_on_tasks (event.MergeMarks word bits) reply.Ok none h = quiet (event.MergeMarks word bits) reply.Ok h (λ t v o. refl) refl
  step_on_tasks what answer none h = absurd h

-- what each step does
pub step_effect : (old new : State) → AllLive old.page_tables old.tasks → ShowsPages old → AreFiled old → (what : Event) (answer : Reply) → refusal old what ≡ None → Step old what answer new → Effect old what answer new
step_effect old new alive shows files what answer none step =
    let done = step_on_tasks old new alive shows what answer none step in record { pages = done.pages; places = done.places; files = files_go old new what answer files step; fresh = done.fresh }
