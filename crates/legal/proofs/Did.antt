-- What a step did to the state, as one of few cases. Whoever asks what steps leave as it was goes by these.
use Rattle.std.proofs.Common.{arith, ◌≡◌, inl, inr, ℕ, ◌<◌, Bool, true, false, List, [], ◌∷◌, ◌++◌, Option, Some, None, refl, sym, ap, ◌∙◌, subst}
use Rattle.std.specs.Prelude.{MatchBool, nat_lt, ◌||◌, not, slice_index}
use Rattle.std.proofs.lemmas.Bool.{cases_Bool, and_parts}
use Rattle.std.proofs.lemmas.Bool.Decides.{nat_tests}
use Rattle.machine.specs.declared.id.TaskId.{TaskId}
use Rattle.machine.specs.declared.id.GroupId.{GroupId}
use Rattle.machine.specs.declared.id.TicketId.{TicketId}
use Rattle.machine.specs.declared.record.Life.{Life}
use Rattle.machine.specs.declared.record.Life.TheVariants.{Live, Exited, Killed}
use Rattle.machine.specs.declared.record.Limits.{Limits}
use Rattle.machine.specs.declared.record.OomGroup.{OomGroup}
use Rattle.machine.specs.declared.record.OomGroup.TheVariants.{Single}
use Rattle.machine.specs.declared.record.Task.{Task}
use Rattle.machine.specs.declared.event.Cause.{Cause}
use Rattle.machine.specs.declared.event.Op.{Op}
use Rattle.machine.specs.declared.event.Op.TheVariants.{Read, Write}
use Rattle.machine.specs.declared.event.Place.TheVariants.{Virtual, File}
use Rattle.machine.specs.declared.event.Setting.{Setting}
use Rattle.machine.specs.declared.event.Setting.TheVariants as setting
use Rattle.machine.specs.declared.event.Event.{Event}
use Rattle.machine.specs.declared.event.Event.TheVariants as event
use Rattle.machine.specs.declared.reply.Reply.{Reply}
use Rattle.machine.specs.declared.reply.Reply.TheVariants as reply
use Rattle.machine.specs.Slots.{Changes, there_and}
use Rattle.machine.specs.Pages.{in_transfer_at, Content, Memory, OfFile, Residence, Held, Coming, Going, Away, Page, page_at, file_page, home_block, is_anon, frame_at, is_some_number, block_at, ticket_at, is_frame_taken, is_ticket_taken}
use Rattle.machine.specs.declared.record.EventCounts.{EventCounts}
use Rattle.machine.specs.Counts.{no_limits, no_counts}
use Rattle.machine.specs.Tasks.{PageTables, mapped_at, mappers, Shows, Copies, ShowsNothing, SetsTask, task_at, is_live_life, is_live_task, lives, group_of, group_of_task}
use Rattle.machine.specs.State.{State, page_numbers, over_in, is_frame_free}
use Rattle.machine.specs.Access.{Meeting, Unmapped, Hits, Transferring, NeedsPage, NeedsCopy, NeedsSwapIn, NeedsRead, Dangling, page_size, is_place, meets, charged_from_swap}
use Rattle.machine.specs.Refusals.{first_cause, life_refusal, task_refusal, refusal}
use Rattle.machine.specs.declared.refusal.Refusal.TheVariants.{BadPlace}
use Rattle.machine.specs.Reclaim.{counted_at_take, has_takeable, has_transfer, stands, target_of}
use Rattle.machine.specs.Step.{ChargeStep, IsFreeBlock, MakesPage, StartsFetch, ReadsFile, HitStep, UnmappedStep, MeetStep, LifeStep, TaskStep, Takes, StartsLeave, LeavesBy, LeavesFrom, ReclaimStep, KillStep, RelieveStep, Frees, Removes, EndsTasks, EndsTransfer, in_frame, on_block, new_node, new_page, with_setting, Step}
use Rattle.machine.proofs.Values.{some_inj, never_some, unlike}
use Rattle.page_lists.proofs.RegroupedLemmas.{swap-either}
use Rattle.legal.proofs.MoveLemmas.{MayGo, MayStay, Met, met, MetFile, met_file, Settled, hits_held, swaps_away, in_frame-cases, on_block-cases, in_frame-memory, on_block-memory}

-- ---- ends of tasks

module _ {old new : State} {life : Life} {counted : List EventCounts} where
  -- whoever shows a page has not ended, and showed it before
  pub ends-was : {is_gone : ℕ → Bool} → EndsTasks old is_gone life counted new → (u v p : ℕ) → mapped_at new.page_tables u v ≡ Some p → (is_gone u ≡ false) × (mapped_at old.page_tables u v ≡ Some p)
  ends-was {is_gone} h u v p at =
      elim (cases_Bool (is_gone u)) [ inl gone ↦ never_some (mapped_at new.page_tables u v) (h.none u v gone) at | inr stays ↦ (stays, sym (h.others u v stays) ∙ at) ]

-- ---- the cases

abbrev pub is_access : Event → Bool
is_access (event.Access t place op) = true
is_access what = false

abbrev pub is_mkdir : Event → Bool
is_mkdir (event.Mkdir path) = true
is_mkdir what = false

abbrev pub is_rmdir : Event → Bool
is_rmdir (event.Rmdir g) = true
is_rmdir what = false

-- the event may change which groups there are
abbrev pub changes_groups : Event → Bool
changes_groups what = is_mkdir what || is_rmdir what

abbrev pub is_out : Reply → Bool
is_out (reply.Out ticket) = true
is_out answer = false

-- where a page goes that is written out: memory to a block that was free, and a page of a file that was written to, to its home block
abbrev pub GoesTo : State → Page → ℕ → Content → Type 0
GoesTo old page block Memory = IsFreeBlock old block
GoesTo old page block (OfFile file q) = (block ≡ home_block old.opening.swap old.opening.files file q) × (page.dirty ≡ true)

-- the read-in under the ticket of this number ended well
pub record Arrives (what : Event) (n : ℕ) : Type 0 where
  pub ticket : TicketId
  pub bytes : List ℕ
  pub is : what ≡ event.Arrived ticket bytes
  pub number : ticket.0 ≡ n

-- how a page came to stand where it stands now, dirty or not
pub data Moves (old : State) (what : Event) (answer : Reply) (page : Page) (dirty : Bool) (now : Residence) : Type 0 where
  -- it was written to where it stood: memory stays clean, and what was dirty stays so
  Rests : now ≡ page.residence → (is_anon page.content ≡ true → dirty ≡ page.dirty) → (page.dirty ≡ true → dirty ≡ true) → Moves old what answer page dirty now
  -- an access reads it in
  Comes : (frame block ticket : ℕ) → is_access what ≡ true → is_out answer ≡ false → page.residence ≡ Away block → now ≡ Coming frame block ticket → dirty ≡ false → is_frame_taken old.pages frame ≡ false
      → is_ticket_taken old.pages ticket ≡ false → Moves old what answer page dirty now
  -- it is written out
  Goes : (frame block ticket : ℕ) → page.residence ≡ Held frame → now ≡ Going frame block ticket → dirty ≡ page.dirty → GoesTo old page block page.content → is_ticket_taken old.pages ticket ≡ false
      → Moves old what answer page dirty now
  -- its transfer ended in its frame: it arrived, if it was being read in
  Lands : (frame : ℕ) → is_out answer ≡ false → frame_at page.residence ≡ Some frame → now ≡ Held frame → dirty ≡ page.dirty → ((f b n : ℕ) → page.residence ≡ Coming f b n → Arrives what n) → Moves old what answer page dirty now
  -- or on its block, and it is memory
  Lies : (frame block : ℕ) → is_out answer ≡ false → frame_at page.residence ≡ Some frame → block_at page.residence ≡ Some block → now ≡ Away block → dirty ≡ page.dirty → is_anon page.content ≡ true
      → Moves old what answer page dirty now

-- whose a page is that was written to, or stands elsewhere: whose it was; or an access of a live task reads it in, and it is the group's of the task
pub data ChargedTo (old : State) (what : Event) (page : Page) (g : ℕ) : Type 0 where
  ItsOwn : g ≡ page.group → ChargedTo old what page g
  ItsReaders : (t block : ℕ) → is_access what ≡ true → lives old.tasks t ≡ true → page.residence ≡ Away block → g ≡ group_of_task old.tasks t → ChargedTo old what page g

-- a page that has a frame is whose it was
pub same_group : (old : State) (what : Event) (page : Page) (g : ℕ) → is_some_number (frame_at page.residence) ≡ true → ChargedTo old what page g → g ≡ page.group
same_group old what page g framed (ItsOwn same) = same
same_group old what page g framed (ItsReaders t block access alive away reads) = unlike (is_some_number (frame_at page.residence)) framed (ap (λ (r : Residence). is_some_number (frame_at r)) away)

-- a page of a file that was read in, or is being read in, for a group
abbrev pub read_page : ℕ → ℕ → ℕ → Residence → Page
read_page g f q r = record { content = OfFile f q; group = g; dirty = false; residence = r }

-- why a page may be gone: it was memory; or of a file, and clean in its frame, or being read in, or its write-out ended
pub data Went (what : Event) (page : Page) : Type 0 where
  WasMemory : is_anon page.content ≡ true → Went what page
  WasClean : (frame : ℕ) → page.residence ≡ Held frame → page.dirty ≡ false → Went what page
  WasComing : (frame block ticket : ℕ) → page.residence ≡ Coming frame block ticket → Went what page
  WasGoing : (frame block : ℕ) (ticket : TicketId) → what ≡ event.Left ticket → page.residence ≡ Going frame block ticket.0 → Went what page

-- the place showed nothing, or a page that another place shows too
abbrev pub WasShared : State → ℕ → ℕ → Type 0
WasShared s t v = (q : ℕ) → mapped_at s.page_tables t v ≡ Some q → nat_lt 1 (mappers s.page_tables q) ≡ true

pub data Did (old : State) (what : Event) (answer : Reply) (new : State) : Type 0 where
  -- nothing, but for settings and for what stands counted
  Kept : (limits : List Limits) (flags : List OomGroup) (counted : List EventCounts) → new ≡ record old { limits = limits; flags = flags; counted = counted } → Did old what answer new
  -- an access of a live task made a page, charged to its group, and a virtual page of the task shows it
  Made : (t v p frame : ℕ) → is_access what ≡ true → is_out answer ≡ false → lives old.tasks t ≡ true → WasShared old t v → p < page_numbers old.opening → page_at old.pages p ≡ None → is_frame_taken old.pages frame ≡ false
      → Changes old.pages new.pages p (Some (new_page (group_of_task old.tasks t) frame)) → Shows old.page_tables new.page_tables t v (Some p)
      → new ≡ record old { pages = new.pages; page_tables = new.page_tables } → Did old what answer new
  -- one page was written to, or stands elsewhere: in the end of a transfer it was of a file, or something maps it
  Moved : (p : ℕ) (page : Page) (g : ℕ) (dirty : Bool) (now : Residence) (counted : List EventCounts) → page_at old.pages p ≡ Some page → ChargedTo old what page g
      → Changes old.pages new.pages p (Some (record { content = page.content; group = g; dirty = dirty; residence = now })) → Moves old what answer page dirty now → (in_transfer_at page.residence ≡ true → MayStay old.page_tables p page)
      → new ≡ record old { pages = new.pages; counted = counted } → Did old what answer new
  -- an access of a live task reads a page of a file in, charged to its group; an access that nothing refuses is of a page that the file has
  Cached : (t f q p frame ticket : ℕ) → is_access what ≡ true → is_out answer ≡ false → lives old.tasks t ≡ true → file_page old.pages f q ≡ None → p < page_numbers old.opening → page_at old.pages p ≡ None
      → is_frame_taken old.pages frame ≡ false → is_ticket_taken old.pages ticket ≡ false → (refusal old what ≡ None → q < slice_index old.opening.files f)
      → Changes old.pages new.pages p (Some (read_page (group_of_task old.tasks t) f q (Coming frame (home_block old.opening.swap old.opening.files f q) ticket))) → new ≡ record old { pages = new.pages } → Did old what answer new
  -- one page is gone: it was of a file, or nothing mapped it
  Dropped : (p : ℕ) (page : Page) (counted : List EventCounts) → is_out answer ≡ false → page_at old.pages p ≡ Some page → MayGo old.page_tables p page → Went what page → Changes old.pages new.pages p None
      → new ≡ record old { pages = new.pages; counted = counted } → Did old what answer new
  -- the tasks of which a test holds are dead, and show nothing
  Ended : (is_gone : ℕ → Bool) (life : Life) (counted : List EventCounts) → is_out answer ≡ false → is_live_life life ≡ false → EndsTasks old is_gone life counted new → Did old what answer new
  -- a task more
  Spawned : (t : TaskId) (g : GroupId) → what ≡ event.Spawn t g → SetsTask old.tasks t.0 g.0 Live new.tasks → ShowsNothing old.page_tables new.page_tables t.0
      → new ≡ record old { tasks = new.tasks; page_tables = new.page_tables } → Did old what answer new
  -- a task more, in the group of a live one, that shows what that one shows
  Forked : (t child : TaskId) → what ≡ event.Fork t child → is_out answer ≡ false → lives old.tasks t.0 ≡ true → SetsTask old.tasks child.0 (group_of_task old.tasks t.0) Live new.tasks
      → Copies old.page_tables new.page_tables t.0 child.0 → new ≡ record old { tasks = new.tasks; page_tables = new.page_tables } → Did old what answer new
  -- a virtual page of a live task shows nothing
  Freed : (t : TaskId) (v : ℕ) → what ≡ event.Free t v → is_out answer ≡ false → lives old.tasks t.0 ≡ true → Frees old t.0 v answer new → Did old what answer new
  -- a task is in another group
  Attached : (t : TaskId) (g : GroupId) → what ≡ event.Attach t g → is_out answer ≡ false → SetsTask old.tasks t.0 g.0 Live new.tasks → new ≡ record old { tasks = new.tasks } → Did old what answer new
  -- a group is removed, and its pages are its parent's, or by Linux's placement on their blocks the root's
  Removed : (g : GroupId) → what ≡ event.Rmdir g → is_out answer ≡ false → Removes old g.0 new → Did old what answer new
  -- a group more
  Grown : (path : List ℕ) → what ≡ event.Mkdir path → is_out answer ≡ false → new ≡ record old { tree = old.tree ++ new_node old.tree path ∷ []; limits = old.limits ++ no_limits ∷ []; flags = old.flags ++ Single ∷ []; counted = old.counted ++ no_counts ∷ [] } → Did old what answer new

-- ---- each step is one

-- a setting changes the limits or the flags
pub setting-is : (old : State) (g : ℕ) (what : Setting) → with_setting old g what ≡ record old { limits = (with_setting old g what).limits; flags = (with_setting old g what).flags }
setting-is old g (setting.Max amount) = refl
setting-is old g (setting.Guard guard amount) = refl
setting-is old g (setting.OomGroup flag) = refl

module _ (old new : State) (what : Event) where
  by_test : {P Q R : Type 0} (b : Bool) → (P → R) → (Q → R) → MatchBool b P Q → R
  by_test true f g h = f h
  by_test false f g h = g h

  same : (answer : Reply) → new ≡ old → Did old what answer new
  same answer e = Kept old.limits old.flags old.counted e

  -- ---- accesses

  module _ (access : is_access what ≡ true) where
    charged : (g : ℕ) (Granted : Type 0) (answer : Reply) → (Granted → Did old what answer new) → ChargeStep old (over_in old g) (is_frame_free old) Granted answer new → Did old what answer new
    charged g Granted answer granted step = by_over (over_in old g) step
      where
        by_over : (low : Option ℕ) → ChargeStep old low (is_frame_free old) Granted answer new → Did old what answer new
        by_over (Some low) h = Kept old.limits old.flags _ h.1
        by_over None h = by_test (is_frame_free old) granted (λ k. same answer k.1) h

    unmapped : (answer : Reply) → UnmappedStep old answer new → Did old what answer new
    unmapped (reply.Done byte hit) h = same _ h.1
    unmapped answer h = absurd h

    hit : (p frame : ℕ) (page : Page) (op : Op) (answer : Reply) → page_at old.pages p ≡ Some page → page.residence ≡ Held frame → HitStep old p page frame op answer new → Did old what answer new
    hit p frame page Read (reply.Done byte at) there held h = same _ h.1
    hit p frame page (Write b) (reply.Done byte at) there held h = Moved p page page.group _ page.residence old.counted there (ItsOwn refl) h.2 (Rests refl (stays_clean page.content) stays_dirty) (λ moving. unlike (in_transfer_at page.residence) moving (ap in_transfer_at held)) h.3
      where
        -- a write to memory leaves it as it was, and one to a page of a file makes it dirty
        stays_clean : (content : Content) → is_anon content ≡ true → (not (is_anon content) || page.dirty) ≡ page.dirty
        stays_clean Memory memory = refl
        stays_clean (OfFile f q) memory = cc

        stays_dirty : page.dirty ≡ true → (not (is_anon page.content) || page.dirty) ≡ true
        stays_dirty dirty = by_kind (is_anon page.content)
          where
            by_kind : (b : Bool) → (not b || page.dirty) ≡ true
            by_kind true = dirty
            by_kind false = refl
    hit p frame page op answer there held h = absurd h

    makes : (t v : ℕ) (op : Op) (answer : Reply) → lives old.tasks t ≡ true → WasShared old t v → MakesPage old t v (group_of_task old.tasks t) op answer new → Did old what answer new
    makes t v op answer alive shared h = Made t v h.page h.frame access (ap is_out h.answers) alive shared h.in_range h.slot_free h.frame_free.unused h.placed h.shown h.state

    -- whom a page is charged to that a live task reads in from its swap block
    charged_to : (t block : ℕ) (page : Page) → lives old.tasks t ≡ true → page.residence ≡ Away block
        → ChargedTo old what page (charged_from_swap old.opening.placement page.group (group_of_task old.tasks t))
    charged_to t block page alive away =
        elim (swap-either old.opening.placement page.group (group_of_task old.tasks t)) [ inl own ↦ ItsOwn own | inr reads ↦ ItsReaders t block access alive away reads ]

    fetches : (p g : ℕ) (page : Page) (block : ℕ) (answer : Reply) → page_at old.pages p ≡ Some page → page.residence ≡ Away block → ChargedTo old what page g
        → StartsFetch old p g page.content block answer new → Did old what answer new
    fetches p g page block answer there away whose h =
        Moved p page g false _ old.counted there whose h.placed (Comes h.frame block h.ticket access (ap is_out h.answers) away refl refl h.frame_free.unused h.ticket_free)
        (λ moving. unlike (in_transfer_at page.residence) moving (ap in_transfer_at away)) h.state

    meeting : (t v o : ℕ) (op : Op) (answer : Reply) (met : Meeting) → lives old.tasks t ≡ true → meets old t (Virtual v o) op ≡ met → MeetStep old t (group_of_task old.tasks t) op met answer new
        → Did old what answer new
    meeting t v o op answer Unmapped alive is h = unmapped answer h
    meeting t v o op answer (Hits p page frame) alive is h = let found = hits_held old t (Virtual v o) op p page frame is in hit p frame page op answer found.0 found.1 h
    meeting t v o op answer Transferring alive is h = same answer h.1
    meeting t v o op answer (NeedsPage w) alive is h =
        let found : Met old t v op (NeedsPage w) = subst (Met old t v op) is (met old t v o op) in
        charged _ _ answer (makes t w op answer alive (λ q at. never_some (mapped_at old.page_tables t v) found.1 (ap (mapped_at old.page_tables t) (sym found.0) ∙ at))) h
    meeting t v o op answer (NeedsCopy w) alive is h =
        let found : Met old t v op (NeedsCopy w) = subst (Met old t v op) is (met old t v o op) in
        charged _ _ answer (makes t w op answer alive (λ q at. ap (λ (p : ℕ). nat_lt 1 (mappers old.page_tables p)) (some_inj (sym at ∙ ap (mapped_at old.page_tables t) found.0 ∙ found.4)) ∙ found.7)) h
    meeting t v o op answer (NeedsSwapIn p page block) alive is h =
        let found = swaps_away old t v o op p page block is in
        charged _ _ answer (fetches p _ page block answer found.0 found.1 (charged_to t block page alive found.1)) h
    meeting t v o op answer (NeedsRead f q) alive is h = absurd (subst (Met old t v op) is (met old t v o op))
    meeting t v o op answer Dangling alive is h = absurd h

    reads : (t f q : ℕ) (answer : Reply) → lives old.tasks t ≡ true → file_page old.pages f q ≡ None → (refusal old what ≡ None → q < slice_index old.opening.files f)
        → ReadsFile old f q (group_of_task old.tasks t) answer new → Did old what answer new
    reads t f q answer alive none within h =
        Cached t f q h.page h.fetch.frame h.fetch.ticket access (ap is_out h.fetch.answers) alive none h.in_range h.slot_free h.fetch.frame_free.unused h.fetch.ticket_free within h.fetch.placed h.fetch.state

    meeting_file : (t f q o : ℕ) (op : Op) (answer : Reply) (met : Meeting) → lives old.tasks t ≡ true → (refusal old what ≡ None → q < slice_index old.opening.files f) → meets old t (File f q o) op ≡ met
        → MetFile old f q met → MeetStep old t (group_of_task old.tasks t) op met answer new → Did old what answer new
    meeting_file t f q o op answer Unmapped alive within is found h = unmapped answer h
    meeting_file t f q o op answer (Hits p page frame) alive within is found h = hit p frame page op answer found.1 found.2 h
    meeting_file t f q o op answer Transferring alive within is found h = same answer h.1
    meeting_file t f q o op answer (NeedsPage w) alive within is found h = absurd found
    meeting_file t f q o op answer (NeedsCopy w) alive within is found h = absurd found
    meeting_file t f q o op answer (NeedsSwapIn p page block) alive within is found h = absurd found
    meeting_file t f q o op answer (NeedsRead f' q') alive within is found h =
        charged _ _ answer
        (λ begun.
        reads t f q answer alive found.2 within
        (subst (λ (x : ℕ). ReadsFile old x q (group_of_task old.tasks t) answer new) found.0 (subst (λ (x : ℕ). ReadsFile old f' x (group_of_task old.tasks t) answer new) found.1 begun))) h
    meeting_file t f q o op answer Dangling alive within is found h = absurd h

  -- the event of a task that has not ended
  of_task : (t : ℕ) (Live_step : Task → Type 0) (answer : Reply) → ((task : Task) → task_at old.tasks t ≡ Some task → lives old.tasks t ≡ true → Live_step task → Did old what answer new)
      → TaskStep old (task_at old.tasks t) Live_step answer new → Did old what answer new
  of_task t Live_step answer living step = by_slot (task_at old.tasks t) refl step
    where
      by_life : (task : Task) (life : Life) → task_at old.tasks t ≡ Some task → task.life ≡ life → LifeStep old life (Live_step task) answer new → Did old what answer new
      by_life task Live known is h = living task known (ap (there_and is_live_task) known ∙ ap is_live_life is) h
      by_life task Exited known is h = absurd h
      by_life task Killed known is h = same answer h.1

      by_slot : (slot : Option Task) → task_at old.tasks t ≡ slot → TaskStep old slot Live_step answer new → Did old what answer new
      by_slot None known h = absurd h
      by_slot (Some task) known h = by_life task task.life known refl h

  -- ---- reclaims

  sent : (p frame block : ℕ) (page : Page) (counted : List EventCounts) (answer : Reply) → page_at old.pages p ≡ Some page → page.residence ≡ Held frame → GoesTo old page block page.content
      → StartsLeave old p page frame block counted answer new → Did old what answer new
  sent p frame block page counted answer there held goes h = Moved p page page.group page.dirty _ counted there (ItsOwn refl) h.placed (Goes frame block h.ticket held refl refl goes h.ticket_free)
      (λ moving. unlike (in_transfer_at page.residence) moving (ap in_transfer_at held)) h.state

  leaves_by : (p frame : ℕ) (page : Page) (content : Content) (counted : List EventCounts) (answer : Reply) → page_at old.pages p ≡ Some page → page.residence ≡ Held frame → page.content ≡ content
      → LeavesBy old p page content frame counted answer new → Did old what answer new
  leaves_by p frame page Memory counted answer there held is h = sent p frame h.block page counted answer there held (subst (GoesTo old page h.block) (sym is) h.block_free) h.leave
  leaves_by p frame page (OfFile file q) counted answer there held is h =
      by_dirty page.dirty refl (λ dirty k. sent p frame _ page counted answer there held (subst (GoesTo old page _) (sym is) (refl, dirty)) k) (λ clean k. Dropped p page counted (ap is_out k.answers) there (λ memory. of_file memory) (WasClean frame held clean) k.gone k.state) h
    where
      by_dirty : {P Q R : Type 0} (b : Bool) → page.dirty ≡ b → (page.dirty ≡ true → P → R) → (page.dirty ≡ false → Q → R) → MatchBool b P Q → R
      by_dirty true dirty f g k = f dirty k
      by_dirty false clean f g k = g clean k

      of_file : {P : Type 0} → is_anon page.content ≡ true → P
      of_file memory = absurd (let e : false ≡ true = sym (ap is_anon is) ∙ memory in cc)

  takes : (target : ℕ) (answer : Reply) → Takes old target answer new → Did old what answer new
  takes target answer h = by_residence h.page.residence refl h.leaves
    where
      by_residence : (r : Residence) → h.page.residence ≡ r → LeavesFrom old h.p h.page r (counted_at_take old target h.page.group) answer new → Did old what answer new
      by_residence (Held frame) held k = leaves_by h.p frame h.page h.page.content _ answer h.there held refl k
      by_residence (Coming frame block ticket) held k = absurd k
      by_residence (Going frame block ticket) held k = absurd k
      by_residence (Away block) held k = absurd k

  reclaims : (target : ℕ) (Idle : Type 0) (answer : Reply) → (Idle → Did old what answer new) → ReclaimStep old target Idle answer new → Did old what answer new
  reclaims target Idle answer idle step = by_test (has_takeable old target) (takes target answer) (λ k. by_test (has_transfer old target) (λ w. same answer w.1) idle k) step

  kills : (limit : ℕ) (answer : Reply) → KillStep old limit answer new → Did old what answer new
  kills limit (reply.KilledTask t) h = Ended _ Killed _ refl refl h.2
  kills limit (reply.KilledAll victim g tasks) h = Ended _ Killed _ refl refl h.3
  kills limit reply.NoVictim h = Kept old.limits old.flags _ h.1
  kills limit answer h = absurd h

  relieves : (why : Cause) (answer : Reply) → RelieveStep old why answer new → Did old what answer new
  relieves why answer step = by_test (stands old why) (reclaims (target_of why) _ answer (kills (target_of why) answer)) (λ r. same answer r.1) step

  -- ---- ends of transfers

  settles : (from : ℕ → ℕ → Residence) (to : PageTables → ℕ → Page → ℕ → ℕ → Option Page) (settled : ℕ → ℕ → Residence) (answer : Reply)
      → ((tables : PageTables) (q : ℕ) (page : Page) (frame block : ℕ) → Settled tables q page (to tables q page frame block) (record page { residence = settled frame block }))
      → (is_out answer ≡ false → (q : ℕ) (page : Page) (frame block : ℕ) → page.residence ≡ from frame block → to old.page_tables q page frame block ≡ Some (record page { residence = settled frame block })
      → Moves old what answer page page.dirty (settled frame block))
      → ((q : ℕ) (page : Page) (frame block : ℕ) → page.residence ≡ from frame block → to old.page_tables q page frame block ≡ None → Went what page) → EndsTransfer old from to answer new → Did old what answer new
  settles from to settled answer cases moves went h =
      elim (cases old.page_tables h.p h.page h.frame h.block) [
        | inl none ↦ Dropped h.p h.page old.counted (ap is_out h.answers) h.there none.1 (went h.p h.page h.frame h.block h.moves none.0) (subst (Changes old.pages new.pages h.p) none.0 h.placed) h.state
        | inr some ↦
            Moved h.p h.page h.page.group h.page.dirty (settled h.frame h.block) old.counted h.there (ItsOwn refl) (subst (Changes old.pages new.pages h.p) some.0 h.placed)
            (moves (ap is_out h.answers) h.p h.page h.frame h.block h.moves some.0) (λ moving. some.1) h.state
      ]

  lands : (from : ℕ → ℕ → Residence) (answer : Reply) → ((frame block : ℕ) → frame_at (from frame block) ≡ Some frame) → ((frame block f b n : ℕ) → from frame block ≡ Coming f b n → Arrives what n)
      → EndsTransfer old from in_frame answer new → Did old what answer new
  lands from answer framed arrives =
      settles from in_frame (λ frame block. Held frame) answer in_frame-cases (λ no_out q page frame block is stays. Lands frame no_out (ap frame_at is ∙ framed frame block) refl refl (λ f b n coming. arrives frame block f b n (sym is ∙ coming)))
      (λ q page frame block is none. WasMemory (in_frame-memory old.page_tables q page frame block none))

  lies : (from : ℕ → ℕ → Residence) (answer : Reply) → ((frame block : ℕ) → frame_at (from frame block) ≡ Some frame) → ((frame block : ℕ) → block_at (from frame block) ≡ Some block)
      → ((page : Page) (frame block : ℕ) → page.residence ≡ from frame block → Went what page) → EndsTransfer old from on_block answer new → Did old what answer new
  lies from answer framed on went =
      settles from on_block (λ frame block. Away block) answer on_block-cases
      (λ no_out q page frame block is stays.
      Lies frame block no_out (ap frame_at is ∙ framed frame block) (ap block_at is ∙ on frame block) refl refl (on_block-memory old.page_tables q page frame block _ stays)) (λ q page frame block is none. went page frame block is)

-- an access of a live task that nothing refuses is of a place that is there
place_there : (old : State) (slot : Option Task) (there : Bool) → there_and is_live_task slot ≡ true → task_refusal slot (first_cause (not there) BadPlace None) ≡ None → there ≡ true
place_there old None there alive none = cc
place_there old (Some task) there alive none = by_life task.life there alive none
  where
    by_life : (life : Life) (there : Bool) → is_live_life life ≡ true → life_refusal life (first_cause (not there) BadPlace None) ≡ None → there ≡ true
    by_life Live true alive none = refl
    by_life Live false alive none = cc
    by_life Exited there alive none = cc
    by_life Killed there alive none = cc

-- and so is a page of a file
page_within : (old : State) (t : TaskId) (f q o : ℕ) (op : Op) → lives old.tasks t.0 ≡ true → refusal old (event.Access t (File f q o) op) ≡ None → q < slice_index old.opening.files f
page_within old t f q o op alive none =
    let there : is_place old.opening (File f q o) ≡ true = place_there old (task_at old.tasks t.0) (is_place old.opening (File f q o)) alive none in
    let within = (and_parts (nat_lt q (slice_index old.opening.files f)) (nat_lt o page_size) there).0 in
    grind (arith, nat_tests, within)

pub step_did : (old new : State) (what : Event) (answer : Reply) → Step old what answer new → Did old what answer new
step_did old new (event.Access t (Virtual v o) op) answer h =
    of_task old new (event.Access t (Virtual v o) op) t.0 _ answer
    (λ task known alive k.
    meeting old new (event.Access t (Virtual v o) op) refl t.0 v o op answer (meets old t.0 (Virtual v o) op) alive refl
    (subst (λ (g : ℕ). MeetStep old t.0 g op (meets old t.0 (Virtual v o) op) answer new) (sym (ap group_of known)) k)) h
step_did old new (event.Access t (File f q o) op) answer h =
    of_task old new (event.Access t (File f q o) op) t.0 _ answer
    (λ task known alive k.
    meeting_file old new (event.Access t (File f q o) op) refl t.0 f q o op answer (meets old t.0 (File f q o) op) alive (page_within old t f q o op alive) refl (met_file old t.0 f q o op)
    (subst (λ (g : ℕ). MeetStep old t.0 g op (meets old t.0 (File f q o) op) answer new) (sym (ap group_of known)) k)) h
step_did old new (event.Arrived ticket bytes) answer h =
    lands old new _ _ answer (λ frame block. refl) (λ frame block f b n coming. record { ticket = ticket; bytes = bytes; is = refl; number = under frame block f b n coming }) h
  where
    under : (frame block f b n : ℕ) → Coming frame block ticket.0 ≡ Coming f b n → ticket.0 ≡ n
    under frame block f b n e = some_inj (ap ticket_at e)
step_did old new (event.FetchFailed ticket) answer h = lies old new _ _ answer (λ frame block. refl) (λ frame block. refl) (λ page frame block is. WasComing frame block ticket.0 is) h
step_did old new (event.Left ticket) answer h = lies old new _ _ answer (λ frame block. refl) (λ frame block. refl) (λ page frame block is. WasGoing frame block ticket refl is) h
step_did old new (event.LeaveFailed ticket) answer h = lands old new _ _ answer (λ frame block. refl) (λ frame block f b n coming. absurd (not_coming frame block f b n coming)) h
  where
    not_coming : (frame block f b n : ℕ) → Going frame block ticket.0 ≡ Coming f b n → ⊥
    not_coming frame block f b n e = cc
step_did old new (event.Relieve why) answer h = relieves old new _ why answer h
step_did old new (event.ReclaimOne g) answer h = reclaims old new _ g.0 _ answer (λ n. same old new _ answer n.1) h
step_did old new (event.Spawn t g) reply.Ok h = Spawned t g refl h.0 h.1 h.2
step_did old new (event.Fork t child) answer h =
    of_task old new (event.Fork t child) t.0 _ answer
    (λ task known alive k. Forked t child refl (ap is_out k.0) alive (subst (λ (g : ℕ). SetsTask old.tasks child.0 g Live new.tasks) (sym (ap group_of known)) k.1) k.2 k.3) h
step_did old new (event.Free t v) answer h = of_task old new (event.Free t v) t.0 _ answer (λ task known alive k. Freed t v refl (ap is_out k.answers) alive k) h
step_did old new (event.Attach t g) reply.Ok h = Attached t g refl refl h.0 h.1
step_did old new (event.Exit t) answer h = of_task old new (event.Exit t) t.0 _ answer (λ task known alive k. Ended _ Exited old.counted (ap is_out k.0) refl k.1) h
step_did old new (event.Mkdir path) reply.Ok h = Grown path refl refl h
step_did old new (event.Rmdir g) reply.Ok h = Removed g refl refl h
step_did old new (event.Set g what) reply.Ok h = Kept _ _ old.counted (h ∙ setting-is old g.0 what)
step_did old new (event.Show what) (reply.Shown numbers) h = same old new _ _ h.1
step_did old new (event.MergeMarks word bits) reply.Ok h = same old new _ _ h
step_did old new what answer h = absurd h
