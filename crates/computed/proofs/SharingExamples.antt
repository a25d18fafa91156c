-- Examples: tasks that fork, free and move, pages that several tasks show, and copies on write. What does not come of an event is shown not to.
use Rattle.std.proofs.Common.{◌≡◌, ◌≢◌, ℕ, zero, suc, ◌==◌, ◌&&◌, ◌++◌, not, true, false, if◌then◌else◌, [], ◌∷◌, Option, Some, None, refl, sym, ap, ◌∙◌, ne_eqb, arith}
use Rattle.std.specs.Prelude.{codes, replicate}
use Rattle.machine.specs.declared.config.Placement.TheVariants.{Own}
use Rattle.machine.specs.declared.event.Op.TheVariants.{Read, Write}
use Rattle.machine.specs.declared.event.Place.TheVariants.{Virtual}
use Rattle.machine.specs.declared.event.Event.{Event}
use Rattle.machine.specs.declared.event.Event.TheVariants as event
use Rattle.machine.specs.declared.record.Life.TheVariants.{Live, Exited, Killed}
use Rattle.machine.specs.declared.record.Key.TheVariants as key
use Rattle.machine.specs.declared.reply.Reply.{Reply}
use Rattle.machine.specs.declared.reply.Reply.TheVariants as reply
use Rattle.machine.specs.declared.refusal.Refusal.TheVariants.{NoEntry, Busy, NoSpace, NoTask, NumberUsed, BadPlace, Invalid}
use Rattle.machine.specs.declared.refusal.Refusal.TheVariants as why
use Rattle.machine.specs.Slots.{at}
use Rattle.machine.specs.Tree.{chain_up, chain, under_at}
use Rattle.machine.specs.declared.id.FrameId.{FrameId}
use Rattle.machine.specs.Pages.{Held, Coming, Going, Away, Page, Pages, page_at, is_anon, in_transfer_at, is_number, is_held_in}
use Rattle.machine.specs.Counts.{no_limits, over_at, with_event}
use Rattle.machine.specs.Tasks.{Tasks, PageTable, PageTables, task_of, task_at, lives, group_of, mapped_at, size_of, mappers}
use Rattle.machine.specs.State.{State, usage}
use Rattle.machine.specs.Access.{Hits, NeedsPage, NeedsCopy, NeedsSwapIn, Transferring, meets, charges}
use Rattle.machine.specs.Refusals.{refusal}
use Rattle.machine.specs.Step.{still, in_frame, on_block, Step}
use Rattle.machine.specs.Victim.{is_worse}
use Rattle.machine.specs.Generations.{new_gens}
use Rattle.machine.specs.Aging.{is_marked}
use Rattle.machine.specs.Lists.{Order, is_fresh, Youngest}
use Rattle.machine.specs.Call.{Past, is_full_for, Called, grows}
use Rattle.machine.proofs.Values.{some_inj, never_some}
use Rattle.machine.proofs.MappingLemmas.{shown_once, mappers-shows}
use Rattle.machine.proofs.SlotLemmas.{one_if}
use Rattle.computed.proofs.ExampleStates.{group, task, frame, ticket, shows, memory, pages, tables, max_of, opening, busy, busy_order, listed_at, young, ordered, no_marks, none_served}
use Rattle.computed.proofs.HeldExamples.{marks_of, one_marked}
use Rattle.computed.proofs.CallExamples.{caller, past, after, not_new, other_number, stay_unmarked, stay_unhit}

-- ---- events, on the busy state: tasks 1 of /p/a and 2 of /p/b run, 3 was killed, and 4 exited

abbrev pub fork : ℕ → ℕ → Event
fork t child = event.Fork (task t) (task child)

abbrev pub free : ℕ → ℕ → Event
free t v = event.Free (task t) v

abbrev pub attach : ℕ → ℕ → Event
attach t g = event.Attach (task t) (group g)

-- a read of byte 0 of a virtual page, and a write to it
abbrev read : ℕ → ℕ → Event
read t v = event.Access (task t) (Virtual v 0) Read

abbrev write : ℕ → ℕ → ℕ → Event
write t v b = event.Access (task t) (Virtual v 0) (Write b)

-- ---- who may not fork

-- a task that never was does not fork
fork-unknown : refusal busy (fork 9 5) ≡ Some NoTask
fork-unknown = refl

-- nor does one that exited, which is asked before the child's number
fork-exited : refusal busy (fork 4 0) ≡ Some NoTask
fork-exited = refl

-- one that was killed is not refused, whatever the child's number
fork-killed : refusal busy (fork 3 0) ≡ None
fork-killed = refl

-- and is told so
fork-killed_told : Step busy (fork 3 0) reply.Killed busy
fork-killed_told = (refl, refl)

-- it has no child
fork-killed_no_child : (new : State) → Step busy (fork 3 5) reply.Ok new → ⊥
fork-killed_no_child new step = let e : reply.Ok ≡ reply.Killed = step.0 in cc

-- no task has number 0
fork-zero : refusal busy (fork 1 0) ≡ Some Invalid
fork-zero = refl

-- a task's number is at most 65,535
fork-past_last : refusal busy (fork 1 65536) ≡ Some Invalid
fork-past_last = refl

-- and that is one
fork-last : refusal busy (fork 1 65535) ≡ None
fork-last = refl

-- a number that was used is none for a child: another's
fork-used : refusal busy (fork 1 2) ≡ Some NumberUsed
fork-used = refl

-- the parent's own
fork-own : refusal busy (fork 1 1) ≡ Some NumberUsed
fork-own = refl

-- or that of a task that ended
fork-ended : refusal busy (fork 1 4) ≡ Some NumberUsed
fork-ended = refl

-- so many tasks run, from number 1 on, and then these stand there
abbrev crowd : ℕ → Tasks → State
crowd n others = record busy { tasks = None ∷ replicate n (Some (task_of 2 Live)) ++ others }

-- with 1,024 live tasks there is room for no child
fork-crowd : refusal (crowd 1024 []) (fork 1 1025) ≡ Some NoSpace
fork-crowd = refl

-- which is asked after the number
fork-crowd_used : refusal (crowd 1024 []) (fork 1 1024) ≡ Some NumberUsed
fork-crowd_used = refl

-- with one less there is
fork-crowd_last : refusal (crowd 1023 []) (fork 1 1024) ≡ None
fork-crowd_last = refl

-- tasks that ended take no room
fork-crowd_ended : refusal (crowd 1023 (Some (task_of 2 Killed) ∷ Some (task_of 2 Exited) ∷ [])) (fork 1 1026) ≡ None
fork-crowd_ended = refl

-- ---- who may not free

-- a task that was killed is not refused, whatever the virtual page
free-killed : refusal busy (free 3 1024) ≡ None
free-killed = refl

-- and is told so
free-killed_told : Step busy (free 3 1024) reply.Killed busy
free-killed_told = (refl, refl)

-- a task that exited is none, which is asked before the virtual page
free-exited : refusal busy (free 4 1024) ≡ Some NoTask
free-exited = refl

-- nor is there a task of a number that was never used
free-unknown : refusal busy (free 9 1024) ≡ Some NoTask
free-unknown = refl

-- a task has 1,024 virtual pages
free-past_last : refusal busy (free 1 1024) ≡ Some BadPlace
free-past_last = refl

-- of which the last need not show anything
free-last : refusal busy (free 1 1023) ≡ None
free-last = refl

-- ---- who may not move

-- a removed group is none, which is asked first
attach-removed : refusal busy (attach 9 4) ≡ Some NoEntry
attach-removed = refl

-- nor is a number that no group has
attach-no_group : refusal busy (attach 9 6) ≡ Some NoEntry
attach-no_group = refl

-- then the task, before the group's children: there is none of this number
attach-unknown : refusal busy (attach 9 1) ≡ Some NoTask
attach-unknown = refl

-- and one that exited is none
attach-exited : refusal busy (attach 4 1) ≡ Some NoTask
attach-exited = refl

-- who moves a task that was killed is told that there is no such task: it is not the task that asks
attach-killed : refusal busy (attach 3 5) ≡ Some NoTask
attach-killed = refl

-- and number 0 is no task's
attach-zero : refusal busy (attach 0 5) ≡ Some NoTask
attach-zero = refl

-- a group with children takes no task
attach-busy : refusal busy (attach 1 1) ≡ Some Busy
attach-busy = refl

-- but the root does
attach-root : refusal busy (attach 1 0) ≡ None
attach-root = refl

-- a task may go to the group where it is
attach-own : refusal busy (attach 1 2) ≡ None
attach-own = refl

-- and to one that is full: it brings no page
attach-full : refusal busy (attach 2 2) ≡ None
attach-full = refl

-- ---- want of memory

-- a fork of a live task may want memory, and then nothing changes
fork-no_memory : Called (past busy busy_order) caller (fork 1 5) (reply.Refused why.NoMemory) (past busy busy_order)
fork-no_memory = (refl, refl, refl)

-- that of a killed one makes nothing, and so wants none
fork-killed_no_memory : (new : Past) → Called (past busy busy_order) caller (fork 3 5) (reply.Refused why.NoMemory) new → ⊥
fork-killed_no_memory new call = let e : false ≡ true = call.1 in cc

-- a free never does
free-no_memory : (new : Past) → Called (past busy busy_order) caller (free 1 0) (reply.Refused why.NoMemory) new → ⊥
free-no_memory new call = let e : false ≡ true = call.1 in cc

-- nor does a move
attach-no_memory : (new : Past) → Called (past busy busy_order) caller (attach 1 0) (reply.Refused why.NoMemory) new → ⊥
attach-no_memory new call = let e : false ≡ true = call.1 in cc

-- the same of any state: whether the parent runs decides
grows-fork : (s : State) (t child : ℕ) → grows s (fork t child) ≡ lives s.tasks t
grows-fork s t child = refl

-- a free makes nothing
grows-free : (s : State) (t v : ℕ) → grows s (free t v) ≡ false
grows-free s t v = refl

-- and a move makes nothing
grows-attach : (s : State) (t g : ℕ) → grows s (attach t g) ≡ false
grows-attach s t g = refl

-- ---- a fork of task 1

-- what it shows: pages 0 and 1, and page 2, which is being read in; and what task 2 shows
abbrev shown_by_1 : PageTable
shown_by_1 = shows 0 ∷ shows 1 ∷ shows 2 ∷ []

abbrev shown_by_2 : PageTable
shown_by_2 = shows 0 ∷ None ∷ shows 3 ∷ shows 4 ∷ []

-- task 5 is in /p/a as well, and shows the same
abbrev forked : State
forked = record busy {
  tasks = None ∷ Some (task_of 2 Live) ∷ Some (task_of 3 Live) ∷ Some (task_of 3 Killed) ∷ Some (task_of 3 Exited) ∷ Some (task_of 2 Live) ∷ [];
  page_tables = [] ∷ shown_by_1 ∷ shown_by_2 ∷ [] ∷ [] ∷ shown_by_1 ∷ [];
}

-- though /p/a is full: no page is charged for it, and none changes
forks : Step busy (fork 1 5) reply.Ok forked
forks = (refl, record { changed = refl; others = other_tasks }, record { copied = λ v. refl; others = others }, refl)
  where
    other_tasks : (m : ℕ) → m ≢ 5 → at forked.tasks m ≡ at busy.tasks m
    other_tasks zero other = refl
    other_tasks (suc zero) other = refl
    other_tasks (suc (suc zero)) other = refl
    other_tasks (suc (suc (suc zero))) other = refl
    other_tasks (suc (suc (suc (suc zero)))) other = refl
    other_tasks (suc (suc (suc (suc (suc zero))))) other = absurd (other refl)
    other_tasks (suc (suc (suc (suc (suc (suc m)))))) other = refl

    others : (u w : ℕ) → u ≢ 5 → mapped_at forked.page_tables u w ≡ mapped_at busy.page_tables u w
    others zero w other = refl
    others (suc zero) w other = refl
    others (suc (suc zero)) w other = refl
    others (suc (suc (suc zero))) w other = refl
    others (suc (suc (suc (suc zero)))) w other = refl
    others (suc (suc (suc (suc (suc zero))))) w other = absurd (other refl)
    others (suc (suc (suc (suc (suc (suc u)))))) w other = refl

-- three places show page 0 now
forks-mappers : mappers forked.page_tables 0 ≡ 3
forks-mappers = refl

-- whatever comes after, the child is in the parent's group
forks-group : (answer : Reply) (new : State) → Step busy (fork 1 5) answer new → task_at new.tasks 5 ≡ Some (task_of 2 Live)
forks-group answer new step = step.1.changed

-- and not in the root
forks-not_in_root : (answer : Reply) (new : State) → task_at new.tasks 5 ≡ Some (task_of 0 Live) → Step busy (fork 1 5) answer new → ⊥
forks-not_in_root answer new rooted step = absurd (let e : 0 ≡ 2 = ap group_of (sym rooted ∙ step.1.changed) in omega (arith, e))

-- its page table is not empty
forks-not_empty : (answer : Reply) (new : State) → mapped_at new.page_tables 5 0 ≡ None → Step busy (fork 1 5) answer new → ⊥
forks-not_empty answer new none step = never_some (mapped_at new.page_tables 5 0) none (step.2.copied 0)

-- nor without the page that is being read in
forks-not_without_coming : (answer : Reply) (new : State) → mapped_at new.page_tables 5 2 ≡ None → Step busy (fork 1 5) answer new → ⊥
forks-not_without_coming answer new none step = never_some (mapped_at new.page_tables 5 2) none (step.2.copied 2)

-- a child of task 2 shows the page that is on its block, too
forks-not_without_away : (answer : Reply) (new : State) → mapped_at new.page_tables 5 3 ≡ None → Step busy (fork 2 5) answer new → ⊥
forks-not_without_away answer new none step = never_some (mapped_at new.page_tables 5 3) none (step.2.copied 3)

-- and nothing where the parent shows nothing
forks-not_more : (answer : Reply) (new : State) → Step busy (fork 2 5) answer new → mapped_at new.page_tables 5 1 ≡ None
forks-not_more answer new step = step.2.copied 1

-- the parent keeps what it shows: it is not the child that takes it over
forks-parent_keeps : (answer : Reply) (new : State) → Step busy (fork 1 5) answer new → mapped_at new.page_tables 1 0 ≡ Some 0
forks-parent_keeps answer new step = step.2.others 1 0 (λ e. omega (arith, e))

-- and no page changes: none is charged once more
forks-same_pages : (answer : Reply) (new : State) → Step busy (fork 1 5) answer new → new.pages ≡ pages
forks-same_pages answer new step = ap (λ (s : State). s.pages) step.3

-- a child is as large as its parent: pages that are shared count for each
forks-size : size_of forked.page_tables 5 ≡ 3
forks-size = refl

-- so that of the two the parent is worse, which has the lesser number
forks-worse : is_worse forked.page_tables 1 5 ≡ true
forks-worse = refl

-- ---- frees

-- task 1 shows this from now on
abbrev one_shows : PageTable → PageTables
one_shows table = [] ∷ table ∷ shown_by_2 ∷ []

abbrev freed : PageTable → Pages → State
freed table left = record busy { pages = left; page_tables = one_shows table }

-- what a place of task 1 shows changes no place of another task
elsewhere : (v : ℕ) (table : PageTable) → ((w : ℕ) → (v == w) ≡ false → mapped_at (one_shows table) 1 w ≡ mapped_at tables 1 w)
    → (u w : ℕ) → ((1 == u) && (v == w)) ≡ false → mapped_at (one_shows table) u w ≡ mapped_at tables u w
elsewhere v table same zero w other = refl
elsewhere v table same (suc zero) w other = same w other
elsewhere v table same (suc (suc u)) w other = refl

-- what task 1 shows without one of its pages, and the pages without that one
abbrev rest_without_1 : PageTable
rest_without_1 = shows 0 ∷ None ∷ shows 2 ∷ []

abbrev without_1 : Pages
without_1 = Some (memory 2 (Held 4)) ∷ None ∷ Some (memory 2 (Coming 0 1 7)) ∷ Some (memory 3 (Going 1 2 8)) ∷ Some (memory 3 (Away 3)) ∷ []

-- page 1, which nothing else shows, is gone
frees-gone : Step busy (free 1 1) reply.Ok (freed rest_without_1 without_1)
frees-gone = record { answers = refl; shown = record { changed = refl; others = elsewhere 1 rest_without_1 same }; pages = stays; state = refl }
  where
    same : (w : ℕ) → (1 == w) ≡ false → mapped_at (one_shows rest_without_1) 1 w ≡ mapped_at tables 1 w
    same zero other = refl
    same (suc zero) other = absurd (let e : true ≡ false = other in cc)
    same (suc (suc w)) other = refl

    stays : (p : ℕ) → page_at without_1 p ≡ still (one_shows rest_without_1) p (page_at pages p)
    stays zero = refl
    stays (suc zero) = refl
    stays (suc (suc zero)) = refl
    stays (suc (suc (suc zero))) = refl
    stays (suc (suc (suc (suc zero)))) = refl
    stays (suc (suc (suc (suc (suc p))))) = refl

-- so that /p/a has room for one more
frees-uncharged : usage (freed rest_without_1 without_1) 2 ≡ 2
unfolding chain_up chain under_at
frees-uncharged = refl

abbrev rest_without_0 : PageTable
rest_without_0 = None ∷ shows 1 ∷ shows 2 ∷ []

-- page 0 stays, which task 2 shows as well: no page changes
frees-stays : Step busy (free 1 0) reply.Ok (freed rest_without_0 pages)
frees-stays = record { answers = refl; shown = record { changed = refl; others = elsewhere 0 rest_without_0 same }; pages = stays; state = refl }
  where
    same : (w : ℕ) → (0 == w) ≡ false → mapped_at (one_shows rest_without_0) 1 w ≡ mapped_at tables 1 w
    same zero other = absurd (let e : true ≡ false = other in cc)
    same (suc w) other = refl

    stays : (p : ℕ) → page_at pages p ≡ still (one_shows rest_without_0) p (page_at pages p)
    stays zero = refl
    stays (suc zero) = refl
    stays (suc (suc zero)) = refl
    stays (suc (suc (suc zero))) = refl
    stays (suc (suc (suc (suc zero)))) = refl
    stays (suc (suc (suc (suc (suc p))))) = refl

-- a place that shows nothing is free already
frees-nothing : Step busy (free 1 9) reply.Ok busy
frees-nothing = record { answers = refl; shown = record { changed = refl; others = λ u w other. refl }; pages = stays; state = refl }
  where
    stays : (p : ℕ) → page_at pages p ≡ still tables p (page_at pages p)
    stays zero = refl
    stays (suc zero) = refl
    stays (suc (suc zero)) = refl
    stays (suc (suc (suc zero))) = refl
    stays (suc (suc (suc (suc zero)))) = refl
    stays (suc (suc (suc (suc (suc p))))) = refl

abbrev rest_without_2 : PageTable
rest_without_2 = shows 0 ∷ shows 1 ∷ None ∷ []

-- page 2 stays, which is being read in, though nothing shows it
frees-coming : Step busy (free 1 2) reply.Ok (freed rest_without_2 pages)
frees-coming = record { answers = refl; shown = record { changed = refl; others = elsewhere 2 rest_without_2 same }; pages = stays; state = refl }
  where
    same : (w : ℕ) → (2 == w) ≡ false → mapped_at (one_shows rest_without_2) 1 w ≡ mapped_at tables 1 w
    same zero other = refl
    same (suc zero) other = refl
    same (suc (suc zero)) other = absurd (let e : true ≡ false = other in cc)
    same (suc (suc (suc w))) other = refl

    stays : (p : ℕ) → page_at pages p ≡ still (one_shows rest_without_2) p (page_at pages p)
    stays zero = refl
    stays (suc zero) = refl
    stays (suc (suc zero)) = refl
    stays (suc (suc (suc zero))) = refl
    stays (suc (suc (suc (suc zero)))) = refl
    stays (suc (suc (suc (suc (suc p))))) = refl

abbrev without_2 : Pages
without_2 = Some (memory 2 (Held 4)) ∷ Some (memory 2 (Held 5)) ∷ None ∷ Some (memory 3 (Going 1 2 8)) ∷ Some (memory 3 (Away 3)) ∷ []

-- and is gone when its transfer ends
frees-coming_ends : Step (freed rest_without_2 pages) (event.Arrived (ticket 7) []) reply.Ok (freed rest_without_2 without_2)
frees-coming_ends = record { p = 2; page = memory 2 (Coming 0 1 7); frame = 0; block = 1; there = refl; moves = refl; placed = record { changed = refl; others = others }; answers = refl; state = refl }
  where
    others : (m : ℕ) → m ≢ 2 → at without_2 m ≡ at pages m
    others zero other = refl
    others (suc zero) other = refl
    others (suc (suc zero)) other = absurd (other refl)
    others (suc (suc (suc m))) other = refl

-- had it stayed shown, it would be in its frame
frees-coming_stays : in_frame tables 2 (memory 2 (Coming 0 1 7)) 0 1 ≡ Some (memory 2 (Held 0))
frees-coming_stays = refl

-- page 3 of task 2, which is being written out, comes to the same: when it has left its frame nothing is on the block
frees-going : on_block (one_shows []) 5 (memory 3 (Going 1 2 8)) 1 2 ≡ None
frees-going = refl

-- page 4 of task 2, which is on its block, is gone, too, and the block is free
frees-away : still ([] ∷ shown_by_1 ∷ (shows 0 ∷ None ∷ shows 3 ∷ None ∷ []) ∷ []) 4 (Some (memory 3 (Away 3))) ≡ None
frees-away = refl

-- what is left of a page of memory in no transfer, by how many places show it
abbrev left_by : ℕ → Page → Option Page
left_by n page = if is_anon page.content && ((n == 0) && not (in_transfer_at page.residence)) then None else Some page

-- a free of a shared page drops it in no state after it
frees-not_dropped : (answer : Reply) (new : State) → page_at new.pages 0 ≡ None → Step busy (free 1 0) answer new → ⊥
frees-not_dropped answer new gone step = never_some (page_at new.pages 0) gone (step.pages 0 ∙ ap (λ n. left_by n (memory 2 (Held 4))) one)
  where
    one : mappers new.page_tables 0 ≡ 1
    one = let count = mappers-shows tables new.page_tables 1 0 0 None step.shown in omega (arith, count)

-- and one of a page that nothing else shows leaves it in none
frees-not_kept : (answer : Reply) (new : State) (page : Page) → page_at new.pages 1 ≡ Some page → Step busy (free 1 1) answer new → ⊥
frees-not_kept answer new page there step = never_some (page_at new.pages 1) (step.pages 1 ∙ ap (λ n. left_by n (memory 2 (Held 5))) zero_left) there
  where
    zero_left : mappers new.page_tables 1 ≡ 0
    zero_left = let count = mappers-shows tables new.page_tables 1 1 1 None step.shown in omega (arith, count)

-- the other task shows what it showed
frees-not_other : (answer : Reply) (new : State) → Step busy (free 1 0) answer new → mapped_at new.page_tables 2 0 ≡ Some 0
frees-not_other answer new step = step.shown.others 2 0 refl

-- ---- moves

-- task 2 is in /r
abbrev moved : State
moved = record busy { tasks = None ∷ Some (task_of 2 Live) ∷ Some (task_of 5 Live) ∷ Some (task_of 3 Killed) ∷ Some (task_of 3 Exited) ∷ [] }

-- it went there, and nothing else changed
attaches : Step busy (attach 2 5) reply.Ok moved
attaches = (record { changed = refl; others = others }, refl)
  where
    others : (m : ℕ) → m ≢ 2 → at moved.tasks m ≡ at busy.tasks m
    others zero other = refl
    others (suc zero) other = refl
    others (suc (suc zero)) other = absurd (other refl)
    others (suc (suc (suc m))) other = refl

-- whatever comes after, it runs there
attaches-group : (new : State) → Step busy (attach 2 5) reply.Ok new → task_at new.tasks 2 ≡ Some (task_of 5 Live)
attaches-group new step = step.0.changed

-- and its pages keep their group
attaches-same_pages : (new : State) → Step busy (attach 2 5) reply.Ok new → new.pages ≡ pages
attaches-same_pages new step = ap (λ (s : State). s.pages) step.1

-- and stay charged there: page 3, which is being written out
attaches-charged : (new : State) → Step busy (attach 2 5) reply.Ok new → usage new 3 ≡ 1
unfolding chain_up chain under_at
attaches-charged new step = ap (λ (s : State). usage s 3) step.1

-- none is charged to the other group
attaches-not_charged : (new : State) → Step busy (attach 2 5) reply.Ok new → usage new 5 ≡ 0
unfolding chain_up chain under_at
attaches-not_charged new step = ap (λ (s : State). usage s 5) step.1

-- a page of the task's that is on its block is charged to the old group again when it is read in
attaches-reads_in : charges Own (meets moved 2 (Virtual 3 0) Read) 5 ≡ Some 3
attaches-reads_in = refl

-- but a child is in the group where the parent is now
attaches-then_forks : (answer : Reply) (new : State) → Step moved (fork 2 6) answer new → task_at new.tasks 6 ≡ Some (task_of 5 Live)
attaches-then_forks answer new step = step.1.changed

-- a move to the group where the task is changes nothing
attaches-own : Step busy (attach 1 2) reply.Ok busy
attaches-own = (record { changed = refl; others = λ m other. refl }, refl)

-- /r, which has a task now, has no children
attaches-bars : refusal moved (event.Mkdir (codes "/r/x")) ≡ Some Busy
attaches-bars = refl

-- and /p/b, which has none any more, may have some
attaches-frees : refusal moved (event.Mkdir (codes "/p/b/x")) ≡ None
unfolding chain_up chain
attaches-frees = refl

-- ---- what accesses of shared pages meet

-- after the fork, a read of the child hits the page that it shares with its parent
meets-read : meets forked 5 (Virtual 1 0) Read ≡ Hits 1 (memory 2 (Held 5)) 5
meets-read = refl

-- and a write wants a copy
meets-write : meets forked 5 (Virtual 1 0) (Write 7) ≡ NeedsCopy 1
meets-write = refl

-- a write of the parent does, too: the page is no more the parent's than the child's
meets-parent_write : meets forked 1 (Virtual 1 0) (Write 7) ≡ NeedsCopy 1
meets-parent_write = refl

-- before the fork, that was a hit
meets-before : meets busy 1 (Virtual 1 0) (Write 7) ≡ Hits 1 (memory 2 (Held 5)) 5
meets-before = refl

-- nobody copies a page that is being read in
meets-coming : meets forked 5 (Virtual 2 0) (Write 7) ≡ Transferring
meets-coming = refl

-- a shared page that is on its block is read in before it is copied
meets-away : meets (record busy { page_tables = [] ∷ shown_by_2 ∷ shown_by_2 ∷ [] }) 1 (Virtual 3 0) (Write 7) ≡ NeedsSwapIn 4 (memory 3 (Away 3)) 3
meets-away = refl

-- where nothing is mapped, the child's write makes a page as the parent's would
meets-empty : meets forked 5 (Virtual 9 0) (Write 7) ≡ NeedsPage 9
meets-empty = refl

-- ---- a copy: task 2, which is in /r now, writes to page 0 of /p/a, which task 1 shows as well

-- it shows page 5 of /r, in frame 2, in place of it
abbrev copied : State
copied = record moved {
  pages = Some (memory 2 (Held 4)) ∷ Some (memory 2 (Held 5)) ∷ Some (memory 2 (Coming 0 1 7)) ∷ Some (memory 3 (Going 1 2 8)) ∷ Some (memory 3 (Away 3)) ∷ Some (memory 5 (Held 2)) ∷ [];
  page_tables = [] ∷ shown_by_1 ∷ (shows 5 ∷ None ∷ shows 3 ∷ shows 4 ∷ []) ∷ [];
}

-- though /p/a and /p are full
copies : Step moved (write 2 0 7) (reply.Done 7 None) copied
unfolding chain_up chain under_at over_at
copies = record {
  page = 5;
  frame = 2;
  in_range = omega arith;
  slot_free = refl;
  frame_free = record { in_range = omega arith; unused = refl };
  placed = record { changed = refl; others = others };
  shown = record { changed = refl; others = shown };
  answers = refl;
  state = refl;
}
  where
    others : (m : ℕ) → m ≢ 5 → at copied.pages m ≡ at pages m
    others zero other = refl
    others (suc zero) other = refl
    others (suc (suc zero)) other = refl
    others (suc (suc (suc zero))) other = refl
    others (suc (suc (suc (suc zero)))) other = refl
    others (suc (suc (suc (suc (suc zero))))) other = absurd (other refl)
    others (suc (suc (suc (suc (suc (suc m)))))) other = refl

    shown : (u w : ℕ) → ((2 == u) && (0 == w)) ≡ false → mapped_at copied.page_tables u w ≡ mapped_at tables u w
    shown zero w other = refl
    shown (suc zero) w other = refl
    shown (suc (suc zero)) zero other = absurd (let e : true ≡ false = other in cc)
    shown (suc (suc zero)) (suc w) other = refl
    shown (suc (suc (suc u))) w other = refl

-- one page is charged to /r, and to /p/a what was
copies-usage : usage copied 5 ≡ 1
unfolding chain_up chain under_at
copies-usage = refl

-- the old page stays charged where it was
copies-usage_old : usage copied 2 ≡ 3
unfolding chain_up chain under_at
copies-usage_old = refl

-- page 0 is task 1's alone now
copies-mappers : mappers copied.page_tables 0 ≡ 1
copies-mappers = refl

-- so that a write of task 1 hits it
copies-then_hits : meets copied 1 (Virtual 0 0) (Write 8) ≡ Hits 0 (memory 2 (Held 4)) 4
copies-then_hits = refl

-- and is done in its frame, with no copy
copies-then_writes : Step copied (write 1 0 8) (reply.Done 8 (Some (frame 4))) copied
copies-then_writes = (refl, refl, record { changed = refl; others = λ m other. refl }, refl)

-- the next write of task 2 hits the copy
copies-then_hits_copy : meets copied 2 (Virtual 0 0) (Write 8) ≡ Hits 5 (memory 5 (Held 2)) 2
copies-then_hits_copy = refl

-- whatever comes after, the writer shows a page in a frame that is charged to its group
copies-charged : (answer : Reply) (new : State) → Step moved (write 2 0 7) answer new → (p : ℕ) × (f : ℕ) × (mapped_at new.page_tables 2 0 ≡ Some p) × (page_at new.pages p ≡ Some (memory 5 (Held f)))
unfolding chain_up chain under_at over_at
copies-charged answer new step = (step.page, step.frame, step.shown.changed, step.placed.changed)

-- and never one that is charged to the group of the page that it showed
copies-not_to_old : (answer : Reply) (new : State) (p f : ℕ) → mapped_at new.page_tables 2 0 ≡ Some p → page_at new.pages p ≡ Some (memory 2 (Held f)) → Step moved (write 2 0 7) answer new → ⊥
unfolding chain_up chain under_at over_at
copies-not_to_old answer new p f mapped there step =
    let same : Some step.page ≡ Some p = sym step.shown.changed ∙ mapped in
    let page : Some (memory 5 (Held step.frame)) ≡ Some (memory 2 (Held f)) = sym step.placed.changed ∙ ap (page_at new.pages) (some_inj same) ∙ there in
    absurd (let e : 5 ≡ 2 = ap (λ (page : Page). page.group) (some_inj page) in omega (arith, e))

-- nor does it go on showing the page that it showed, written in place
copies-not_in_place : (answer : Reply) (new : State) → mapped_at new.page_tables 2 0 ≡ Some 0 → Step moved (write 2 0 7) answer new → ⊥
unfolding chain_up chain under_at over_at
copies-not_in_place answer new mapped step =
    let same : Some 0 ≡ Some step.page = sym mapped ∙ step.shown.changed in
    let none : page_at pages 0 ≡ None = ap (page_at pages) (some_inj same) ∙ step.slot_free in
    never_some (page_at pages 0) none refl

-- its answer names no frame: a copy is no hit
copies-not_hit : (b : ℕ) (f : FrameId) (new : State) → Step moved (write 2 0 7) (reply.Done b (Some f)) new → ⊥
unfolding chain_up chain under_at over_at
copies-not_hit b f new step = let e : reply.Done b (Some f) ≡ reply.Done 7 None = step.answers in cc

-- the other place shows the old page
copies-other_place : (answer : Reply) (new : State) → Step moved (write 2 0 7) answer new → mapped_at new.page_tables 1 0 ≡ Some 0
unfolding chain_up chain under_at over_at
copies-other_place answer new step = step.shown.others 1 0 refl

-- as it was
copies-old_page : (answer : Reply) (new : State) → Step moved (write 2 0 7) answer new → page_at new.pages 0 ≡ Some (memory 2 (Held 4))
unfolding chain_up chain under_at over_at
copies-old_page answer new step = step.placed.others 0 (λ e. never_some (page_at pages 0) (ap (page_at pages) e ∙ step.slot_free) refl)

-- where three show the page, the other two share it still
copies-two_left : (answer : Reply) (new : State) → Step (record forked { limits = [] }) (write 5 0 7) answer new → mappers new.page_tables 0 ≡ 2
unfolding chain_up chain under_at over_at
copies-two_left answer new step =
    let other : (step.page == 0) ≡ false = ne_eqb step.page 0 (λ e. never_some (page_at pages 0) (ap (page_at pages) (sym e) ∙ step.slot_free) refl) in
    let count = mappers-shows forked.page_tables new.page_tables 5 0 0 (Some step.page) step.shown in
    let none : shown_once (Some step.page) 0 ≡ 0 = ap one_if other in
    omega (arith, count, none)

-- ---- a copy for which there is no room

-- task 1 of /p/a, which is full as well as its parent, writes to page 0: the lowest says so, and `max` is counted there
over : Step busy (write 1 0 7) (reply.Over (group 2)) (record busy { counted = with_event busy.counted 2 key.Max })
unfolding chain_up chain under_at over_at
over = (refl, refl)

-- while task 2 is in /p/b, which has no max, it is the parent that is full, and not the group of the page
over-parent : (answer : Reply) (new : State) → Step busy (write 2 0 7) answer new → answer ≡ reply.Over (group 1)
unfolding chain_up chain under_at over_at
over-parent answer new step = step.0

-- with no limit but one of no page for /r, where task 2 is now
abbrev narrow : State
narrow = record moved { limits = no_limits ∷ no_limits ∷ no_limits ∷ no_limits ∷ no_limits ∷ max_of 0 ∷ [] }

-- its write is refused at /r: the room of the page's own group is none for the copy
over-writer : (answer : Reply) (new : State) → Step narrow (write 2 0 7) answer new → answer ≡ reply.Over (group 5)
unfolding chain_up chain under_at over_at
over-writer answer new step = step.0

-- and it goes on showing the old page
over-still_shared : (answer : Reply) (new : State) → Step narrow (write 2 0 7) answer new → mapped_at new.page_tables 2 0 ≡ Some 0
unfolding chain_up chain under_at over_at
over-still_shared answer new step = ap (λ (s : State). mapped_at s.page_tables 2 0) step.1

-- a read needs no room
over-not_read : Step narrow (read 2 0) (reply.Done 3 (Some (frame 4))) narrow
over-not_read = (refl, refl)

-- with no free frame the copy is not made
no_frame : (answer : Reply) (new : State) → Step (record moved { opening = record opening { frames = 4 } }) (write 2 0 7) answer new → answer ≡ reply.NoFrame
unfolding chain_up chain under_at over_at
no_frame answer new step = step.0

-- ---- the whole call of a copy

-- the copy is the one page on the lists of /r, in its youngest generation, unmarked. No other list changes
abbrev copied_order : Order
copied_order = record { held = record { groups = new_gens ∷ new_gens ∷ young (listed_at 1 3 ∷ listed_at 0 3 ∷ []) ∷ new_gens ∷ new_gens ∷ young (listed_at 5 3 ∷ []) ∷ []; marks = no_marks; hits = [] }; cursors = none_served }

-- the call of the copy comes to this state and order
call-copies : Called (past moved busy_order) caller (write 2 0 7) (reply.Done 7 None) (after (past moved busy_order) (write 2 0 7) (reply.Done 7 None) copied copied_order)
unfolding chain_up chain under_at over_at
call-copies = record {
  steps = copies;
  order = (record { fresh = Some 5; which = which; groups = refl; size = refl; marks = λ p. stay_unmarked 10 (is_held_in pages p) (is_held_in copied.pages p) p; counts = refl; hits = stay_unhit Youngest refl pages copied.pages }, refl);
  history = refl;
  passes = refl;
}
  where
    which : (p : ℕ) → is_number (Some 5) p ≡ is_fresh pages copied.pages p
    which zero = refl
    which (suc zero) = refl
    which (suc (suc zero)) = refl
    which (suc (suc (suc zero))) = refl
    which (suc (suc (suc (suc zero)))) = refl
    which (suc (suc (suc (suc (suc zero))))) = refl
    which (suc (suc (suc (suc (suc (suc p)))))) = other_number 5 (suc (suc (suc (suc (suc (suc p)))))) (omega arith)

-- and a fork changes no list
call-forks : Called (past busy busy_order) caller (fork 1 5) reply.Ok (after (past busy busy_order) (fork 1 5) reply.Ok forked busy_order)
call-forks = record {
  steps = forks;
  order = (record { fresh = None; which = λ p. not_new (is_held_in pages p); groups = refl; size = refl; marks = λ p. stay_unmarked 10 (is_held_in pages p) (is_held_in pages p) p; counts = refl; hits = stay_unhit Youngest refl pages pages }, refl);
  history = refl;
  passes = refl;
}

-- it wants no memory
call-copies_no_memory : (new : Past) → Called (past moved busy_order) caller (write 2 0 7) (reply.Refused why.NoMemory) new → ⊥
call-copies_no_memory new call = let e : false ≡ true = call.1 in cc

-- a page that is free leaves its list, and its mark goes with it: the order before, in which page 1 is marked
abbrev marked_order : Order
marked_order = one_marked (young (listed_at 1 3 ∷ listed_at 0 3 ∷ [])) new_gens

-- the free comes to this order: page 0 alone, and no mark
call-frees : Called (past busy marked_order) caller (free 1 1) reply.Ok (after (past busy marked_order) (free 1 1) reply.Ok (freed rest_without_1 without_1) (ordered (young (listed_at 0 3 ∷ [])) new_gens))
call-frees = record {
  steps = frees-gone;
  order = (record { fresh = None; which = which; groups = refl; size = refl; marks = marks; counts = refl; hits = stay_unhit Youngest refl busy.pages (freed rest_without_1 without_1).pages }, refl);
  history = refl;
  passes = refl;
}
  where
    which : (p : ℕ) → false ≡ is_fresh pages without_1 p
    which zero = refl
    which (suc zero) = refl
    which (suc (suc p)) = not_new (is_held_in pages (suc (suc p)))

    marks : (p : ℕ) → is_marked no_marks p ≡ (is_held_in pages p && is_held_in without_1 p && is_marked (marks_of false true) p)
    marks zero = refl
    marks (suc zero) = refl
    marks (suc (suc p)) = stay_unmarked 8 (is_held_in pages (suc (suc p))) (is_held_in without_1 (suc (suc p))) p

-- where the ends of the two transfers leave no room in the trace, a fork is refused for it, and not for want of memory
call-forks_trace_full : (answer : Reply) (new : Past) → Called (past (record busy { opening = record opening { trace_limit = 2 } }) busy_order) caller (fork 1 5) answer new → answer ≡ reply.Refused why.TraceFull
call-forks_trace_full answer new call = call.0

-- with room for one entry more it is not
call-forks_room : is_full_for (record busy { opening = record opening { trace_limit = 3 } }) [] (fork 1 5) ≡ false
call-forks_room = refl
