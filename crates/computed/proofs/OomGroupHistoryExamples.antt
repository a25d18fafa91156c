-- An example of a whole history: a group gets the flag of memory.oom.group, two tasks of it share a page, and both are killed where a frame is wanted. What was counted is named, event by event.
use Rattle.std.proofs.Common.{◌≡◌, ◌≢◌, ℕ, zero, suc, ◌==◌, ◌&&◌, true, false, List, [], ◌∷◌, Some, None, refl, arith}
use Rattle.std.specs.Prelude.{codes}
use Rattle.machine.specs.declared.entry.Entry.{Entry}
use Rattle.machine.specs.declared.event.Cause.TheVariants as cause
use Rattle.machine.specs.declared.event.Op.TheVariants.{Write}
use Rattle.machine.specs.declared.event.Setting.TheVariants as setting
use Rattle.machine.specs.declared.event.Query.TheVariants as query
use Rattle.machine.specs.declared.event.Event.{Event}
use Rattle.machine.specs.declared.event.Event.TheVariants as event
use Rattle.machine.specs.declared.record.EventCounts.{EventCounts}
use Rattle.machine.specs.declared.record.Key.TheVariants as key
use Rattle.machine.specs.declared.record.Life.TheVariants.{Live, Killed}
use Rattle.machine.specs.declared.record.OomGroup.TheVariants.{Single, Whole}
use Rattle.machine.specs.declared.reply.Reply.TheVariants as reply
use Rattle.machine.specs.declared.reply.Shown.TheVariants as shown
use Rattle.machine.specs.Slots.{at}
use Rattle.machine.specs.Tree.{root, chain_up, chain, under_at, chain_below}
use Rattle.machine.specs.Pages.{Held, page_at}
use Rattle.machine.specs.Counts.{Counted, count_of, no_limits, over_at, no_counts, how_often, with_events}
use Rattle.machine.specs.Tasks.{PageTable, task_of, task_at, group_of_task, mapped_at}
use Rattle.machine.specs.Protection.{effective_along}
use Rattle.machine.specs.State.{Opening, State, first_state}
use Rattle.machine.specs.Victim.{is_candidate, is_worse}
use Rattle.machine.specs.Step.{still}
use Rattle.machine.specs.Legal.{Extends, Legal}
use Rattle.machine.specs.Events.{AreCounted}
use Rattle.machine.proofs.Values.{never_some}
use Rattle.computed.proofs.ExampleStates.{group, task, shows, below, single, memory}
use Rattle.computed.proofs.LegalExamples.{entry, access, small}

-- ---- the history

-- group 1 is /a, and is to be killed as one
abbrev h1 : List Entry
h1 = entry 0 1 (event.Mkdir (codes "/a")) reply.Ok ∷ []

abbrev h2 : List Entry
h2 = entry 0 2 (event.Set (group 1) (setting.OomGroup Whole)) reply.Ok ∷ h1

-- a task of it writes to a page, and forks another
abbrev h3 : List Entry
h3 = entry 0 3 (event.Spawn (task 1) (group 1)) reply.Ok ∷ h2

abbrev h4 : List Entry
h4 = entry 0 4 (access (Write 5)) (reply.Done 5 None) ∷ h3

abbrev h5 : List Entry
h5 = entry 0 5 (event.Fork (task 1) (task 2)) reply.Ok ∷ h4

-- worker 1 wants a frame
abbrev h6 : List Entry
h6 = entry 1 1 (event.Relieve cause.Frame) (reply.KilledAll (task 1) (group 1) 2) ∷ h5

-- what `memory.events` of /a says is asked for
abbrev asks : Event
asks = event.Show (query.Events (group 1))

abbrev killed_two : EventCounts
killed_two = record no_counts { oom_kill = 2; oom_group_kill = 1 }

abbrev h7 : List Entry
h7 = entry 0 6 asks (reply.Shown (shown.Events killed_two)) ∷ h6

-- ---- the states

-- 1 frame, and no swap block
abbrev bare : Opening
bare = record (small 8) { frames = 1; swap = 0 }

abbrev with_a : State
with_a = record (first_state bare) { tree = root ∷ below 0 (codes "/a") ∷ []; limits = no_limits ∷ no_limits ∷ []; flags = single 2; counted = no_counts ∷ no_counts ∷ [] }

abbrev with_flag : State
with_flag = record with_a { flags = Single ∷ Whole ∷ [] }

abbrev spawned : State
spawned = record with_flag { tasks = None ∷ Some (task_of 1 Live) ∷ [] }

-- virtual page 2 shows page 0
abbrev table : PageTable
table = None ∷ None ∷ shows 0 ∷ []

abbrev one_page : State
one_page = record spawned { pages = Some (memory 1 (Held 0)) ∷ []; page_tables = [] ∷ table ∷ [] }

abbrev forked : State
forked = record one_page { tasks = None ∷ Some (task_of 1 Live) ∷ Some (task_of 1 Live) ∷ []; page_tables = [] ∷ table ∷ table ∷ [] }

-- the page is gone, which nobody shows any more. `oom` is counted at the root, which wanted a frame
abbrev ended : State
ended = record forked { pages = []; tasks = None ∷ Some (task_of 1 Killed) ∷ Some (task_of 1 Killed) ∷ []; page_tables = []; counted = record no_counts { oom = 1 } ∷ killed_two ∷ [] }

-- ---- each entry is a step from one of these states to the next

makes_a : Extends (first_state bare) [] (entry 0 1 (event.Mkdir (codes "/a")) reply.Ok) with_a
unfolding chain_up chain
makes_a = record { kept = refl; known = refl; unrefused = refl; room = refl; steps = refl }

sets : Extends with_a h1 (entry 0 2 (event.Set (group 1) (setting.OomGroup Whole)) reply.Ok) with_flag
sets = record { kept = refl; known = refl; unrefused = refl; room = refl; steps = refl }

spawns : Extends with_flag h2 (entry 0 3 (event.Spawn (task 1) (group 1)) reply.Ok) spawned
unfolding chain_up chain
spawns = record { kept = refl; known = refl; unrefused = refl; room = refl; steps = (record { changed = refl; others = others }, record { none = λ v. refl; others = λ u w other. refl }, refl) }
  where
    others : (m : ℕ) → m ≢ 1 → at spawned.tasks m ≡ None
    others zero other = refl
    others (suc zero) other = absurd (other refl)
    others (suc (suc m)) other = refl

writes : Extends spawned h3 (entry 0 4 (access (Write 5)) (reply.Done 5 None)) one_page
unfolding chain_up chain under_at over_at
writes = record {
  kept = refl;
  known = refl;
  unrefused = refl;
  room = refl;
  steps = record {
    page = 0;
    frame = 0;
    in_range = omega arith;
    slot_free = refl;
    frame_free = record { in_range = omega arith; unused = refl };
    placed = record { changed = refl; others = others };
    shown = record { changed = refl; others = shown };
    answers = refl;
    state = refl;
  };
}
  where
    others : (m : ℕ) → m ≢ 0 → at one_page.pages m ≡ None
    others zero other = absurd (other refl)
    others (suc m) other = refl

    shown : (u w : ℕ) → ((1 == u) && (2 == w)) ≡ false → mapped_at one_page.page_tables u w ≡ None
    shown zero w other = refl
    shown (suc zero) zero other = refl
    shown (suc zero) (suc zero) other = refl
    shown (suc zero) (suc (suc zero)) other = absurd (let e : true ≡ false = other in cc)
    shown (suc zero) (suc (suc (suc w))) other = refl
    shown (suc (suc u)) w other = refl

forks : Extends one_page h4 (entry 0 5 (event.Fork (task 1) (task 2)) reply.Ok) forked
forks = record { kept = refl; known = refl; unrefused = refl; room = refl; steps = (refl, record { changed = refl; others = other_tasks }, record { copied = λ v. refl; others = others }, refl) }
  where
    other_tasks : (m : ℕ) → m ≢ 2 → at forked.tasks m ≡ at one_page.tasks m
    other_tasks zero other = refl
    other_tasks (suc zero) other = refl
    other_tasks (suc (suc zero)) other = absurd (other refl)
    other_tasks (suc (suc (suc m))) other = refl

    others : (u w : ℕ) → u ≢ 2 → mapped_at forked.page_tables u w ≡ mapped_at one_page.page_tables u w
    others zero w other = refl
    others (suc zero) w other = refl
    others (suc (suc zero)) w other = absurd (other refl)
    others (suc (suc (suc u))) w other = refl

-- both show one page: the one of lesser number is the victim
kills : Extends forked h5 (entry 1 1 (event.Relieve cause.Frame) (reply.KilledAll (task 1) (group 1) 2)) ended
unfolding chain_up chain under_at chain_below effective_along
kills = record {
  kept = refl;
  known = refl;
  unrefused = refl;
  room = refl;
  steps = (record { among = refl; none_worse = none_worse }, refl, refl, record { none = λ u v gone. refl; others = others; pages = pages; ends = ends; stays = stays; state = refl });
}
  where
    none_worse : (t : ℕ) → is_candidate forked.tree forked.tasks 0 t ≡ true → is_worse forked.page_tables t 1 ≡ false
    none_worse zero known = refl
    none_worse (suc zero) known = refl
    none_worse (suc (suc zero)) known = refl
    none_worse (suc (suc (suc t))) known = refl

    others : (u v : ℕ) → is_candidate forked.tree forked.tasks 1 u ≡ false → mapped_at ended.page_tables u v ≡ mapped_at forked.page_tables u v
    others zero v other = refl
    others (suc zero) v other = cc
    others (suc (suc zero)) v other = cc
    others (suc (suc (suc u))) v other = refl

    pages : (p : ℕ) → page_at ended.pages p ≡ still ended.page_tables p (page_at forked.pages p)
    pages zero = refl
    pages (suc p) = refl

    ends : (u : ℕ) → is_candidate forked.tree forked.tasks 1 u ≡ true → task_at ended.tasks u ≡ Some (task_of (group_of_task forked.tasks u) Killed)
    ends zero gone = cc
    ends (suc zero) gone = refl
    ends (suc (suc zero)) gone = refl
    ends (suc (suc (suc u))) gone = cc

    stays : (u : ℕ) → is_candidate forked.tree forked.tasks 1 u ≡ false → task_at ended.tasks u ≡ task_at forked.tasks u
    stays zero other = refl
    stays (suc zero) other = cc
    stays (suc (suc zero)) other = cc
    stays (suc (suc (suc u))) other = refl

-- and `memory.events` of /a says it
says : Extends ended h6 (entry 0 6 asks (reply.Shown (shown.Events killed_two))) ended
unfolding chain_up chain under_at
says = record { kept = refl; known = refl; unrefused = refl; room = refl; steps = (refl, refl) }

-- the whole is legal
legal : Legal bare h7 ended
legal = (_, (_, (_, (_, (_, (_, (_, refl, makes_a), sets), spawns), writes), forks), kills), says)

-- no history goes on with the kill of one
not_one : (t : ℕ) (after : State) → Extends forked h5 (entry 1 1 (event.Relieve cause.Frame) (reply.KilledTask (task t))) after → ⊥
unfolding chain_up chain under_at chain_below effective_along
not_one zero after extends = let e : false ≡ true = extends.steps.0.among in cc
not_one (suc zero) after extends = never_some _ extends.steps.1 refl
not_one (suc (suc zero)) after extends = never_some _ extends.steps.1 refl
not_one (suc (suc (suc t))) after extends = let e : false ≡ true = extends.steps.0.among in cc

-- ---- what was counted

-- up to the kill nothing
none_yet : AreCounted bare h5 forked []
none_yet =
    (one_page, [], [], (spawned, [], [], (with_flag, [], [], (with_a, [], [], (first_state bare, [], [], (refl, refl), makes_a, refl, refl), sets, refl, refl), spawns, refl, refl), writes, refl, refl), forks, refl, refl)

-- then `oom` at the root, `oom_kill` at /a for each of the two, and `oom_group_kill` there once
abbrev four : List Counted
four = count_of 0 key.Oom ∷ count_of 1 key.OomKill ∷ count_of 1 key.OomKill ∷ count_of 1 key.OomGroupKill ∷ []

then_kill : AreCounted bare h6 ended four
unfolding chain_up chain under_at
then_kill = (forked, [], four, none_yet, kills, refl, refl)

-- and nothing more
all_counted : AreCounted bare h7 ended four
all_counted = (ended, four, [], then_kill, says, refl, refl)

-- the table is of these events
counted : ended.counted ≡ with_events (no_counts ∷ no_counts ∷ []) four
counted = refl

-- of which two were `oom_kill` at /a
often : how_often four 1 key.OomKill ≡ 2
often = refl
