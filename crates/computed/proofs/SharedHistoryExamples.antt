-- Examples: the bytes of tasks that fork and free, and whole histories of shared pages: a copy on write, and a page that is read in for all who show it.
use Rattle.std.proofs.Common.{◌≡◌, ◌≢◌, ℕ, zero, suc, ◌+◌, ◌<◌, ◌==◌, ◌&&◌, true, false, List, [], ◌∷◌, length, Some, None, refl, ne_eqb, eqb-true, arith}
use Rattle.std.specs.Prelude.{slice_index}
use Rattle.machine.specs.declared.event.Op.{Op}
use Rattle.machine.specs.declared.event.Op.TheVariants.{Read, Write}
use Rattle.machine.specs.declared.event.Place.TheVariants.{Virtual}
use Rattle.machine.specs.declared.event.Event.{Event}
use Rattle.machine.specs.declared.event.Event.TheVariants as event
use Rattle.machine.specs.declared.record.Life.TheVariants.{Live, Exited}
use Rattle.machine.specs.declared.entry.Entry.{Entry}
use Rattle.machine.specs.declared.reply.Reply.{Reply}
use Rattle.machine.specs.declared.reply.Reply.TheVariants as reply
use Rattle.machine.specs.Slots.{at}
use Rattle.machine.specs.Tree.{chain_up, chain, under_at}
use Rattle.machine.specs.Pages.{Residence, Held, Away, Pages, page_at}
use Rattle.machine.specs.Counts.{over_at}
use Rattle.machine.specs.Tasks.{PageTable, task_of, group_of_task, mapped_at}
use Rattle.machine.specs.State.{State}
use Rattle.machine.specs.Access.{page_size, Hits, NeedsCopy, NeedsSwapIn, meets}
use Rattle.machine.specs.Step.{still, Step}
use Rattle.machine.specs.History.{InTask, last, Right, IsHonest, Honest, fetch_of, entries_by, Numbered}
use Rattle.machine.specs.Legal.{Extends, Legal}
use Rattle.computed.proofs.ExampleStates.{first_bytes, task, frame, ticket, shows, memory}
use Rattle.computed.proofs.LegalExamples.{entry, bytes, h2, h4, h5, small, spawned, with_page, made, away, coming, back, spawns, writes, reclaims, leaves}
use Rattle.computed.proofs.SharingExamples.{fork, free, attach}

-- ---- bytes

-- the history with an entry more, of worker 0
abbrev on : List Entry → Event → Reply → List Entry
on earlier what answer = entry 0 (length (entries_by 0 earlier) + 1) what answer ∷ earlier

-- a task accesses one byte: byte 1 of its virtual page 2, to which task 1 has written 5 in the history `h2`
abbrev byte : ℕ → Op → Event
byte t op = event.Access (task t) (Virtual 2 1) op

abbrev wrote : List Entry → ℕ → ℕ → List Entry
wrote earlier t b = on earlier (byte t (Write b)) (reply.Done b None)

-- then task 1 forks task 2
abbrev born : List Entry
born = on h2 (fork 1 2) reply.Ok

-- the child's byte is the parent's
last-child : last first_bytes born (InTask 2 2 1) ≡ 5
last-child = refl

-- each of them, also where nothing was written
last-child_all : (v o : ℕ) → last first_bytes born (InTask 2 v o) ≡ last first_bytes h2 (InTask 1 v o)
last-child_all v o = refl

-- a byte of the parent is what it was
last-parent : last first_bytes born (InTask 1 2 1) ≡ 5
last-parent = refl

-- a fork that was not done says nothing: of a killed task
last-not_forked : last first_bytes (on h2 (fork 1 2) reply.Killed) (InTask 2 2 1) ≡ 0
last-not_forked = refl

-- the child writes 6
abbrev child_wrote : List Entry
child_wrote = wrote born 2 6

-- the child's byte is what it wrote
last-child_wrote : last first_bytes child_wrote (InTask 2 2 1) ≡ 6
last-child_wrote = refl

-- and the parent's byte is as before
last-child_wrote_parent : last first_bytes child_wrote (InTask 1 2 1) ≡ 5
last-child_wrote_parent = refl

-- the parent writes 8
abbrev parent_wrote : List Entry
parent_wrote = wrote born 1 8

-- the parent's byte is what it wrote
last-parent_wrote : last first_bytes parent_wrote (InTask 1 2 1) ≡ 8
last-parent_wrote = refl

-- and the child's byte is as before: what the parent wrote after the fork is not its
last-parent_wrote_child : last first_bytes parent_wrote (InTask 2 2 1) ≡ 5
last-parent_wrote_child = refl

-- of two children, the later has what was written between
last-two_children : last first_bytes (on parent_wrote (fork 1 3) reply.Ok) (InTask 3 2 1) ≡ 8
last-two_children = refl

-- and the earlier has not
last-two_children_first : last first_bytes (on parent_wrote (fork 1 3) reply.Ok) (InTask 2 2 1) ≡ 5
last-two_children_first = refl

-- task 1 has written 4 to byte 0; it forks 2, which writes 6 and forks 3, which writes 7 and forks 4; then 2 writes 9
abbrev line : List Entry
line =
    let first = on (on h2 (event.Access (task 1) (Virtual 2 0) (Write 4)) (reply.Done 4 (Some (frame 3)))) (fork 1 2) reply.Ok in
    let second = on (wrote first 2 6) (fork 2 3) reply.Ok in
    let third = on (wrote second 3 7) (fork 3 4) reply.Ok in
    wrote third 2 9

-- each has what it wrote last
last-line_1 : last first_bytes line (InTask 1 2 1) ≡ 5
last-line_1 = refl

-- a write after the forks is the last of task 2
last-line_2 : last first_bytes line (InTask 2 2 1) ≡ 9
last-line_2 = refl

-- what task 3 wrote stays
last-line_3 : last first_bytes line (InTask 3 2 1) ≡ 7
last-line_3 = refl

-- and task 4, which wrote nothing, has that of task 3, and nothing of what task 2 wrote later
last-line_4 : last first_bytes line (InTask 4 2 1) ≡ 7
last-line_4 = refl

-- and through three forks a byte that only the first wrote
last-line_all : last first_bytes line (InTask 4 2 0) ≡ 4
last-line_all = refl

-- the parent frees the page
abbrev parent_freed : List Entry
parent_freed = on born (free 1 2) reply.Ok

-- of the parent each byte of the page is 0
last-freed : (o : ℕ) → last first_bytes parent_freed (InTask 1 2 o) ≡ 0
last-freed o = refl

-- and as before for the child
last-freed_child : last first_bytes parent_freed (InTask 2 2 1) ≡ 5
last-freed_child = refl

-- the other way round too
last-child_freed : last first_bytes (on born (free 2 2) reply.Ok) (InTask 1 2 1) ≡ 5
last-child_freed = refl

-- a child that comes after the free has 0
last-freed_before : last first_bytes (on (on h2 (free 1 2) reply.Ok) (fork 1 2) reply.Ok) (InTask 2 2 1) ≡ 0
last-freed_before = refl

-- a page that is free can be written to again
last-freed_wrote : last first_bytes (wrote parent_freed 1 3) (InTask 1 2 1) ≡ 3
last-freed_wrote = refl

-- and the bytes beside it are 0
last-freed_beside : last first_bytes (wrote parent_freed 1 3) (InTask 1 2 0) ≡ 0
last-freed_beside = refl

-- a free of another page says nothing of this one
last-freed_other : last first_bytes (on h2 (free 1 3) reply.Ok) (InTask 1 2 1) ≡ 5
last-freed_other = refl

-- nor does one that was not done: of a killed task
last-not_freed : last first_bytes (on h2 (free 1 2) reply.Killed) (InTask 1 2 1) ≡ 5
last-not_freed = refl

-- nor a move
last-moved : last first_bytes (on born (attach 1 0) reply.Ok) (InTask 1 2 1) ≡ 5
last-moved = refl

-- the child keeps its bytes when the parent ends
last-ended : last first_bytes (on born (event.Exit (task 1)) reply.Ok) (InTask 2 2 1) ≡ 5
last-ended = refl

-- a read of the child that gives what the parent wrote after the fork is not right
right-not_later : Right first_bytes (on parent_wrote (byte 2 Read) (reply.Done 8 (Some (frame 3)))) → ⊥
right-not_later h = absurd (let e : 8 ≡ 5 = h.1 in omega (arith, e))

-- nor one of the parent that gives what the child wrote: its page was not to be written in place
right-not_in_place : Right first_bytes (on child_wrote (byte 1 Read) (reply.Done 6 (Some (frame 3)))) → ⊥
right-not_in_place h = absurd (let e : 6 ≡ 5 = h.1 in omega (arith, e))

-- ---- a whole history: the child of task 1 writes to the page that they share, and then task 1 frees it

-- the two tasks run in the root, and show this; the pages are these
abbrev two : Pages → PageTable → PageTable → State
two left one_shows two_shows = record (spawned 7) { pages = left; tasks = None ∷ Some (task_of 0 Live) ∷ Some (task_of 0 Live) ∷ []; page_tables = [] ∷ one_shows ∷ two_shows ∷ [] }

-- at virtual page 2 this
abbrev at_2 : ℕ → PageTable
at_2 p = None ∷ None ∷ shows p ∷ []

-- page 1 stands so, which both show
abbrev both : Residence → State
both residence = two (None ∷ Some (memory 0 residence) ∷ []) (at_2 1) (at_2 1)

-- wherever the page stands, a fork of task 1 leads there
shared : (residence : Residence) → Step (with_page 7 residence) (fork 1 2) reply.Ok (both residence)
shared residence = (refl, record { changed = refl; others = other_tasks }, record { copied = λ v. refl; others = others }, refl)
  where
    other_tasks : (m : ℕ) → m ≢ 2 → at (both residence).tasks m ≡ at (with_page 7 residence).tasks m
    other_tasks zero other = refl
    other_tasks (suc zero) other = refl
    other_tasks (suc (suc zero)) other = absurd (other refl)
    other_tasks (suc (suc (suc m))) other = refl

    others : (u w : ℕ) → u ≢ 2 → mapped_at (both residence).page_tables u w ≡ mapped_at (with_page 7 residence).page_tables u w
    others zero w other = refl
    others (suc zero) w other = refl
    others (suc (suc zero)) w other = absurd (other refl)
    others (suc (suc (suc u))) w other = refl

-- the fork is an entry
shares : Extends (with_page 7 made) h2 (entry 0 3 (fork 1 2) reply.Ok) (both made)
shares = record { kept = refl; known = refl; unrefused = refl; room = refl; steps = shared made }

-- the child shows page 0 now, in frame 1
abbrev apart : State
apart = two (Some (memory 0 (Held 1)) ∷ Some (memory 0 made) ∷ []) (at_2 1) (at_2 0)

-- the write of the child is one: it makes a copy
parts : Extends (both made) born (entry 0 4 (byte 2 (Write 6)) (reply.Done 6 None)) apart
unfolding chain_up chain under_at over_at
parts = record {
  kept = refl;
  known = refl;
  unrefused = refl;
  room = refl;
  steps = record {
    page = 0;
    frame = 1;
    in_range = omega arith;
    slot_free = refl;
    frame_free = record { in_range = omega arith; unused = refl };
    placed = record { changed = refl; others = others };
    shown = record { changed = refl; others = shown };
    answers = refl;
    state = refl;
  };
}
  where
    others : (m : ℕ) → m ≢ 0 → at apart.pages m ≡ at (both made).pages m
    others zero other = absurd (other refl)
    others (suc m) other = refl

    shown : (u w : ℕ) → ((2 == u) && (2 == w)) ≡ false → mapped_at apart.page_tables u w ≡ mapped_at (both made).page_tables u w
    shown zero w other = refl
    shown (suc zero) w other = refl
    shown (suc (suc zero)) zero other = refl
    shown (suc (suc zero)) (suc zero) other = refl
    shown (suc (suc zero)) (suc (suc zero)) other = absurd (let e : true ≡ false = other in cc)
    shown (suc (suc zero)) (suc (suc (suc w))) other = refl
    shown (suc (suc (suc u))) w other = refl

-- both read the byte, each in its frame
abbrev h5_read : List Entry
h5_read = on child_wrote (byte 1 Read) (reply.Done 5 (Some (frame 3)))

abbrev h6_read : List Entry
h6_read = on h5_read (byte 2 Read) (reply.Done 6 (Some (frame 1)))

-- the parent reads what it wrote, in the frame of the old page
parent_reads : Extends apart child_wrote (entry 0 5 (byte 1 Read) (reply.Done 5 (Some (frame 3)))) apart
parent_reads = record { kept = refl; known = refl; unrefused = refl; room = refl; steps = (refl, refl) }

-- and the child what it wrote, in that of the copy
child_reads : Extends apart h5_read (entry 0 6 (byte 2 Read) (reply.Done 6 (Some (frame 1)))) apart
child_reads = record { kept = refl; known = refl; unrefused = refl; room = refl; steps = (refl, refl) }

-- with the parent's place page 1 goes, which nobody else shows any more
abbrev alone : State
alone = two (Some (memory 0 (Held 1)) ∷ None ∷ []) (None ∷ None ∷ None ∷ []) (at_2 0)

abbrev h7_freed : List Entry
h7_freed = on h6_read (free 1 2) reply.Ok

-- the free is an entry
frees : Extends apart h6_read (entry 0 7 (free 1 2) reply.Ok) alone
frees = record { kept = refl; known = refl; unrefused = refl; room = refl; steps = record { answers = refl; shown = record { changed = refl; others = shown }; pages = stays; state = refl } }
  where
    shown : (u w : ℕ) → ((1 == u) && (2 == w)) ≡ false → mapped_at alone.page_tables u w ≡ mapped_at apart.page_tables u w
    shown zero w other = refl
    shown (suc zero) zero other = refl
    shown (suc zero) (suc zero) other = refl
    shown (suc zero) (suc (suc zero)) other = absurd (let e : true ≡ false = other in cc)
    shown (suc zero) (suc (suc (suc w))) other = refl
    shown (suc (suc u)) w other = refl

    stays : (p : ℕ) → page_at alone.pages p ≡ still alone.page_tables p (page_at apart.pages p)
    stays zero = refl
    stays (suc zero) = refl
    stays (suc (suc p)) = refl

-- the whole is legal
legal : Legal (small 7) h7_freed alone
legal = (_, (_, (_, (_, (_, (_, (_, refl, spawns), writes), shares), parts), parent_reads), child_reads), frees)

-- each read gave what was written last
right : Right first_bytes h7_freed
right = (((((((tt, tt), tt), tt), tt), refl), refl), tt)

-- and each entry has its number
numbered : Numbered h7_freed
numbered = (((((((tt, refl), refl), refl), refl), refl), refl), refl)

-- ---- the parent ends

-- it shows nothing any more, and the page that the child shows as well stays in its frame
abbrev orphan : State
orphan = record (both made) { tasks = None ∷ Some (task_of 0 Exited) ∷ Some (task_of 0 Live) ∷ []; page_tables = [] ∷ [] ∷ at_2 1 ∷ [] }

-- the exit of the parent leads there
ends : Step (both made) (event.Exit (task 1)) reply.Ok orphan
ends = (refl, record { none = none; others = others; pages = stays; ends = exits; stays = other_tasks; state = refl })
  where
    none : (u w : ℕ) → (u == 1) ≡ true → mapped_at orphan.page_tables u w ≡ None
    none u w gone = rw (eqb-true u 1 gone) refl

    others : (u w : ℕ) → (u == 1) ≡ false → mapped_at orphan.page_tables u w ≡ mapped_at (both made).page_tables u w
    others zero w other = refl
    others (suc zero) w other = cc
    others (suc (suc u)) w other = refl

    stays : (p : ℕ) → page_at orphan.pages p ≡ still orphan.page_tables p (page_at (both made).pages p)
    stays zero = refl
    stays (suc zero) = refl
    stays (suc (suc p)) = refl

    exits : (u : ℕ) → (u == 1) ≡ true → at orphan.tasks u ≡ Some (task_of (group_of_task (both made).tasks u) Exited)
    exits u gone = rw (eqb-true u 1 gone) refl

    other_tasks : (u : ℕ) → (u == 1) ≡ false → at orphan.tasks u ≡ at (both made).tasks u
    other_tasks zero other = refl
    other_tasks (suc zero) other = cc
    other_tasks (suc (suc u)) other = refl

-- a write of the child is a hit then
ends-then_hits : meets orphan 2 (Virtual 2 1) (Write 6) ≡ Hits 1 (memory 0 made) 3
ends-then_hits = refl

-- ---- a page that is away, and shared, is read in

-- the page of task 1 was written out, which is history `h4`; then task 1 forks task 2
abbrev away_born : List Entry
away_born = on h4 (fork 1 2) reply.Ok

-- a write of the child begins with the read-in, and not with a copy
away-meets : meets (both away) 2 (Virtual 2 1) (Write 6) ≡ NeedsSwapIn 1 (memory 0 (Away 4)) 4
away-meets = refl

-- which comes when the page is back
back-meets : meets (both back) 2 (Virtual 2 1) (Write 6) ≡ NeedsCopy 2
back-meets = refl

-- the child begins the read-in
abbrev by_child : List Entry
by_child = on away_born (byte 2 Read) (reply.Fetch (ticket 5))

-- or the parent does
abbrev by_parent : List Entry
by_parent = on away_born (byte 1 Read) (reply.Fetch (ticket 5))

abbrev arrival : List ℕ → Event
arrival brought = event.Arrived (ticket 5) brought

-- the place that began it is the child's
fetched : fetch_of 5 by_child ≡ Some (record { spot = InTask 2 2 1; earlier = away_born })
fetched = refl

-- the bytes that the parent wrote are the child's
brought : (o : ℕ) → o < page_size → slice_index bytes o ≡ last first_bytes h4 (InTask 1 2 o)
brought zero within = refl
brought (suc zero) within = refl
brought (suc (suc o)) within = let e : (1 == suc (suc o)) ≡ false = ne_eqb 1 (suc (suc o)) (λ e. omega (arith, e)) in rw e refl

-- so that an arrival of these bytes is honest where the child began the read-in
honest-child : IsHonest first_bytes by_child (arrival bytes)
honest-child = brought

-- a page of zeros is not what the child had, though it never wrote
honest-not_zeros : IsHonest first_bytes by_child (arrival []) → ⊥
honest-not_zeros h = absurd (let e : 0 ≡ 5 = h 1 (omega arith) in omega (arith, e))

-- whatever an honest arrival brings to the place that began the read-in, it brings to the other place, too: to the child's
honest-for_child : (came : List ℕ) → IsHonest first_bytes by_parent (arrival came) → (o : ℕ) → o < page_size → slice_index came o ≡ last first_bytes (on by_parent (arrival came) reply.Ok) (InTask 2 2 o)
honest-for_child came honest o within = honest o within

-- and to the parent's
honest-for_parent : (came : List ℕ) → IsHonest first_bytes by_child (arrival came) → (o : ℕ) → o < page_size → slice_index came o ≡ last first_bytes (on by_child (arrival came) reply.Ok) (InTask 1 2 o)
honest-for_parent came honest o within = honest o within

-- a child that is born while the page comes in has these bytes as well
honest-born_meanwhile : (came : List ℕ) → IsHonest first_bytes (on h5 (fork 1 2) reply.Ok) (arrival came) → (o : ℕ) → o < page_size → slice_index came o ≡ last first_bytes (on h5 (fork 1 2) reply.Ok) (InTask 2 2 o)
honest-born_meanwhile came honest o within = honest o within

-- and the child has them though the parent, which began the read-in, frees its place meanwhile
honest-freed_meanwhile : (came : List ℕ) → IsHonest first_bytes (on by_parent (free 1 2) reply.Ok) (arrival came) → (o : ℕ) → o < page_size → slice_index came o ≡ last first_bytes (on by_parent (free 1 2) reply.Ok) (InTask 2 2 o)
honest-freed_meanwhile came honest o within = honest o within

-- the steps: wherever the page stands, nothing but the page changes
only : (before after : Residence) (m : ℕ) → m ≢ 1 → at (both after).pages m ≡ at (both before).pages m
only before after zero other = refl
only before after (suc zero) other = absurd (other refl)
only before after (suc (suc m)) other = refl

-- the fork while the page is on its block
away_shares : Extends (with_page 7 away) h4 (entry 0 3 (fork 1 2) reply.Ok) (both away)
away_shares = record { kept = refl; known = refl; unrefused = refl; room = refl; steps = shared away }

-- the read of the child, which begins the read-in
away_fetches : Extends (both away) away_born (entry 0 4 (byte 2 Read) (reply.Fetch (ticket 5))) (both coming)
unfolding chain_up chain under_at over_at
away_fetches = record {
  kept = refl;
  known = refl;
  unrefused = refl;
  room = refl;
  steps = record {
    frame = 2;
    ticket = 5;
    frame_free = record { in_range = omega arith; unused = refl };
    ticket_free = refl;
    placed = record { changed = refl; others = only away coming };
    answers = refl;
    state = refl;
  };
}

-- and its end
away_arrives : Extends (both coming) by_child (entry 0 5 (arrival bytes) reply.Ok) (both back)
away_arrives = record {
  kept = refl;
  known = refl;
  unrefused = refl;
  room = refl;
  steps = record { p = 1; page = memory 0 coming; frame = 2; block = 4; there = refl; moves = refl; placed = record { changed = refl; others = only coming back }; answers = refl; state = refl };
}

-- the whole is legal
legal-away : Legal (small 7) (on by_child (arrival bytes) reply.Ok) (both back)
legal-away = (_, (_, (_, (_, (_, (_, (_, refl, spawns), writes), reclaims), leaves), away_shares), away_fetches), away_arrives)

-- and the device kept its promise
honest-away : Honest first_bytes (on by_child (arrival bytes) reply.Ok)
honest-away = (((((((tt, tt), tt), tt), tt), tt), tt), honest-child)

-- the page is back for each of them, in the one frame: the child's read is a hit
back-child : meets (both back) 2 (Virtual 2 1) Read ≡ Hits 1 (memory 0 back) 2
back-child = refl

-- the parent's read, too
back-parent : meets (both back) 1 (Virtual 2 1) Read ≡ Hits 1 (memory 0 back) 2
back-parent = refl
