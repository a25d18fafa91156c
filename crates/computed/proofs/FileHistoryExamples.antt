-- An example of a whole history of a page of a file: a task of one group reads it in, one of another writes to it, it is written to its home, and is read in from there for the other group.
use Rattle.std.proofs.Common.{◌≡◌, ◌≢◌, ℕ, zero, suc, ◌+◌, ◌<◌, ◌==◌, ◌&&◌, ne_eqb, cond, true, false, List, [], ◌∷◌, length, Option, Some, None, refl, arith}
use Rattle.std.specs.Prelude.{codes, slice_index}
use Rattle.machine.specs.declared.config.Placement.TheVariants.{Own}
use Rattle.machine.specs.declared.entry.Entry.{Entry}
use Rattle.machine.specs.declared.event.Op.{Op}
use Rattle.machine.specs.declared.event.Op.TheVariants.{Read, Write}
use Rattle.machine.specs.declared.event.Place.TheVariants.{Virtual, File}
use Rattle.machine.specs.declared.event.Event.{Event}
use Rattle.machine.specs.declared.event.Event.TheVariants as event
use Rattle.machine.specs.declared.record.Life.TheVariants.{Live}
use Rattle.machine.specs.declared.reply.Reply.{Reply}
use Rattle.machine.specs.declared.reply.Reply.TheVariants as reply
use Rattle.machine.specs.Slots.{at}
use Rattle.machine.specs.Tree.{root, chain_up, chain, under_at, chain_below}
use Rattle.machine.specs.Pages.{Held, Coming, Going, Page}
use Rattle.machine.specs.Counts.{no_limits, over_at, no_counts}
use Rattle.machine.specs.Tasks.{task_of}
use Rattle.machine.specs.Protection.{effective_along}
use Rattle.machine.specs.State.{Opening, State, first_state, usage, stat_of}
use Rattle.machine.specs.Access.{page_size}
use Rattle.machine.specs.History.{Spot, InTask, InFile, at_first, last, Right, Honest, fetch_of, entries_by, Numbered}
use Rattle.machine.specs.Legal.{Extends, Legal}
use Rattle.computed.proofs.LegalExamples.{entry}
use Rattle.computed.proofs.FileExamples.{cached}
use Rattle.computed.proofs.ExampleStates.{group, task, frame, ticket, below, single}

-- ---- the history

-- the history with an entry more, of this worker
abbrev on : ℕ → List Entry → Event → Reply → List Entry
on worker earlier what answer = entry worker (length (entries_by worker earlier) + 1) what answer ∷ earlier

-- a task accesses byte 1 of page 1 of file 1
abbrev access : ℕ → Op → Event
access t op = event.Access (task t) (File 1 1 1) op

-- what the page holds before the run, and what it holds later: the bytes past a list's end are 0
abbrev before_run : List ℕ
before_run = 0 ∷ 4 ∷ []

abbrev changed : List ℕ
changed = 0 ∷ 9 ∷ []

-- every other page is full of 6
abbrev first : Spot → ℕ
first spot = at_first (λ f q o. cond ((f == 1) && (q == 1)) (slice_index before_run o) 6) spot

-- task 1 runs in /a, and task 2 in /b
abbrev h4 : List Entry
h4 = on 0 (on 0 (on 0 (on 0 [] (event.Mkdir (codes "/a")) reply.Ok) (event.Mkdir (codes "/b")) reply.Ok) (event.Spawn (task 1) (group 1)) reply.Ok) (event.Spawn (task 2) (group 2)) reply.Ok

-- task 1 reads the byte: the page is read in first
abbrev h5 : List Entry
h5 = on 0 h4 (access 1 Read) (reply.Fetch (ticket 5))

abbrev h6 : List Entry
h6 = on 0 h5 (event.Arrived (ticket 5) before_run) reply.Ok

abbrev h7 : List Entry
h7 = on 0 h6 (access 1 Read) (reply.Done 4 (Some (frame 3)))

-- task 2 writes to it, and task 1 reads what it wrote
abbrev h8 : List Entry
h8 = on 0 h7 (access 2 (Write 9)) (reply.Done 9 (Some (frame 3)))

abbrev h9 : List Entry
h9 = on 0 h8 (access 1 Read) (reply.Done 9 (Some (frame 3)))

-- the page is written to its home
abbrev h10 : List Entry
h10 = on 1 h9 (event.ReclaimOne (group 0)) (reply.Out (ticket 6))

abbrev h11 : List Entry
h11 = on 1 h10 (event.Left (ticket 6)) reply.Ok

-- task 2 reads, and it is read in again
abbrev h12 : List Entry
h12 = on 0 h11 (access 2 Read) (reply.Fetch (ticket 6))

abbrev h13 : List Entry
h13 = on 0 h12 (event.Arrived (ticket 6) changed) reply.Ok

abbrev h14 : List Entry
h14 = on 0 h13 (access 2 Read) (reply.Done 9 (Some (frame 2)))

-- ---- the states

-- 4 frames and no swap block. File 0 has 1 page, and file 1 has 2: the home of its page 1 is block 2
abbrev fixed : Opening
fixed = record { frames = 4; swap = 0; files = 1 ∷ 2 ∷ []; watermarks = record { low = 0; high = 0 }; trace_limit = 14; recursive = false; placement = Own; page_size = 4096 }

abbrev with_a : State
with_a = record (first_state fixed) { tree = root ∷ below 0 (codes "/a") ∷ []; limits = no_limits ∷ no_limits ∷ []; flags = single 2; counted = no_counts ∷ no_counts ∷ [] }

abbrev with_both : State
with_both = record (first_state fixed) { tree = root ∷ below 0 (codes "/a") ∷ below 0 (codes "/b") ∷ []; limits = no_limits ∷ no_limits ∷ no_limits ∷ []; flags = single 3; counted = no_counts ∷ no_counts ∷ no_counts ∷ [] }

abbrev one_task : State
one_task = record with_both { tasks = None ∷ Some (task_of 1 Live) ∷ [] }

abbrev two_tasks : State
two_tasks = record with_both { tasks = None ∷ Some (task_of 1 Live) ∷ Some (task_of 2 Live) ∷ [] }

-- page 1 is this
abbrev with_page : Option Page → State
with_page slot = record two_tasks { pages = None ∷ slot ∷ [] }

-- for /a it comes into frame 3 under ticket 5, and goes from there under ticket 6; for /b it comes into frame 2
abbrev coming : Page
coming = cached 1 1 1 false (Coming 3 2 5)

abbrev clean : Page
clean = cached 1 1 1 false (Held 3)

abbrev dirty : Page
dirty = cached 1 1 1 true (Held 3)

abbrev going : Page
going = cached 1 1 1 true (Going 3 2 6)

abbrev coming_again : Page
coming_again = cached 1 1 2 false (Coming 2 2 6)

abbrev back : Page
back = cached 1 1 2 false (Held 2)

-- ---- each entry is a step from one of these states to the next

makes_a : Extends (first_state fixed) [] (entry 0 1 (event.Mkdir (codes "/a")) reply.Ok) with_a
unfolding chain_up chain
makes_a = record { kept = refl; known = refl; unrefused = refl; room = refl; steps = refl }

makes_b : Extends with_a (entry 0 1 (event.Mkdir (codes "/a")) reply.Ok ∷ []) (entry 0 2 (event.Mkdir (codes "/b")) reply.Ok) with_both
unfolding chain_up chain
makes_b = record { kept = refl; known = refl; unrefused = refl; room = refl; steps = refl }

abbrev h2 : List Entry
h2 = entry 0 2 (event.Mkdir (codes "/b")) reply.Ok ∷ entry 0 1 (event.Mkdir (codes "/a")) reply.Ok ∷ []

spawns_1 : Extends with_both h2 (entry 0 3 (event.Spawn (task 1) (group 1)) reply.Ok) one_task
unfolding chain_up chain
spawns_1 = record { kept = refl; known = refl; unrefused = refl; room = refl; steps = (record { changed = refl; others = others }, record { none = λ v. refl; others = λ u w other. refl }, refl) }
  where
    others : (m : ℕ) → m ≢ 1 → at one_task.tasks m ≡ None
    others zero other = refl
    others (suc zero) other = absurd (other refl)
    others (suc (suc m)) other = refl

spawns_2 : Extends one_task (entry 0 3 (event.Spawn (task 1) (group 1)) reply.Ok ∷ h2) (entry 0 4 (event.Spawn (task 2) (group 2)) reply.Ok) two_tasks
unfolding chain_up chain
spawns_2 = record { kept = refl; known = refl; unrefused = refl; room = refl; steps = (record { changed = refl; others = others }, record { none = λ v. refl; others = λ u w other. refl }, refl) }
  where
    others : (m : ℕ) → m ≢ 2 → at two_tasks.tasks m ≡ at one_task.tasks m
    others zero other = refl
    others (suc zero) other = refl
    others (suc (suc zero)) other = absurd (other refl)
    others (suc (suc (suc m))) other = refl

-- nothing but the one page changes
only : (before after : Option Page) (m : ℕ) → m ≢ 1 → at (with_page after).pages m ≡ at (with_page before).pages m
only before after zero other = refl
only before after (suc zero) other = absurd (other refl)
only before after (suc (suc m)) other = refl

-- the read begins to read the page in
fetches : Extends two_tasks h4 (entry 0 5 (access 1 Read) (reply.Fetch (ticket 5))) (with_page (Some coming))
unfolding chain_up chain under_at over_at
fetches = record {
  kept = refl;
  known = refl;
  unrefused = refl;
  room = refl;
  steps = record {
    page = 1;
    in_range = omega arith;
    slot_free = refl;
    fetch = record { frame = 3; ticket = 5; frame_free = record { in_range = omega arith; unused = refl }; ticket_free = refl; placed = record { changed = refl; others = others }; answers = refl; state = refl };
  };
}
  where
    others : (m : ℕ) → m ≢ 1 → at (with_page (Some coming)).pages m ≡ None
    others zero other = refl
    others (suc zero) other = absurd (other refl)
    others (suc (suc m)) other = refl

-- it has arrived
arrives : Extends (with_page (Some coming)) h5 (entry 0 6 (event.Arrived (ticket 5) before_run) reply.Ok) (with_page (Some clean))
arrives = record {
  kept = refl;
  known = refl;
  unrefused = refl;
  room = refl;
  steps = record { p = 1; page = coming; frame = 3; block = 2; there = refl; moves = refl; placed = record { changed = refl; others = only (Some coming) (Some clean) }; answers = refl; state = refl };
}

-- the read, tried again
reads : Extends (with_page (Some clean)) h6 (entry 0 7 (access 1 Read) (reply.Done 4 (Some (frame 3)))) (with_page (Some clean))
reads = record { kept = refl; known = refl; unrefused = refl; room = refl; steps = (refl, refl) }

-- the other task's write makes it dirty
writes : Extends (with_page (Some clean)) h7 (entry 0 8 (access 2 (Write 9)) (reply.Done 9 (Some (frame 3)))) (with_page (Some dirty))
writes = record { kept = refl; known = refl; unrefused = refl; room = refl; steps = (refl, refl, record { changed = refl; others = only (Some clean) (Some dirty) }, refl) }

reads_new : Extends (with_page (Some dirty)) h8 (entry 0 9 (access 1 Read) (reply.Done 9 (Some (frame 3)))) (with_page (Some dirty))
reads_new = record { kept = refl; known = refl; unrefused = refl; room = refl; steps = (refl, refl) }

-- it is written out, to its home
reclaims : Extends (with_page (Some dirty)) h9 (entry 1 1 (event.ReclaimOne (group 0)) (reply.Out (ticket 6))) (with_page (Some going))
unfolding chain_up chain under_at chain_below effective_along
reclaims = record {
  kept = refl;
  known = refl;
  unrefused = refl;
  room = refl;
  steps = record {
    p = 1;
    page = dirty;
    there = refl;
    next = refl;
    leaves = record { ticket = 6; ticket_free = refl; placed = record { changed = refl; others = only (Some dirty) (Some going) }; answers = refl; state = refl };
  };
}

-- and its record goes with its frame
leaves : Extends (with_page (Some going)) h10 (entry 1 2 (event.Left (ticket 6)) reply.Ok) (with_page None)
leaves = record {
  kept = refl;
  known = refl;
  unrefused = refl;
  room = refl;
  steps = record { p = 1; page = going; frame = 3; block = 2; there = refl; moves = refl; placed = record { changed = refl; others = only (Some going) None }; answers = refl; state = refl };
}

-- the other task's read begins to read it in, for its own group
fetches_again : Extends (with_page None) h11 (entry 0 10 (access 2 Read) (reply.Fetch (ticket 6))) (with_page (Some coming_again))
unfolding chain_up chain under_at over_at
fetches_again = record {
  kept = refl;
  known = refl;
  unrefused = refl;
  room = refl;
  steps = record {
    page = 1;
    in_range = omega arith;
    slot_free = refl;
    fetch = record {
      frame = 2;
      ticket = 6;
      frame_free = record { in_range = omega arith; unused = refl };
      ticket_free = refl;
      placed = record { changed = refl; others = only None (Some coming_again) };
      answers = refl;
      state = refl;
    };
  };
}

arrives_again : Extends (with_page (Some coming_again)) h12 (entry 0 11 (event.Arrived (ticket 6) changed) reply.Ok) (with_page (Some back))
arrives_again = record {
  kept = refl;
  known = refl;
  unrefused = refl;
  room = refl;
  steps = record { p = 1; page = coming_again; frame = 2; block = 2; there = refl; moves = refl; placed = record { changed = refl; others = only (Some coming_again) (Some back) }; answers = refl; state = refl };
}

reads_again : Extends (with_page (Some back)) h13 (entry 0 12 (access 2 Read) (reply.Done 9 (Some (frame 2)))) (with_page (Some back))
reads_again = record { kept = refl; known = refl; unrefused = refl; room = refl; steps = (refl, refl) }

-- the whole is legal
legal : Legal fixed h14 (with_page (Some back))
legal = (
  _,
  (
    _,
    (
      _,
      (_, (_, (_, (_, (_, (_, (_, (_, (_, (_, (_, refl, makes_a), makes_b), spawns_1), spawns_2), fetches), arrives), reads), writes), reads_new), reclaims), leaves),
      fetches_again,
    ),
    arrives_again,
  ),
  reads_again,
)

numbered : Numbered h14
numbered = ((((((((((((((tt, refl), refl), refl), refl), refl), refl), refl), refl), refl), refl), refl), refl), refl), refl)

-- ---- bytes

-- a byte of a file is at first what the file has
last-first : last first h4 (InFile 1 1 1) ≡ 4
last-first = refl

-- no read-in and no arrival says anything
last-read_in : last first h7 (InFile 1 1 1) ≡ 4
last-read_in = refl

-- then it is what was written last, by whichever task, while it went home and came in again
last-written : last first h14 (InFile 1 1 1) ≡ 9
last-written = refl

-- and of two tasks that write, the later one's
last-of_two : last first (on 0 h14 (access 1 (Write 3)) (reply.Done 3 (Some (frame 2)))) (InFile 1 1 1) ≡ 3
last-of_two = refl

-- the byte beside it was not written
last-other_byte : last first h14 (InFile 1 1 0) ≡ 0
last-other_byte = refl

-- nor was another page
last-other_page : last first h14 (InFile 1 0 1) ≡ 6
last-other_page = refl

-- nor that page of another file
last-other_file : last first h14 (InFile 0 1 1) ≡ 6
last-other_file = refl

-- nor memory of the task that wrote, of the same numbers
last-no_memory : last first h14 (InTask 1 1 1) ≡ 0
last-no_memory = refl

-- and a write to that is none to the file
last-no_file : last first (on 0 h14 (event.Access (task 1) (Virtual 1 1) (Write 3)) (reply.Done 3 None)) (InFile 1 1 1) ≡ 9
last-no_file = refl

-- a write that was not done says nothing: this one reads the page in
last-not_done : last first (on 0 h11 (access 1 (Write 3)) (reply.Fetch (ticket 6))) (InFile 1 1 1) ≡ 9
last-not_done = refl

-- a task that begins, a child, and a virtual page that is given up change no file
last-spawned : last first (on 0 h14 (event.Spawn (task 1) (group 0)) reply.Ok) (InFile 1 1 1) ≡ 9
last-spawned = refl

last-forked : last first (on 0 h14 (event.Fork (task 2) (task 1)) reply.Ok) (InFile 1 1 1) ≡ 9
last-forked = refl

last-freed : last first (on 0 h14 (event.Free (task 1) 1) reply.Ok) (InFile 1 1 1) ≡ 9
last-freed = refl

-- and neither does the end of the task that wrote
last-ended : last first (on 0 h14 (event.Exit (task 2)) reply.Ok) (InFile 1 1 1) ≡ 9
last-ended = refl

-- each read gave what was written last
right : Right first h14
right = ((((((((((((((tt, tt), tt), tt), tt), tt), tt), refl), tt), refl), tt), tt), tt), tt), refl)

-- what the file had before the run would not be, once it was written to
right-not_first : Right first (on 0 h8 (access 1 Read) (reply.Done 4 (Some (frame 3)))) → ⊥
right-not_first h = absurd (let e : 4 ≡ 9 = h.1 in omega (arith, e))

-- the device brought the page as it was last written
honest : Honest first h14
honest = ((((((((((((((tt, tt), tt), tt), tt), tt), brought), tt), tt), tt), tt), tt), tt), brought_again), tt)
  where
    brought : (o : ℕ) → o < page_size → slice_index before_run o ≡ last first h4 (InFile 1 1 o)
    brought o within = refl

    brought_again : (o : ℕ) → o < page_size → slice_index changed o ≡ last first h11 (InFile 1 1 o)
    brought_again zero within = refl
    brought_again (suc zero) within = refl
    brought_again (suc (suc o)) within = let e : (1 == suc (suc o)) ≡ false = ne_eqb 1 (suc (suc o)) (λ e. omega (arith, e)) in rw e refl

-- and not as it was before the run
honest-not_first : Honest first (on 0 h12 (event.Arrived (ticket 6) before_run) reply.Ok) → ⊥
honest-not_first h = absurd (let e : 4 ≡ 9 = h.1 1 (omega arith) in omega (arith, e))

-- the read-in began with task 2's read of this byte of the file
fetched : fetch_of 6 h13 ≡ Some (record { spot = InFile 1 1 1; earlier = h11 })
fetched = refl

-- ---- charges

-- /a read the page in, and /b, whose task wrote to it, has none
charged-first : usage (with_page (Some dirty)) 1 ≡ 1
unfolding chain_up chain under_at
charged-first = refl

charged-none : usage (with_page (Some dirty)) 2 ≡ 0
unfolding chain_up chain under_at
charged-none = refl

-- until it is home it is charged
charged-going : stat_of (with_page (Some going)) 1 ≡ record { anon = 0; file = 1 }
unfolding chain_up chain under_at
charged-going = refl

-- then to nobody
charged-home : stat_of (with_page None) 0 ≡ record { anon = 0; file = 0 }
unfolding chain_up chain under_at
charged-home = refl

-- and then /b has it
charged-again : stat_of (with_page (Some coming_again)) 2 ≡ record { anon = 0; file = 1 }
unfolding chain_up chain under_at
charged-again = refl
