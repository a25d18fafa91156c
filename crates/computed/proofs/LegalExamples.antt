-- An example of a whole history: a page is written, written out, read in and read. A merge of marks is shown to be no entry of one.
use Rattle.std.proofs.Common.{◌≡◌, ◌≢◌, ℕ, zero, suc, ◌==◌, ◌&&◌, true, false, List, [], ◌∷◌, Some, None, refl, arith}
use Rattle.machine.specs.declared.config.Placement.TheVariants.{Own}
use Rattle.machine.specs.declared.entry.Entry.{Entry}
use Rattle.machine.specs.declared.event.Op.{Op}
use Rattle.machine.specs.declared.event.Op.TheVariants.{Read, Write}
use Rattle.machine.specs.declared.event.Place.TheVariants.{Virtual}
use Rattle.machine.specs.declared.event.Event.{Event}
use Rattle.machine.specs.declared.event.Event.TheVariants as event
use Rattle.machine.specs.declared.record.Life.TheVariants.{Live}
use Rattle.machine.specs.declared.reply.Reply.{Reply}
use Rattle.machine.specs.declared.reply.Reply.TheVariants as reply
use Rattle.machine.specs.Slots.{at}
use Rattle.machine.specs.Tree.{chain_up, chain, under_at, chain_below}
use Rattle.machine.specs.Pages.{Residence, Held, Coming, Going, Away}
use Rattle.machine.specs.Counts.{over_at}
use Rattle.machine.specs.Tasks.{task_of, mapped_at}
use Rattle.machine.specs.Protection.{effective_along}
use Rattle.machine.specs.State.{Opening, State, first_state}
use Rattle.machine.specs.Refusals.{refusal}
use Rattle.machine.specs.Step.{Step}
use Rattle.machine.specs.Call.{knows_pass, is_full_for}
use Rattle.machine.specs.Legal.{caller_of, Extends, Legal}
use Rattle.computed.proofs.ExampleStates.{group, task, frame, ticket, shows, memory}

-- ---- the history

abbrev pub entry : ℕ → ℕ → Event → Reply → Entry
entry worker count what answer = record { worker = record { 0 = worker }; count = count; event = what; reply = answer }

-- task 1 accesses one byte: byte 1 of its virtual page 2
abbrev pub access : Op → Event
access op = event.Access (task 1) (Virtual 2 1) op

-- the page's bytes when it comes back: those past the list's end are 0
abbrev pub bytes : List ℕ
bytes = 0 ∷ 5 ∷ []

-- worker 0 does what the task asks, and worker 1 reclaims. The ticket, 5, is used twice
abbrev pub h1 : List Entry
h1 = entry 0 1 (event.Spawn (task 1) (group 0)) reply.Ok ∷ []

abbrev pub h2 : List Entry
h2 = entry 0 2 (access (Write 5)) (reply.Done 5 None) ∷ h1

abbrev pub h3 : List Entry
h3 = entry 1 1 (event.ReclaimOne (group 0)) (reply.Out (ticket 5)) ∷ h2

abbrev pub h4 : List Entry
h4 = entry 1 2 (event.Left (ticket 5)) reply.Ok ∷ h3

abbrev pub h5 : List Entry
h5 = entry 0 3 (access Read) (reply.Fetch (ticket 5)) ∷ h4

abbrev pub h6 : List Entry
h6 = entry 0 4 (event.Arrived (ticket 5) bytes) reply.Ok ∷ h5

abbrev pub h7 : List Entry
h7 = entry 0 5 (access Read) (reply.Done 5 (Some (frame 2))) ∷ h6

-- ---- the states

-- 4 frames, 5 swap blocks, and room for so many entries
abbrev pub small : ℕ → Opening
small limit = record { frames = 4; swap = 5; files = []; watermarks = record { low = 0; high = 0 }; trace_limit = limit; recursive = false; placement = Own; page_size = 4096 }

-- task 1 runs in the root
abbrev pub spawned : ℕ → State
spawned limit = record (first_state (small limit)) { tasks = None ∷ Some (task_of 0 Live) ∷ [] }

-- and shows page 1, which stands here
abbrev pub with_page : ℕ → Residence → State
with_page limit residence = record (spawned limit) { pages = None ∷ Some (memory 0 residence) ∷ []; page_tables = [] ∷ (None ∷ None ∷ shows 1 ∷ []) ∷ [] }

-- the page goes from frame 3 to block 4, and comes back into frame 2
abbrev pub made : Residence
made = Held 3

abbrev pub going : Residence
going = Going 3 4 5

abbrev pub away : Residence
away = Away 4

abbrev pub coming : Residence
coming = Coming 2 4 5

abbrev pub back : Residence
back = Held 2

-- ---- each entry is a step from one of these states to the next, with room for 7 entries

-- the task begins with nothing mapped
pub spawns : Extends (first_state (small 7)) [] (entry 0 1 (event.Spawn (task 1) (group 0)) reply.Ok) (spawned 7)
unfolding chain_up chain
spawns = record { kept = refl; known = refl; unrefused = refl; room = refl; steps = (record { changed = refl; others = others }, record { none = λ v. refl; others = λ u w other. refl }, refl) }
  where
    others : (m : ℕ) → m ≢ 1 → at (spawned 7).tasks m ≡ None
    others zero other = refl
    others (suc zero) other = absurd (other refl)
    others (suc (suc m)) other = refl

-- nothing but the one page changes
only : (before after : Residence) (m : ℕ) → m ≢ 1 → at (with_page 7 after).pages m ≡ at (with_page 7 before).pages m
only before after zero other = refl
only before after (suc zero) other = absurd (other refl)
only before after (suc (suc m)) other = refl

-- its write makes a page of zeros with the byte in it, in a free frame
pub writes : Extends (spawned 7) h1 (entry 0 2 (access (Write 5)) (reply.Done 5 None)) (with_page 7 made)
unfolding chain_up chain under_at over_at
writes = record {
  kept = refl;
  known = refl;
  unrefused = refl;
  room = refl;
  steps = record {
    page = 1;
    frame = 3;
    in_range = omega arith;
    slot_free = refl;
    frame_free = record { in_range = omega arith; unused = refl };
    placed = record { changed = refl; others = others };
    shown = record { changed = refl; others = shown };
    answers = refl;
    state = refl;
  };
}
  where
    others : (m : ℕ) → m ≢ 1 → at (with_page 7 made).pages m ≡ None
    others zero other = refl
    others (suc zero) other = absurd (other refl)
    others (suc (suc m)) other = refl

    shown : (u w : ℕ) → ((1 == u) && (2 == w)) ≡ false → mapped_at (with_page 7 made).page_tables u w ≡ None
    shown zero w other = refl
    shown (suc zero) zero other = refl
    shown (suc zero) (suc zero) other = refl
    shown (suc zero) (suc (suc zero)) other = absurd (let e : true ≡ false = other in cc)
    shown (suc zero) (suc (suc (suc w))) other = refl
    shown (suc (suc u)) w other = refl

-- the page is written out to a free block, under a ticket that no transfer has
pub reclaims : Extends (with_page 7 made) h2 (entry 1 1 (event.ReclaimOne (group 0)) (reply.Out (ticket 5))) (with_page 7 going)
unfolding chain_up chain under_at chain_below effective_along
reclaims = record {
  kept = refl;
  known = refl;
  unrefused = refl;
  room = refl;
  steps = record {
    p = 1;
    page = memory 0 made;
    there = refl;
    next = refl;
    leaves = record {
      block = 4;
      block_free = record { in_range = omega arith; unused = refl };
      leave = record { ticket = 5; ticket_free = refl; placed = record { changed = refl; others = only made going }; answers = refl; state = refl };
    };
  };
}

-- it has left its frame
pub leaves : Extends (with_page 7 going) h3 (entry 1 2 (event.Left (ticket 5)) reply.Ok) (with_page 7 away)
leaves = record {
  kept = refl;
  known = refl;
  unrefused = refl;
  room = refl;
  steps = record { p = 1; page = memory 0 going; frame = 3; block = 4; there = refl; moves = refl; placed = record { changed = refl; others = only going away }; answers = refl; state = refl };
}

-- the read begins to read it in again, into another frame
fetches : Extends (with_page 7 away) h4 (entry 0 3 (access Read) (reply.Fetch (ticket 5))) (with_page 7 coming)
unfolding chain_up chain under_at over_at
fetches = record {
  kept = refl;
  known = refl;
  unrefused = refl;
  room = refl;
  steps = record {
    frame = 2;
    ticket = 5;
    frame_free = record { in_range = omega arith; unused = refl };
    ticket_free = refl;
    placed = record { changed = refl; others = only away coming };
    answers = refl;
    state = refl;
  };
}

-- it has arrived
arrives : Extends (with_page 7 coming) h5 (entry 0 4 (event.Arrived (ticket 5) bytes) reply.Ok) (with_page 7 back)
arrives = record {
  kept = refl;
  known = refl;
  unrefused = refl;
  room = refl;
  steps = record { p = 1; page = memory 0 coming; frame = 2; block = 4; there = refl; moves = refl; placed = record { changed = refl; others = only coming back }; answers = refl; state = refl };
}

-- and the read, tried again, gives the byte and the frame
reads : Extends (with_page 7 back) h6 (entry 0 5 (access Read) (reply.Done 5 (Some (frame 2)))) (with_page 7 back)
reads = record { kept = refl; known = refl; unrefused = refl; room = refl; steps = (refl, refl) }

-- the whole is legal
legal : Legal (small 7) h7 (with_page 7 back)
legal = (_, (_, (_, (_, (_, (_, (_, refl, spawns), writes), reclaims), leaves), fetches), arrives), reads)

-- ---- a merge of marks is no entry

abbrev merge : Entry
merge = entry 0 6 (event.MergeMarks 0 4) reply.Ok

-- the page is held in frame 2. The caller may ask for the merge, no cause refuses it, there is room for it, and the step is one
merge-step : (knows_pass (with_page 7 back) h7 (caller_of merge) merge.event ≡ true) × (refusal (with_page 7 back) merge.event ≡ None) × (is_full_for (with_page 7 back) h7 merge.event ≡ false)
    × Step (with_page 7 back) merge.event merge.reply (with_page 7 back)
merge-step = (refl, refl, refl, refl)

-- but it does not extend the history
merge-not_kept : (after : State) → Extends (with_page 7 back) h7 merge after → ⊥
merge-not_kept after h = let e : false ≡ true = h.kept in cc

-- and neither does another, in any state
merge-never : (before after : State) (earlier : List Entry) (worker count word bits : ℕ) (answer : Reply) → Extends before earlier (entry worker count (event.MergeMarks word bits) answer) after → ⊥
merge-never before after earlier worker count word bits answer h = let e : false ≡ true = h.kept in cc

-- so no history with one in it is legal
merge-not_legal : (s : State) → Legal (small 8) (merge ∷ h7) s → ⊥
merge-not_legal s h = let e : false ≡ true = h.2.kept in cc
