-- An example of a whole history: a group is removed while a page of it is written out, a later group has its path, and the page comes back.
use Rattle.std.proofs.Common.{◌≡◌, ◌≢◌, ℕ, zero, suc, ◌+◌, ◌<◌, ◌==◌, ◌&&◌, true, false, List, [], ◌∷◌, length, Some, None, refl, ne_eqb, arith}
use Rattle.std.specs.Prelude.{codes, option_map, slice_index, map}
use Rattle.machine.specs.declared.config.Placement.TheVariants.{Own}
use Rattle.machine.specs.declared.event.Op.TheVariants.{Read, Write}
use Rattle.machine.specs.declared.event.Event.{Event}
use Rattle.machine.specs.declared.event.Event.TheVariants as event
use Rattle.machine.specs.declared.entry.Entry.{Entry}
use Rattle.machine.specs.declared.record.Life.TheVariants.{Live}
use Rattle.machine.specs.declared.record.Limits.{Limits}
use Rattle.machine.specs.declared.record.OomGroup.TheVariants.{Single}
use Rattle.machine.specs.declared.refusal.Refusal.TheVariants.{NoEntry, Exists, Busy}
use Rattle.machine.specs.declared.reply.Reply.{Reply}
use Rattle.machine.specs.declared.reply.Reply.TheVariants as reply
use Rattle.machine.specs.Slots.{at}
use Rattle.machine.specs.Tree.{Node, root, chain_up, chain, under_at, chain_below, find_group}
use Rattle.machine.specs.Pages.{Residence, Page, page_at}
use Rattle.machine.specs.Counts.{no_limits, over_at, no_counts}
use Rattle.machine.specs.Tasks.{task_of, mapped_at}
use Rattle.machine.specs.Protection.{effective_along}
use Rattle.machine.specs.State.{State, first_state, usage}
use Rattle.machine.specs.Access.{page_size}
use Rattle.machine.specs.Step.{regrouped}
use Rattle.machine.specs.History.{InTask, last, Right, Honest, entries_by, Numbered}
use Rattle.machine.specs.Legal.{Extends, Legal}
use Rattle.computed.proofs.ExampleStates.{first_bytes, group, task, frame, ticket, shows, below, memory}
use Rattle.computed.proofs.LegalExamples.{entry, access, bytes, small, made, going, away, coming, back}

-- ---- the history

-- the history with an entry more, of this worker
abbrev on : ℕ → List Entry → Event → Reply → List Entry
on worker earlier what answer = entry worker (length (entries_by worker earlier) + 1) what answer ∷ earlier

abbrev mkdir : Event
mkdir = event.Mkdir (codes "/a")

-- group 1 is made, and task 1 runs in it and writes
abbrev h1 : List Entry
h1 = on 0 [] mkdir reply.Ok

abbrev h2 : List Entry
h2 = on 0 h1 (event.Spawn (task 1) (group 1)) reply.Ok

abbrev h3 : List Entry
h3 = on 0 h2 (access (Write 5)) (reply.Done 5 None)

-- its page begins to be written out
abbrev h4 : List Entry
h4 = on 1 h3 (event.ReclaimOne (group 1)) (reply.Out (ticket 5))

-- the task goes to the root, and the group is removed
abbrev h5 : List Entry
h5 = on 0 h4 (event.Attach (task 1) (group 0)) reply.Ok

abbrev h6 : List Entry
h6 = on 0 h5 (event.Rmdir (group 1)) reply.Ok

-- the page has left
abbrev h7 : List Entry
h7 = on 1 h6 (event.Left (ticket 5)) reply.Ok

-- a group of the same path is made, which is group 2
abbrev h8 : List Entry
h8 = on 0 h7 mkdir reply.Ok

-- the task reads, and the page comes back
abbrev h9 : List Entry
h9 = on 0 h8 (access Read) (reply.Fetch (ticket 5))

abbrev h10 : List Entry
h10 = on 0 h9 (event.Arrived (ticket 5) bytes) reply.Ok

abbrev h11 : List Entry
h11 = on 0 h10 (access Read) (reply.Done 5 (Some (frame 2)))

-- and group 2 is removed, which had no page
abbrev h12 : List Entry
h12 = on 0 h11 (event.Rmdir (group 2)) reply.Ok

-- ---- the states

abbrev a_live : Node
a_live = below 0 (codes "/a")

abbrev a_removed : Node
a_removed = record { parent = Some 0; path = codes "/a"; live = false }

-- these groups, without limits
abbrev grouped : List Node → List Limits → State
grouped tree limits = record (first_state (small 12)) { tree = tree; limits = limits; flags = map (λ l. Single) limits; counted = map (λ l. no_counts) limits }

abbrev first_made : State
first_made = grouped (root ∷ a_live ∷ []) (no_limits ∷ no_limits ∷ [])

abbrev spawned : State
spawned = record first_made { tasks = None ∷ Some (task_of 1 Live) ∷ [] }

-- task 1 of this group shows page 1
abbrev with_page : List Node → List Limits → ℕ → Page → State
with_page tree limits g page =
    record (grouped tree limits) { pages = None ∷ Some page ∷ []; tasks = None ∷ Some (task_of g Live) ∷ []; page_tables = [] ∷ (None ∷ None ∷ shows 1 ∷ []) ∷ [] }

-- before the removal, after it, after the second mkdir, and after the second removal
abbrev before : ℕ → Residence → State
before g residence = with_page (root ∷ a_live ∷ []) (no_limits ∷ no_limits ∷ []) g (memory 1 residence)

abbrev between : Residence → State
between residence = with_page (root ∷ a_removed ∷ []) (no_limits ∷ no_limits ∷ []) 0 (memory 0 residence)

abbrev again : Residence → State
again residence = with_page (root ∷ a_removed ∷ a_live ∷ []) (no_limits ∷ no_limits ∷ no_limits ∷ []) 0 (memory 0 residence)

abbrev ended : State
ended = with_page (root ∷ a_removed ∷ a_removed ∷ []) (no_limits ∷ no_limits ∷ no_limits ∷ []) 0 (memory 0 back)

-- ---- each entry is a step from one of these states to the next

makes_group : Extends (first_state (small 12)) [] (entry 0 1 mkdir reply.Ok) first_made
unfolding chain_up chain
makes_group = record { kept = refl; known = refl; unrefused = refl; room = refl; steps = refl }

spawns : Extends first_made h1 (entry 0 2 (event.Spawn (task 1) (group 1)) reply.Ok) spawned
spawns = record { kept = refl; known = refl; unrefused = refl; room = refl; steps = (record { changed = refl; others = others }, record { none = λ v. refl; others = λ u w other. refl }, refl) }
  where
    others : (m : ℕ) → m ≢ 1 → at spawned.tasks m ≡ None
    others zero other = refl
    others (suc zero) other = absurd (other refl)
    others (suc (suc m)) other = refl

writes : Extends spawned h2 (entry 0 3 (access (Write 5)) (reply.Done 5 None)) (before 1 made)
unfolding chain_up chain under_at over_at
writes = record {
  kept = refl;
  known = refl;
  unrefused = refl;
  room = refl;
  steps = record {
    page = 1;
    frame = 3;
    in_range = omega arith;
    slot_free = refl;
    frame_free = record { in_range = omega arith; unused = refl };
    placed = record { changed = refl; others = others };
    shown = record { changed = refl; others = shown };
    answers = refl;
    state = refl;
  };
}
  where
    others : (m : ℕ) → m ≢ 1 → at (before 1 made).pages m ≡ None
    others zero other = refl
    others (suc zero) other = absurd (other refl)
    others (suc (suc m)) other = refl

    shown : (u w : ℕ) → ((1 == u) && (2 == w)) ≡ false → mapped_at (before 1 made).page_tables u w ≡ None
    shown zero w other = refl
    shown (suc zero) zero other = refl
    shown (suc zero) (suc zero) other = refl
    shown (suc zero) (suc (suc zero)) other = absurd (let e : true ≡ false = other in cc)
    shown (suc zero) (suc (suc (suc w))) other = refl
    shown (suc (suc u)) w other = refl

reclaims : Extends (before 1 made) h3 (entry 1 1 (event.ReclaimOne (group 1)) (reply.Out (ticket 5))) (before 1 going)
unfolding chain_up chain under_at chain_below effective_along
reclaims = record {
  kept = refl;
  known = refl;
  unrefused = refl;
  room = refl;
  steps = record {
    p = 1;
    page = memory 1 made;
    there = refl;
    next = refl;
    leaves = record {
      block = 4;
      block_free = record { in_range = omega arith; unused = refl };
      leave = record { ticket = 5; ticket_free = refl; placed = record { changed = refl; others = others }; answers = refl; state = refl };
    };
  };
}
  where
    others : (m : ℕ) → m ≢ 1 → at (before 1 going).pages m ≡ at (before 1 made).pages m
    others zero other = refl
    others (suc zero) other = absurd (other refl)
    others (suc (suc m)) other = refl

attaches : Extends (before 1 going) h4 (entry 0 4 (event.Attach (task 1) (group 0)) reply.Ok) (before 0 going)
attaches = record { kept = refl; known = refl; unrefused = refl; room = refl; steps = (record { changed = refl; others = others }, refl) }
  where
    others : (m : ℕ) → m ≢ 1 → at (before 0 going).tasks m ≡ at (before 1 going).tasks m
    others zero other = refl
    others (suc zero) other = absurd (other refl)
    others (suc (suc m)) other = refl

-- the page is the root's from now on, though it is on its way out
removes : Extends (before 0 going) h5 (entry 0 5 (event.Rmdir (group 1)) reply.Ok) (between going)
removes = record { kept = refl; known = refl; unrefused = refl; room = refl; steps = record { parent = 0; below = refl; pages = pages; state = refl } }
  where
    pages : (p : ℕ) → page_at (between going).pages p ≡ option_map (regrouped Own 1 0) (page_at (before 0 going).pages p)
    pages zero = refl
    pages (suc zero) = refl
    pages (suc (suc p)) = refl

leaves : Extends (between going) h6 (entry 1 2 (event.Left (ticket 5)) reply.Ok) (between away)
leaves = record {
  kept = refl;
  known = refl;
  unrefused = refl;
  room = refl;
  steps = record { p = 1; page = memory 0 going; frame = 3; block = 4; there = refl; moves = refl; placed = record { changed = refl; others = others }; answers = refl; state = refl };
}
  where
    others : (m : ℕ) → m ≢ 1 → at (between away).pages m ≡ at (between going).pages m
    others zero other = refl
    others (suc zero) other = absurd (other refl)
    others (suc (suc m)) other = refl

makes_again : Extends (between away) h7 (entry 0 6 mkdir reply.Ok) (again away)
unfolding chain_up chain
makes_again = record { kept = refl; known = refl; unrefused = refl; room = refl; steps = refl }

-- nothing but the one page changes
only : (was is : Residence) (m : ℕ) → m ≢ 1 → at (again is).pages m ≡ at (again was).pages m
only was is zero other = refl
only was is (suc zero) other = absurd (other refl)
only was is (suc (suc m)) other = refl

fetches : Extends (again away) h8 (entry 0 7 (access Read) (reply.Fetch (ticket 5))) (again coming)
unfolding chain_up chain under_at over_at
fetches = record {
  kept = refl;
  known = refl;
  unrefused = refl;
  room = refl;
  steps = record {
    frame = 2;
    ticket = 5;
    frame_free = record { in_range = omega arith; unused = refl };
    ticket_free = refl;
    placed = record { changed = refl; others = only away coming };
    answers = refl;
    state = refl;
  };
}

arrives : Extends (again coming) h9 (entry 0 8 (event.Arrived (ticket 5) bytes) reply.Ok) (again back)
arrives = record {
  kept = refl;
  known = refl;
  unrefused = refl;
  room = refl;
  steps = record { p = 1; page = memory 0 coming; frame = 2; block = 4; there = refl; moves = refl; placed = record { changed = refl; others = only coming back }; answers = refl; state = refl };
}

reads : Extends (again back) h10 (entry 0 9 (access Read) (reply.Done 5 (Some (frame 2)))) (again back)
reads = record { kept = refl; known = refl; unrefused = refl; room = refl; steps = (refl, refl) }

-- no page is of group 2, and none changes
removes_again : Extends (again back) h11 (entry 0 10 (event.Rmdir (group 2)) reply.Ok) ended
removes_again = record { kept = refl; known = refl; unrefused = refl; room = refl; steps = record { parent = 0; below = refl; pages = pages; state = refl } }
  where
    pages : (p : ℕ) → page_at ended.pages p ≡ option_map (regrouped Own 2 0) (page_at (again back).pages p)
    pages zero = refl
    pages (suc zero) = refl
    pages (suc (suc p)) = refl

-- the whole is legal
legal : Legal (small 12) h12 ended
legal = (_, (_, (_, (_, (_, (_, (_, (_, (_, (_, (_, (_, refl, makes_group), spawns), writes), reclaims), attaches), removes), leaves), makes_again), fetches), arrives), reads), removes_again)

-- and each entry has its number
numbered : Numbered h12
numbered = ((((((((((((tt, refl), refl), refl), refl), refl), refl), refl), refl), refl), refl), refl), refl)

-- ---- bytes

-- the byte that the task wrote, through two removals
last-written : last first_bytes h12 (InTask 1 2 1) ≡ 5
last-written = refl

-- each read gave what was written last
right : Right first_bytes h12
right = ((((((((((((tt, tt), tt), tt), tt), tt), tt), tt), tt), tt), tt), refl), tt)

-- and the device brought it
honest : Honest first_bytes h12
honest = ((((((((((((tt, tt), tt), tt), tt), tt), tt), tt), tt), tt), brought), tt), tt)
  where
    brought : (o : ℕ) → o < page_size → slice_index bytes o ≡ last first_bytes h9 (InTask 1 2 o)
    brought zero within = refl
    brought (suc zero) within = refl
    brought (suc (suc o)) within = let e : (1 == suc (suc o)) ≡ false = ne_eqb 1 (suc (suc o)) (λ e. omega (arith, e)) in rw e refl

-- ---- what is not legal

-- a group with a live task is not removed
busy : (after : State) → Extends (before 1 going) h4 (entry 0 4 (event.Rmdir (group 1)) reply.Ok) after → ⊥
busy after h = let e : Some Busy ≡ None = h.unrefused in cc

-- a removed group is not removed once more, also where its path is another group's
not_twice : (after : State) → Extends (again away) h8 (entry 0 7 (event.Rmdir (group 1)) reply.Ok) after → ⊥
not_twice after h = let e : Some NoEntry ≡ None = h.unrefused in cc

-- no task goes to it
not_entered : (after : State) → Extends (again away) h8 (entry 0 7 (event.Attach (task 1) (group 1)) reply.Ok) after → ⊥
not_entered after h = let e : Some NoEntry ≡ None = h.unrefused in cc

-- its path is not made while it is there
not_while_there : (after : State) → Extends (before 0 going) h5 (entry 0 5 mkdir reply.Ok) after → ⊥
not_while_there after h = let e : Some Exists ≡ None = h.unrefused in cc

-- ---- groups and their pages

-- the path is group 2's after the second mkdir
found : find_group (again away).tree (codes "/a") ≡ Some 2
found = refl

-- which has no page, not even the one that its task's group had
uses_none : usage (again back) 2 ≡ 0
unfolding chain_up chain under_at
uses_none = refl

-- it is the root's
uses_root : usage (again back) 0 ≡ 1
unfolding chain_up chain under_at
uses_root = refl

-- while it was written out it was charged, before the removal and after it
uses_going : usage (before 0 going) 0 ≡ usage (between going) 0
unfolding chain_up chain under_at
uses_going = refl
