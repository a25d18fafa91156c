-- An example of a whole history with a low: a group is within it, and a page of it is taken all the same, since there is no other. The one event that is counted is named.
use Rattle.std.proofs.Common.{◌≡◌, ◌≢◌, ℕ, zero, suc, ◌==◌, ◌&&◌, true, false, List, [], ◌∷◌, Some, None, refl, arith}
use Rattle.std.specs.Prelude.{codes}
use Rattle.machine.specs.declared.amount.Amount.TheVariants.{Pages}
use Rattle.machine.specs.declared.entry.Entry.{Entry}
use Rattle.machine.specs.declared.event.Op.TheVariants.{Write}
use Rattle.machine.specs.declared.event.Setting.TheVariants as setting
use Rattle.machine.specs.declared.event.Query.TheVariants as query
use Rattle.machine.specs.declared.event.Event.{Event}
use Rattle.machine.specs.declared.event.Event.TheVariants as event
use Rattle.machine.specs.declared.record.EventCounts.{EventCounts}
use Rattle.machine.specs.declared.record.Guard.TheVariants as guard
use Rattle.machine.specs.declared.record.Key.TheVariants as key
use Rattle.machine.specs.declared.record.Life.TheVariants.{Live}
use Rattle.machine.specs.declared.reply.Reply.TheVariants as reply
use Rattle.machine.specs.declared.reply.Shown.TheVariants as shown
use Rattle.machine.specs.Slots.{at}
use Rattle.machine.specs.Tree.{root, chain_up, chain, under_at, chain_below}
use Rattle.machine.specs.Pages.{Residence}
use Rattle.machine.specs.Counts.{no_limits, over_at, no_counts, how_often, count_of, with_events}
use Rattle.machine.specs.Tasks.{task_of, mapped_at}
use Rattle.machine.specs.Protection.{effective_along}
use Rattle.machine.specs.State.{State, first_state}
use Rattle.machine.specs.Legal.{Extends, Legal}
use Rattle.machine.specs.Events.{AreCounted}
use Rattle.computed.proofs.LegalExamples.{entry, access, small, made, going, away}
use Rattle.computed.proofs.ExampleStates.{group, task, ticket, shows, below, low_of, single, memory}

-- ---- the history

-- group 1 is /a, and has a low of 1 page
abbrev h1 : List Entry
h1 = entry 0 1 (event.Mkdir (codes "/a")) reply.Ok ∷ []

abbrev h2 : List Entry
h2 = entry 0 2 (event.Set (group 1) (setting.Guard guard.Low (Pages 1))) reply.Ok ∷ h1

-- a task of it writes to a page
abbrev h3 : List Entry
h3 = entry 0 3 (event.Spawn (task 1) (group 1)) reply.Ok ∷ h2

abbrev h4 : List Entry
h4 = entry 0 4 (access (Write 5)) (reply.Done 5 None) ∷ h3

-- worker 1 reclaims from the root
abbrev h5 : List Entry
h5 = entry 1 1 (event.ReclaimOne (group 0)) (reply.Out (ticket 5)) ∷ h4

abbrev h6 : List Entry
h6 = entry 1 2 (event.Left (ticket 5)) reply.Ok ∷ h5

-- what `memory.events` of a group says is asked for
abbrev asks : ℕ → Event
asks g = event.Show (query.Events (group g))

-- `low` so often, and nothing else
abbrev lows : ℕ → EventCounts
lows n = record no_counts { low = n }

abbrev h7 : List Entry
h7 = entry 0 5 (asks 1) (reply.Shown (shown.Events (lows 1))) ∷ h6

-- ---- the states

abbrev with_a : State
with_a = record (first_state (small 7)) { tree = root ∷ below 0 (codes "/a") ∷ []; limits = no_limits ∷ no_limits ∷ []; flags = single 2; counted = no_counts ∷ no_counts ∷ [] }

abbrev with_low : State
with_low = record with_a { limits = no_limits ∷ low_of 1 ∷ [] }

abbrev spawned : State
spawned = record with_low { tasks = None ∷ Some (task_of 1 Live) ∷ [] }

-- the task shows page 1, which stands here, and `low` was counted so often at /a
abbrev with_page : Residence → ℕ → State
with_page residence n = record spawned { pages = None ∷ Some (memory 1 residence) ∷ []; page_tables = [] ∷ (None ∷ None ∷ shows 1 ∷ []) ∷ []; counted = no_counts ∷ lows n ∷ [] }

-- ---- each entry is a step from one of these states to the next

makes_a : Extends (first_state (small 7)) [] (entry 0 1 (event.Mkdir (codes "/a")) reply.Ok) with_a
unfolding chain_up chain
makes_a = record { kept = refl; known = refl; unrefused = refl; room = refl; steps = refl }

sets : Extends with_a h1 (entry 0 2 (event.Set (group 1) (setting.Guard guard.Low (Pages 1))) reply.Ok) with_low
sets = record { kept = refl; known = refl; unrefused = refl; room = refl; steps = refl }

spawns : Extends with_low h2 (entry 0 3 (event.Spawn (task 1) (group 1)) reply.Ok) spawned
unfolding chain_up chain
spawns = record { kept = refl; known = refl; unrefused = refl; room = refl; steps = (record { changed = refl; others = others }, record { none = λ v. refl; others = λ u w other. refl }, refl) }
  where
    others : (m : ℕ) → m ≢ 1 → at spawned.tasks m ≡ None
    others zero other = refl
    others (suc zero) other = absurd (other refl)
    others (suc (suc m)) other = refl

writes : Extends spawned h3 (entry 0 4 (access (Write 5)) (reply.Done 5 None)) (with_page made 0)
unfolding chain_up chain under_at over_at
writes = record {
  kept = refl;
  known = refl;
  unrefused = refl;
  room = refl;
  steps = record {
    page = 1;
    frame = 3;
    in_range = omega arith;
    slot_free = refl;
    frame_free = record { in_range = omega arith; unused = refl };
    placed = record { changed = refl; others = others };
    shown = record { changed = refl; others = shown };
    answers = refl;
    state = refl;
  };
}
  where
    others : (m : ℕ) → m ≢ 1 → at (with_page made 0).pages m ≡ None
    others zero other = refl
    others (suc zero) other = absurd (other refl)
    others (suc (suc m)) other = refl

    shown : (u w : ℕ) → ((1 == u) && (2 == w)) ≡ false → mapped_at (with_page made 0).page_tables u w ≡ None
    shown zero w other = refl
    shown (suc zero) zero other = refl
    shown (suc zero) (suc zero) other = refl
    shown (suc zero) (suc (suc zero)) other = absurd (let e : true ≡ false = other in cc)
    shown (suc zero) (suc (suc (suc w))) other = refl
    shown (suc (suc u)) w other = refl

-- nothing but the one page changes
only : (before after : Residence) (n m : ℕ) → m ≢ 1 → at (with_page after n).pages m ≡ at (with_page before n).pages m
only before after n zero other = refl
only before after n (suc zero) other = absurd (other refl)
only before after n (suc (suc m)) other = refl

-- /a uses just its low. Its page is taken, since none is open, and `low` is counted there
reclaims : Extends (with_page made 0) h4 (entry 1 1 (event.ReclaimOne (group 0)) (reply.Out (ticket 5))) (with_page going 1)
unfolding chain_up chain under_at chain_below effective_along
reclaims = record {
  kept = refl;
  known = refl;
  unrefused = refl;
  room = refl;
  steps = record {
    p = 1;
    page = memory 1 made;
    there = refl;
    next = refl;
    leaves = record {
      block = 4;
      block_free = record { in_range = omega arith; unused = refl };
      leave = record { ticket = 5; ticket_free = refl; placed = record { changed = refl; others = only made going 0 }; answers = refl; state = refl };
    };
  };
}

-- the end of the write-out counts nothing
leaves : Extends (with_page going 1) h5 (entry 1 2 (event.Left (ticket 5)) reply.Ok) (with_page away 1)
leaves = record {
  kept = refl;
  known = refl;
  unrefused = refl;
  room = refl;
  steps = record { p = 1; page = memory 1 going; frame = 3; block = 4; there = refl; moves = refl; placed = record { changed = refl; others = only going away 1 }; answers = refl; state = refl };
}

-- and `memory.events` of /a says it
says : Extends (with_page away 1) h6 (entry 0 5 (asks 1) (reply.Shown (shown.Events (lows 1)))) (with_page away 1)
unfolding chain_up chain under_at
says = record { kept = refl; known = refl; unrefused = refl; room = refl; steps = (refl, refl) }

-- the whole is legal
legal : Legal (small 7) h7 (with_page away 1)
legal = (_, (_, (_, (_, (_, (_, (_, refl, makes_a), sets), spawns), writes), reclaims), leaves), says)

-- ---- what was counted

-- up to the reclaim nothing
none_yet : AreCounted (small 7) h4 (with_page made 0) []
none_yet = (spawned, [], [], (with_low, [], [], (with_a, [], [], (first_state (small 7), [], [], (refl, refl), makes_a, refl, refl), sets, refl, refl), spawns, refl, refl), writes, refl, refl)

-- then `low` at /a: the page that left its frame is of it
then_low : AreCounted (small 7) h5 (with_page going 1) (count_of 1 key.Low ∷ [])
unfolding chain_up chain under_at chain_below effective_along
then_low = (with_page made 0, [], count_of 1 key.Low ∷ [], none_yet, reclaims, record { p = 1; page = memory 1 made; there = refl; held = refl; leaves = refl; are = refl }, refl)

-- and nothing more
all_counted : AreCounted (small 7) h7 (with_page away 1) (count_of 1 key.Low ∷ [])
all_counted = (with_page away 1, count_of 1 key.Low ∷ [], [], (with_page going 1, count_of 1 key.Low ∷ [], [], then_low, leaves, refl, refl), says, refl, refl)

-- the table is of these events
table : (with_page away 1).counted ≡ with_events (no_counts ∷ no_counts ∷ []) (count_of 1 key.Low ∷ [])
table = refl

-- of which one was `low` at /a
often : how_often (count_of 1 key.Low ∷ []) 1 key.Low ≡ 1
often = refl

-- and none at the root, for which the page was taken
often-target : how_often (count_of 1 key.Low ∷ []) 0 key.Low ≡ 0
often-target = refl
