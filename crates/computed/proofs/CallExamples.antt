-- Examples of whole calls: a charge over a limit, want of memory, what nothing answers, and a merge of marks. What is not an answer is shown not to be.
use Rattle.machine.specs.declared.config.Placement.TheVariants.{Own}
use Rattle.std.proofs.Common.{◌≡◌, ℕ, zero, suc, ◌<◌, ◌==◌, ◌+◌, ◌&&◌, ◌||◌, not, Bool, true, false, [], ◌∷◌, ◌++◌, length, cond, Option, Some, None, refl, sym, ap, ne_eqb, arith, List}
use Rattle.std.specs.Prelude.{replicate}
use Rattle.machine.specs.declared.event.Op.TheVariants.{Write}
use Rattle.machine.specs.declared.event.Place.TheVariants.{Virtual}
use Rattle.machine.specs.declared.event.Event.{Event}
use Rattle.machine.specs.declared.event.Event.TheVariants as event
use Rattle.machine.specs.declared.reply.Reply.{Reply}
use Rattle.machine.specs.declared.reply.Reply.TheVariants as reply
use Rattle.machine.specs.declared.refusal.Refusal.TheVariants as why
use Rattle.machine.specs.declared.entry.Entry.{Entry}
use Rattle.machine.specs.Tree.{chain_up, chain, under_at}
use Rattle.machine.specs.declared.record.Kind.{Kind}
use Rattle.machine.specs.Slots.{there_and}
use Rattle.machine.specs.Pages.{Page, Pages, page_at, is_held_in, in_transfer}
use Rattle.machine.specs.Counts.{over_at, no_counts}
use Rattle.machine.specs.State.{State}
use Rattle.machine.specs.Refusals.{refusal}
use Rattle.machine.specs.Aging.{is_marked}
use Rattle.machine.specs.Lists.{Order, is_in_bits, MergesMarks, is_marking, Generation, Youngest, kind_at, hits_at_entry, hits_kept, hits_after, hits_with}
use Rattle.machine.specs.Call.{Past, Caller, Called, knows_pass, need, entry_of, entries_of}
use Rattle.computed.proofs.ExampleStates.{group, task, shows, pages, busy, busy_order}
use Rattle.machine.specs.declared.record.EventCounts.{EventCounts}

abbrev pub caller : Caller
caller = record { worker = 1 }

abbrev pub past : State → Order → Past
past s order = record { state = s; history = []; order = order; passes = 2 }

-- the past after an event that was answered so: the entry that it leaves, a state and an order
abbrev pub after : Past → Event → Reply → State → Order → Past
after old what answer new order = record { state = new; history = entries_of caller old.history what answer ++ old.history; order = order; passes = old.passes }

-- the number that a reply names
abbrev named : Reply → Option ℕ
named (reply.Over g) = Some g.0
named (reply.Out n) = Some n.0
named (reply.KilledTask t) = Some t.0
named answer = None

-- what was held is not new
pub not_new : (b : Bool) → false ≡ (b && not b)
not_new false = refl
not_new true = refl

-- a greater number is another
pub other_number : (p q : ℕ) → p < q → (p == q) ≡ false
other_number p q less = ne_eqb p q (λ e. omega (arith, less, e))

-- where no page is marked, whatever stays stays unmarked
pub none_marked : (n p : ℕ) → is_marked (replicate n false) p ≡ false
none_marked zero p = refl
none_marked (suc n) zero = refl
none_marked (suc n) (suc p) = none_marked n p

-- where no hit counts, none does later; and by our own placement a hit marks, and none counts
pub stay_unhit : (generation : Generation) → hits_at_entry generation ≡ 0 → (before after : Pages) (p : ℕ) → 0 ≡ hits_kept generation (is_held_in before p) (is_held_in after p) 0
stay_unhit generation none before after p = by_held (is_held_in before p) (is_held_in after p)
  where
    by_held : (b c : Bool) → 0 ≡ hits_kept generation b c 0
    by_held true true = refl
    by_held false true = sym none
    by_held b false = refl

pub own_unhit : (test : Page → Bool) (marks : List Bool) (pages : Pages) (p : ℕ) → 0 ≡ hits_with Own test (is_marked marks p) 0 (page_at pages p)
own_unhit test marks pages p = by_slot (page_at pages p)
  where
    by_test : (kind : Kind) (b m : Bool) → 0 ≡ cond b (hits_after Own kind m 0) 0
    by_test kind true true = refl
    by_test kind true false = refl
    by_test kind false m = refl

    by_slot : (slot : Option Page) → 0 ≡ hits_with Own test (is_marked marks p) 0 slot
    by_slot None = refl
    by_slot (Some page) = by_test (kind_at page.content) (test page) (is_marked marks p)

pub stay_unmarked : (n : ℕ) (b c : Bool) (p : ℕ) → is_marked (replicate n false) p ≡ (b && c && is_marked (replicate n false) p)
stay_unmarked n true true p = refl
stay_unmarked n true false p = none_marked n p
stay_unmarked n false c p = none_marked n p

-- ---- Over: a write of task 1 to a new page, whose group /p/a is full as well as its parent /p

abbrev write : Event
write = event.Access (task 1) (Virtual 9 0) (Write 7)

-- by group, once `max` at /p/a
abbrev once_at_two : List EventCounts
once_at_two = no_counts ∷ no_counts ∷ record no_counts { max = 1 } ∷ no_counts ∷ no_counts ∷ no_counts ∷ []

-- `max` is counted at /p/a, and nothing else changes
over : Called (past busy busy_order) caller write (reply.Over (group 2)) (after (past busy busy_order) write (reply.Over (group 2)) (record busy { counted = once_at_two }) busy_order)
unfolding chain_up chain under_at over_at
over = record {
  steps = (refl, refl);
  order = (record { fresh = None; which = λ p. not_new (is_held_in pages p); groups = refl; size = refl; marks = λ p. stay_unmarked 10 (is_held_in pages p) (is_held_in pages p) p; counts = refl; hits = stay_unhit Youngest refl pages pages }, refl);
  history = refl;
  passes = refl;
}

-- the reply that names the parent is none, whatever comes after
over-not_parent : (new : Past) → Called (past busy busy_order) caller write (reply.Over (group 1)) new → ⊥
unfolding chain_up chain under_at over_at
over-not_parent new call = let e : named (reply.Over (group 1)) ≡ named (reply.Over (group 2)) = ap named call.steps.0 in cc

-- nor is there memory to be wanted for it
over-no_memory : (new : Past) → Called (past busy busy_order) caller write (reply.Refused why.NoMemory) new → ⊥
unfolding chain_up chain under_at over_at
over-no_memory new call = let e : false ≡ true = call.1 in cc

-- `max` is counted at no other group
over-not_counted_above : (new : Past) → Called (past busy busy_order) caller write (reply.Over (group 2)) new → new.state.counted ≡ once_at_two
unfolding chain_up chain under_at over_at
over-not_counted_above new call = ap (λ (s : State). s.counted) call.steps.1

-- ---- want of memory

-- a spawn may be refused for it, which changes nothing
spawn-no_memory : Called (past busy busy_order) caller (event.Spawn (task 5) (group 2)) (reply.Refused why.NoMemory) (past busy busy_order)
spawn-no_memory = (refl, refl, refl)

-- and an exit may not
exit-no_memory : (new : Past) → Called (past busy busy_order) caller (event.Exit (task 1)) (reply.Refused why.NoMemory) new → ⊥
exit-no_memory new call = let e : false ≡ true = call.1 in cc

-- ---- what nothing answers: a write to a page that is not there

-- task 1 shows page 99 at its virtual page 9
abbrev dangling : State
dangling = record busy { page_tables = [] ∷ (None ∷ None ∷ None ∷ None ∷ None ∷ None ∷ None ∷ None ∷ None ∷ shows 99 ∷ []) ∷ [] }

-- no reply, and no refusal
unanswered : (answer : Reply) (new : Past) → Called (past dangling busy_order) caller write answer new → ⊥
unanswered (reply.Refused reason) new call = let e : false ≡ true = call.1 in cc
unanswered answer new call = call.steps

-- ---- a merge of marks

-- the bit of frame 5, in which page 1 is held
abbrev merge : Event
merge = event.MergeMarks 0 32

-- page 1 is marked, and nothing else changes
abbrev one_marked : Order
one_marked = record { held = record { groups = busy_order.held.groups; marks = false ∷ true ∷ replicate 8 false; hits = [] }; cursors = busy_order.cursors }

-- the bit does this
merges_one : MergesMarks Own pages 0 32 busy_order.held one_marked.held
merges_one = record { groups = refl; size = refl; marks = marks; counts = refl; hits = own_unhit (is_in_bits 0 32) busy_order.held.marks pages }
  where
    marks : (p : ℕ) → is_marked one_marked.held.marks p ≡ (is_marked (replicate 10 false) p || is_marking Own (is_in_bits 0 32) 0 (page_at pages p))
    marks zero = refl
    marks (suc zero) = refl
    marks (suc (suc zero)) = refl
    marks (suc (suc (suc zero))) = refl
    marks (suc (suc (suc (suc zero)))) = refl
    marks (suc (suc (suc (suc (suc p))))) = rw (none_marked 5 p) refl

-- it is answered Ok, page 1 is marked, and the history is as it was
merges : Called (past busy busy_order) caller merge reply.Ok (record { state = busy; history = []; order = one_marked; passes = 2 })
merges = record { steps = refl; order = (merges_one, refl); history = refl; passes = refl }

-- nothing else is answered
merges-ok : (answer : Reply) (new : Past) → Called (past busy busy_order) caller merge answer new → answer ≡ reply.Ok
merges-ok reply.Ok new call = refl
merges-ok (reply.Refused reason) new call = let e : false ≡ true = call.1 in cc
merges-ok answer new call = absurd call.steps

-- it is not refused for want of memory
merges-no_memory : (new : Past) → Called (past busy busy_order) caller merge (reply.Refused why.NoMemory) new → ⊥
merges-no_memory new call = let e : false ≡ true = call.1 in cc

-- the state does not change
merges-same : (new : Past) → Called (past busy busy_order) caller merge reply.Ok new → new.state ≡ busy
merges-same new call = call.steps

-- and no entry is put before those that are there
merges-not_entry : (entry : Entry) (order : Order) → Called (past busy busy_order) caller merge reply.Ok (record { state = busy; history = entry ∷ []; order = order; passes = 2 }) → ⊥
merges-not_entry entry order call = let e : entry ∷ [] ≡ [] = call.history in cc

-- no merge leaves one, whoever asks, and whatever is answered
merge-no_entry : (c : Caller) (history : List Entry) (word bits : ℕ) (answer : Reply) → entries_of c history (event.MergeMarks word bits) answer ≡ []
merge-no_entry c history word bits answer = refl

-- another event leaves one, also where no room was got
write-entry : entries_of caller [] write (reply.Over (group 2)) ≡ record { worker = record { 0 = 1 }; count = 1; event = write; reply = reply.Over (group 2) } ∷ []
write-entry = refl

-- each caller may ask for it, in each state
merge-known : (s : State) (history : List Entry) (c : Caller) (word bits : ℕ) → knows_pass s history c (event.MergeMarks word bits) ≡ true
merge-known s history c word bits = refl

-- no cause refuses it, also where no frame has the bits
merge-unrefused : (s : State) (word bits : ℕ) → refusal s (event.MergeMarks word bits) ≡ None
merge-unrefused s word bits = refl

-- ---- a merge where the trace is full

-- one entry, two transfers, and room for three entries
abbrev full : Past
full = record { state = record busy { opening = record busy.opening { trace_limit = 3 } }; history = entry_of caller [] write (reply.Over (group 2)) ∷ []; order = busy_order; passes = 2 }

-- the entry and the ends of the transfers leave no room
full-exactly : length full.history + in_transfer full.state.pages ≡ full.state.opening.trace_limit
full-exactly = refl

-- a merge needs no room
merge-need : (s : State) (word bits : ℕ) → need s (event.MergeMarks word bits) ≡ 0
merge-need s word bits = refl

-- a write does, and is refused
full-write : Called full caller write (reply.Refused why.TraceFull) full
unfolding chain_up chain under_at over_at
full-write = (refl, refl)

-- the merge is done
full-merges : Called full caller merge reply.Ok (record full { order = one_marked })
full-merges = record { steps = refl; order = (merges_one, refl); history = refl; passes = refl }

-- and is not refused for want of room
full-not_full : (new : Past) → Called full caller merge (reply.Refused why.TraceFull) new → ⊥
full-not_full new call = let e : why.TraceFull ≡ why.NoMemory = call.0 in cc
