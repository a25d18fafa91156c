-- Examples of whole calls: a reclaim that takes a page, and a relief that kills. What is not an answer is shown not to be.
use Rattle.std.proofs.Common.{◌≡◌, ◌≢◌, ℕ, zero, suc, ◌==◌, Bool, true, false, List, [], ◌∷◌, Some, None, refl, ap, eqb-true, arith}
use Rattle.std.specs.Prelude.{MatchBool}
use Rattle.machine.specs.declared.event.Cause.TheVariants as cause
use Rattle.machine.specs.declared.event.Event.{Event}
use Rattle.machine.specs.declared.event.Event.TheVariants as event
use Rattle.machine.specs.declared.record.Life.TheVariants.{Live, Killed}
use Rattle.machine.specs.declared.reply.Reply.{Reply}
use Rattle.machine.specs.declared.reply.Reply.TheVariants as reply
use Rattle.machine.specs.Tree.{chain_up, chain, under_at, chain_below, preorder_to}
use Rattle.machine.specs.Pages.{Content, Memory, OfFile, Residence, Held, Going, Page, page_at, is_held_in, home_block}
use Rattle.machine.specs.declared.record.EventCounts.{EventCounts}
use Rattle.machine.specs.Tasks.{task_of, group_of_task, mapped_at}
use Rattle.machine.specs.Protection.{effective_along}
use Rattle.machine.specs.State.{State}
use Rattle.machine.specs.Step.{still, Drops, StartsLeave, LeavesBy, LeavesFrom}
use Rattle.machine.specs.Slots.{at}
use Rattle.machine.specs.Victim.{is_candidate, is_worse}
use Rattle.machine.specs.Lists.{Order, is_fresh, Youngest}
use Rattle.machine.proofs.Values.{unlike}
use Rattle.machine.specs.Call.{Past, Called}
use Rattle.computed.proofs.ExampleStates.{group, task, ticket, tree, shows, memory, pages, listed_at, young, lists_of, busy, busy_order, stuck, stuck_order}
use Rattle.computed.proofs.CallExamples.{caller, past, after, stay_unmarked, stay_unhit}
use Rattle.computed.proofs.TurnExamples.{taken, taken_order, takes, takes-not_newer}
use Rattle.machine.specs.Counts.{no_counts}

-- no reply but those two says that a page is taken
abbrev is_taking : Reply → Bool
is_taking (reply.Out n) = true
is_taking reply.Dropped = true
is_taking answer = false

module _ (s new : State) (p : ℕ) (page : Page) (counted : List EventCounts) (answer : Reply) (other : is_taking answer ≡ false) where
  not_sent : (frame block : ℕ) → StartsLeave s p page frame block counted answer new → ⊥
  not_sent frame block h = let e : is_taking answer ≡ true = ap is_taking h.answers in cc

  not_dropped : Drops s p counted answer new → ⊥
  not_dropped h = let e : is_taking answer ≡ true = ap is_taking h.answers in cc

  not_by : (frame : ℕ) (content : Content) → LeavesBy s p page content frame counted answer new → ⊥
  not_by frame Memory h = not_sent frame h.block h.leave
  not_by frame (OfFile file q) h = by_dirty page.dirty h
    where
      by_dirty : (b : Bool) → MatchBool b (StartsLeave s p page frame (home_block s.opening.swap s.opening.files file q) counted answer new) (Drops s p counted answer new) → ⊥
      by_dirty true k = not_sent frame _ k
      by_dirty false k = not_dropped k

  pub not_taken : (residence : Residence) → LeavesFrom s p page residence counted answer new → ⊥
  not_taken (Held frame) h = not_by frame page.content h
  not_taken residence h = absurd h

-- ---- Out: a reclaim under /p takes page 1 of /p/a, which came into its frame before page 0

abbrev reclaim : Event
reclaim = event.ReclaimOne (group 1)

-- it leaves frame 5 only when it is written out
out : Called (past busy busy_order) caller reclaim (reply.Out (ticket 9)) (after (past busy busy_order) reclaim (reply.Out (ticket 9)) taken taken_order)
unfolding chain_up chain under_at chain_below effective_along preorder_to
out = record {
  steps = record {
    p = 1;
    page = memory 2 (Held 5);
    there = refl;
    next = refl;
    leaves = record {
      block = 0;
      block_free = record { in_range = omega arith; unused = refl };
      leave = record { ticket = 9; ticket_free = refl; placed = record { changed = refl; others = others }; answers = refl; state = refl };
    };
  };
  order = takes;
  history = refl;
  passes = refl;
}
  where
    others : (m : ℕ) → m ≢ 1 → at taken.pages m ≡ at pages m
    others zero other = refl
    others (suc zero) other = absurd (other refl)
    others (suc (suc m)) other = refl

-- a reclaim takes no page that came into its frame later
out-not_newer : (new : Past) → is_held_in new.state.pages 1 ≡ true → Called (past busy busy_order) caller reclaim (reply.Out (ticket 9)) new → ⊥
unfolding chain_up chain under_at chain_below effective_along preorder_to
out-not_newer new stays call = unlike (is_held_in new.state.pages 1) stays (takes-not_newer new.state new.order call.order)

-- it does not wait for the pages in transfer while it can take one, and does not find nothing
out-not_wait : (new : Past) → Called (past busy busy_order) caller reclaim reply.Wait new → ⊥
unfolding chain_up chain under_at chain_below effective_along
out-not_wait new call = not_taken busy new.state call.steps.p call.steps.page busy.counted reply.Wait refl call.steps.page.residence call.steps.leaves

-- ---- KilledTask: room for one page more is wanted under /p, and nothing can be taken

abbrev relieve : Event
relieve = event.Relieve (cause.Charge (group 1))

-- task 2, the larger, is killed, and its pages are gone. That it came to this is counted at /p, where room was wanted, and the kill at the task's own group
abbrev pub killed : State
killed = record stuck {
  pages = Some (memory 2 (Held 0)) ∷ [];
  tasks = None ∷ Some (task_of 2 Live) ∷ Some (task_of 3 Killed) ∷ [];
  page_tables = [] ∷ (shows 0 ∷ []) ∷ [] ∷ [];
  counted = no_counts ∷ record no_counts { oom = 1 } ∷ no_counts ∷ record no_counts { oom_kill = 1 } ∷ no_counts ∷ no_counts ∷ [];
}

-- they leave their list, and no list ages
abbrev killed_order : Order
killed_order = record stuck_order { held = record { groups = lists_of (young (listed_at 0 3 ∷ [])) (young []); marks = stuck_order.held.marks; hits = [] } }

-- the reply names it, and what stands in `killed` comes after
kill : Called (past stuck stuck_order) caller relieve (reply.KilledTask (task 2)) (after (past stuck stuck_order) relieve (reply.KilledTask (task 2)) killed killed_order)
unfolding chain_up chain under_at chain_below effective_along
kill = record {
  steps = (
    record { among = refl; none_worse = none_worse },
    refl,
    record { none = none; others = others; pages = stays; ends = ends; stays = other_tasks; state = refl },
  );
  order = (record { fresh = None; which = which; groups = refl; size = refl; marks = λ p. stay_unmarked 6 (is_held_in stuck.pages p) (is_held_in killed.pages p) p; counts = refl; hits = stay_unhit Youngest refl stuck.pages killed.pages }, refl);
  history = refl;
  passes = refl;
}
  where
    none_worse : (t : ℕ) → is_candidate tree stuck.tasks 1 t ≡ true → is_worse stuck.page_tables t 2 ≡ false
    none_worse zero known = refl
    none_worse (suc zero) known = refl
    none_worse (suc (suc zero)) known = refl
    none_worse (suc (suc (suc t))) known = refl

    none : (u w : ℕ) → (u == 2) ≡ true → mapped_at killed.page_tables u w ≡ None
    none u w gone = rw (eqb-true u 2 gone) refl

    others : (u w : ℕ) → (u == 2) ≡ false → mapped_at killed.page_tables u w ≡ mapped_at stuck.page_tables u w
    others zero w other = refl
    others (suc zero) w other = refl
    others (suc (suc zero)) w other = cc
    others (suc (suc (suc u))) w other = refl

    stays : (p : ℕ) → page_at killed.pages p ≡ still killed.page_tables p (page_at stuck.pages p)
    stays zero = refl
    stays (suc zero) = refl
    stays (suc (suc zero)) = refl
    stays (suc (suc (suc p))) = refl

    ends : (u : ℕ) → (u == 2) ≡ true → at killed.tasks u ≡ Some (task_of (group_of_task stuck.tasks u) Killed)
    ends u gone = rw (eqb-true u 2 gone) refl

    other_tasks : (u : ℕ) → (u == 2) ≡ false → at killed.tasks u ≡ at stuck.tasks u
    other_tasks zero other = refl
    other_tasks (suc zero) other = refl
    other_tasks (suc (suc zero)) other = cc
    other_tasks (suc (suc (suc u))) other = refl

    which : (p : ℕ) → false ≡ is_fresh stuck.pages killed.pages p
    which zero = refl
    which (suc p) = refl

-- the smaller task is not killed
kill-not_smaller : (new : Past) → Called (past stuck stuck_order) caller relieve (reply.KilledTask (task 1)) new → ⊥
unfolding chain_up chain under_at chain_below effective_along
kill-not_smaller new call = let e : true ≡ false = call.steps.0.none_worse 2 refl in cc

-- nor is nobody
kill-not_none : (new : Past) → Called (past stuck stuck_order) caller relieve reply.NoVictim new → ⊥
unfolding chain_up chain under_at chain_below effective_along
kill-not_none new call = let e : true ≡ false = call.steps.0 2 in cc

-- with a page to be taken for the same cause, no task is killed
kill-not_first : (t : ℕ) (new : Past) → Called (past busy busy_order) caller relieve (reply.KilledTask (task t)) new → ⊥
unfolding chain_up chain under_at chain_below effective_along
kill-not_first t new call = not_taken busy new.state call.steps.p call.steps.page busy.counted (reply.KilledTask (task t)) refl call.steps.page.residence call.steps.leaves

-- page 1 is going, and so is on no list
abbrev going : Past
going =
    past (record stuck { pages = Some (memory 2 (Held 0)) ∷ Some (memory 3 (Going 1 0 0)) ∷ Some (memory 3 (Held 2)) ∷ [] })
    (record stuck_order { held = record { groups = lists_of (young (listed_at 0 3 ∷ [])) (young (listed_at 2 3 ∷ [])); marks = stuck_order.held.marks; hits = [] } })

-- nor while a page is in transfer that may come free
kill-not_before_end : (t : ℕ) (new : Past) → Called going caller relieve (reply.KilledTask (task t)) new → ⊥
unfolding chain_up chain under_at chain_below effective_along
kill-not_before_end t new call = let e : reply.KilledTask (task t) ≡ reply.Wait = call.steps.0 in cc
