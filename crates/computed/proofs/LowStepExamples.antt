-- Examples: a reclaim and a relief where lows protect pages. What does not come of them is shown not to: a page within its group's low while another is open, a wrong count of `low`, a kill.
use Rattle.std.proofs.Common.{◌≡◌, ◌≢◌, ℕ, zero, suc, ◌<◌, Bool, true, false, List, [], ◌∷◌, length, Some, None, refl, sym, ap, ◌∙◌, subst, arith}
use Rattle.std.specs.Prelude.{MatchBool}
use Rattle.machine.specs.declared.event.Cause.TheVariants as cause
use Rattle.machine.specs.declared.event.Goal.TheVariants.{OnePage, Amount}
use Rattle.machine.specs.declared.event.Event.{Event}
use Rattle.machine.specs.declared.event.Event.TheVariants as event
use Rattle.machine.specs.declared.record.EventCounts.{EventCounts}
use Rattle.machine.specs.declared.record.Key.TheVariants as key
use Rattle.machine.specs.declared.reply.Reply.{Reply}
use Rattle.machine.specs.declared.reply.Reply.TheVariants as reply
use Rattle.machine.specs.Slots.{at, there_and}
use Rattle.machine.specs.Tree.{chain_up, chain, under_at, chain_below, preorder_to}
use Rattle.machine.specs.Pages.{Content, Memory, OfFile, Residence, Held, Going, Page, page_at, is_held, is_held_in, home_block}
use Rattle.machine.specs.Counts.{Counted, local, total, count_of}
use Rattle.machine.specs.Protection.{effective_along}
use Rattle.machine.specs.State.{State}
use Rattle.machine.specs.Reclaim.{is_next, counted_at_take}
use Rattle.machine.specs.Generations.{gens_at}
use Rattle.machine.specs.Aging.{Seen}
use Rattle.machine.specs.Eviction.{old_pages, aged_times, Picks}
use Rattle.machine.specs.Lists.{Order, seen_of, with_seen, is_fresh, TakesNext, Youngest}
use Rattle.machine.specs.Step.{StartsLeave, Drops, LeavesBy, LeavesFrom, Takes, Step}
use Rattle.machine.specs.Events.{Names}
use Rattle.machine.specs.Call.{Past, Called}
use Rattle.machine.proofs.Values.{some_inj, unlike}
use Rattle.legal.proofs.OrdersLemmas.{taken_is_picked, takes_next_alike}
use Rattle.computed.proofs.ExampleStates.{group, task, ticket, memory, listed_at, young, searched, lists_of, no_marks, stuck, by_turns}
use Rattle.computed.proofs.CallExamples.{caller, past, after, stay_unmarked, stay_unhit}
use Rattle.computed.proofs.ReliefExamples.{killed, not_taken}
use Rattle.computed.proofs.LowExamples.{one_within, all_within, moving, full_order, lows_at_two}

-- ---- what a page that leaves its frame leaves as it was, and what is counted then

module _ (old new : State) (p : ℕ) (page : Page) (counted : List EventCounts) (answer : Reply) where
  -- no other page changes, and this is what stands counted
  record Left : Type 0 where
    others : (m : ℕ) → m ≢ p → at new.pages m ≡ at old.pages m
    counts : new.counted ≡ counted

  left_sent : (frame block : ℕ) → StartsLeave old p page frame block counted answer new → Left
  left_sent frame block h = record { others = h.placed.others; counts = ap (λ (s : State). s.counted) h.state }

  left_by : (frame : ℕ) (content : Content) → LeavesBy old p page content frame counted answer new → Left
  left_by frame Memory h = left_sent frame h.block h.leave
  left_by frame (OfFile file q) h = by_dirty page.dirty h
    where
      by_dirty : (b : Bool) → MatchBool b (StartsLeave old p page frame (home_block old.opening.swap old.opening.files file q) counted answer new) (Drops old p counted answer new) → Left
      by_dirty true k = left_sent frame _ k
      by_dirty false k = record { others = k.gone.others; counts = ap (λ (s : State). s.counted) k.state }

  left_from : (residence : Residence) → LeavesFrom old p page residence counted answer new → Left
  left_from (Held frame) h = left_by frame page.content h
  left_from residence h = absurd h

left : (old new : State) (target : ℕ) (answer : Reply) (h : Takes old target answer new) → Left old new h.p h.page (counted_at_take old target h.page.group) answer
left old new target answer h = left_from old new h.p h.page _ answer h.page.residence h.leaves

-- ---- room is wanted under /p, which is full

-- whoever asks for a page under /p
abbrev reclaim : Event
reclaim = event.ReclaimOne (group 1)

-- a charge to /p that was refused
abbrev relieve : Event
relieve = event.Relieve (cause.Charge (group 1))

-- ---- /p/a is within its low, and /p/b gives its page

-- it goes to block 0 under ticket 9, and nothing is counted
abbrev open_taken : State
open_taken = record one_within { pages = Some (memory 2 (Held 0)) ∷ Some (memory 2 (Held 1)) ∷ Some (memory 3 (Going 2 0 9)) ∷ [] }

takes_open : Takes one_within 1 (reply.Out (ticket 9)) open_taken
unfolding chain_up chain under_at chain_below effective_along
takes_open = record {
  p = 2;
  page = memory 3 (Held 2);
  there = refl;
  next = refl;
  leaves = record {
    block = 0;
    block_free = record { in_range = omega arith; unused = refl };
    leave = record { ticket = 9; ticket_free = refl; placed = record { changed = refl; others = others }; answers = refl; state = refl };
  };
}
  where
    others : (m : ℕ) → m ≢ 2 → at open_taken.pages m ≡ at one_within.pages m
    others zero other = refl
    others (suc zero) other = refl
    others (suc (suc zero)) other = absurd (other refl)
    others (suc (suc (suc m))) other = refl

-- a reclaim takes it
open-reclaims : Step one_within reclaim (reply.Out (ticket 9)) open_taken
unfolding chain_up chain under_at chain_below effective_along
open-reclaims = takes_open

-- and so does a relief
open-relieves : Step one_within relieve (reply.Out (ticket 9)) open_taken
unfolding chain_up chain under_at chain_below effective_along
open-relieves = takes_open

-- of all pages, page 2 alone may be taken now
open_alone : (p : ℕ) (page : Page) → page_at one_within.pages p ≡ Some page → is_next one_within 1 page ≡ true → p ≡ 2
unfolding chain_up chain under_at chain_below effective_along
open_alone zero page there next = absurd (let e : false ≡ true = ap (is_next one_within 1) (some_inj there) ∙ next in cc)
open_alone (suc zero) page there next = absurd (let e : false ≡ true = ap (is_next one_within 1) (some_inj there) ∙ next in cc)
open_alone (suc (suc zero)) page there next = refl
open_alone (suc (suc (suc p))) page there next = cc

-- so that all others stay as they were
open_stay : (answer : Reply) (new : State) → Takes one_within 1 answer new → (m : ℕ) → m ≢ 2 → at new.pages m ≡ at one_within.pages m
open_stay answer new h m other = (left one_within new 1 answer h).others m (λ e. other (e ∙ open_alone h.p h.page h.there h.next))

-- no page of /p/a is taken, whatever is answered and comes after
open-not_within : (answer : Reply) (new : State) → is_held_in new.pages 0 ≡ false → Step one_within reclaim answer new → ⊥
unfolding chain_up chain under_at chain_below effective_along
open-not_within answer new gone step = unlike (is_held_in new.pages 0) (ap (there_and is_held) (open_stay answer new step 0 (λ e. omega (arith, e)))) gone

-- neither for a relief
open-not_relieved : (answer : Reply) (new : State) → is_held_in new.pages 1 ≡ false → Step one_within relieve answer new → ⊥
unfolding chain_up chain under_at chain_below effective_along
open-not_relieved answer new gone step = unlike (is_held_in new.pages 1) (ap (there_and is_held) (open_stay answer new step 1 (λ e. omega (arith, e)))) gone

-- nor is anything counted for the pass, in which /p/a was passed over
open-not_counted : (answer : Reply) (new : State) → Step one_within reclaim answer new → new.counted ≡ one_within.counted
unfolding chain_up chain under_at chain_below effective_along
open-not_counted answer new step = (left one_within new 1 answer step).counts

-- ---- both are within their lows, and /p/a gives a page

-- page 0 goes to block 0 under ticket 9, and `low` is counted at /p/a
abbrev low_taken : State
low_taken = record all_within { pages = Some (memory 2 (Going 0 0 9)) ∷ Some (memory 2 (Held 1)) ∷ Some (memory 3 (Held 2)) ∷ []; counted = lows_at_two 1 }

takes_low : Takes all_within 1 (reply.Out (ticket 9)) low_taken
unfolding chain_up chain under_at chain_below effective_along
takes_low = record {
  p = 0;
  page = memory 2 (Held 0);
  there = refl;
  next = refl;
  leaves = record {
    block = 0;
    block_free = record { in_range = omega arith; unused = refl };
    leave = record { ticket = 9; ticket_free = refl; placed = record { changed = refl; others = others }; answers = refl; state = refl };
  };
}
  where
    others : (m : ℕ) → m ≢ 0 → at low_taken.pages m ≡ at all_within.pages m
    others zero other = absurd (other refl)
    others (suc m) other = refl

-- a reclaim takes it
low-reclaims : Step all_within reclaim (reply.Out (ticket 9)) low_taken
unfolding chain_up chain under_at chain_below effective_along
low-reclaims = takes_low

-- and so does a relief
low-relieves : Step all_within relieve (reply.Out (ticket 9)) low_taken
unfolding chain_up chain under_at chain_below effective_along
low-relieves = takes_low

-- what holds of the counts where a page of /p/a, or one of /p/b, is taken holds whichever page is taken
of_either : (says : List EventCounts → ℕ) (n : ℕ) → says (counted_at_take all_within 1 2) ≡ n → says (counted_at_take all_within 1 3) ≡ n → (p : ℕ) (page : Page) → page_at all_within.pages p ≡ Some page
    → says (counted_at_take all_within 1 page.group) ≡ n
of_either says n two three zero page there = subst (λ (x : Page). says (counted_at_take all_within 1 x.group) ≡ n) (some_inj there) two
of_either says n two three (suc zero) page there = subst (λ (x : Page). says (counted_at_take all_within 1 x.group) ≡ n) (some_inj there) two
of_either says n two three (suc (suc zero)) page there = subst (λ (x : Page). says (counted_at_take all_within 1 x.group) ≡ n) (some_inj there) three
of_either says n two three (suc (suc (suc p))) page there = cc

counts_either : (says : List EventCounts → ℕ) (n : ℕ) → says (counted_at_take all_within 1 2) ≡ n → says (counted_at_take all_within 1 3) ≡ n → (answer : Reply) (new : State) → Takes all_within 1 answer new → says new.counted ≡ n
counts_either says n two three answer new h = ap says (left all_within new 1 answer h).counts ∙ of_either says n two three h.p h.page h.there

-- at /p and below it `low` is counted once: neither twice nor not at all
low-once : (answer : Reply) (new : State) → Step all_within reclaim answer new → total all_within.tree new.counted 1 key.Low ≡ 1
unfolding chain_up chain under_at chain_below effective_along
low-once answer new step = counts_either (λ counted. total all_within.tree counted 1 key.Low) 1 refl refl answer new step

low-not_twice : (answer : Reply) (new : State) → new.counted ≡ lows_at_two 2 → Step all_within reclaim answer new → ⊥
unfolding chain_up chain under_at chain_below effective_along
low-not_twice answer new twice step = absurd (let e : 1 ≡ 2 = sym (low-once answer new step) ∙ ap (λ counted. total all_within.tree counted 1 key.Low) twice in omega (arith, e))

low-not_none : (answer : Reply) (new : State) → new.counted ≡ all_within.counted → Step all_within reclaim answer new → ⊥
unfolding chain_up chain under_at chain_below effective_along
low-not_none answer new none step = absurd (let e : 1 ≡ 0 = sym (low-once answer new step) ∙ ap (λ counted. total all_within.tree counted 1 key.Low) none in omega (arith, e))

-- and not at the target
low-not_target : (answer : Reply) (new : State) → Step all_within reclaim answer new → local new.counted 1 key.Low ≡ 0
unfolding chain_up chain under_at chain_below effective_along
low-not_target answer new step = counts_either (λ counted. local counted 1 key.Low) 0 refl refl answer new step

-- where it is page 0 that goes, not at /p/b either, though that is within its low as well
low-not_beside : (new : State) → is_held_in new.pages 0 ≡ false → Step all_within reclaim (reply.Out (ticket 9)) new → local new.counted 3 key.Low ≡ 0
unfolding chain_up chain under_at chain_below effective_along
low-not_beside new gone step = by_page step.p step.page step.there (left all_within new 1 (reply.Out (ticket 9)) step)
  where
    by_page : (p : ℕ) (page : Page) → page_at all_within.pages p ≡ Some page → Left all_within new p page (counted_at_take all_within 1 page.group) (reply.Out (ticket 9)) → local new.counted 3 key.Low ≡ 0
    by_page zero page there h = ap (λ counted. local counted 3 key.Low) h.counts ∙ sym (ap (λ (x : Page). local (counted_at_take all_within 1 x.group) 3 key.Low) (some_inj there))
    by_page (suc p) page there h = unlike (is_held_in new.pages 0) (ap (there_and is_held) (h.others 0 (λ e. omega (arith, e)))) gone

-- the same for a relief
low-relieves_once : (answer : Reply) (new : State) → Step all_within relieve answer new → total all_within.tree new.counted 1 key.Low ≡ 1
unfolding chain_up chain under_at chain_below effective_along
low-relieves_once answer new step = counts_either (λ counted. total all_within.tree counted 1 key.Low) 1 refl refl answer new step

low-relieves_not_target : (answer : Reply) (new : State) → Step all_within relieve answer new → local new.counted 1 key.Low ≡ 0
unfolding chain_up chain under_at chain_below effective_along
low-relieves_not_target answer new step = counts_either (λ counted. local counted 1 key.Low) 0 refl refl answer new step

-- ---- no kill

-- no task is killed while groups that are within their lows have a page
low-not_killed : (t : ℕ) (new : State) → Step all_within relieve (reply.KilledTask (task t)) new → ⊥
unfolding chain_up chain under_at chain_below effective_along
low-not_killed t new step = not_taken all_within new step.p step.page (counted_at_take all_within 1 step.page.group) (reply.KilledTask (task t)) refl step.page.residence step.leaves

-- nor is it tried
low-not_no_victim : (new : State) → Step all_within relieve reply.NoVictim new → ⊥
unfolding chain_up chain under_at chain_below effective_along
low-not_no_victim new step = not_taken all_within new step.p step.page (counted_at_take all_within 1 step.page.group) reply.NoVictim refl step.page.residence step.leaves

-- a reclaim does not find nothing then
low-not_nothing : (new : State) → Step all_within reclaim reply.Nothing new → ⊥
unfolding chain_up chain under_at chain_below effective_along
low-not_nothing new step = not_taken all_within new step.p step.page (counted_at_take all_within 1 step.page.group) reply.Nothing refl step.page.residence step.leaves

-- nor does it wait for the page of /p/b that is going, which no low protects
moving-not_wait : (new : State) → Step moving reclaim reply.Wait new → ⊥
unfolding chain_up chain under_at chain_below effective_along
moving-not_wait new step = not_taken moving new step.p step.page (counted_at_take moving 1 step.page.group) reply.Wait refl step.page.residence step.leaves

-- ---- the events of a step, one by one

-- it names `low` at the group of the page that is gone
names-low : Names all_within reclaim (reply.Out (ticket 9)) low_taken (count_of 2 key.Low ∷ [])
unfolding chain_up chain under_at chain_below effective_along
names-low = record { p = 0; page = memory 2 (Held 0); there = refl; held = refl; leaves = refl; are = refl }

-- for a relief as well
names-low_relieved : Names all_within relieve (reply.Out (ticket 9)) low_taken (count_of 2 key.Low ∷ [])
unfolding chain_up chain under_at chain_below effective_along
names-low_relieved = names-low

-- where the page was open it names nothing
names-open : Names one_within reclaim (reply.Out (ticket 9)) open_taken []
unfolding chain_up chain under_at chain_below effective_along
names-open = record { p = 2; page = memory 3 (Held 2); there = refl; held = refl; leaves = refl; are = refl }

-- these are all that it names
names_alone : (events : List Counted) → Names all_within reclaim (reply.Out (ticket 9)) low_taken events → events ≡ count_of 2 key.Low ∷ []
unfolding chain_up chain under_at chain_below effective_along
names_alone events h = by_page h.p h.page h.there h.leaves h.are
  where
    by_page : (p : ℕ) (page : Page) → page_at all_within.pages p ≡ Some page → is_held_in low_taken.pages p ≡ false → events ≡ count_of page.group key.Low ∷ [] → events ≡ count_of 2 key.Low ∷ []
    by_page zero page there gone are = are ∙ sym (ap (λ (x : Page). count_of x.group key.Low ∷ []) (some_inj there))
    by_page (suc zero) page there gone are = absurd (let e : true ≡ false = gone in cc)
    by_page (suc (suc zero)) page there gone are = absurd (let e : true ≡ false = gone in cc)
    by_page (suc (suc (suc p))) page there gone are = cc

-- and so not `low` at the target
names-not_target : Names all_within reclaim (reply.Out (ticket 9)) low_taken (count_of 1 key.Low ∷ []) → ⊥
names-not_target h = absurd (let e : 1 ≡ 2 = ap group_of_first (names_alone _ h) in omega (arith, e))
  where
    group_of_first : List Counted → ℕ
    group_of_first [] = 0
    group_of_first (c ∷ events) = c.group

-- nor twice
names-not_twice : Names all_within reclaim (reply.Out (ticket 9)) low_taken (count_of 2 key.Low ∷ count_of 2 key.Low ∷ []) → ⊥
names-not_twice h = absurd (let e : 2 ≡ 1 = ap (λ (events : List Counted). length events) (names_alone _ h) in omega (arith, e))

-- nor nothing
names-not_none : Names all_within reclaim (reply.Out (ticket 9)) low_taken [] → ⊥
names-not_none h = absurd (let e : 0 ≡ 1 = ap (λ (events : List Counted). length events) (names_alone _ h) in omega (arith, e))

-- a relief that takes nothing names what it did: a kill `oom` where room was wanted and `oom_kill` at the group of the task
names-kill : Names stuck relieve (reply.KilledTask (task 2)) killed (count_of 1 key.Oom ∷ count_of 3 key.OomKill ∷ [])
names-kill = refl

-- and waiting nothing
names-wait : (s new : State) → Names s relieve reply.Wait new []
names-wait s new = refl

-- ---- the turn, and the order after it

-- two agings made the page of /p/b old
abbrev looked : Seen
looked = record { gens = searched 5 3 (listed_at 2 3 ∷ []); marks = no_marks }

picks : Picks true (seen_of (full_order None).held 3) (Some 2) looked
picks = record { times = 2; none_before = too_early; first = listed_at 2 3; others = []; old = refl; answers = refl; leaves = refl }
  where
    too_early : (n : ℕ) → n < 2 → old_pages true (aged_times n (seen_of (full_order None).held 3)).gens ≡ []
    too_early zero less = refl
    too_early (suc zero) less = refl
    too_early (suc (suc n)) less = absurd (omega (arith, less))

-- /p/b is served for /p, and the lists of /p/a, which is passed over, do not age
abbrev open_order : Order
open_order =
    record {
      held = record { groups = lists_of (young (listed_at 0 3 ∷ listed_at 1 3 ∷ [])) (searched 5 3 []); marks = no_marks; hits = [] };
      cursors = by_turns (None ∷ Some 3 ∷ None ∷ None ∷ None ∷ None ∷ []);
    }

takes_next : TakesNext one_within (full_order None) Amount 1 open_taken open_order
unfolding chain_up chain under_at chain_below effective_along preorder_to
takes_next = record {
  g = 3;
  next = refl;
  p = 2;
  looked = with_seen (full_order None).held 3 looked;
  picked = record { seen = looked; picks = picks; lists = refl };
  was = refl;
  taken = refl;
  leaves = record { fresh = None; which = which; groups = refl; size = refl; marks = λ p. stay_unmarked 10 (is_held_in one_within.pages p) (is_held_in open_taken.pages p) p; counts = refl; hits = stay_unhit Youngest refl one_within.pages open_taken.pages };
  moves = refl;
}
  where
    which : (p : ℕ) → false ≡ is_fresh one_within.pages open_taken.pages p
    which zero = refl
    which (suc zero) = refl
    which (suc (suc zero)) = refl
    which (suc (suc (suc p))) = refl

-- the whole call
open-call : Called (past one_within (full_order None)) caller reclaim (reply.Out (ticket 9)) (after (past one_within (full_order None)) reclaim (reply.Out (ticket 9)) open_taken open_order)
unfolding chain_up chain under_at chain_below effective_along preorder_to
open-call = record { steps = takes_open; order = takes_next; history = refl; passes = refl }

-- /p/a is the first in order, and yet the page of /p/b leaves, whatever comes after
open-not_in_turn : (new : State) (order' : Order) → is_held_in new.pages 2 ≡ true → TakesNext one_within (full_order None) Amount 1 new order' → ⊥
unfolding chain_up chain under_at chain_below effective_along preorder_to
open-not_in_turn new order' stays h = unlike (is_held_in new.pages 2) stays (taken_is_picked one_within (full_order None) Amount 1 3 2 looked refl picks new order' h)

-- and no order comes of it in which /p/a's lists aged, too
open-not_aged : TakesNext one_within (full_order None) Amount 1 open_taken
    (record open_order { held = record { groups = lists_of (searched 5 3 (listed_at 0 3 ∷ listed_at 1 3 ∷ [])) (searched 5 3 []); marks = no_marks; hits = [] } }) → ⊥
open-not_aged h = let e : 3 ≡ 5 = ap (λ (o : Order). (gens_at o.held.groups 2).max_seq) (takes_next_alike one_within open_taken (full_order None) open_order _ Amount 1 takes_next h) in absurd (omega (arith, e))

-- ---- the turn where both are within their lows

abbrev low_looked : Seen
low_looked = record { gens = searched 5 3 (listed_at 0 3 ∷ listed_at 1 3 ∷ []); marks = no_marks }

low_picks : Picks true (seen_of (full_order None).held 2) (Some 0) low_looked
low_picks = record { times = 2; none_before = too_early; first = listed_at 0 3; others = listed_at 1 3 ∷ []; old = refl; answers = refl; leaves = refl }
  where
    too_early : (n : ℕ) → n < 2 → old_pages true (aged_times n (seen_of (full_order None).held 2)).gens ≡ []
    too_early zero less = refl
    too_early (suc zero) less = refl
    too_early (suc (suc n)) less = absurd (omega (arith, less))

-- /p/a is served, and its lists age. Those of /p/b do not
abbrev low_order : Order
low_order =
    record {
      held = record { groups = lists_of (searched 5 3 (listed_at 1 3 ∷ [])) (young (listed_at 2 3 ∷ [])); marks = no_marks; hits = [] };
      cursors = by_turns (None ∷ Some 2 ∷ None ∷ None ∷ None ∷ None ∷ []);
    }

-- the whole call, in which `low` is counted
low-call : Called (past all_within (full_order None)) caller relieve (reply.Out (ticket 9)) (after (past all_within (full_order None)) relieve (reply.Out (ticket 9)) low_taken low_order)
unfolding chain_up chain under_at chain_below effective_along preorder_to
low-call = record {
  steps = takes_low;
  order = record {
    g = 2;
    next = refl;
    p = 0;
    looked = with_seen (full_order None).held 2 low_looked;
    picked = record { seen = low_looked; picks = low_picks; lists = refl };
    was = refl;
    taken = refl;
    leaves = record { fresh = None; which = which; groups = refl; size = refl; marks = λ p. stay_unmarked 10 (is_held_in all_within.pages p) (is_held_in low_taken.pages p) p; counts = refl; hits = stay_unhit Youngest refl all_within.pages low_taken.pages };
    moves = refl;
  };
  history = refl;
  passes = refl;
}
  where
    which : (p : ℕ) → false ≡ is_fresh all_within.pages low_taken.pages p
    which zero = refl
    which (suc zero) = refl
    which (suc (suc zero)) = refl
    which (suc (suc (suc p))) = refl

-- whatever is taken in this order, `low` stands once at /p/a then
low-call_once : (new : Past) → Called (past all_within (full_order None)) caller relieve (reply.Out (ticket 9)) new → local new.state.counted 2 key.Low ≡ 1
unfolding chain_up chain under_at chain_below effective_along preorder_to
low-call_once new call = by_page call.steps.p call.steps.page call.steps.there (left all_within new.state 1 (reply.Out (ticket 9)) call.steps)
  where
    gone : is_held_in new.state.pages 0 ≡ false
    gone = taken_is_picked all_within (full_order None) OnePage 1 2 0 low_looked refl low_picks new.state new.order call.order

    by_page : (p : ℕ) (page : Page) → page_at all_within.pages p ≡ Some page → Left all_within new.state p page (counted_at_take all_within 1 page.group) (reply.Out (ticket 9)) → local new.state.counted 2 key.Low ≡ 1
    by_page zero page there h = ap (λ counted. local counted 2 key.Low) h.counts ∙ sym (ap (λ (x : Page). local (counted_at_take all_within 1 x.group) 2 key.Low) (some_inj there))
    by_page (suc p) page there h = unlike (is_held_in new.state.pages 0) (ap (there_and is_held) (h.others 0 (λ e. omega (arith, e)))) gone
