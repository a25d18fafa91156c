-- Examples: by Linux's placement a reclaim first asks the groups with an old page of a file that is not marked. When it does not, and what by our own placement is done instead.
use Rattle.std.proofs.Common.{◌≡◌, ℕ, true, false, Bool, List, [], ◌∷◌, Option, Some, None, refl, arith}
use Rattle.machine.specs.declared.config.Placement.{Placement}
use Rattle.machine.specs.declared.config.Placement.TheVariants.{Own, Linux}
use Rattle.machine.specs.declared.id.TicketId.{TicketId}
use Rattle.machine.specs.declared.event.Cause.TheVariants as cause
use Rattle.machine.specs.declared.event.Goal.TheVariants.{OnePage, Amount}
use Rattle.machine.specs.declared.event.Event.TheVariants as event
use Rattle.machine.specs.declared.reply.Reply.TheVariants as reply
use Rattle.machine.specs.Tree.{chain_up, chain, under_at, chain_below, preorder_to}
use Rattle.machine.specs.Counts.{no_limits}
use Rattle.machine.specs.Pages.{Held, is_held_in}
use Rattle.machine.specs.Protection.{effective_along}
use Rattle.machine.specs.State.{State}
use Rattle.machine.specs.Generations.{Gens}
use Rattle.machine.specs.Eviction.{Picks}
use Rattle.machine.specs.Lists.{Order, gives, gives_old, served, seen_of, Orders}
use Rattle.legal.proofs.OrdersLemmas.{taken_is_picked}
use Rattle.computed.proofs.ExampleStates.{group, shows, max_of, min_of, memory, of_file, opening, listed_at, of_memory, lists_of, no_marks, stuck, by_turns}

-- ---- idle memory and an old page of a file

-- page 0 is memory of /p/a, which its task shows, and page 1 is of a file, and charged to /p/b. /p has a max of 2: it is full
abbrev full_by : Placement → State
full_by placement =
    record stuck {
      opening = record opening { files = 1 ∷ []; placement = placement };
      limits = no_limits ∷ max_of 2 ∷ no_limits ∷ no_limits ∷ no_limits ∷ no_limits ∷ [];
      pages = Some (memory 2 (Held 0)) ∷ Some (of_file 3 false (Held 1)) ∷ [];
      page_tables = [] ∷ (shows 0 ∷ []) ∷ [] ∷ [];
    }

-- the lists of a group that has the page of the file alone, of this generation
abbrev file_at : ℕ → Gens
file_at seq = record { max_seq = 3; anon = record { min_seq = 0; pages = [] }; file = record { min_seq = 0; pages = listed_at 1 seq ∷ [] } }

-- the memory is of the oldest generation, and the page of the file of this one; these are the marks, and this group was served last for /p
abbrev order_of : ℕ → List Bool → Option ℕ → Order
order_of seq marks last =
    record {
      held = record { groups = lists_of (of_memory 3 0 (listed_at 0 0 ∷ [])) (file_at seq); marks = marks; hits = [] };
      cursors = by_turns (None ∷ last ∷ None ∷ None ∷ None ∷ None ∷ []);
    }

-- the page of the file is old, no page is marked, and no group was served: it is the turn of /p/a
abbrev idle_order : Order
idle_order = order_of 1 no_marks None

-- the page of the file is marked
abbrev marked : List Bool
marked = false ∷ true ∷ false ∷ false ∷ false ∷ false ∷ false ∷ false ∷ false ∷ false ∷ []

-- both groups have a page to give
both-give : (gives (full_by Linux) 1 2 ≡ true) × (gives (full_by Linux) 1 3 ≡ true)
unfolding chain_up chain under_at chain_below effective_along
both-give = (refl, refl)

-- but only /p/b an old page of a file. Memory is none, as old as it is
one-old : (gives_old (full_by Linux) idle_order.held 1 2 ≡ false) × (gives_old (full_by Linux) idle_order.held 1 3 ≡ true)
unfolding chain_up chain under_at chain_below effective_along
one-old = (refl, refl)

-- ---- where age is heeded

-- for a charge /p/a is passed over, and /p/b served, though it is not its turn
linux-charge : served (full_by Linux) idle_order OnePage 1 ≡ Some 3
unfolding chain_up chain under_at chain_below effective_along preorder_to
linux-charge = refl

-- and once more, where it was served last
linux-again : served (full_by Linux) (order_of 1 no_marks (Some 3)) OnePage 1 ≡ Some 3
unfolding chain_up chain under_at chain_below effective_along preorder_to
linux-again = refl

-- so it is for a frame, for which the root is the target
linux-frame : served (full_by Linux) idle_order OnePage 0 ≡ Some 3
unfolding chain_up chain under_at chain_below effective_along preorder_to
linux-frame = refl

-- by our own placement it is the turn of /p/a
own-charge : served (full_by Own) idle_order OnePage 1 ≡ Some 2
unfolding chain_up chain under_at chain_below effective_along preorder_to
own-charge = refl

own-frame : served (full_by Own) idle_order OnePage 0 ≡ Some 2
unfolding chain_up chain under_at chain_below effective_along preorder_to
own-frame = refl

-- for an amount it is so by Linux's placement too
linux-amount : served (full_by Linux) idle_order Amount 1 ≡ Some 2
unfolding chain_up chain under_at chain_below effective_along preorder_to
linux-amount = refl

-- except that of the root, as the daemon asks it
linux-amount_root : served (full_by Linux) idle_order Amount 0 ≡ Some 3
unfolding chain_up chain under_at chain_below effective_along preorder_to
linux-amount_root = refl

own-amount_root : served (full_by Own) idle_order Amount 0 ≡ Some 2
unfolding chain_up chain under_at chain_below effective_along preorder_to
own-amount_root = refl

-- ---- which page counts

-- where the page of the file is marked, nobody has an old one, and it is by turns: /p/a
marked-serves : served (full_by Linux) (order_of 1 marked None) OnePage 1 ≡ Some 2
unfolding chain_up chain under_at chain_below effective_along preorder_to
marked-serves = refl

-- and then /p/b
marked-serves_next : served (full_by Linux) (order_of 1 marked (Some 2)) OnePage 1 ≡ Some 3
unfolding chain_up chain under_at chain_below effective_along preorder_to
marked-serves_next = refl

-- so it is where the page is of one of the two youngest generations
young-serves : served (full_by Linux) (order_of 2 no_marks None) OnePage 1 ≡ Some 2
unfolding chain_up chain under_at chain_below effective_along preorder_to
young-serves = refl

-- and where its group is within its min, and so has nothing to give
protected-serves : served (record (full_by Linux) { limits = no_limits ∷ max_of 2 ∷ no_limits ∷ min_of 1 ∷ no_limits ∷ no_limits ∷ [] }) idle_order OnePage 1 ≡ Some 2
unfolding chain_up chain under_at chain_below effective_along preorder_to
protected-serves = refl

-- ---- the events

-- the search in the lists of /p/b finds the page of the file, and ages nothing
looked : Picks true (seen_of idle_order.held 3) (Some 1)
    (record { gens = record { max_seq = 3; anon = record { min_seq = 2; pages = [] }; file = record { min_seq = 1; pages = listed_at 1 1 ∷ [] } }; marks = no_marks })
looked = record { times = 0; none_before = λ n less. absurd (omega (arith, less)); first = listed_at 1 1; others = []; old = refl; answers = refl; leaves = refl }

-- that in the lists of /p/a the memory
looked_idle : Picks true (seen_of idle_order.held 2) (Some 0)
    (record { gens = record { max_seq = 3; anon = record { min_seq = 0; pages = listed_at 0 0 ∷ [] }; file = record { min_seq = 2; pages = [] } }; marks = no_marks })
looked_idle = record { times = 0; none_before = λ n less. absurd (omega (arith, less)); first = listed_at 0 0; others = []; old = refl; answers = refl; leaves = refl }

-- a charge takes the page of the file, whatever comes after
charge-takes : (new : State) (order' : Order) → Orders (full_by Linux) idle_order (event.Relieve (cause.Charge (group 1))) reply.Dropped new order' → is_held_in new.pages 1 ≡ false
unfolding chain_up chain under_at chain_below effective_along preorder_to
charge-takes = taken_is_picked (full_by Linux) idle_order OnePage 1 3 1 _ refl looked

-- a max that was lowered takes the memory
lower-takes : (new : State) (order' : Order) (ticket : TicketId) → Orders (full_by Linux) idle_order (event.Relieve (cause.Lower (group 1))) (reply.Out ticket) new order' → is_held_in new.pages 0 ≡ false
unfolding chain_up chain under_at chain_below effective_along preorder_to
lower-takes new order' ticket = taken_is_picked (full_by Linux) idle_order Amount 1 2 0 _ refl looked_idle new order'

-- so does a reclaim of /p on request
reclaim-takes : (new : State) (order' : Order) (ticket : TicketId) → Orders (full_by Linux) idle_order (event.ReclaimOne (group 1)) (reply.Out ticket) new order' → is_held_in new.pages 0 ≡ false
unfolding chain_up chain under_at chain_below effective_along preorder_to
reclaim-takes new order' ticket = taken_is_picked (full_by Linux) idle_order Amount 1 2 0 _ refl looked_idle new order'

-- and one of the root takes the page of the file
reclaim-takes_root : (new : State) (order' : Order) → Orders (full_by Linux) idle_order (event.ReclaimOne (group 0)) reply.Dropped new order' → is_held_in new.pages 1 ≡ false
unfolding chain_up chain under_at chain_below effective_along preorder_to
reclaim-takes_root = taken_is_picked (full_by Linux) idle_order Amount 0 3 1 _ refl looked
