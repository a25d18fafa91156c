-- Examples: what can be reclaimed, from whom, and who is killed where nothing can be.
use Rattle.std.proofs.Common.{◌≡◌, ℕ, zero, suc, ◌<◌, true, false, [], ◌∷◌, Some, None, refl, arith}
use Rattle.machine.specs.declared.event.Goal.TheVariants.{Amount}
use Rattle.machine.specs.declared.event.Cause.TheVariants as cause
use Rattle.machine.specs.Tree.{chain_up, chain, under_at, chain_below, preorder_to}
use Rattle.machine.specs.Pages.{Held}
use Rattle.machine.specs.Counts.{no_limits}
use Rattle.machine.specs.Protection.{effective_along}
use Rattle.machine.specs.State.{State}
use Rattle.machine.specs.Reclaim.{is_unprotected, is_takeable, has_takeable, is_idle, stands}
use Rattle.machine.specs.Victim.{is_candidate, is_worse}
use Rattle.machine.specs.Eviction.{old_pages, aged_times}
use Rattle.machine.specs.Lists.{Order, served, seen_of, PicksOf}
use Rattle.computed.proofs.ExampleStates.{group, tree, max_of, min_of, memory, of_file, opening, listed_at, young, searched, ordered, busy, busy_order, stuck, stuck_order, by_turns}

-- ---- what is takeable

-- a page of memory is not without a swap block to go to
takeable-no_swap : is_takeable stuck 1 (memory 2 (Held 0)) ≡ false
unfolding chain_up chain under_at chain_below effective_along
takeable-no_swap = refl

-- a page of a file has no need of one
takeable-file : is_takeable stuck 1 (of_file 2 true (Held 0)) ≡ true
unfolding chain_up chain under_at chain_below effective_along
takeable-file = refl

-- the state with this min for /p/a, which has 3 pages
abbrev guarded : ℕ → State
guarded n = record busy { limits = no_limits ∷ no_limits ∷ min_of n ∷ no_limits ∷ no_limits ∷ no_limits ∷ [] }

-- a group that uses just its effective min gives nothing
guards : is_unprotected (guarded 3) 1 2 ≡ false
unfolding chain_up chain under_at chain_below effective_along
guards = refl

-- and one that uses more does
guards-less : is_unprotected (guarded 2) 1 2 ≡ true
unfolding chain_up chain under_at chain_below effective_along
guards-less = refl

-- its own reclaim takes from it all the same
guards-own : is_unprotected (guarded 3) 2 2 ≡ true
unfolding chain_up chain under_at chain_below effective_along
guards-own = refl

-- and from a group without pages it may take as well, where there is nothing
guards-empty : is_unprotected busy 5 5 ≡ true
unfolding chain_up chain under_at chain_below effective_along
guards-empty = refl

-- a reclaim of the root takes from /p/a, since /p has no min
guards-above : is_unprotected (guarded 3) 0 2 ≡ true
unfolding chain_up chain under_at chain_below effective_along
guards-above = refl

-- ---- whether there is something to wait for

-- /p/b has a page in transfer alone: it has nothing to be taken
transfer-alone : has_takeable busy 3 ≡ false
unfolding chain_up chain under_at chain_below effective_along
transfer-alone = refl

-- and yet it is not idle
transfer-idle : is_idle busy 3 ≡ false
unfolding chain_up chain under_at chain_below effective_along
transfer-idle = refl

-- a transfer beside the target is nothing to it
idle-beside : is_idle busy 5 ≡ true
unfolding chain_up chain under_at chain_below effective_along
idle-beside = refl

-- ---- causes

-- /p/a has 3 pages and a max of 3: one page more wants room
stands-charge : stands busy (cause.Charge (group 2)) ≡ true
unfolding chain_up chain under_at
stands-charge = refl

-- and the max as it stands does not
stands-lower : stands busy (cause.Lower (group 2)) ≡ false
unfolding chain_up chain under_at
stands-lower = refl

-- no cause stands on a removed group, though its max is 0
stands-removed : stands (record busy { limits = no_limits ∷ no_limits ∷ no_limits ∷ no_limits ∷ max_of 0 ∷ [] }) (cause.Charge (group 4)) ≡ false
unfolding chain_up chain under_at
stands-removed = refl

-- a frame is wanted where all are used
stands-no_frame : stands (record busy { opening = record opening { frames = 4 } }) cause.Frame ≡ true
stands-no_frame = refl

-- ---- who gives a page

-- /p/a is served again where nobody else has a page to give
serves-again : served busy (record busy_order { cursors = by_turns (Some 2 ∷ []) }) Amount 0 ≡ Some 2
unfolding chain_up chain under_at chain_below effective_along preorder_to
serves-again = refl

-- page 0 is /p/a's, and page 1 /p/b's
abbrev both : State
both = record stuck { opening = opening; pages = Some (memory 2 (Held 0)) ∷ Some (memory 3 (Held 1)) ∷ [] }

-- else they give a page in turn
serves-turn : served both (record busy_order { cursors = by_turns (Some 2 ∷ []) }) Amount 0 ≡ Some 3
unfolding chain_up chain under_at chain_below effective_along preorder_to
serves-turn = refl

-- each target has a cursor of its own
serves-own_cursor : served both (record busy_order { cursors = by_turns (Some 2 ∷ None ∷ []) }) Amount 1 ≡ Some 2
unfolding chain_up chain under_at chain_below effective_along preorder_to
serves-own_cursor = refl

-- nobody has a page to give
serves-none : served stuck stuck_order Amount 0 ≡ None
unfolding chain_up chain under_at chain_below effective_along preorder_to
serves-none = refl

-- each is in its group's youngest generation
abbrev both_order : Order
both_order = ordered (young (listed_at 0 3 ∷ [])) (young (listed_at 1 3 ∷ []))

too_early : (n : ℕ) → n < 2 → old_pages true (aged_times n (seen_of both_order.held 2)).gens ≡ []
too_early zero less = refl
too_early (suc zero) less = refl
too_early (suc (suc n)) less = absurd (omega (arith, less))

-- of /p/a's lists page 0 is picked, after two agings. The lists of /p/b do not age
picks : PicksOf true both_order.held 2 (Some 0) (ordered (searched 5 3 (listed_at 0 3 ∷ [])) (young (listed_at 1 3 ∷ []))).held
picks = record {
  seen = _;
  picks = record { times = 2; none_before = too_early; first = listed_at 0 3; others = []; old = refl; answers = refl; leaves = refl };
  lists = refl;
}

-- ---- victims

-- a task that was killed is no victim
candidate-killed : is_candidate tree busy.tasks 0 3 ≡ false
unfolding chain_up chain under_at
candidate-killed = refl

-- task 2 shows two pages, and task 1 one: task 2 is the worse
worse : is_worse stuck.page_tables 2 1 ≡ true
worse = refl

-- of two tasks that are as large, the one of the lesser number
worse-tie : is_worse busy.page_tables 1 2 ≡ true
worse-tie = refl
