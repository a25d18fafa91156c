-- Examples: the page that is taken in turn, and the order after it. What is not taken, or does not come of it, is shown not to.
use Rattle.std.proofs.Common.{◌≡◌, ℕ, zero, suc, ◌<◌, true, false, [], ◌∷◌, Some, None, refl, ap, arith}
use Rattle.machine.specs.declared.event.Goal.TheVariants.{Amount}
use Rattle.machine.specs.Tree.{chain_up, chain, under_at, chain_below, preorder_to, rank}
use Rattle.machine.specs.Pages.{Held, Coming, Going, Away, Page, is_held_in}
use Rattle.machine.specs.Protection.{effective_along}
use Rattle.machine.specs.State.{State}
use Rattle.machine.specs.Generations.{Gens, new_gens, gens_at}
use Rattle.machine.specs.Aging.{Seen}
use Rattle.machine.specs.Eviction.{old_pages, passed_by, aged_times, Picks}
use Rattle.machine.specs.Order.{cursor_at}
use Rattle.machine.specs.Lists.{Order, served, seen_of, with_seen, is_fresh, TakesNext, Youngest}
use Rattle.machine.proofs.Values.{unlike}
use Rattle.legal.proofs.OrdersLemmas.{taken_is_picked, takes_next_alike}
use Rattle.computed.proofs.ExampleStates.{memory, pages, listed_at, young, searched, lists_of, ordered, no_marks, by_turns, none_served, busy, busy_order}
use Rattle.computed.proofs.CallExamples.{not_new, stay_unmarked, stay_unhit}

-- ---- a reclaim under /p takes page 1 of /p/a, which came into its frame before page 0

-- pages 0 and 1 of the busy state stand here, and the others where they stood
abbrev with_two : Page → Page → State
with_two zero_is one_is = record busy { pages = Some zero_is ∷ Some one_is ∷ Some (memory 2 (Coming 0 1 7)) ∷ Some (memory 3 (Going 1 2 8)) ∷ Some (memory 3 (Away 3)) ∷ [] }

-- page 1 goes to block 0, which was free, under ticket 9, which was too
abbrev pub taken : State
taken = with_two (memory 2 (Held 4)) (memory 2 (Going 5 0 9))

-- two agings made both pages of /p/a old
abbrev looked : Seen
looked = record { gens = searched 5 3 (listed_at 1 3 ∷ listed_at 0 3 ∷ []); marks = no_marks }

too_early : (n : ℕ) → n < 2 → old_pages true (aged_times n (seen_of busy_order.held 2)).gens ≡ []
too_early zero less = refl
too_early (suc zero) less = refl
too_early (suc (suc n)) less = absurd (omega (arith, less))

-- page 1 is the first of them
picks : Picks true (seen_of busy_order.held 2) (Some 1) looked
picks = record { times = 2; none_before = too_early; first = listed_at 1 3; others = listed_at 0 3 ∷ []; old = refl; answers = refl; leaves = refl }

-- /p/a is served for /p, from now on as the last
abbrev two_served : Gens → Gens → Order
two_served two three = record (ordered two three) { cursors = by_turns (None ∷ Some 2 ∷ None ∷ None ∷ None ∷ None ∷ []) }

-- page 1 leaves its list, and the lists of /p/a are those that the search left
abbrev pub taken_order : Order
taken_order = two_served (searched 5 3 (listed_at 0 3 ∷ [])) new_gens

pub takes : TakesNext busy busy_order Amount 1 taken taken_order
unfolding chain_up chain under_at chain_below effective_along preorder_to
takes = record {
  g = 2;
  next = refl;
  p = 1;
  looked = with_seen busy_order.held 2 looked;
  picked = record { seen = looked; picks = picks; lists = refl };
  was = refl;
  taken = refl;
  leaves = record { fresh = None; which = which; groups = refl; size = refl; marks = λ p. stay_unmarked 10 (is_held_in pages p) (is_held_in taken.pages p) p; counts = refl; hits = stay_unhit Youngest refl pages taken.pages };
  moves = refl;
}
  where
    which : (p : ℕ) → false ≡ is_fresh pages taken.pages p
    which zero = refl
    which (suc zero) = refl
    which (suc (suc p)) = not_new (is_held_in pages (suc (suc p)))

-- no page is taken that came into its frame later: page 1 leaves
pub takes-not_newer : (new : State) (order' : Order) → TakesNext busy busy_order Amount 1 new order' → is_held_in new.pages 1 ≡ false
unfolding chain_up chain under_at chain_below effective_along preorder_to
takes-not_newer = taken_is_picked busy busy_order Amount 1 2 1 looked refl picks

-- no other order comes of it
abbrev NotLeft : Order → Type 0
NotLeft other = TakesNext busy busy_order Amount 1 taken other → ⊥

unlike_order : (other : Order) → (says : Order → ℕ) → (says taken_order ≡ says other → ⊥) → NotLeft other
unlike_order other says differs h = differs (ap says (takes_next_alike busy taken busy_order taken_order other Amount 1 takes h))

abbrev youngest : ℕ → Order → ℕ
youngest g order = (gens_at order.held.groups g).max_seq

abbrev served_last : ℕ → Order → ℕ
served_last target order = rank (cursor_at order.cursors target).group

-- not one in which the lists of /p/b aged, too
takes-not_beside : NotLeft (two_served (searched 5 3 (listed_at 0 3 ∷ [])) (searched 5 4 []))
takes-not_beside = unlike_order _ (youngest 3) (λ e. omega (arith, e))

-- nor one in which those of /p/a did not
takes-not_unaged : NotLeft (two_served (young (listed_at 0 3 ∷ [])) new_gens)
takes-not_unaged = unlike_order _ (youngest 2) (λ e. omega (arith, e))

-- nor one in which they aged once more than there was need for
takes-not_more : NotLeft (two_served (searched 6 3 (listed_at 0 3 ∷ [])) new_gens)
takes-not_more = unlike_order _ (youngest 2) (λ e. omega (arith, e))

-- nor one whose cursor is another target's
takes-not_for_root : NotLeft (record taken_order { cursors = by_turns (Some 2 ∷ None ∷ None ∷ None ∷ None ∷ None ∷ []) })
takes-not_for_root = unlike_order _ (served_last 1) (λ e. omega (arith, e))

-- nor one whose cursor stays
takes-not_stays : NotLeft (record taken_order { cursors = none_served })
takes-not_stays = unlike_order _ (served_last 1) (λ e. omega (arith, e))

-- ---- the front page is marked, and an old page behind it is not

abbrev front_marked : Order
front_marked = record { held = record { groups = lists_of (searched 5 3 (listed_at 1 3 ∷ listed_at 0 3 ∷ [])) new_gens; marks = false ∷ true ∷ false ∷ false ∷ false ∷ false ∷ false ∷ false ∷ false ∷ false ∷ []; hits = [] }; cursors = none_served }

-- page 1 goes to the tail, unmarked, and no list ages
abbrev passed : Seen
passed = record { gens = searched 5 3 (listed_at 0 3 ∷ listed_at 1 5 ∷ []); marks = no_marks }

picks-unmarked : Picks true (seen_of front_marked.held 2) (Some 0) passed
picks-unmarked = record { times = 0; none_before = λ n less. absurd (omega (arith, less)); first = listed_at 0 3; others = []; old = refl; answers = refl; leaves = refl }

-- page 0 is taken
abbrev other_taken : State
other_taken = with_two (memory 2 (Going 4 0 9)) (memory 2 (Held 5))

takes-unmarked : TakesNext busy front_marked Amount 1 other_taken (two_served (searched 5 3 (listed_at 1 5 ∷ [])) new_gens)
unfolding chain_up chain under_at chain_below effective_along preorder_to
takes-unmarked = record {
  g = 2;
  next = refl;
  p = 0;
  looked = with_seen front_marked.held 2 passed;
  picked = record { seen = passed; picks = picks-unmarked; lists = refl };
  was = refl;
  taken = refl;
  leaves = record { fresh = None; which = which; groups = refl; size = refl; marks = λ p. stay_unmarked 10 (is_held_in pages p) (is_held_in other_taken.pages p) p; counts = refl; hits = stay_unhit Youngest refl pages other_taken.pages };
  moves = refl;
}
  where
    which : (p : ℕ) → false ≡ is_fresh pages other_taken.pages p
    which zero = refl
    which (suc p) = not_new (is_held_in pages (suc p))

-- page 1 is not, whatever comes after
takes-not_marked : (order' : Order) → TakesNext busy front_marked Amount 1 taken order' → ⊥
unfolding chain_up chain under_at chain_below effective_along preorder_to
takes-not_marked order' h = unlike (is_held_in taken.pages 0) refl (taken_is_picked busy front_marked Amount 1 2 0 passed refl picks-unmarked taken order' h)

-- where both are marked, both go to the tail, and page 1 is the first to be old again
abbrev both_marked : Seen
both_marked = record { gens = searched 5 3 (listed_at 1 3 ∷ listed_at 0 3 ∷ []); marks = true ∷ true ∷ [] }

picks-marked : Picks true both_marked (Some 1) (record { gens = searched 7 5 (listed_at 1 5 ∷ listed_at 0 5 ∷ []); marks = false ∷ false ∷ [] })
picks-marked = record { times = 2; none_before = none_old; first = listed_at 1 5; others = listed_at 0 5 ∷ []; old = refl; answers = refl; leaves = refl }
  where
    none_old : (n : ℕ) → n < 2 → old_pages true (aged_times n (passed_by true both_marked)).gens ≡ []
    none_old zero less = refl
    none_old (suc zero) less = refl
    none_old (suc (suc n)) less = absurd (omega (arith, less))

-- ---- the target has a page of its own, and it is another group's turn

-- page 0 is /p's, and page 1 /p/a's
abbrev of_both : State
of_both = record busy { pages = Some (memory 1 (Held 4)) ∷ Some (memory 2 (Held 5)) ∷ [] }

-- no group below the root has been served but /p, for itself
abbrev own_served : Order
own_served =
    record {
      held = record { groups = new_gens ∷ young (listed_at 0 3 ∷ []) ∷ young (listed_at 1 3 ∷ []) ∷ new_gens ∷ new_gens ∷ new_gens ∷ []; marks = no_marks; hits = [] };
      cursors = by_turns (None ∷ Some 1 ∷ None ∷ None ∷ None ∷ None ∷ []);
    }

abbrev turned : Seen
turned = record { gens = searched 5 3 (listed_at 1 3 ∷ []); marks = no_marks }

picks-turn : Picks true (seen_of own_served.held 2) (Some 1) turned
picks-turn = record { times = 2; none_before = none_old; first = listed_at 1 3; others = []; old = refl; answers = refl; leaves = refl }
  where
    none_old : (n : ℕ) → n < 2 → old_pages true (aged_times n (seen_of own_served.held 2)).gens ≡ []
    none_old zero less = refl
    none_old (suc zero) less = refl
    none_old (suc (suc n)) less = absurd (omega (arith, less))

-- /p/a's page is taken, and the lists of /p stay
abbrev turn_taken : State
turn_taken = record of_both { pages = Some (memory 1 (Held 4)) ∷ Some (memory 2 (Going 5 0 9)) ∷ [] }

abbrev turn_order : Order
turn_order =
    record {
      held = record { groups = new_gens ∷ young (listed_at 0 3 ∷ []) ∷ searched 5 3 [] ∷ new_gens ∷ new_gens ∷ new_gens ∷ []; marks = no_marks; hits = [] };
      cursors = by_turns (None ∷ Some 2 ∷ None ∷ None ∷ None ∷ None ∷ []);
    }

takes-turn : TakesNext of_both own_served Amount 1 turn_taken turn_order
unfolding chain_up chain under_at chain_below effective_along preorder_to
takes-turn = record {
  g = 2;
  next = refl;
  p = 1;
  looked = with_seen own_served.held 2 turned;
  picked = record { seen = turned; picks = picks-turn; lists = refl };
  was = refl;
  taken = refl;
  leaves = record { fresh = None; which = which; groups = refl; size = refl; marks = λ p. stay_unmarked 10 (is_held_in of_both.pages p) (is_held_in turn_taken.pages p) p; counts = refl; hits = stay_unhit Youngest refl of_both.pages turn_taken.pages };
  moves = refl;
}
  where
    which : (p : ℕ) → false ≡ is_fresh of_both.pages turn_taken.pages p
    which zero = refl
    which (suc zero) = refl
    which (suc (suc p)) = refl

-- /p's own is not, whatever comes after
takes-not_own : (order' : Order) → TakesNext of_both own_served Amount 1 (record of_both { pages = Some (memory 1 (Going 4 0 9)) ∷ Some (memory 2 (Held 5)) ∷ [] }) order' → ⊥
unfolding chain_up chain under_at chain_below effective_along preorder_to
takes-not_own order' h =
    let after : State = record of_both { pages = Some (memory 1 (Going 4 0 9)) ∷ Some (memory 2 (Held 5)) ∷ [] } in
    unlike (is_held_in after.pages 1) refl (taken_is_picked of_both own_served Amount 1 2 1 turned refl picks-turn after order' h)

-- and its lists do not age
takes-not_target_aged : TakesNext of_both own_served Amount 1 turn_taken
    (record turn_order { held = record { groups = new_gens ∷ searched 5 3 (listed_at 0 3 ∷ []) ∷ searched 5 3 [] ∷ new_gens ∷ new_gens ∷ new_gens ∷ []; marks = no_marks; hits = [] } }) → ⊥
takes-not_target_aged h = let e : 3 ≡ 5 = ap (youngest 1) (takes_next_alike of_both turn_taken own_served turn_order _ Amount 1 takes-turn h) in absurd (omega (arith, e))

-- the next time it is /p/b's turn, which has no page, and so the target's own
serves-own : served turn_taken turn_order Amount 1 ≡ Some 1
unfolding chain_up chain under_at chain_below effective_along preorder_to
serves-own = refl
