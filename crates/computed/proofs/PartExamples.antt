-- Examples: by Linux's placement a reclaim of an amount takes a part of each group. How many pages a group gives in its turn, and when the turn ends. What no turn does is shown not to be.
use Rattle.std.proofs.Common.{◌≡◌, ℕ, zero, suc, ◌+◌, ◌++◌, true, false, List, [], ◌∷◌, Some, None, refl, sym, ap, ◌∙◌, arith}
use Rattle.std.specs.Prelude.{replicate, slice_set}
use Rattle.machine.specs.declared.config.Placement.{Placement}
use Rattle.machine.specs.declared.config.Placement.TheVariants.{Own, Linux}
use Rattle.machine.specs.declared.event.Goal.{Goal}
use Rattle.machine.specs.declared.event.Goal.TheVariants.{OnePage, Amount}
use Rattle.machine.specs.declared.record.Limits.{Limits}
use Rattle.machine.specs.Tree.{chain_up, chain, under_at, chain_below, preorder_to, rank}
use Rattle.machine.specs.Counts.{no_limits}
use Rattle.machine.specs.Pages.{OfFile, Held, Page, Pages, is_held_in}
use Rattle.machine.specs.Protection.{effective_along}
use Rattle.machine.specs.State.{State}
use Rattle.machine.specs.Generations.{Listed, Gens}
use Rattle.machine.specs.Aging.{Seen}
use Rattle.machine.specs.Eviction.{Picks}
use Rattle.machine.specs.Order.{Cursor, no_cursor, one_page_of, cursor_at, asking_order, unit_for, more_in_turn}
use Rattle.machine.specs.Lists.{Order, served, cursor_served, seen_of, with_seen, is_fresh, TakesNext, Youngest}
use Rattle.machine.proofs.Values.{some_inj}
use Rattle.computed.proofs.ExampleStates.{tree, min_of, opening, listed_at, lists_of, stuck}
use Rattle.computed.proofs.CallExamples.{not_new, stay_unmarked, stay_unhit}

-- ---- a large group and a small one

-- page p of the file, in frame p and clean, is charged to the group
abbrev clean : ℕ → ℕ → Page
clean g p = record { content = OfFile 0 p; group = g; dirty = false; residence = Held p }

-- so many pages of the group, from page p on
abbrev pages_of : ℕ → ℕ → ℕ → Pages
pages_of g p zero = []
pages_of g p (suc n) = Some (clean g p) ∷ pages_of g (p + 1) n

-- these pages of a file are in frames, and no task shows one
abbrev with_pages : Placement → Pages → State
with_pages placement pages =
    record stuck {
      opening = record opening { frames = 20; files = 20 ∷ []; placement = placement };
      limits = no_limits ∷ no_limits ∷ no_limits ∷ no_limits ∷ no_limits ∷ no_limits ∷ [];
      pages = pages;
      page_tables = [] ∷ [] ∷ [] ∷ [];
    }

-- /p/a has the first a pages, and /p/b the next b
abbrev sized : Placement → ℕ → ℕ → State
sized placement a b = with_pages placement (pages_of 2 0 a ++ pages_of 3 a b)

-- so many pages from page p on, all of the oldest generation
abbrev listed_from : ℕ → ℕ → List Listed
listed_from p zero = []
listed_from p (suc n) = listed_at p 0 ∷ listed_from (p + 1) n

abbrev file_of : ℕ → ℕ → Gens
file_of p n = record { max_seq = 3; anon = record { min_seq = 0; pages = [] }; file = record { min_seq = 0; pages = listed_from p n } }

-- for the root and for /p as targets it is these groups' turn, and for no other was a group served
abbrev cursors : Cursor → Cursor → List Cursor
cursors root_is p_is = root_is ∷ p_is ∷ no_cursor ∷ no_cursor ∷ no_cursor ∷ no_cursor ∷ []

-- the lists of the two groups with so many pages, and these cursors
abbrev turned : ℕ → ℕ → Cursor → Cursor → Order
turned a b root_is p_is = record { held = record { groups = lists_of (file_of 0 a) (file_of a b); marks = replicate 20 false; hits = [] }; cursors = cursors root_is p_is }

-- no group was served for the root, and for /p it is this one's turn
abbrev order : ℕ → ℕ → Cursor → Order
order a b p_is = turned a b no_cursor p_is

-- the group was served last, and gives so many pages more in its turn; and this is the unit of the round
abbrev turn : ℕ → ℕ → ℕ → Cursor
turn g left unit = record { group = Some g; left = left; unit = unit }

-- the group gives a page to the target, and this is whose turn it is then
abbrev Gives : State → Goal → ℕ → Order → ℕ → Cursor → Type 0
Gives s goal target order g after = (served s order goal target ≡ Some g) × (cursor_served s order goal target g ≡ after)

-- ---- an amount, by Linux's placement

-- /p/a has three times as many pages as /p/b, and gives three in its turn
large-first : Gives (sized Linux 12 4) Amount 1 (order 12 4 no_cursor) 2 (turn 2 2 4)
unfolding chain_up chain under_at chain_below effective_along preorder_to
large-first = (refl, refl)

large-second : Gives (sized Linux 11 4) Amount 1 (order 11 4 (turn 2 2 4)) 2 (turn 2 1 4)
unfolding chain_up chain under_at chain_below effective_along preorder_to
large-second = (refl, refl)

large-third : Gives (sized Linux 10 4) Amount 1 (order 10 4 (turn 2 1 4)) 2 (turn 2 0 4)
unfolding chain_up chain under_at chain_below effective_along preorder_to
large-third = (refl, refl)

-- then /p/b gives one
small-first : Gives (sized Linux 9 4) Amount 1 (order 9 4 (turn 2 0 4)) 3 (turn 3 0 4)
unfolding chain_up chain under_at chain_below effective_along preorder_to
small-first = (refl, refl)

-- and it is the turn of /p/a again. A new round begins, with the sizes of now: 9 pages are three times as many as 3
large-again : Gives (sized Linux 9 3) Amount 1 (order 9 3 (turn 3 0 4)) 2 (turn 2 2 3)
unfolding chain_up chain under_at chain_below effective_along preorder_to
large-again = (refl, refl)

-- a new round whose groups are of one size
even-round : Gives (sized Linux 3 3) Amount 1 (order 3 3 (turn 3 0 4)) 2 (turn 2 0 3)
unfolding chain_up chain under_at chain_below effective_along preorder_to
even-round = (refl, refl)

-- ---- to the nearest

-- 10 pages are two and a half times 4: three in a turn
nearest-half : more_in_turn 10 4 ≡ 2
nearest-half = refl

-- 9 are nearer to twice
nearest-less : more_in_turn 9 4 ≡ 1
nearest-less = refl

-- a group with fewer pages than the unit gives one all the same
nearest-one : more_in_turn 1 4 ≡ 0
nearest-one = refl

-- a fourth of its pages at most, rounded up: of 6 two, though they are three times 2
fourth-at_most : more_in_turn 6 2 ≡ 1
fourth-at_most = refl

-- the unit is the size of the least group
unit-least : unit_for 4 12 ≡ 4
unit-least = refl

-- and at least a sixteenth of the greatest: beside one page, 160 pages give ten in a turn
unit-sixteenth : unit_for 1 160 ≡ 10
unit-sixteenth = refl

-- ---- a page of each: at a limit, and by our own placement

charge-large : Gives (sized Linux 12 4) OnePage 1 (order 12 4 no_cursor) 2 (one_page_of 2)
unfolding chain_up chain under_at chain_below effective_along preorder_to
charge-large = (refl, refl)

charge-small : Gives (sized Linux 11 4) OnePage 1 (order 11 4 (one_page_of 2)) 3 (one_page_of 3)
unfolding chain_up chain under_at chain_below effective_along preorder_to
charge-small = (refl, refl)

charge-again : Gives (sized Linux 11 3) OnePage 1 (order 11 3 (one_page_of 3)) 2 (one_page_of 2)
unfolding chain_up chain under_at chain_below effective_along preorder_to
charge-again = (refl, refl)

own-large : Gives (sized Own 12 4) Amount 1 (order 12 4 no_cursor) 2 (one_page_of 2)
unfolding chain_up chain under_at chain_below effective_along preorder_to
own-large = (refl, refl)

own-small : Gives (sized Own 11 4) Amount 1 (order 11 4 (one_page_of 2)) 3 (one_page_of 3)
unfolding chain_up chain under_at chain_below effective_along preorder_to
own-small = (refl, refl)

own-again : Gives (sized Own 11 3) Amount 1 (order 11 3 (one_page_of 3)) 2 (one_page_of 2)
unfolding chain_up chain under_at chain_below effective_along preorder_to
own-again = (refl, refl)

-- a charge ends the turn that an amount began: it takes its page of the next group
charge-ends_turn : Gives (sized Linux 11 4) OnePage 1 (order 11 4 (turn 2 2 4)) 3 (one_page_of 3)
unfolding chain_up chain under_at chain_below effective_along preorder_to
charge-ends_turn = (refl, refl)

-- and an amount that comes after a charge begins a round of its own, behind the group that gave the page
amount-after_charge : Gives (sized Linux 11 4) Amount 1 (order 11 4 (one_page_of 2)) 3 (turn 3 0 4)
unfolding chain_up chain under_at chain_below effective_along preorder_to
amount-after_charge = (refl, refl)

-- ---- a group with no page to give

-- /p/a and /p/b have these limits
abbrev guarded : Limits → Limits → State
guarded a_is b_is = record (sized Linux 12 4) { limits = no_limits ∷ no_limits ∷ a_is ∷ b_is ∷ no_limits ∷ no_limits ∷ [] }

-- two pages are left of the turn of /p/a, whose min protects it now: its turn ends, and /p/b is served
protected-ends_turn : Gives (guarded (min_of 12) no_limits) Amount 1 (order 12 4 (turn 2 2 4)) 3 (turn 3 0 4)
unfolding chain_up chain under_at chain_below effective_along preorder_to
protected-ends_turn = (refl, refl)

-- so it is where it has no page at all
empty-ends_turn : Gives (with_pages Linux (pages_of 3 0 4)) Amount 1 (order 0 4 (turn 2 2 4)) 3 (turn 3 0 4)
unfolding chain_up chain under_at chain_below effective_along preorder_to
empty-ends_turn = (refl, refl)

-- a protected group is not the least: where /p/b has no page to give, /p/a gives one in each turn
protected-not_least : Gives (guarded no_limits (min_of 4)) Amount 1 (order 12 4 no_cursor) 2 (turn 2 0 12)
unfolding chain_up chain under_at chain_below effective_along preorder_to
protected-not_least = (refl, refl)

-- ---- a group with pages of its own and groups below it

-- /p has one of its own beside them. Its size is 17: it would give four in its turn
abbrev of_parent : State
of_parent = with_pages Linux (pages_of 2 0 12 ++ pages_of 3 12 4 ++ pages_of 1 16 1)

parent-first : Gives of_parent Amount 1 (order 12 4 no_cursor) 1 (turn 1 3 4)
unfolding chain_up chain under_at chain_below effective_along preorder_to
parent-first = (refl, refl)

-- with that page its turn ends, and in the same round /p/a gives three
parent-ends : Gives (sized Linux 12 4) Amount 1 (order 12 4 (turn 1 3 4)) 2 (turn 2 2 4)
unfolding chain_up chain under_at chain_below effective_along preorder_to
parent-ends = (refl, refl)

-- ---- a removed group

-- two pages are left of the turn of /q, which was removed: nobody is asked before the round
removed-asks : asking_order true tree 0 (turn 4 2 7) ≡ 0 ∷ 1 ∷ 2 ∷ 3 ∷ 5 ∷ []
unfolding chain_up chain under_at preorder_to
removed-asks = refl

-- that of a group that is there would go on
live-asks : asking_order true tree 0 (turn 3 2 7) ≡ 3 ∷ 5 ∷ 0 ∷ 1 ∷ 2 ∷ 3 ∷ []
unfolding chain_up chain under_at preorder_to
live-asks = refl

-- but not where a page of each is taken
live-asks_charge : asking_order false tree 0 (turn 3 2 7) ≡ 5 ∷ 0 ∷ 1 ∷ 2 ∷ 3 ∷ []
unfolding chain_up chain under_at preorder_to
live-asks_charge = refl

-- so a new round begins at the root
removed-begins : Gives (sized Linux 12 4) Amount 0 (turned 12 4 (turn 4 2 7) no_cursor) 2 (turn 2 2 4)
unfolding chain_up chain under_at chain_below effective_along preorder_to
removed-begins = (refl, refl)

-- ---- each target by itself

-- while it is the turn of /p/b for /p, that of /p/a for the root goes on
root-by_itself : Gives (sized Linux 12 4) Amount 0 (turned 12 4 (turn 2 1 4) (turn 3 0 4)) 2 (turn 2 0 4)
unfolding chain_up chain under_at chain_below effective_along preorder_to
root-by_itself = (refl, refl)

-- ---- a whole page

-- /p/a gives page 0, the first of its oldest, and nothing ages
abbrev looked : Seen
looked = record { gens = record { max_seq = 3; anon = record { min_seq = 2; pages = [] }; file = record { min_seq = 0; pages = listed_from 0 10 } }; marks = replicate 20 false }

picks : Picks true (seen_of (order 10 4 (turn 2 1 4)).held 2) (Some 0) looked
picks = record { times = 0; none_before = λ n less. absurd (omega (arith, less)); first = listed_at 0 0; others = listed_from 1 9; old = refl; answers = refl; leaves = refl }

abbrev taken : State
taken = with_pages Linux (None ∷ pages_of 2 1 9 ++ pages_of 3 10 4)

abbrev taken_order : Order
taken_order =
    record {
      held =
          record {
            groups = lists_of (record { max_seq = 3; anon = record { min_seq = 2; pages = [] }; file = record { min_seq = 0; pages = listed_from 1 9 } }) (file_of 10 4);
            marks = replicate 20 false;
            hits = [];
          };
      cursors = cursors no_cursor (turn 2 0 4);
    }

-- it is the last page of its turn
takes-last : TakesNext (sized Linux 10 4) (order 10 4 (turn 2 1 4)) Amount 1 taken taken_order
unfolding chain_up chain under_at chain_below effective_along preorder_to
takes-last = record {
  g = 2;
  next = refl;
  p = 0;
  looked = with_seen (order 10 4 (turn 2 1 4)).held 2 looked;
  picked = record { seen = looked; picks = picks; lists = refl };
  was = refl;
  taken = refl;
  leaves =
      record {
        fresh = None;
        which = which;
        groups = refl;
        size = refl;
        marks = λ p. stay_unmarked 20 (is_held_in (sized Linux 10 4).pages p) (is_held_in taken.pages p) p;
        counts = refl;
        hits = stay_unhit Youngest refl (sized Linux 10 4).pages taken.pages;
      };
  moves = refl;
}
  where
    which : (p : ℕ) → false ≡ is_fresh (sized Linux 10 4).pages taken.pages p
    which zero = refl
    which (suc p) = not_new (is_held_in (sized Linux 10 4).pages (suc p))

-- ---- what no turn does

-- whatever comes after the page that this group gives, whose turn it is then is settled
moved : (s : State) (order : Order) (goal : Goal) (target g : ℕ) → served s order goal target ≡ Some g → (new : State) (order' : Order) → TakesNext s order goal target new order'
    → order'.cursors ≡ slice_set order.cursors target (cursor_served s order goal target g)
moved s order goal target g turn new order' h = h.moves ∙ ap (λ (a : ℕ). slice_set order.cursors target (cursor_served s order goal target a)) (some_inj (sym h.next ∙ turn))

-- no page for /p leaves these cursors
abbrev NotLeft : State → Goal → Order → List Cursor → Type 0
NotLeft s goal before others = (new : State) (after : Order) → after.cursors ≡ others → TakesNext s before goal 1 new after → ⊥

-- since they say another number than those that it leaves
unlike_cursors : (s : State) (goal : Goal) (before : Order) (g : ℕ) (is others : List Cursor) → served s before goal 1 ≡ Some g → slice_set before.cursors 1 (cursor_served s before goal 1 g) ≡ is
    → (says : List Cursor → ℕ) → (says is ≡ says others → ⊥) → NotLeft s goal before others
unlike_cursors s goal before g is others turn moves says differs new after e h = differs (ap says (sym moves ∙ sym (moved s before goal 1 g turn new after h) ∙ e))

abbrev left_for : ℕ → List Cursor → ℕ
left_for target cs = (cursor_at cs target).left

abbrev served_for : ℕ → List Cursor → ℕ
served_for target cs = rank (cursor_at cs target).group

-- a turn ends: behind its last page none is left of it
turn-not_endless : NotLeft (sized Linux 10 4) Amount (order 10 4 (turn 2 1 4)) (cursors no_cursor (turn 2 1 4))
unfolding chain_up chain under_at chain_below effective_along preorder_to
turn-not_endless = unlike_cursors (sized Linux 10 4) Amount (order 10 4 (turn 2 1 4)) 2 (cursors no_cursor (turn 2 0 4)) _ refl refl (left_for 1) (λ e. omega (arith, e))

-- nor does it begin with each page: a turn that began with these 10 pages would have two more
turn-not_begun : NotLeft (sized Linux 10 4) Amount (order 10 4 (turn 2 1 4)) (cursors no_cursor (turn 2 2 4))
unfolding chain_up chain under_at chain_below effective_along preorder_to
turn-not_begun = unlike_cursors (sized Linux 10 4) Amount (order 10 4 (turn 2 1 4)) 2 (cursors no_cursor (turn 2 0 4)) _ refl refl (left_for 1) (λ e. omega (arith, e))

-- the cursor does not stay where another group is served
turn-not_stays : NotLeft (sized Linux 9 4) Amount (order 9 4 (turn 2 0 4)) (cursors no_cursor (turn 2 0 4))
unfolding chain_up chain under_at chain_below effective_along preorder_to
turn-not_stays = unlike_cursors (sized Linux 9 4) Amount (order 9 4 (turn 2 0 4)) 3 (cursors no_cursor (turn 3 0 4)) _ refl refl (served_for 1) (λ e. omega (arith, e))

-- at a limit no turn has more than a page
charge-not_parts : NotLeft (sized Linux 12 4) OnePage (order 12 4 no_cursor) (cursors no_cursor (turn 2 2 4))
unfolding chain_up chain under_at chain_below effective_along preorder_to
charge-not_parts = unlike_cursors (sized Linux 12 4) OnePage (order 12 4 no_cursor) 2 (cursors no_cursor (one_page_of 2)) _ refl refl (left_for 1) (λ e. omega (arith, e))

-- nor by our own placement
own-not_parts : NotLeft (sized Own 12 4) Amount (order 12 4 no_cursor) (cursors no_cursor (turn 2 2 4))
unfolding chain_up chain under_at chain_below effective_along preorder_to
own-not_parts = unlike_cursors (sized Own 12 4) Amount (order 12 4 no_cursor) 2 (cursors no_cursor (one_page_of 2)) _ refl refl (left_for 1) (λ e. omega (arith, e))

-- no page for /p moves the cursor of the root
turn-not_shared : NotLeft (sized Linux 12 4) Amount (order 12 4 no_cursor) (cursors (turn 2 2 4) (turn 2 2 4))
unfolding chain_up chain under_at chain_below effective_along preorder_to
turn-not_shared = unlike_cursors (sized Linux 12 4) Amount (order 12 4 no_cursor) 2 (cursors no_cursor (turn 2 2 4)) _ refl refl (served_for 0) (λ e. omega (arith, e))

-- a new round does not go by the least size of the one before: 9 pages beside 4 would give two in a turn
round-not_outlived : NotLeft (sized Linux 9 3) Amount (order 9 3 (turn 3 0 4)) (cursors no_cursor (turn 2 1 4))
unfolding chain_up chain under_at chain_below effective_along preorder_to
round-not_outlived = unlike_cursors (sized Linux 9 3) Amount (order 9 3 (turn 3 0 4)) 2 (cursors no_cursor (turn 2 2 3)) _ refl refl (left_for 1) (λ e. omega (arith, e))

-- nor does a group go by the sizes of now that is asked later in the round: 8 pages beside 4 would give two in a turn
round-not_begun : NotLeft (sized Linux 4 8) Amount (order 4 8 (turn 2 0 8)) (cursors no_cursor (turn 3 1 4))
unfolding chain_up chain under_at chain_below effective_along preorder_to
round-not_begun = unlike_cursors (sized Linux 4 8) Amount (order 4 8 (turn 2 0 8)) 3 (cursors no_cursor (turn 3 0 8)) _ refl refl (left_for 1) (λ e. omega (arith, e))
