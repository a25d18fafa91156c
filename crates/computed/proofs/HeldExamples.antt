-- Examples: how the lists of the held pages go on where pages come and go. What does not come of an event is shown not to.
use Rattle.std.proofs.Common.{◌≡◌, ℕ, zero, suc, ◌&&◌, ◌++◌, Bool, true, false, List, [], ◌∷◌, length, Option, Some, None, refl, ap, ◌∙◌, arith}
use Rattle.std.specs.Prelude.{codes, slice_index_or}
use Rattle.machine.specs.declared.config.Placement.TheVariants.{Own, Linux}
use Rattle.machine.specs.declared.event.Op.TheVariants.{Write}
use Rattle.machine.specs.declared.event.Place.TheVariants.{Virtual}
use Rattle.machine.specs.declared.event.Event.{Event}
use Rattle.machine.specs.declared.event.Event.TheVariants as event
use Rattle.machine.specs.declared.record.Kind.TheVariants.{Anon, File}
use Rattle.machine.specs.declared.record.Life.TheVariants.{Live, Exited}
use Rattle.machine.specs.declared.record.OomGroup.TheVariants.{Single}
use Rattle.machine.specs.declared.reply.Reply.{Reply}
use Rattle.machine.specs.declared.reply.Reply.TheVariants as reply
use Rattle.machine.specs.Pages.{Held, Coming, Going, Away, Page, Pages, is_held_in, is_number}
use Rattle.machine.specs.Tasks.{task_of}
use Rattle.machine.specs.State.{State}
use Rattle.machine.specs.Tree.{rank}
use Rattle.machine.specs.Step.{new_node}
use Rattle.machine.specs.Counts.{no_limits, no_counts}
use Rattle.machine.specs.Order.{no_cursor, cursor_at}
use Rattle.machine.specs.Generations.{Listed, Gens, new_gens, gens_at}
use Rattle.machine.specs.Aging.{is_marked}
use Rattle.machine.specs.Lists.{HeldLists, Order, Youngest, SecondYoungest, ByType, second_oldest, seq_in, generation_for, is_fresh, GoesOn, Orders}
use Rattle.legal.proofs.OrdersLemmas.{goes_on_alike, orders_alike}
use Rattle.computed.proofs.ExampleStates.{task, ticket, memory, of_file, pages, busy, listed_at, young, searched, lists_of, ordered, none_served, stuck}
use Rattle.computed.proofs.CallExamples.{not_new, other_number, none_marked, stay_unmarked, stay_unhit}

-- ---- what an order says

-- the page of memory at a place of a group's row
abbrev standing : ℕ → ℕ → HeldLists → Listed
standing g k held = slice_index_or (gens_at held.groups g).anon.pages k (listed_at 99 99)

-- its number, and that of its generation
abbrev pub page_standing : ℕ → ℕ → HeldLists → ℕ
page_standing g k held = (standing g k held).page

abbrev seq_standing : ℕ → ℕ → HeldLists → ℕ
seq_standing g k held = (standing g k held).seq

abbrev pub youngest : ℕ → HeldLists → ℕ
youngest g held = (gens_at held.groups g).max_seq

abbrev pub marked : ℕ → HeldLists → Bool
marked p held = is_marked held.marks p

-- what comes of an event says this, and so nothing that says another thing comes of it
module _ (old new : State) (order order' other : Order) (what : Event) (answer : Reply) (is : Orders old order what answer new order') where
  pub unlike_number : (says : HeldLists → ℕ) → (says order'.held ≡ says other.held → ⊥) → Orders old order what answer new other → ⊥
  unlike_number says differs h = differs (ap (λ (o : Order). says o.held) (orders_alike old new order order' other what answer is h))

  pub unlike_mark : (p : ℕ) → (marked p order'.held ≡ marked p other.held → ⊥) → Orders old order what answer new other → ⊥
  unlike_mark p differs h = differs (ap (λ (o : Order). marked p o.held) (orders_alike old new order order' other what answer is h))

  pub unlike_cursor : (target : ℕ) → (rank (cursor_at order'.cursors target).group ≡ rank (cursor_at other.cursors target).group → ⊥) → Orders old order what answer new other → ⊥
  unlike_cursor target differs h = differs (ap (λ (o : Order). rank (cursor_at o.cursors target).group) (orders_alike old new order order' other what answer is h))

pub set_is_not_clear : true ≡ false → ⊥
set_is_not_clear e = cc

pub clear_is_not_set : false ≡ true → ⊥
clear_is_not_set e = cc

-- ten page numbers, of which the first two are marked so
abbrev pub marks_of : Bool → Bool → List Bool
marks_of zero_is one_is = zero_is ∷ one_is ∷ false ∷ false ∷ false ∷ false ∷ false ∷ false ∷ false ∷ false ∷ []

-- they go on so where pages 0 and 1 stay
pub two_stay : (zero_is one_is : Bool) (after : Pages) → is_held_in after 0 ≡ true → is_held_in after 1 ≡ true → (p : ℕ)
    → is_marked (marks_of zero_is one_is) p ≡ (is_held_in pages p && is_held_in after p && is_marked (marks_of zero_is one_is) p)
two_stay zero_is one_is after first second zero = rw first refl
two_stay zero_is one_is after first second (suc zero) = rw second refl
two_stay zero_is one_is after first second (suc (suc p)) = stay_unmarked 8 (is_held_in pages (suc (suc p))) (is_held_in after (suc (suc p))) p

-- of groups 2 and 3 these lists, and page 1 marked
abbrev pub one_marked : Gens → Gens → Order
one_marked two three = record { held = record { groups = lists_of two three; marks = marks_of false true; hits = [] }; cursors = none_served }

-- /p/a has page 1 in an old generation, and page 0 in the youngest
abbrev pub aged_lists : Gens
aged_lists = searched 5 3 (listed_at 1 3 ∷ listed_at 0 5 ∷ [])

abbrev pub before : Order
before = one_marked aged_lists new_gens

-- the busy state, but for its pages 2 and 3, and its last ones
abbrev with_pages : Page → Page → List (Option Page) → State
with_pages two three others = record busy { pages = Some (memory 2 (Held 4)) ∷ Some (memory 2 (Held 5)) ∷ Some two ∷ Some three ∷ others }

abbrev two_comes : Page
two_comes = memory 2 (Coming 0 1 7)

abbrev three_goes : Page
three_goes = memory 3 (Going 1 2 8)

abbrev four : Option Page
four = Some (memory 3 (Away 3))

-- ---- a page that is made

abbrev pub write : Event
write = event.Access (task 1) (Virtual 9 0) (Write 7)

-- page 5 of /p/a, in frame 2
abbrev made : State
made = with_pages two_comes three_goes (four ∷ Some (memory 2 (Held 2)) ∷ [])

-- it enters the youngest generation, behind page 0
abbrev made_order : Order
made_order = one_marked (searched 5 3 (listed_at 1 3 ∷ listed_at 0 5 ∷ listed_at 5 5 ∷ [])) new_gens

makes : Orders busy before write (reply.Done 7 None) made made_order
makes = (record { fresh = Some 5; which = which; groups = refl; size = refl; marks = two_stay false true made.pages refl refl; counts = refl; hits = stay_unhit Youngest refl busy.pages made.pages }, refl)
  where
    which : (p : ℕ) → is_number (Some 5) p ≡ is_fresh pages made.pages p
    which zero = refl
    which (suc zero) = refl
    which (suc (suc zero)) = refl
    which (suc (suc (suc zero))) = refl
    which (suc (suc (suc (suc zero)))) = refl
    which (suc (suc (suc (suc (suc zero))))) = refl
    which (suc (suc (suc (suc (suc (suc p)))))) = other_number 5 (suc (suc (suc (suc (suc (suc p)))))) (omega arith)

abbrev NotMade : Order → Type 0
NotMade other = Orders busy before write (reply.Done 7 None) made other → ⊥

-- not before page 0, which was there
makes-not_before : NotMade (one_marked (searched 5 3 (listed_at 1 3 ∷ listed_at 5 5 ∷ listed_at 0 5 ∷ [])) new_gens)
makes-not_before = unlike_number busy made before made_order _ write (reply.Done 7 None) makes (page_standing 2 1) (λ e. omega (arith, e))

-- not the second youngest
makes-not_second : NotMade (one_marked (searched 5 3 (listed_at 1 3 ∷ listed_at 5 4 ∷ listed_at 0 5 ∷ [])) new_gens)
makes-not_second = unlike_number busy made before made_order _ write (reply.Done 7 None) makes (page_standing 2 1) (λ e. omega (arith, e))

-- that it was made is no use of it
makes-not_marked : NotMade (record made_order { held = record { groups = made_order.held.groups; marks = false ∷ true ∷ false ∷ false ∷ false ∷ true ∷ false ∷ false ∷ false ∷ false ∷ []; hits = [] } })
makes-not_marked = unlike_mark busy made before made_order _ write (reply.Done 7 None) makes 5 clear_is_not_set

-- and the mark of another page stays
makes-not_cleared : NotMade (ordered (searched 5 3 (listed_at 1 3 ∷ listed_at 0 5 ∷ listed_at 5 5 ∷ [])) new_gens)
makes-not_cleared = unlike_mark busy made before made_order _ write (reply.Done 7 None) makes 1 set_is_not_clear

-- ---- a page that is read in

abbrev pub arrival : Event
arrival = event.Arrived (ticket 7) []

abbrev arrived : State
arrived = with_pages (memory 2 (Held 0)) three_goes (four ∷ [])

-- it enters the second youngest generation
abbrev arrived_order : Order
arrived_order = one_marked (searched 5 3 (listed_at 1 3 ∷ listed_at 2 4 ∷ listed_at 0 5 ∷ [])) new_gens

-- page 2 is held from now on
two_is_fresh : (p : ℕ) → is_number (Some 2) p ≡ is_fresh pages arrived.pages p
two_is_fresh zero = refl
two_is_fresh (suc zero) = refl
two_is_fresh (suc (suc zero)) = refl
two_is_fresh (suc (suc (suc p))) = other_number 2 (suc (suc (suc p))) (omega arith) ∙ not_new (is_held_in pages (suc (suc (suc p))))

arrives : Orders busy before arrival reply.Ok arrived arrived_order
arrives = (record { fresh = Some 2; which = two_is_fresh; groups = refl; size = refl; marks = two_stay false true arrived.pages refl refl; counts = refl; hits = stay_unhit SecondYoungest refl busy.pages arrived.pages }, refl)

-- not the youngest, of those that were made
arrives-not_youngest : Orders busy before arrival reply.Ok arrived (one_marked (searched 5 3 (listed_at 1 3 ∷ listed_at 0 5 ∷ listed_at 2 5 ∷ [])) new_gens) → ⊥
arrives-not_youngest = unlike_number busy arrived before arrived_order _ arrival reply.Ok arrives (page_standing 2 1) (λ e. omega (arith, e))

-- a read-in that failed brings no page
abbrev not_arrived : State
not_arrived = with_pages (memory 2 (Away 1)) three_goes (four ∷ [])

fails : Orders busy before (event.FetchFailed (ticket 7)) reply.Ok not_arrived before
fails = (record { fresh = None; which = which; groups = refl; size = refl; marks = two_stay false true not_arrived.pages refl refl; counts = refl; hits = stay_unhit SecondYoungest refl busy.pages not_arrived.pages }, refl)
  where
    which : (p : ℕ) → false ≡ is_fresh pages not_arrived.pages p
    which zero = refl
    which (suc zero) = refl
    which (suc (suc zero)) = refl
    which (suc (suc (suc p))) = not_new (is_held_in pages (suc (suc (suc p))))

-- a file's page enters the row of files, and those of memory stay as they are
abbrev file_comes : Pages
file_comes = (with_pages (of_file 2 false (Coming 0 1 7)) three_goes (four ∷ [])).pages

abbrev file_came : Pages
file_came = (with_pages (of_file 2 false (Held 0)) three_goes (four ∷ [])).pages

abbrev file_order : Order
file_order = one_marked (record aged_lists { file = record { min_seq = 4; pages = listed_at 2 4 ∷ [] } }) new_gens

arrives-file : GoesOn SecondYoungest file_comes before.held file_came file_order.held
arrives-file = record { fresh = Some 2; which = which; groups = refl; size = refl; marks = marks; counts = refl; hits = stay_unhit SecondYoungest refl file_comes file_came }
  where
    which : (p : ℕ) → is_number (Some 2) p ≡ is_fresh file_comes file_came p
    which zero = refl
    which (suc zero) = refl
    which (suc (suc zero)) = refl
    which (suc (suc (suc p))) = other_number 2 (suc (suc (suc p))) (omega arith) ∙ not_new (is_held_in pages (suc (suc (suc p))))

    marks : (p : ℕ) → is_marked (marks_of false true) p ≡ (is_held_in file_comes p && is_held_in file_came p && is_marked (marks_of false true) p)
    marks zero = refl
    marks (suc zero) = refl
    marks (suc (suc p)) = stay_unmarked 8 (is_held_in file_comes (suc (suc p))) (is_held_in file_came (suc (suc p))) p

-- ---- where what was read in enters

-- by type memory enters the youngest generation, and a page of a file the second oldest of four
by_type-memory : seq_in ByType Anon new_gens ≡ 3
by_type-memory = refl

by_type-file : seq_in ByType File new_gens ≡ 1
by_type-file = refl

-- of three or two the oldest
by_type-three : second_oldest 3 1 ≡ 1
by_type-three = refl

by_type-two : second_oldest 5 4 ≡ 4
by_type-two = refl

placed-own : generation_for Own (event.Arrived (ticket 7) []) ≡ SecondYoungest
placed-own = refl

placed-linux : generation_for Linux (event.Arrived (ticket 7) []) ≡ ByType
placed-linux = refl

-- what could not be written out, and what is made, enters the youngest by either
failed-linux : generation_for Linux (event.LeaveFailed (ticket 8)) ≡ Youngest
failed-linux = refl

made-linux : generation_for Linux (event.Access (task 1) (Virtual 0 0) (Write 7)) ≡ Youngest
made-linux = refl

-- ---- a page that is written out

abbrev still_held : State
still_held = with_pages two_comes (memory 3 (Held 1)) (four ∷ [])

-- where the write-out failed it enters the youngest generation of its group
abbrev failed_order : Order
failed_order = one_marked aged_lists (young (listed_at 3 3 ∷ []))

returns : Orders busy before (event.LeaveFailed (ticket 8)) reply.Ok still_held failed_order
returns = (record { fresh = Some 3; which = which; groups = refl; size = refl; marks = two_stay false true still_held.pages refl refl; counts = refl; hits = stay_unhit Youngest refl busy.pages still_held.pages }, refl)
  where
    which : (p : ℕ) → is_number (Some 3) p ≡ is_fresh pages still_held.pages p
    which zero = refl
    which (suc zero) = refl
    which (suc (suc zero)) = refl
    which (suc (suc (suc zero))) = refl
    which (suc (suc (suc (suc p)))) = other_number 3 (suc (suc (suc (suc p)))) (omega arith) ∙ not_new (is_held_in pages (suc (suc (suc (suc p)))))

-- not the second youngest, of those that were read in
returns-not_second : Orders busy before (event.LeaveFailed (ticket 8)) reply.Ok still_held (one_marked aged_lists (young (listed_at 3 2 ∷ []))) → ⊥
returns-not_second = unlike_number busy still_held before failed_order _ (event.LeaveFailed (ticket 8)) reply.Ok returns (seq_standing 3 0) (λ e. omega (arith, e))

-- where it was written out, it was on no list any more, and nothing changes
abbrev gone : State
gone = with_pages two_comes (memory 3 (Away 2)) (four ∷ [])

leaves : Orders busy before (event.Left (ticket 8)) reply.Ok gone before
leaves = (record { fresh = None; which = which; groups = refl; size = refl; marks = two_stay false true gone.pages refl refl; counts = refl; hits = stay_unhit Youngest refl busy.pages gone.pages }, refl)
  where
    which : (p : ℕ) → false ≡ is_fresh pages gone.pages p
    which zero = refl
    which (suc zero) = refl
    which (suc (suc zero)) = refl
    which (suc (suc (suc zero))) = refl
    which (suc (suc (suc (suc p)))) = not_new (is_held_in pages (suc (suc (suc (suc p)))))

-- ---- pages that leave

-- of three pages, 1, 0 and 5, the middle one is held no more
abbrev two_left : Pages
two_left = None ∷ Some (memory 2 (Held 5)) ∷ Some two_comes ∷ Some three_goes ∷ four ∷ Some (memory 2 (Held 2)) ∷ []

abbrev without_zero : HeldLists
without_zero = (one_marked (searched 5 3 (listed_at 1 3 ∷ listed_at 5 5 ∷ [])) new_gens).held

-- the others keep their places, and page 1 its mark
goes : GoesOn Youngest made.pages made_order.held two_left without_zero
goes = record { fresh = None; which = which; groups = refl; size = refl; marks = marks; counts = refl; hits = stay_unhit Youngest refl made.pages two_left }
  where
    which : (p : ℕ) → false ≡ is_fresh made.pages two_left p
    which zero = refl
    which (suc p) = not_new (is_held_in two_left (suc p))

    marks : (p : ℕ) → is_marked (marks_of false true) p ≡ (is_held_in made.pages p && is_held_in two_left p && is_marked (marks_of false true) p)
    marks zero = refl
    marks (suc zero) = refl
    marks (suc (suc p)) = stay_unmarked 8 (is_held_in made.pages (suc (suc p))) (is_held_in two_left (suc (suc p))) p

-- no other page changes its place
goes-not_moved : GoesOn Youngest made.pages made_order.held two_left (one_marked (searched 5 3 (listed_at 5 5 ∷ listed_at 1 5 ∷ [])) new_gens).held → ⊥
goes-not_moved h = let e : 1 ≡ 5 = ap (page_standing 2 0) (goes_on_alike _ _ _ _ _ _ goes h) in absurd (omega (arith, e))

-- task 1 of /p/a shows page 0, and task 2 of /p/b pages 1 and 2. Pages 0 and 2 are marked
abbrev two_run : Order
two_run = record { held = record { groups = lists_of (young (listed_at 0 3 ∷ [])) (young (listed_at 1 3 ∷ listed_at 2 3 ∷ [])); marks = true ∷ false ∷ true ∷ false ∷ false ∷ false ∷ []; hits = [] }; cursors = none_served }

-- task 2 exits, and both its pages go
abbrev one_runs : State
one_runs = record stuck { pages = Some (memory 2 (Held 0)) ∷ []; tasks = None ∷ Some (task_of 2 Live) ∷ Some (task_of 3 Exited) ∷ []; page_tables = [] ∷ (Some (record { 0 = 0 }) ∷ []) ∷ [] ∷ [] }

-- with them goes the mark of page 2
abbrev one_order : Order
one_order = record { held = record { groups = lists_of (young (listed_at 0 3 ∷ [])) new_gens; marks = true ∷ false ∷ false ∷ false ∷ false ∷ false ∷ []; hits = [] }; cursors = none_served }

ends : Orders stuck two_run (event.Exit (task 2)) reply.Ok one_runs one_order
ends = (record { fresh = None; which = which; groups = refl; size = refl; marks = marks; counts = refl; hits = stay_unhit Youngest refl stuck.pages one_runs.pages }, refl)
  where
    which : (p : ℕ) → false ≡ is_fresh stuck.pages one_runs.pages p
    which zero = refl
    which (suc p) = refl

    marks : (p : ℕ) → is_marked one_order.held.marks p ≡ (is_held_in stuck.pages p && is_held_in one_runs.pages p && is_marked two_run.held.marks p)
    marks zero = refl
    marks (suc zero) = refl
    marks (suc (suc zero)) = refl
    marks (suc (suc (suc p))) = none_marked 3 p

-- no page leaves its mark behind
ends-not_left : Orders stuck two_run (event.Exit (task 2)) reply.Ok one_runs (record one_order { held = record { groups = one_order.held.groups; marks = two_run.held.marks; hits = [] } }) → ⊥
ends-not_left = unlike_mark stuck one_runs two_run one_order _ (event.Exit (task 2)) reply.Ok ends 2 clear_is_not_set

-- ---- a page number that is used again

-- task 1 has a new page of /p/a, whose number is 2
abbrev again : State
again = record one_runs { pages = Some (memory 2 (Held 0)) ∷ None ∷ Some (memory 2 (Held 1)) ∷ [] }

abbrev again_order : Order
again_order = record { held = record { groups = lists_of (young (listed_at 0 3 ∷ listed_at 2 3 ∷ [])) new_gens; marks = true ∷ false ∷ false ∷ false ∷ false ∷ false ∷ []; hits = [] }; cursors = none_served }

-- though a page of that number had been marked, this one is not
uses_again : Orders one_runs one_order write (reply.Done 7 None) again again_order
uses_again = (record { fresh = Some 2; which = which; groups = refl; size = refl; marks = marks; counts = refl; hits = stay_unhit Youngest refl one_runs.pages again.pages }, refl)
  where
    which : (p : ℕ) → is_number (Some 2) p ≡ is_fresh one_runs.pages again.pages p
    which zero = refl
    which (suc zero) = refl
    which (suc (suc zero)) = refl
    which (suc (suc (suc p))) = other_number 2 (suc (suc (suc p))) (omega arith)

    marks : (p : ℕ) → is_marked again_order.held.marks p ≡ (is_held_in one_runs.pages p && is_held_in again.pages p && is_marked one_order.held.marks p)
    marks zero = refl
    marks (suc p) = none_marked 5 p

-- not even where a mark had been left behind
abbrev left_behind : Order
left_behind = record one_order { held = record { groups = one_order.held.groups; marks = true ∷ false ∷ true ∷ false ∷ false ∷ false ∷ []; hits = [] } }

uses_again-unmarked : Orders one_runs left_behind write (reply.Done 7 None) again again_order
uses_again-unmarked = (record { fresh = uses_again.0.fresh; which = uses_again.0.which; groups = uses_again.0.groups; size = refl; marks = marks; counts = refl; hits = stay_unhit Youngest refl one_runs.pages again.pages }, refl)
  where
    marks : (p : ℕ) → is_marked again_order.held.marks p ≡ (is_held_in one_runs.pages p && is_held_in again.pages p && is_marked left_behind.held.marks p)
    marks zero = refl
    marks (suc p) = none_marked 5 p

uses_again-not_marked : (order order' : Order) → marked 2 order.held ≡ true → marked 2 order'.held ≡ true → Orders one_runs order write (reply.Done 7 None) again order' → ⊥
uses_again-not_marked order order' left stays h = let e : marked 2 order'.held ≡ false = h.0.marks 2 in cc

-- ---- a group more

abbrev mkdir : Event
mkdir = event.Mkdir (codes "/p/c")

abbrev with_six : State
with_six = record busy { tree = busy.tree ++ new_node busy.tree (codes "/p/c") ∷ []; limits = busy.limits ++ no_limits ∷ []; flags = busy.flags ++ Single ∷ []; counted = busy.counted ++ no_counts ∷ [] }

-- group 6 has four generations of each type, no page, and a cursor of its own
abbrev six_order : Order
six_order = record { held = record { groups = lists_of aged_lists new_gens ++ new_gens ∷ []; marks = marks_of false true; hits = [] }; cursors = none_served ++ no_cursor ∷ [] }

adds : Orders busy before mkdir reply.Ok with_six six_order
adds = refl

-- it is not without lists
adds-not_none : Orders busy before mkdir reply.Ok with_six (record six_order { held = before.held }) → ⊥
adds-not_none = unlike_number busy with_six before six_order _ mkdir reply.Ok adds (λ held. length held.groups) (λ e. omega (arith, e))
