-- An example of calls after which marked pages stay: of three pages the one that is taken is not the one whose use was merged, and so it is the next time.
use Rattle.std.proofs.Common.{◌≡◌, ◌≢◌, ℕ, zero, suc, ◌<◌, ◌==◌, ◌&&◌, ◌||◌, Bool, true, false, List, [], ◌∷◌, ◌++◌, length, Option, Some, None, refl, sym, ap, ◌∙◌, subst, arith}
use Rattle.std.specs.Prelude.{codes, option_map}
use Rattle.std.proofs.lemmas.Bool.{eqb-false}
use Rattle.machine.specs.declared.config.Placement.TheVariants.{Own}
use Rattle.machine.specs.declared.event.Goal.TheVariants.{OnePage}
use Rattle.machine.specs.declared.event.Cause.TheVariants as cause
use Rattle.machine.specs.declared.event.Op.TheVariants.{Read, Write}
use Rattle.machine.specs.declared.event.Place.TheVariants.{Virtual}
use Rattle.machine.specs.declared.event.Event.{Event}
use Rattle.machine.specs.declared.event.Event.TheVariants as event
use Rattle.machine.specs.declared.record.Life.TheVariants.{Live}
use Rattle.machine.specs.declared.reply.Reply.{Reply}
use Rattle.machine.specs.declared.reply.Reply.TheVariants as reply
use Rattle.machine.specs.Slots.{at, there_and}
use Rattle.machine.specs.Tree.{root, chain_up, chain, under_at, chain_below, preorder_to}
use Rattle.machine.specs.Pages.{Residence, Held, Going, Away, Page, Pages, page_at, is_held_in, is_number}
use Rattle.machine.specs.Counts.{no_limits, over_at, no_counts}
use Rattle.machine.specs.Tasks.{PageTable, number_of_page, task_of, mapped_at, Shows}
use Rattle.machine.specs.Protection.{effective_along}
use Rattle.machine.specs.State.{Opening, State}
use Rattle.machine.specs.Generations.{Gens, new_gens}
use Rattle.machine.specs.Aging.{Seen, is_marked}
use Rattle.machine.specs.Eviction.{old_pages, passed_by, aged_times, Picks}
use Rattle.machine.specs.Lists.{Order, seen_of, with_seen, is_fresh, is_in_bits, Orders, is_marking, Youngest}
use Rattle.machine.specs.Call.{Past, Called}
use Rattle.machine.proofs.Values.{unlike}
use Rattle.legal.proofs.OrdersLemmas.{taken_is_picked, orders_alike}
use Rattle.computed.proofs.ExampleStates.{group, task, frame, ticket, shows, below, max_of, single, memory, listed_at, young, searched, by_turns}
use Rattle.computed.proofs.CallExamples.{caller, past, after, not_new, other_number, none_marked, stay_unmarked, stay_unhit, own_unhit}

-- ---- the states

-- 4 frames, and 4 swap blocks
abbrev small : Opening
small = record { frames = 4; swap = 4; files = []; watermarks = record { low = 0; high = 0 }; trace_limit = 40; recursive = false; placement = Own; page_size = 4096 }

-- task 1 of group 1, which has a max of 3, shows these pages
abbrev state : List (Option Page) → PageTable → State
state pages table = record {
  opening = small;
  tree = root ∷ below 0 (codes "/g") ∷ [];
  limits = no_limits ∷ max_of 3 ∷ [];
  flags = single 2;
  pages = pages;
  tasks = None ∷ Some (task_of 1 Live) ∷ [];
  page_tables = [] ∷ table ∷ [];
  counted = no_counts ∷ no_counts ∷ [];
}

abbrev stands : Residence → Option Page
stands residence = Some (memory 1 residence)

-- pages 0, 1 and 2 in frames 0, 1 and 2
abbrev none : State
none = state [] []

abbrev one : State
one = state (stands (Held 0) ∷ []) (shows 0 ∷ [])

abbrev two : State
two = state (stands (Held 0) ∷ stands (Held 1) ∷ []) (shows 0 ∷ shows 1 ∷ [])

abbrev three : State
three = state (stands (Held 0) ∷ stands (Held 1) ∷ stands (Held 2) ∷ []) (shows 0 ∷ shows 1 ∷ shows 2 ∷ [])

-- page 1 goes to block 0, and is there
abbrev with_one : Residence → State
with_one residence = state (stands (Held 0) ∷ stands residence ∷ stands (Held 2) ∷ []) (shows 0 ∷ shows 1 ∷ shows 2 ∷ [])

-- page 3 has its frame then
abbrev with_three : Residence → State
with_three residence = state (stands (Held 0) ∷ stands (Away 0) ∷ stands (Held 2) ∷ stands residence ∷ []) (shows 0 ∷ shows 1 ∷ shows 2 ∷ shows 3 ∷ [])

-- ---- the orders

-- eight page numbers, of which 0 and 2 are marked so
abbrev marks_of : Bool → Bool → List Bool
marks_of zero_is two_is = zero_is ∷ false ∷ two_is ∷ false ∷ false ∷ false ∷ false ∷ false ∷ []

abbrev order : Gens → Bool → Bool → Option ℕ → Order
order gens zero_is two_is served_last = record { held = record { groups = new_gens ∷ gens ∷ []; marks = marks_of zero_is two_is; hits = [] }; cursors = by_turns (None ∷ served_last ∷ []) }

-- ---- the history

abbrev write : ℕ → Event
write v = event.Access (task 1) (Virtual v 0) (Write 7)

abbrev read : ℕ → Event
read v = event.Access (task 1) (Virtual v 0) Read

abbrev written : Reply
written = reply.Done 7 None

abbrev hit : ℕ → Reply
hit f = reply.Done 7 (Some (frame f))

-- the pages that are held in the frames of these bits were used
abbrev merge : ℕ → Event
merge bits = event.MergeMarks 0 bits

-- room for one page more is wanted
abbrev relieve : Event
relieve = event.Relieve (cause.Charge (group 1))

-- three pages are written, one after another: they stand so in the youngest generation
abbrev opened : Past
opened = past none (order new_gens false false None)

abbrev wrote_0 : Past
wrote_0 = after opened (write 0) written one (order (young (listed_at 0 3 ∷ [])) false false None)

abbrev wrote_1 : Past
wrote_1 = after wrote_0 (write 1) written two (order (young (listed_at 0 3 ∷ listed_at 1 3 ∷ [])) false false None)

abbrev wrote_2 : Past
wrote_2 = after wrote_1 (write 2) written three (order (young (listed_at 0 3 ∷ listed_at 1 3 ∷ listed_at 2 3 ∷ [])) false false None)

-- page 0 is read, in frame 0
abbrev read_0 : Past
read_0 = after wrote_2 (read 0) (hit 0) three wrote_2.order

-- and is marked by the bit of that frame
abbrev merged_0 : Past
merged_0 = after read_0 (merge 1) reply.Ok three (order (young (listed_at 0 3 ∷ listed_at 1 3 ∷ listed_at 2 3 ∷ [])) true false None)

-- page 1 is taken. The first of two agings brought page 0 to generation 4, and took its mark
abbrev took_1 : Past
took_1 = after merged_0 relieve (reply.Out (ticket 5)) (with_one (Going 1 0 5)) (order (searched 5 3 (listed_at 2 3 ∷ listed_at 0 4 ∷ [])) false false (Some 1))

abbrev left_1 : Past
left_1 = after took_1 (event.Left (ticket 5)) reply.Ok (with_one (Away 0)) took_1.order

-- page 3 is written
abbrev wrote_3 : Past
wrote_3 = after left_1 (write 3) written (with_three (Held 1)) (order (searched 5 3 (listed_at 2 3 ∷ listed_at 0 4 ∷ listed_at 3 5 ∷ [])) false false (Some 1))

-- page 2 is read, in frame 2, and is marked by its bit
abbrev read_2 : Past
read_2 = after wrote_3 (read 2) (hit 2) (with_three (Held 1)) wrote_3.order

abbrev merged_2 : Past
merged_2 = after read_2 (merge 4) reply.Ok (with_three (Held 1)) (order (searched 5 3 (listed_at 2 3 ∷ listed_at 0 4 ∷ listed_at 3 5 ∷ [])) false true (Some 1))

-- page 0 is read again. The bits that are merged are of frames 0 and 2
abbrev read_0_again : Past
read_0_again = after merged_2 (read 0) (hit 0) (with_three (Held 1)) merged_2.order

abbrev merged_both : Past
merged_both = after read_0_again (merge 5) reply.Ok (with_three (Held 1)) (order (searched 5 3 (listed_at 2 3 ∷ listed_at 0 4 ∷ listed_at 3 5 ∷ [])) true true (Some 1))

-- page 3 is taken, the youngest of the three: page 2, which was old, went to the tail, and page 0 to the youngest generation of the first of two agings
abbrev took_3 : Past
took_3 = after merged_both relieve (reply.Out (ticket 6)) (with_three (Going 1 1 6)) (order (searched 7 5 (listed_at 2 5 ∷ listed_at 0 6 ∷ [])) false false (Some 1))

-- ---- each is a call

-- what stands elsewhere stays, where something is put at a list's end
at_others : {T : Type 0} (xs : List (Option T)) (x : Option T) (m : ℕ) → m ≢ length xs → at (xs ++ x ∷ []) m ≡ at xs m
at_others [] x zero other = absurd (other refl)
at_others [] x (suc m) other = refl
at_others (y ∷ ys) x zero other = refl
at_others (y ∷ ys) x (suc m) other = at_others ys x m (λ e. other (omega (arith, e)))

-- the next virtual page shows a page
shows_next : (table : PageTable) (p : ℕ) → Shows ([] ∷ table ∷ []) ([] ∷ (table ++ shows p ∷ []) ∷ []) 1 (length table) (Some p)
shows_next table p = record { changed = changed table; others = others }
  where
    changed : (table : PageTable) → mapped_at ([] ∷ (table ++ shows p ∷ []) ∷ []) 1 (length table) ≡ Some p
    changed [] = refl
    changed (y ∷ ys) = changed ys

    others : (u w : ℕ) → ((1 == u) && (length table == w)) ≡ false → mapped_at ([] ∷ (table ++ shows p ∷ []) ∷ []) u w ≡ mapped_at ([] ∷ table ∷ []) u w
    others zero w other = refl
    others (suc zero) w other = ap (option_map number_of_page) (at_others table (shows p) w (λ e. eqb-false (length table) w other (sym e)))
    others (suc (suc u)) w other = refl

writes-0 : Called opened caller (write 0) written wrote_0
unfolding chain_up chain under_at over_at
writes-0 = record {
  steps = record {
    page = 0;
    frame = 0;
    in_range = omega arith;
    slot_free = refl;
    frame_free = record { in_range = omega arith; unused = refl };
    placed = record { changed = refl; others = at_others [] (stands (Held 0)) };
    shown = shows_next [] 0;
    answers = refl;
    state = refl;
  };
  order = (record { fresh = Some 0; which = which; groups = refl; size = refl; marks = λ p. stay_unmarked 8 (is_held_in none.pages p) (is_held_in one.pages p) p; counts = refl; hits = stay_unhit Youngest refl none.pages one.pages }, refl);
  history = refl;
  passes = refl;
}
  where
    which : (p : ℕ) → is_number (Some 0) p ≡ is_fresh none.pages one.pages p
    which zero = refl
    which (suc p) = other_number 0 (suc p) (omega arith)

writes-1 : Called wrote_0 caller (write 1) written wrote_1
unfolding chain_up chain under_at over_at
writes-1 = record {
  steps = record {
    page = 1;
    frame = 1;
    in_range = omega arith;
    slot_free = refl;
    frame_free = record { in_range = omega arith; unused = refl };
    placed = record { changed = refl; others = at_others one.pages (stands (Held 1)) };
    shown = shows_next (shows 0 ∷ []) 1;
    answers = refl;
    state = refl;
  };
  order = (record { fresh = Some 1; which = which; groups = refl; size = refl; marks = λ p. stay_unmarked 8 (is_held_in one.pages p) (is_held_in two.pages p) p; counts = refl; hits = stay_unhit Youngest refl one.pages two.pages }, refl);
  history = refl;
  passes = refl;
}
  where
    which : (p : ℕ) → is_number (Some 1) p ≡ is_fresh one.pages two.pages p
    which zero = refl
    which (suc zero) = refl
    which (suc (suc p)) = other_number 1 (suc (suc p)) (omega arith)

writes-2 : Called wrote_1 caller (write 2) written wrote_2
unfolding chain_up chain under_at over_at
writes-2 = record {
  steps = record {
    page = 2;
    frame = 2;
    in_range = omega arith;
    slot_free = refl;
    frame_free = record { in_range = omega arith; unused = refl };
    placed = record { changed = refl; others = at_others two.pages (stands (Held 2)) };
    shown = shows_next (shows 0 ∷ shows 1 ∷ []) 2;
    answers = refl;
    state = refl;
  };
  order = (record { fresh = Some 2; which = which; groups = refl; size = refl; marks = λ p. stay_unmarked 8 (is_held_in two.pages p) (is_held_in three.pages p) p; counts = refl; hits = stay_unhit Youngest refl two.pages three.pages }, refl);
  history = refl;
  passes = refl;
}
  where
    which : (p : ℕ) → is_number (Some 2) p ≡ is_fresh two.pages three.pages p
    which zero = refl
    which (suc zero) = refl
    which (suc (suc zero)) = refl
    which (suc (suc (suc p))) = other_number 2 (suc (suc (suc p))) (omega arith)

both : (b c d : Bool) → (b && c) ≡ true → d ≡ (b && c && d)
both true true d so = refl
both true false d so = let e : false ≡ true = so in cc
both false c d so = let e : false ≡ true = so in cc

-- marks of pages 0 and 2 go on, where both pages are held before and after
two_stay : (zero_is two_is : Bool) (before after : Pages) → (is_held_in before 0 && is_held_in after 0) ≡ true → (is_held_in before 2 && is_held_in after 2) ≡ true → (p : ℕ)
    → is_marked (marks_of zero_is two_is) p ≡ (is_held_in before p && is_held_in after p && is_marked (marks_of zero_is two_is) p)
two_stay zero_is two_is before after first third zero = both (is_held_in before 0) (is_held_in after 0) zero_is first
two_stay zero_is two_is before after first third (suc zero) = stay_unmarked 1 (is_held_in before 1) (is_held_in after 1) 0
two_stay zero_is two_is before after first third (suc (suc zero)) = both (is_held_in before 2) (is_held_in after 2) two_is third
two_stay zero_is two_is before after first third (suc (suc (suc p))) = stay_unmarked 5 (is_held_in before (suc (suc (suc p)))) (is_held_in after (suc (suc (suc p)))) p

reads-0 : Called wrote_2 caller (read 0) (hit 0) read_0
reads-0 = record {
  steps = (refl, refl);
  order = (record { fresh = None; which = λ p. not_new (is_held_in three.pages p); groups = refl; size = refl; marks = two_stay false false three.pages three.pages refl refl; counts = refl; hits = stay_unhit Youngest refl three.pages three.pages }, refl);
  history = refl;
  passes = refl;
}

-- the read marks no page, whatever comes after
reads-not_marked : (new : Past) (p : ℕ) → is_marked new.order.held.marks p ≡ true → Called wrote_2 caller (read 0) (hit 0) new → ⊥
reads-not_marked new p is call = unlike _ is (ap (λ (o : Order). is_marked o.held.marks p) (sym same) ∙ none_marked 8 p)
  where
    same : wrote_2.order ≡ new.order
    same = sym (orders_alike three new.state wrote_2.order new.order wrote_2.order (read 0) (hit 0) call.order (subst (λ (s : State). Orders three wrote_2.order (read 0) (hit 0) s wrote_2.order) (sym call.steps.1) reads-0.order))

-- marks of pages 0 and 2 become others by these bits, where no other page is marked before or after
marks_by : (pages : Pages) (bits : ℕ) (zero_was two_was zero_is two_is : Bool) → zero_is ≡ (zero_was || is_marking Own (is_in_bits 0 bits) 0 (page_at pages 0)) → is_marking Own (is_in_bits 0 bits) 0 (page_at pages 1) ≡ false
    → two_is ≡ (two_was || is_marking Own (is_in_bits 0 bits) 0 (page_at pages 2)) → is_marking Own (is_in_bits 0 bits) 0 (page_at pages 3) ≡ false → ((p : ℕ) → page_at pages (suc (suc (suc (suc p)))) ≡ None) → (p : ℕ)
    → is_marked (marks_of zero_is two_is) p ≡ (is_marked (marks_of zero_was two_was) p || is_marking Own (is_in_bits 0 bits) 0 (page_at pages p))
marks_by pages bits zero_was two_was zero_is two_is at_0 at_1 at_2 at_3 no_more zero = at_0
marks_by pages bits zero_was two_was zero_is two_is at_0 at_1 at_2 at_3 no_more (suc zero) = sym at_1
marks_by pages bits zero_was two_was zero_is two_is at_0 at_1 at_2 at_3 no_more (suc (suc zero)) = at_2
marks_by pages bits zero_was two_was zero_is two_is at_0 at_1 at_2 at_3 no_more (suc (suc (suc zero))) = sym at_3
marks_by pages bits zero_was two_was zero_is two_is at_0 at_1 at_2 at_3 no_more (suc (suc (suc (suc p)))) = rw (none_marked 4 p) (rw (no_more p) refl)

-- the merge marks page 0
merges-0 : Called read_0 caller (merge 1) reply.Ok merged_0
merges-0 = record {
  steps = refl;
  order = (record { groups = refl; size = refl; marks = marks_by three.pages 1 false false true false refl refl refl refl (λ p. refl); counts = refl; hits = own_unhit (is_in_bits 0 1) read_0.order.held.marks three.pages }, refl);
  history = refl;
  passes = refl;
}

-- and leaves no entry
merges-no_entry : merged_0.history ≡ read_0.history
merges-no_entry = refl

-- ---- page 1 is taken

-- none of them is old before the second aging: pages 1 and 2 are then, and page 0 is of a younger generation
abbrev looked_1 : Seen
looked_1 = record { gens = searched 5 3 (listed_at 1 3 ∷ listed_at 2 3 ∷ listed_at 0 4 ∷ []); marks = marks_of false false }

picks-1 : Picks true (seen_of merged_0.order.held 1) (Some 1) looked_1
picks-1 = record { times = 2; none_before = too_early; first = listed_at 1 3; others = listed_at 2 3 ∷ []; old = refl; answers = refl; leaves = refl }
  where
    too_early : (n : ℕ) → n < 2 → old_pages true (aged_times n (passed_by true (seen_of merged_0.order.held 1))).gens ≡ []
    too_early zero less = refl
    too_early (suc zero) less = refl
    too_early (suc (suc n)) less = absurd (omega (arith, less))

-- page 1 alone changes
only_one : (residence residence' : Residence) (m : ℕ) → m ≢ 1 → at (with_one residence').pages m ≡ at (with_one residence).pages m
only_one residence residence' zero other = refl
only_one residence residence' (suc zero) other = absurd (other refl)
only_one residence residence' (suc (suc m)) other = refl

takes-1 : Called merged_0 caller relieve (reply.Out (ticket 5)) took_1
unfolding chain_up chain under_at chain_below effective_along preorder_to
takes-1 = record {
  steps = record {
    p = 1;
    page = memory 1 (Held 1);
    there = refl;
    next = refl;
    leaves = record {
      block = 0;
      block_free = record { in_range = omega arith; unused = refl };
      leave = record { ticket = 5; ticket_free = refl; placed = record { changed = refl; others = only_one (Held 1) (Going 1 0 5) }; answers = refl; state = refl };
    };
  };
  order = record {
    g = 1;
    next = refl;
    p = 1;
    looked = with_seen merged_0.order.held 1 looked_1;
    picked = record { seen = looked_1; picks = picks-1; lists = refl };
    was = refl;
    taken = refl;
    leaves = record { fresh = None; which = which; groups = refl; size = refl; marks = λ p. stay_unmarked 8 (is_held_in three.pages p) (is_held_in (with_one (Going 1 0 5)).pages p) p; counts = refl; hits = stay_unhit Youngest refl three.pages (with_one (Going 1 0 5)).pages };
    moves = refl;
  };
  history = refl;
  passes = refl;
}
  where
    which : (p : ℕ) → false ≡ is_fresh three.pages (with_one (Going 1 0 5)).pages p
    which zero = refl
    which (suc zero) = refl
    which (suc (suc p)) = not_new (is_held_in three.pages (suc (suc p)))

-- not page 0, which came first but is marked, and not page 2, which came later: page 1 leaves, whatever comes after
takes-not_marked : (new : Past) → is_held_in new.state.pages 1 ≡ true → Called merged_0 caller relieve (reply.Out (ticket 5)) new → ⊥
unfolding chain_up chain under_at chain_below effective_along preorder_to
takes-not_marked new stays call = unlike (is_held_in new.state.pages 1) stays (taken_is_picked three merged_0.order OnePage 1 1 1 looked_1 refl picks-1 new.state new.order call.order)

-- had the read not been merged, page 0 would have left, which came first
picks-not_merged : Picks true (seen_of read_0.order.held 1) (Some 0) (record { gens = searched 5 3 (listed_at 0 3 ∷ listed_at 1 3 ∷ listed_at 2 3 ∷ []); marks = marks_of false false })
picks-not_merged = record { times = 2; none_before = too_early; first = listed_at 0 3; others = listed_at 1 3 ∷ listed_at 2 3 ∷ []; old = refl; answers = refl; leaves = refl }
  where
    too_early : (n : ℕ) → n < 2 → old_pages true (aged_times n (passed_by true (seen_of read_0.order.held 1))).gens ≡ []
    too_early zero less = refl
    too_early (suc zero) less = refl
    too_early (suc (suc n)) less = absurd (omega (arith, less))

-- it is on its block
leaves-1 : Called took_1 caller (event.Left (ticket 5)) reply.Ok left_1
leaves-1 = record {
  steps = record {
    p = 1;
    page = memory 1 (Going 1 0 5);
    frame = 1;
    block = 0;
    there = refl;
    moves = refl;
    placed = record { changed = refl; others = only_one (Going 1 0 5) (Away 0) };
    answers = refl;
    state = refl;
  };
  order = (record { fresh = None; which = which; groups = refl; size = refl; marks = λ p. stay_unmarked 8 (is_held_in took_1.state.pages p) (is_held_in left_1.state.pages p) p; counts = refl; hits = stay_unhit Youngest refl took_1.state.pages left_1.state.pages }, refl);
  history = refl;
  passes = refl;
}
  where
    which : (p : ℕ) → false ≡ is_fresh took_1.state.pages left_1.state.pages p
    which zero = refl
    which (suc zero) = refl
    which (suc (suc p)) = not_new (is_held_in took_1.state.pages (suc (suc p)))

-- ---- page 3 is made

writes-3 : Called left_1 caller (write 3) written wrote_3
unfolding chain_up chain under_at over_at
writes-3 = record {
  steps = record {
    page = 3;
    frame = 1;
    in_range = omega arith;
    slot_free = refl;
    frame_free = record { in_range = omega arith; unused = refl };
    placed = record { changed = refl; others = at_others left_1.state.pages (stands (Held 1)) };
    shown = shows_next (shows 0 ∷ shows 1 ∷ shows 2 ∷ []) 3;
    answers = refl;
    state = refl;
  };
  order = (record { fresh = Some 3; which = which; groups = refl; size = refl; marks = λ p. stay_unmarked 8 (is_held_in left_1.state.pages p) (is_held_in wrote_3.state.pages p) p; counts = refl; hits = stay_unhit Youngest refl left_1.state.pages wrote_3.state.pages }, refl);
  history = refl;
  passes = refl;
}
  where
    which : (p : ℕ) → is_number (Some 3) p ≡ is_fresh left_1.state.pages wrote_3.state.pages p
    which zero = refl
    which (suc zero) = refl
    which (suc (suc zero)) = refl
    which (suc (suc (suc zero))) = refl
    which (suc (suc (suc (suc p)))) = other_number 3 (suc (suc (suc (suc p)))) (omega arith)

-- frame 1 is page 3's now: its bit never marks page 1, which had it before
marks-not_had : (new : Past) → is_marked new.order.held.marks 1 ≡ true → Called wrote_3 caller (merge 2) reply.Ok new → ⊥
marks-not_had new is call = unlike (is_marked new.order.held.marks 1) is (call.order.0.marks 1)

-- it marks page 3, whatever else comes of it
marks-has : (new : Past) → Called wrote_3 caller (merge 2) reply.Ok new → is_marked new.order.held.marks 3 ≡ true
marks-has new call = call.order.0.marks 3

-- page 2 is used
reads-2 : Called wrote_3 caller (read 2) (hit 2) read_2
reads-2 = record {
  steps = (refl, refl);
  order = (record { fresh = None; which = λ p. not_new (is_held_in wrote_3.state.pages p); groups = refl; size = refl; marks = two_stay false false wrote_3.state.pages wrote_3.state.pages refl refl; counts = refl; hits = stay_unhit Youngest refl wrote_3.state.pages wrote_3.state.pages }, refl);
  history = refl;
  passes = refl;
}

-- and marked
merges-2 : Called read_2 caller (merge 4) reply.Ok merged_2
merges-2 = record {
  steps = refl;
  order = (record { groups = refl; size = refl; marks = marks_by read_2.state.pages 4 false false false true refl refl refl refl (λ p. refl); counts = refl; hits = own_unhit (is_in_bits 0 4) read_2.order.held.marks read_2.state.pages }, refl);
  history = refl;
  passes = refl;
}

-- page 0 is used, and page 2 keeps its mark
reads-0_again : Called merged_2 caller (read 0) (hit 0) read_0_again
reads-0_again = record {
  steps = (refl, refl);
  order = (record { fresh = None; which = λ p. not_new (is_held_in merged_2.state.pages p); groups = refl; size = refl; marks = two_stay false true merged_2.state.pages merged_2.state.pages refl refl; counts = refl; hits = stay_unhit Youngest refl merged_2.state.pages merged_2.state.pages }, refl);
  history = refl;
  passes = refl;
}

-- both bits come: page 0 is marked as well
merges-both : Called read_0_again caller (merge 5) reply.Ok merged_both
merges-both = record {
  steps = refl;
  order = (record { groups = refl; size = refl; marks = marks_by read_0_again.state.pages 5 false true true true refl refl refl refl (λ p. refl); counts = refl; hits = own_unhit (is_in_bits 0 5) read_0_again.order.held.marks read_0_again.state.pages }, refl);
  history = refl;
  passes = refl;
}

-- ---- page 3 is taken

-- page 2 was old, and went to the tail for its mark. Page 3 was not, and no longer young after two agings
abbrev looked_3 : Seen
looked_3 = record { gens = searched 7 5 (listed_at 3 5 ∷ listed_at 2 5 ∷ listed_at 0 6 ∷ []); marks = marks_of false false }

picks-3 : Picks true (seen_of merged_both.order.held 1) (Some 3) looked_3
picks-3 = record { times = 2; none_before = too_early; first = listed_at 3 5; others = listed_at 2 5 ∷ []; old = refl; answers = refl; leaves = refl }
  where
    too_early : (n : ℕ) → n < 2 → old_pages true (aged_times n (passed_by true (seen_of merged_both.order.held 1))).gens ≡ []
    too_early zero less = refl
    too_early (suc zero) less = refl
    too_early (suc (suc n)) less = absurd (omega (arith, less))

takes-3 : Called merged_both caller relieve (reply.Out (ticket 6)) took_3
unfolding chain_up chain under_at chain_below effective_along preorder_to
takes-3 = record {
  steps = record {
    p = 3;
    page = memory 1 (Held 1);
    there = refl;
    next = refl;
    leaves = record {
      block = 1;
      block_free = record { in_range = omega arith; unused = refl };
      leave = record { ticket = 6; ticket_free = refl; placed = record { changed = refl; others = only_three }; answers = refl; state = refl };
    };
  };
  order = record {
    g = 1;
    next = refl;
    p = 3;
    looked = with_seen merged_both.order.held 1 looked_3;
    picked = record { seen = looked_3; picks = picks-3; lists = refl };
    was = refl;
    taken = refl;
    leaves = record { fresh = None; which = which; groups = refl; size = refl; marks = λ p. stay_unmarked 8 (is_held_in merged_both.state.pages p) (is_held_in took_3.state.pages p) p; counts = refl; hits = stay_unhit Youngest refl merged_both.state.pages took_3.state.pages };
    moves = refl;
  };
  history = refl;
  passes = refl;
}
  where
    only_three : (m : ℕ) → m ≢ 3 → at (with_three (Going 1 1 6)).pages m ≡ at (with_three (Held 1)).pages m
    only_three zero other = refl
    only_three (suc zero) other = refl
    only_three (suc (suc zero)) other = refl
    only_three (suc (suc (suc zero))) other = absurd (other refl)
    only_three (suc (suc (suc (suc m)))) other = refl

    which : (p : ℕ) → false ≡ is_fresh (with_three (Held 1)).pages (with_three (Going 1 1 6)).pages p
    which zero = refl
    which (suc zero) = refl
    which (suc (suc zero)) = refl
    which (suc (suc (suc zero))) = refl
    which (suc (suc (suc (suc p)))) = refl

-- neither page 2, though it is older, nor page 0: page 3 leaves, whatever comes after
takes-not_used : (new : Past) → is_held_in new.state.pages 3 ≡ true → Called merged_both caller relieve (reply.Out (ticket 6)) new → ⊥
unfolding chain_up chain under_at chain_below effective_along preorder_to
takes-not_used new stays call =
    unlike (is_held_in new.state.pages 3) stays (taken_is_picked merged_both.state merged_both.order OnePage 1 1 3 looked_3 refl picks-3 new.state new.order call.order)

-- had none been used since, page 2 would have left
picks-unused : Picks true (seen_of wrote_3.order.held 1) (Some 2) (record { gens = searched 5 3 (listed_at 2 3 ∷ listed_at 0 4 ∷ listed_at 3 5 ∷ []); marks = marks_of false false })
picks-unused = record { times = 0; none_before = λ n less. absurd (omega (arith, less)); first = listed_at 2 3; others = []; old = refl; answers = refl; leaves = refl }

-- ---- the history

-- of the thirteen calls the three merges left no entry
entries-all : length took_3.history ≡ 10
entries-all = refl
