-- Examples: marks that come by frame, which pages a merge of them marks, what marks none, and what changes no list. What does not come of an event is shown not to.
use Rattle.machine.specs.declared.config.Placement.TheVariants.{Own}
use Rattle.std.proofs.Common.{◌≡◌, ℕ, zero, suc, ◌+◌, ◌||◌, nat_le, true, false, Bool, List, [], ◌∷◌, ◌++◌, length, Some, None, refl, sym, ap, ◌∙◌, arith}
use Rattle.std.proofs.lemmas.Bool.Decides.{nat_tests}
use Rattle.machine.specs.declared.event.Op.TheVariants.{Read, Write}
use Rattle.machine.specs.declared.event.Place.TheVariants.{Virtual}
use Rattle.machine.specs.declared.event.Event.{Event}
use Rattle.machine.specs.declared.event.Event.TheVariants as event
use Rattle.machine.specs.declared.reply.Reply.{Reply}
use Rattle.machine.specs.declared.reply.Reply.TheVariants as reply
use Rattle.machine.specs.Slots.{there_and}
use Rattle.machine.specs.Pages.{Held, Coming, Going, Away, page_at, is_held_in}
use Rattle.machine.specs.State.{State}
use Rattle.machine.specs.Generations.{new_gens}
use Rattle.machine.specs.Aging.{is_marked}
use Rattle.machine.specs.Lists.{Order, shown_at, has_bit, is_in_bits, Orders, hits_at, is_marking, Youngest}
use Rattle.legal.proofs.OrdersLemmas.{orders_alike}
use Rattle.computed.proofs.ExampleStates.{task, frame, memory, of_file, pages, busy, listed_at, searched, lists_of, by_turns, none_served, ordered}
use Rattle.computed.proofs.CallExamples.{not_new, none_marked, stay_unhit, own_unhit}
use Rattle.computed.proofs.HeldExamples.{marked, page_standing, youngest, unlike_number, unlike_mark, unlike_cursor, set_is_not_clear, clear_is_not_set, marks_of, two_stay, one_marked, aged_lists, before}

-- ---- the bit of a frame

-- all 64 bits of a word
abbrev all_bits : ℕ
all_bits = 18446744073709551615

-- frame 0 has the first bit of word 0
bit-first : has_bit 0 1 0 ≡ true
bit-first = refl

-- and no other bit is its
bit-not_first : has_bit 0 18446744073709551614 0 ≡ false
bit-not_first = refl

-- frame 63 has the last one
bit-last : has_bit 0 9223372036854775808 63 ≡ true
bit-last = refl

-- and no bit before it is its
bit-not_last : has_bit 0 9223372036854775807 63 ≡ false
bit-not_last = refl

-- frame 64 has the first bit of word 1
bit-next_word : has_bit 1 1 64 ≡ true
bit-next_word = refl

-- and none of word 0
bit-not_word_before : has_bit 0 all_bits 64 ≡ false
bit-not_word_before = refl

-- such as one past its last
bit-not_past : has_bit 0 18446744073709551616 64 ≡ false
bit-not_past = refl

-- frame 65 has the second of word 1
bit-second : has_bit 1 2 65 ≡ true
bit-second = refl

-- and not the first
bit-not_second : has_bit 1 1 65 ≡ false
bit-not_second = refl

-- and frame 0 has none of word 1
bit-not_word_after : has_bit 1 all_bits 0 ≡ false
bit-not_word_after = refl

-- ---- a page whose frame has its bit set

-- page 1 is held in frame 5, whose bit is 32
in_bits-held : is_in_bits 0 32 (memory 2 (Held 5)) ≡ true
in_bits-held = refl

-- the bits of all other frames are none of its
in_bits-not_others : is_in_bits 0 18446744073709551583 (memory 2 (Held 5)) ≡ false
in_bits-not_others = refl

-- nor are those of the next word
in_bits-not_next_word : is_in_bits 1 all_bits (memory 2 (Held 5)) ≡ false
in_bits-not_next_word = refl

-- a page of a file is found by its frame as well
in_bits-file : is_in_bits 0 4 (of_file 3 true (Held 2)) ≡ true
in_bits-file = refl

-- a page that is coming into a frame is not, whichever bits are set
in_bits-not_coming : (word bits : ℕ) → is_in_bits word bits (memory 2 (Coming 0 1 7)) ≡ false
in_bits-not_coming word bits = refl

-- nor is one that is going from its frame
in_bits-not_going : (word bits : ℕ) → is_in_bits word bits (memory 3 (Going 1 2 8)) ≡ false
in_bits-not_going word bits = refl

-- nor is one that is away on its block
in_bits-not_away : (word bits : ℕ) → is_in_bits word bits (memory 3 (Away 3)) ≡ false
in_bits-not_away word bits = refl

-- ---- a merge

-- the bits of the first word of frames
abbrev merge : ℕ → Event
merge bits = event.MergeMarks 0 bits

-- no page is marked yet
abbrev unmarked : Order
unmarked = ordered aged_lists new_gens

-- pages 0 and 1 are marked so
abbrev marked_so : Bool → Bool → Order
marked_so zero_is one_is = record { held = record { groups = lists_of aged_lists new_gens; marks = marks_of zero_is one_is; hits = [] }; cursors = none_served }

-- where marks of pages 0 and 1 become others, and no other page is marked before or after
marks_by : (zero_was one_was zero_is one_is : Bool) (bits : ℕ) → zero_is ≡ (zero_was || is_marking Own (is_in_bits 0 bits) 0 (page_at pages 0)) → one_is ≡ (one_was || is_marking Own (is_in_bits 0 bits) 0 (page_at pages 1)) → (p : ℕ)
    → is_marked (marks_of zero_is one_is) p ≡ (is_marked (marks_of zero_was one_was) p || is_marking Own (is_in_bits 0 bits) 0 (page_at pages p))
marks_by zero_was one_was zero_is one_is bits first second zero = first
marks_by zero_was one_was zero_is one_is bits first second (suc zero) = second
marks_by zero_was one_was zero_is one_is bits first second (suc (suc zero)) = refl
marks_by zero_was one_was zero_is one_is bits first second (suc (suc (suc zero))) = refl
marks_by zero_was one_was zero_is one_is bits first second (suc (suc (suc (suc zero)))) = refl
marks_by zero_was one_was zero_is one_is bits first second (suc (suc (suc (suc (suc p))))) = rw (none_marked 5 p) refl

-- the bit of frame 5 marks page 1, which stands where it stood
merges : Orders busy unmarked (merge 32) reply.Ok busy before
merges = (record { groups = refl; size = refl; marks = marks_by false false false true 32 refl refl; counts = refl; hits = own_unhit (is_in_bits 0 32) unmarked.held.marks pages }, refl)

abbrev NotMerged : Order → Type 0
NotMerged other = Orders busy unmarked (merge 32) reply.Ok busy other → ⊥

-- it does not stay unmarked
merges-not_unmarked : NotMerged unmarked
merges-not_unmarked = unlike_mark busy busy unmarked before _ (merge 32) reply.Ok merges 1 set_is_not_clear

-- and page 0, whose frame is 4, is not marked
merges-not_other : NotMerged (marked_so true true)
merges-not_other = unlike_mark busy busy unmarked before _ (merge 32) reply.Ok merges 0 clear_is_not_set

-- page 1 does not go to the youngest generation before the lists age
merges-not_promoted : NotMerged (one_marked (searched 5 3 (listed_at 0 5 ∷ listed_at 1 5 ∷ [])) new_gens)
merges-not_promoted = unlike_number busy busy unmarked before _ (merge 32) reply.Ok merges (page_standing 2 0) (λ e. omega (arith, e))

-- and they do not age for it
merges-not_aged : NotMerged (one_marked (searched 6 3 (listed_at 1 3 ∷ listed_at 0 5 ∷ [])) new_gens)
merges-not_aged = unlike_number busy busy unmarked before _ (merge 32) reply.Ok merges (youngest 2) (λ e. omega (arith, e))

-- there are marks for as many page numbers as before
merges-not_longer : NotMerged (record before { held = record { groups = before.held.groups; marks = before.held.marks ++ false ∷ []; hits = [] } })
merges-not_longer = unlike_number busy busy unmarked before _ (merge 32) reply.Ok merges (λ held. length held.marks) (λ e. omega (arith, e))

-- and no cursor moves
merges-not_served : NotMerged (record before { cursors = by_turns (None ∷ Some 2 ∷ None ∷ None ∷ None ∷ None ∷ []) })
merges-not_served = unlike_cursor busy busy unmarked before _ (merge 32) reply.Ok merges 1 (λ e. omega (arith, e))

-- the bit of frame 4 marks page 0 as well, and page 1 keeps its mark
merges-more : Orders busy before (merge 16) reply.Ok busy (marked_so true true)
merges-more = (record { groups = refl; size = refl; marks = marks_by false true true true 16 refl refl; counts = refl; hits = own_unhit (is_in_bits 0 16) before.held.marks pages }, refl)

-- a clear bit takes no mark
merges-not_cleared : Orders busy before (merge 16) reply.Ok busy (marked_so true false) → ⊥
merges-not_cleared = unlike_mark busy busy before (marked_so true true) _ (merge 16) reply.Ok merges-more 1 set_is_not_clear

-- and a page that is marked can be marked again
merges-again : Orders busy before (merge 32) reply.Ok busy before
merges-again = (record { groups = refl; size = refl; marks = marks_by false true false true 32 refl refl; counts = refl; hits = own_unhit (is_in_bits 0 32) before.held.marks pages }, refl)

-- ---- bits that mark no page

-- frames 2 and 3 are free: no mark changes, nor anything else
merges-free : Orders busy before (merge 12) reply.Ok busy before
merges-free = (record { groups = refl; size = refl; marks = marks_by false true false true 12 refl refl; counts = refl; hits = own_unhit (is_in_bits 0 12) before.held.marks pages }, refl)

-- no other order comes of it
merges-free_same : (other : Order) → Orders busy before (merge 12) reply.Ok busy other → before ≡ other
merges-free_same other = orders_alike busy busy before before other (merge 12) reply.Ok merges-free

-- into frame 0 comes page 2, and from frame 1 goes page 3: neither is marked
merges-moving : Orders busy before (merge 3) reply.Ok busy before
merges-moving = (record { groups = refl; size = refl; marks = marks_by false true false true 3 refl refl; counts = refl; hits = own_unhit (is_in_bits 0 3) before.held.marks pages }, refl)

-- not the one that comes
merges-not_coming : (other : Order) → marked 2 other.held ≡ true → Orders busy before (merge 3) reply.Ok busy other → ⊥
merges-not_coming other is = unlike_mark busy busy before before other (merge 3) reply.Ok merges-moving 2 (λ e. let f : false ≡ true = e ∙ is in cc)

-- and not the one that goes
merges-not_going : (other : Order) → marked 3 other.held ≡ true → Orders busy before (merge 3) reply.Ok busy other → ⊥
merges-not_going other is = unlike_mark busy busy before before other (merge 3) reply.Ok merges-moving 3 (λ e. let f : false ≡ true = e ∙ is in cc)

-- all bits of the next word, which has no frame here
merges-next_word : Orders busy before (event.MergeMarks 1 all_bits) reply.Ok busy before
merges-next_word = (record { groups = refl; size = refl; marks = marks; counts = refl; hits = own_unhit (is_in_bits 1 all_bits) before.held.marks pages }, refl)
  where
    marks : (p : ℕ) → is_marked before.held.marks p ≡ (is_marked before.held.marks p || is_marking Own (is_in_bits 1 all_bits) 0 (page_at pages p))
    marks zero = refl
    marks (suc zero) = refl
    marks (suc (suc zero)) = refl
    marks (suc (suc (suc zero))) = refl
    marks (suc (suc (suc (suc zero)))) = refl
    marks (suc (suc (suc (suc (suc p))))) = rw (none_marked 5 p) refl

-- ---- a frame that was given out again

-- page 0 had frame 4, and is on block 0. Page 5 of /p/b has the frame now
abbrev given_again : State
given_again = record busy { pages = Some (memory 2 (Away 0)) ∷ Some (memory 2 (Held 5)) ∷ Some (memory 2 (Coming 0 1 7)) ∷ Some (memory 3 (Going 1 2 8)) ∷ Some (memory 3 (Away 3)) ∷ Some (memory 3 (Held 4)) ∷ [] }

abbrev two_hold : List Bool → Order
two_hold marks = record { held = record { groups = lists_of (searched 5 3 (listed_at 1 3 ∷ [])) (searched 5 3 (listed_at 5 5 ∷ [])); marks = marks; hits = [] }; cursors = none_served }

-- the page that has it is marked
merges-given_again : Orders given_again (two_hold (marks_of false false)) (merge 16) reply.Ok given_again (two_hold (false ∷ false ∷ false ∷ false ∷ false ∷ true ∷ false ∷ false ∷ false ∷ false ∷ []))
merges-given_again = (record { groups = refl; size = refl; marks = marks; counts = refl; hits = own_unhit (is_in_bits 0 16) (marks_of false false) given_again.pages }, refl)
  where
    marks : (p : ℕ) → is_marked (false ∷ false ∷ false ∷ false ∷ false ∷ true ∷ false ∷ false ∷ false ∷ false ∷ []) p ≡ (is_marked (marks_of false false) p || is_marking Own (is_in_bits 0 16) 0 (page_at given_again.pages p))
    marks zero = refl
    marks (suc zero) = refl
    marks (suc (suc zero)) = refl
    marks (suc (suc (suc zero))) = refl
    marks (suc (suc (suc (suc zero)))) = refl
    marks (suc (suc (suc (suc (suc zero))))) = refl
    marks (suc (suc (suc (suc (suc (suc p)))))) = rw (none_marked 4 p) refl

-- it does not stay unmarked, whatever was marked before
given_again-not_unmarked : (order order' : Order) → marked 5 order'.held ≡ false → Orders given_again order (merge 16) reply.Ok given_again order' → ⊥
given_again-not_unmarked order order' clear h = let e : marked 5 order'.held ≡ (marked 5 order.held || true) = h.0.marks 5 ∙ ap (λ (b : Bool). marked 5 order.held || b) (first_marks (hits_at order.held.hits 5)) in absurd (of_either (marked 5 order.held) (sym clear ∙ e))
  where
    first_marks : (hits : ℕ) → nat_le 1 (hits + 1) ≡ true
    first_marks hits = grind (arith, nat_tests)

    of_either : (b : Bool) → false ≡ (b || true) → ⊥
    of_either true e = cc
    of_either false e = cc

-- and the one that had it before is not marked
given_again-not_had : (order order' : Order) → marked 0 order.held ≡ false → marked 0 order'.held ≡ true → Orders given_again order (merge 16) reply.Ok given_again order' → ⊥
given_again-not_had order order' clear set h = let e : marked 0 order'.held ≡ (marked 0 order.held || false) = h.0.marks 0 in let f : true ≡ false = sym set ∙ e ∙ ap (λ (b : Bool). b || false) clear in cc

-- ---- an access by itself

abbrev read : ℕ → ℕ → Event
read t v = event.Access (task t) (Virtual v 0) Read

-- task 1 reads a byte of page 1 as it stands, in frame 5
abbrev hit : Reply
hit = reply.Done 3 (Some (frame 5))

-- no list changes, and no page is marked
hits : Orders busy unmarked (read 1 1) hit busy unmarked
hits = (record { fresh = None; which = λ p. not_new (is_held_in pages p); groups = refl; size = refl; marks = two_stay false false pages refl refl; counts = refl; hits = stay_unhit Youngest refl pages pages }, refl)

-- not even the one that it read
hits-not_marked : Orders busy unmarked (read 1 1) hit busy before → ⊥
hits-not_marked = unlike_mark busy busy unmarked unmarked before (read 1 1) hit hits 1 clear_is_not_set

-- nor does it lose its mark
hits-not_cleared : Orders busy before (read 1 1) hit busy unmarked → ⊥
hits-not_cleared h = let e : false ≡ true = h.0.marks 1 in cc

-- and a write in place marks none
hits-not_written : Orders busy unmarked (event.Access (task 1) (Virtual 1 0) (Write 7)) (reply.Done 7 (Some (frame 5))) busy before → ⊥
hits-not_written h = let e : true ≡ false = h.0.marks 1 in cc

-- the page that a hit uses is the one that the task shows there, whoever else shows it
shown-shared : shown_at busy 2 (Virtual 0 4095) ≡ Some 0
shown-shared = refl

-- a page in transfer is shown as well
shown-moving : shown_at busy 1 (Virtual 2 0) ≡ Some 2
shown-moving = refl

-- where nothing is mapped no page is
shown-none : shown_at busy 1 (Virtual 9 0) ≡ None
shown-none = refl

-- ---- what changes no list

-- a page is in transfer: whoever reads it is told so
waits : Orders busy before (read 1 2) reply.Busy busy before
waits = (record { fresh = None; which = λ p. not_new (is_held_in pages p); groups = refl; size = refl; marks = two_stay false true pages refl refl; counts = refl; hits = stay_unhit Youngest refl pages pages }, refl)

abbrev NotWaits : Order → Type 0
NotWaits other = Orders busy before (read 1 2) reply.Busy busy other → ⊥

-- no list ages where no page is taken
waits-not_aged : NotWaits (one_marked (searched 6 3 (listed_at 1 3 ∷ listed_at 0 5 ∷ [])) new_gens)
waits-not_aged = unlike_number busy busy before before _ (read 1 2) reply.Busy waits (youngest 2) (λ e. omega (arith, e))

-- no mark is lost
waits-not_cleared : NotWaits unmarked
waits-not_cleared = unlike_mark busy busy before before _ (read 1 2) reply.Busy waits 1 set_is_not_clear

-- and no cursor moves
waits-not_served : NotWaits (record before { cursors = by_turns (None ∷ Some 2 ∷ None ∷ None ∷ None ∷ None ∷ []) })
waits-not_served = unlike_cursor busy busy before before _ (read 1 2) reply.Busy waits 1 (λ e. omega (arith, e))
