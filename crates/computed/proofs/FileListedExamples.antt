-- Examples: pages of files on generation lists, of the group that is charged for each, and which page is taken where no swap block is free.
use Rattle.machine.specs.declared.config.Placement.TheVariants.{Own}
use Rattle.std.proofs.Common.{◌≡◌, ℕ, zero, suc, ◌<◌, ◌||◌, ◌==◌, false, true, List, [], ◌∷◌, Some, None, refl, sym, arith}
use Rattle.machine.specs.declared.event.Op.TheVariants.{Read}
use Rattle.machine.specs.declared.event.Place.TheVariants as place
use Rattle.machine.specs.declared.event.Event.{Event}
use Rattle.machine.specs.declared.event.Event.TheVariants as event
use Rattle.machine.specs.declared.record.Kind.{Kind}
use Rattle.machine.specs.declared.record.Kind.TheVariants.{Anon, File}
use Rattle.machine.specs.declared.reply.Reply.{Reply}
use Rattle.machine.specs.declared.reply.Reply.TheVariants as reply
use Rattle.machine.specs.Slots.{there_and}
use Rattle.machine.specs.Pages.{page_at, is_held_in}
use Rattle.machine.specs.Generations.{Listed, Gens, row_of, has_page, gens_at}
use Rattle.machine.specs.Aging.{is_marked}
use Rattle.machine.specs.Eviction.{old_pages, aged_times}
use Rattle.machine.specs.Lists.{Order, HeldLists, is_held_of, seen_of, PicksOf, ListsHeld, is_in_bits, Orders, is_marking, Youngest}
use Rattle.machine.proofs.Values.{unlike}
use Rattle.computed.proofs.ExampleStates.{task, frame, listed_at, lists_of, no_marks, none_served, ordered}
use Rattle.computed.proofs.CallExamples.{not_new, none_marked, other_number, stay_unmarked, stay_unhit, own_unhit}
use Rattle.computed.proofs.FileExamples.{kept, caching}
use Rattle.computed.proofs.HeldExamples.{unlike_mark, set_is_not_clear, clear_is_not_set}

-- ---- just the pages that are held

-- lists of a group: memory, then files
abbrev both_rows : ℕ → ℕ → List Listed → ℕ → List Listed → Gens
both_rows max_seq anon_min anon file_min file = record { max_seq = max_seq; anon = record { min_seq = anon_min; pages = anon }; file = record { min_seq = file_min; pages = file } }

-- /p/a has page 0, which is memory, and page 1, of a file; and /p/b page 2, of a file
abbrev caching_order : Order
caching_order = ordered (both_rows 3 0 (listed_at 0 3 ∷ []) 0 (listed_at 1 3 ∷ [])) (both_rows 3 0 [] 0 (listed_at 2 3 ∷ []))

-- no other group has any
none_of : (g : ℕ) → (2 == g) ≡ false → (3 == g) ≡ false → (kind : Kind) (p : ℕ) → there_and (is_held_of g kind) (page_at kept p) ≡ false
none_of g two three kind zero = rw two refl
none_of g two three kind (suc zero) = rw two refl
none_of g two three kind (suc (suc zero)) = rw three refl
none_of g two three kind (suc (suc (suc zero))) = refl
none_of g two three kind (suc (suc (suc (suc zero)))) = refl
none_of g two three kind (suc (suc (suc (suc (suc p))))) = refl

-- those in transfer are on no list
caching-listed : ListsHeld kept caching_order.held
caching-listed = record { rows = rows; marked = λ p is. unlike _ is (none_marked 10 p); counted = λ p gone. refl }
  where
    two : (kind : Kind) (p : ℕ) → has_page p (row_of kind (gens_at caching_order.held.groups 2)).pages ≡ there_and (is_held_of 2 kind) (page_at kept p)
    two Anon zero = refl
    two Anon (suc zero) = refl
    two Anon (suc (suc zero)) = refl
    two Anon (suc (suc (suc zero))) = refl
    two Anon (suc (suc (suc (suc zero)))) = refl
    two Anon (suc (suc (suc (suc (suc p))))) = rw (other_number 0 (suc (suc (suc (suc (suc p))))) (omega arith)) refl
    two File zero = refl
    two File (suc zero) = refl
    two File (suc (suc zero)) = refl
    two File (suc (suc (suc zero))) = refl
    two File (suc (suc (suc (suc zero)))) = refl
    two File (suc (suc (suc (suc (suc p))))) = rw (other_number 1 (suc (suc (suc (suc (suc p))))) (omega arith)) refl

    three : (kind : Kind) (p : ℕ) → has_page p (row_of kind (gens_at caching_order.held.groups 3)).pages ≡ there_and (is_held_of 3 kind) (page_at kept p)
    three Anon zero = refl
    three Anon (suc zero) = refl
    three Anon (suc (suc zero)) = refl
    three Anon (suc (suc (suc zero))) = refl
    three Anon (suc (suc (suc (suc zero)))) = refl
    three Anon (suc (suc (suc (suc (suc p))))) = refl
    three File zero = refl
    three File (suc zero) = refl
    three File (suc (suc zero)) = refl
    three File (suc (suc (suc zero))) = refl
    three File (suc (suc (suc (suc zero)))) = refl
    three File (suc (suc (suc (suc (suc p))))) = rw (other_number 2 (suc (suc (suc (suc (suc p))))) (omega arith)) refl

    rows : (g : ℕ) (kind : Kind) (p : ℕ) → has_page p (row_of kind (gens_at caching_order.held.groups g)).pages ≡ there_and (is_held_of g kind) (page_at kept p)
    rows zero Anon p = sym (none_of 0 refl refl Anon p)
    rows zero File p = sym (none_of 0 refl refl File p)
    rows (suc zero) Anon p = sym (none_of 1 refl refl Anon p)
    rows (suc zero) File p = sym (none_of 1 refl refl File p)
    rows (suc (suc zero)) kind p = two kind p
    rows (suc (suc (suc zero))) kind p = three kind p
    rows (suc (suc (suc (suc zero)))) Anon p = sym (none_of 4 refl refl Anon p)
    rows (suc (suc (suc (suc zero)))) File p = sym (none_of 4 refl refl File p)
    rows (suc (suc (suc (suc (suc zero))))) Anon p = sym (none_of 5 refl refl Anon p)
    rows (suc (suc (suc (suc (suc zero))))) File p = sym (none_of 5 refl refl File p)
    rows (suc (suc (suc (suc (suc (suc g)))))) Anon p =
        let h : ℕ = suc (suc (suc (suc (suc (suc g))))) in sym (none_of h (other_number 2 h (omega arith)) (other_number 3 h (omega arith)) Anon p)
    rows (suc (suc (suc (suc (suc (suc g)))))) File p =
        let h : ℕ = suc (suc (suc (suc (suc (suc g))))) in sym (none_of h (other_number 2 h (omega arith)) (other_number 3 h (omega arith)) File p)

-- a page of a file is on no list of memory
memory-not_listed : ListsHeld kept (ordered (both_rows 3 0 (listed_at 0 3 ∷ listed_at 1 3 ∷ []) 0 []) (both_rows 3 0 [] 0 (listed_at 2 3 ∷ []))).held → ⊥
memory-not_listed h = let e : true ≡ false = h.rows 2 Anon 1 in cc

-- nor on one of a group that uses it, but is not charged for it
user-not_listed : ListsHeld kept (ordered (both_rows 3 0 (listed_at 0 3 ∷ []) 0 []) (both_rows 3 0 [] 0 (listed_at 2 3 ∷ listed_at 1 3 ∷ []))).held → ⊥
user-not_listed h = let e : false ≡ true = h.rows 2 File 1 in cc

-- ---- a hit, and the merge of its mark

-- task 2 of /p/b reads a byte of page 1 of file 0, which is /p/a's page 1, in frame 1
abbrev read : Event
read = event.Access (task 2) (place.File 0 1 0) Read

abbrev hit : Reply
hit = reply.Done 12 (Some (frame 1))

-- no list changes, and no page is marked
hits : Orders caching caching_order read hit caching caching_order
hits = (record { fresh = None; which = λ p. not_new (is_held_in kept p); groups = refl; size = refl; marks = λ p. stay_unmarked 10 (is_held_in kept p) (is_held_in kept p) p; counts = refl; hits = stay_unhit Youngest refl kept kept }, refl)

abbrev marked_order : Order
marked_order = record { held = record { groups = caching_order.held.groups; marks = false ∷ true ∷ false ∷ false ∷ false ∷ false ∷ false ∷ false ∷ false ∷ false ∷ []; hits = [] }; cursors = none_served }

-- not even the page that was read
hits-not_marked : Orders caching caching_order read hit caching marked_order → ⊥
hits-not_marked = unlike_mark caching caching caching_order caching_order marked_order read hit hits 1 clear_is_not_set

-- the bits of frames 1 and 3
abbrev merge : Event
merge = event.MergeMarks 0 10

-- page 1 is marked, and stays on the list of /p/a. Page 3, which comes into frame 3, is not marked
merges : Orders caching caching_order merge reply.Ok caching marked_order
merges = (record { groups = refl; size = refl; marks = marks; counts = refl; hits = own_unhit (is_in_bits 0 10) caching_order.held.marks caching.pages }, refl)
  where
    marks : (p : ℕ) → is_marked marked_order.held.marks p ≡ (is_marked no_marks p || is_marking Own (is_in_bits 0 10) 0 (page_at kept p))
    marks zero = refl
    marks (suc zero) = refl
    marks (suc (suc zero)) = refl
    marks (suc (suc (suc zero))) = refl
    marks (suc (suc (suc (suc zero)))) = refl
    marks (suc (suc (suc (suc (suc p))))) = rw (none_marked 5 p) refl

-- it does not stay unmarked, though its group's tasks did not use it
merges-not_unmarked : Orders caching caching_order merge reply.Ok caching caching_order → ⊥
merges-not_unmarked = unlike_mark caching caching caching_order marked_order _ merge reply.Ok merges 1 set_is_not_clear

-- ---- which page is taken

-- a page of memory in an old generation, and one of a file in the youngest
abbrev old_memory : Order
old_memory = ordered (both_rows 5 3 (listed_at 0 3 ∷ []) 4 (listed_at 1 5 ∷ [])) (both_rows 3 0 [] 0 [])

-- where a swap block is free the old one is taken, and no list ages
picks-memory : PicksOf true old_memory.held 2 (Some 0) old_memory.held
picks-memory = record {
  seen = _;
  picks = record { times = 0; none_before = λ n less. absurd (omega (arith, less)); first = listed_at 0 3; others = []; old = refl; answers = refl; leaves = refl };
  lists = refl;
}

-- where none is free the one of the file is, which had to grow old
too_early : (n : ℕ) → n < 2 → old_pages false (aged_times n (seen_of old_memory.held 2)).gens ≡ []
too_early zero less = refl
too_early (suc zero) less = refl
too_early (suc (suc n)) less = absurd (omega (arith, less))

abbrev aged_lists : HeldLists
aged_lists = record { groups = lists_of (both_rows 7 4 (listed_at 0 4 ∷ []) 5 (listed_at 1 5 ∷ [])) (both_rows 3 0 [] 0 []); marks = no_marks; hits = [] }

picks-file : PicksOf false old_memory.held 2 (Some 1) aged_lists
picks-file = record {
  seen = _;
  picks = record { times = 2; none_before = too_early; first = listed_at 1 5; others = []; old = refl; answers = refl; leaves = refl };
  lists = refl;
}
