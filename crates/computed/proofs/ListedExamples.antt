-- Examples: orders whose lists are sound, and have just the pages that are held; and one whose lists have not.
use Rattle.std.proofs.Common.{◌≡◌, ℕ, zero, suc, ◌+◌, ◌&&◌, ◌==◌, Bool, true, false, List, [], ◌∷◌, replicate, refl, sym, arith}
use Rattle.machine.specs.declared.record.Kind.{Kind}
use Rattle.machine.specs.declared.record.Kind.TheVariants.{Anon, File}
use Rattle.machine.specs.Slots.{there_and}
use Rattle.machine.specs.Pages.{Residence, Held, Pages, is_held_at, page_at}
use Rattle.machine.specs.State.{Opening, first_state}
use Rattle.machine.specs.Generations.{Listed, Gens, row_of, has_page, new_gens, gens_at, IsGens, IsRow}
use Rattle.machine.specs.Lists.{first_order, hits_at, is_held_of, ListsHeld, AreGenerations}
use Rattle.machine.proofs.Values.{unlike}
use Rattle.computed.proofs.ExampleStates.{memory, pages, listed_at, young, lists_of, ordered, busy_order, stuck, stuck_order}
use Rattle.computed.proofs.CallExamples.{none_marked, other_number}

-- ---- sound lists

-- those of a new group
new_is_sound : IsGens new_gens
new_is_sound = record { anon = empty; file = empty; distinct = tt }
  where
    empty : IsRow 3 new_gens.anon
    empty = record { within = tt; rising = tt; two = omega arith; four = omega arith }

-- with a page in the youngest generation, and with two
one_is_sound : (p : ℕ) → IsGens (young (listed_at p 3 ∷ []))
one_is_sound p = record {
  anon = record { within = ((omega arith, omega arith), tt); rising = (tt, tt); two = omega arith; four = omega arith };
  file = new_is_sound.file;
  distinct = (refl, tt);
}

two_are_sound : (p q : ℕ) → (q == p) ≡ false → IsGens (young (listed_at p 3 ∷ listed_at q 3 ∷ []))
two_are_sound p q other = record {
  anon = record { within = ((omega arith, omega arith), ((omega arith, omega arith), tt)); rising = ((omega arith, tt), (tt, tt)); two = omega arith; four = omega arith };
  file = new_is_sound.file;
  distinct = (rw other refl, (refl, tt));
}

-- of the groups 2 and 3 these lists, and of the others none with a page
lists_sound : (two three : Gens) → IsGens two → IsGens three → (g : ℕ) → IsGens (gens_at (lists_of two three) g)
lists_sound two three is is' zero = new_is_sound
lists_sound two three is is' (suc zero) = new_is_sound
lists_sound two three is is' (suc (suc zero)) = is
lists_sound two three is is' (suc (suc (suc zero))) = is'
lists_sound two three is is' (suc (suc (suc (suc zero)))) = new_is_sound
lists_sound two three is is' (suc (suc (suc (suc (suc zero))))) = new_is_sound
lists_sound two three is is' (suc (suc (suc (suc (suc (suc g)))))) = new_is_sound

-- so they are at the opening
first-sound : (fixed : Opening) → AreGenerations (first_order fixed).held
first-sound fixed zero = new_is_sound
first-sound fixed (suc g) = new_is_sound

busy-sound : AreGenerations busy_order.held
busy-sound = lists_sound _ _ (two_are_sound 1 0 refl) new_is_sound

stuck-sound : AreGenerations stuck_order.held
stuck-sound = lists_sound _ _ (one_is_sound 0) (two_are_sound 1 2 refl)

-- no page is twice in a group's lists
twice-not_sound : IsGens (young (listed_at 1 3 ∷ listed_at 1 3 ∷ [])) → ⊥
twice-not_sound is = let e : true ≡ false = is.distinct.0 in cc

-- nor an older one behind a younger
falls-not_sound : IsGens (young (listed_at 1 3 ∷ listed_at 0 2 ∷ [])) → ⊥
falls-not_sound is = absurd (omega (arith, is.anon.rising.0.0))

-- and there are not five generations
five-not_sound : IsGens (record new_gens { max_seq = 4 }) → ⊥
five-not_sound is = absurd (omega (arith, is.anon.four))

-- ---- just the pages that are held

-- no page is held, of this group and of this type
abbrev NoneOf : Pages → ℕ → Kind → Type 0
NoneOf pages g kind = (p : ℕ) → there_and (is_held_of g kind) (page_at pages p) ≡ false

-- the row has just those that are
abbrev JustThose : Pages → ℕ → List Listed → Type 0
JustThose pages g row = (p : ℕ) → has_page p row ≡ there_and (is_held_of g Anon) (page_at pages p)

-- pages of memory, of groups 2 and 3 alone, are on these lists
two_listed : (pages : Pages) (two three : List Listed) → ((g : ℕ) → NoneOf pages g File) → ((g : ℕ) → (2 == g) ≡ false → (3 == g) ≡ false → NoneOf pages g Anon) → JustThose pages 2 two → JustThose pages 3 three
    → (g : ℕ) (kind : Kind) (p : ℕ) → has_page p (row_of kind (gens_at (lists_of (young two) (young three)) g)).pages ≡ there_and (is_held_of g kind) (page_at pages p)
two_listed pages two three no_file no_other in_two in_three zero Anon p = sym (no_other 0 refl refl p)
two_listed pages two three no_file no_other in_two in_three zero File p = sym (no_file 0 p)
two_listed pages two three no_file no_other in_two in_three (suc zero) Anon p = sym (no_other 1 refl refl p)
two_listed pages two three no_file no_other in_two in_three (suc zero) File p = sym (no_file 1 p)
two_listed pages two three no_file no_other in_two in_three (suc (suc zero)) Anon p = in_two p
two_listed pages two three no_file no_other in_two in_three (suc (suc zero)) File p = sym (no_file 2 p)
two_listed pages two three no_file no_other in_two in_three (suc (suc (suc zero))) Anon p = in_three p
two_listed pages two three no_file no_other in_two in_three (suc (suc (suc zero))) File p = sym (no_file 3 p)
two_listed pages two three no_file no_other in_two in_three (suc (suc (suc (suc zero)))) Anon p = sym (no_other 4 refl refl p)
two_listed pages two three no_file no_other in_two in_three (suc (suc (suc (suc zero)))) File p = sym (no_file 4 p)
two_listed pages two three no_file no_other in_two in_three (suc (suc (suc (suc (suc zero))))) Anon p = sym (no_other 5 refl refl p)
two_listed pages two three no_file no_other in_two in_three (suc (suc (suc (suc (suc zero))))) File p = sym (no_file 5 p)
two_listed pages two three no_file no_other in_two in_three (suc (suc (suc (suc (suc (suc g)))))) Anon p =
    let h : ℕ = suc (suc (suc (suc (suc (suc g))))) in sym (no_other h (other_number 2 h (omega arith)) (other_number 3 h (omega arith)) p)
two_listed pages two three no_file no_other in_two in_three (suc (suc (suc (suc (suc (suc g)))))) File p = sym (no_file (suc (suc (suc (suc (suc (suc g)))))) p)

-- a page of memory is in no row of files
no_file_of : (g group : ℕ) (residence : Residence) → is_held_of g File (memory group residence) ≡ false
no_file_of g group residence = by_tests (is_held_at residence) (group == g)
  where
    by_tests : (b c : Bool) → (b && (c && false)) ≡ false
    by_tests true true = refl
    by_tests true false = refl
    by_tests false c = refl

-- no page has a hit
none_hit : (n p : ℕ) → hits_at (replicate n 0) p ≡ 0
none_hit zero p = refl
none_hit (suc n) zero = refl
none_hit (suc n) (suc p) = none_hit n p

-- no page, and no group but the root
first-listed : (fixed : Opening) → ListsHeld (first_state fixed).pages (first_order fixed).held
first-listed fixed = record { rows = rows; marked = λ p is. unlike _ is (none_marked (fixed.frames + fixed.swap) p); counted = λ p gone. none_hit (fixed.frames + fixed.swap) p }
  where
    rows : (g : ℕ) (kind : Kind) (p : ℕ) → has_page p (row_of kind (gens_at (new_gens ∷ []) g)).pages ≡ false
    rows zero Anon p = refl
    rows zero File p = refl
    rows (suc g) Anon p = refl
    rows (suc g) File p = refl

-- pages 0 and 1 are held, and no others: not those in transfer, nor one that is on its block
busy-listed : ListsHeld pages busy_order.held
busy-listed = record { rows = two_listed pages _ [] no_file no_other in_two in_three; marked = λ p is. unlike _ is (none_marked 10 p); counted = λ p gone. refl }
  where
    no_file : (g : ℕ) → NoneOf pages g File
    no_file g zero = no_file_of g 2 (Held 4)
    no_file g (suc zero) = no_file_of g 2 (Held 5)
    no_file g (suc (suc zero)) = refl
    no_file g (suc (suc (suc zero))) = refl
    no_file g (suc (suc (suc (suc zero)))) = refl
    no_file g (suc (suc (suc (suc (suc p))))) = refl

    no_other : (g : ℕ) → (2 == g) ≡ false → (3 == g) ≡ false → NoneOf pages g Anon
    no_other g two three zero = rw two refl
    no_other g two three (suc zero) = rw two refl
    no_other g two three (suc (suc zero)) = refl
    no_other g two three (suc (suc (suc zero))) = refl
    no_other g two three (suc (suc (suc (suc zero)))) = refl
    no_other g two three (suc (suc (suc (suc (suc p))))) = refl

    in_two : JustThose pages 2 (listed_at 1 3 ∷ listed_at 0 3 ∷ [])
    in_two zero = refl
    in_two (suc zero) = refl
    in_two (suc (suc zero)) = refl
    in_two (suc (suc (suc zero))) = refl
    in_two (suc (suc (suc (suc zero)))) = refl
    in_two (suc (suc (suc (suc (suc p))))) =
        let q : ℕ = suc (suc (suc (suc (suc p)))) in rw (other_number 1 q (omega arith), other_number 0 q (omega arith)) refl

    in_three : JustThose pages 3 []
    in_three zero = refl
    in_three (suc zero) = refl
    in_three (suc (suc zero)) = refl
    in_three (suc (suc (suc zero))) = refl
    in_three (suc (suc (suc (suc zero)))) = refl
    in_three (suc (suc (suc (suc (suc p))))) = refl

stuck-listed : ListsHeld stuck.pages stuck_order.held
stuck-listed = record { rows = two_listed stuck.pages _ _ no_file no_other in_two in_three; marked = λ p is. unlike _ is (none_marked 6 p); counted = λ p gone. refl }
  where
    no_file : (g : ℕ) → NoneOf stuck.pages g File
    no_file g zero = no_file_of g 2 (Held 0)
    no_file g (suc zero) = no_file_of g 3 (Held 1)
    no_file g (suc (suc zero)) = no_file_of g 3 (Held 2)
    no_file g (suc (suc (suc p))) = refl

    no_other : (g : ℕ) → (2 == g) ≡ false → (3 == g) ≡ false → NoneOf stuck.pages g Anon
    no_other g two three zero = rw two refl
    no_other g two three (suc zero) = rw three refl
    no_other g two three (suc (suc zero)) = rw three refl
    no_other g two three (suc (suc (suc p))) = refl

    in_two : JustThose stuck.pages 2 (listed_at 0 3 ∷ [])
    in_two zero = refl
    in_two (suc zero) = refl
    in_two (suc (suc zero)) = refl
    in_two (suc (suc (suc p))) = rw (other_number 0 (suc (suc (suc p))) (omega arith)) refl

    in_three : JustThose stuck.pages 3 (listed_at 1 3 ∷ listed_at 2 3 ∷ [])
    in_three zero = refl
    in_three (suc zero) = refl
    in_three (suc (suc zero)) = refl
    in_three (suc (suc (suc p))) = rw (other_number 1 (suc (suc (suc p))) (omega arith), other_number 2 (suc (suc (suc p))) (omega arith)) refl

-- a page in transfer is on no list
transfer-not_listed : ListsHeld pages (ordered (young (listed_at 1 3 ∷ listed_at 0 3 ∷ listed_at 2 3 ∷ [])) new_gens).held → ⊥
transfer-not_listed h = let e : true ≡ false = h.rows 2 Anon 2 in cc

-- a held one is on the list of its own group
elsewhere-not_listed : ListsHeld pages (ordered (young (listed_at 1 3 ∷ [])) (young (listed_at 0 3 ∷ []))).held → ⊥
elsewhere-not_listed h = let e : false ≡ true = h.rows 2 Anon 0 in cc

-- and of its own type
file-not_listed : ListsHeld pages (ordered (record (young (listed_at 1 3 ∷ [])) { file = record { min_seq = 0; pages = listed_at 0 3 ∷ [] } }) new_gens).held → ⊥
file-not_listed h = let e : true ≡ false = h.rows 2 File 0 in cc

-- and no mark stands for a page in transfer
transfer-not_marked : ListsHeld pages (record { groups = busy_order.held.groups; marks = false ∷ false ∷ true ∷ []; hits = [] }) → ⊥
transfer-not_marked h = let e : false ≡ true = h.marked 2 refl in cc
