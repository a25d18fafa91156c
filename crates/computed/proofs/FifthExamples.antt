-- Examples: as Linux places pages, the fifth access of a page of a file marks it, and the one that had it read in is the first. What marks no page is shown not to.
use Rattle.std.proofs.Common.{◌≡◌, ℕ, zero, suc, ◌||◌, true, false, Bool, [], ◌∷◌, Some, refl, sym, ◌∙◌, arith}
use Rattle.machine.specs.declared.config.Placement.TheVariants.{Own, Linux}
use Rattle.machine.specs.declared.record.Kind.TheVariants.{Anon, File}
use Rattle.machine.specs.Pages.{Held, Coming, Pages, page_at}
use Rattle.machine.specs.Generations.{new_gens}
use Rattle.machine.specs.Aging.{is_marked}
use Rattle.machine.specs.Lists.{HeldLists, ByType, hits_at, hits_kept, hits_after, is_in_bits, is_last_hit, is_marking, hits_with, MergesMarks}
use Rattle.computed.proofs.ExampleStates.{memory, of_file}

-- page 0 is memory in frame 0, page 1 is of a file and in frame 1, and page 2 is of a file and comes into frame 2
abbrev three : Pages
three = Some (memory 2 (Held 0)) ∷ Some (of_file 2 false (Held 1)) ∷ Some (of_file 2 false (Coming 2 6 7)) ∷ []

-- the page of the file has so many hits, and such a mark
abbrev hit_so : ℕ → Bool → HeldLists
hit_so hits mark = record { groups = new_gens ∷ []; marks = false ∷ mark ∷ false ∷ []; hits = 0 ∷ hits ∷ 0 ∷ [] }

-- ---- how many

-- a read-in is one, and three accesses more are not enough
fourth : is_last_hit Linux File 3 ≡ false
fourth = refl

fifth : is_last_hit Linux File 4 ≡ true
fifth = refl

-- memory wants one, and so does each page by our own placement
memory-first : is_last_hit Linux Anon 0 ≡ true
memory-first = refl

own-first : is_last_hit Own File 0 ≡ true
own-first = refl

-- ---- accesses that find a page

-- the fourth access counts, and marks nothing
counts : (p : ℕ) → hits_at (hit_so 4 false).hits p ≡ hits_with Linux (is_in_bits 0 2) (is_marked (hit_so 3 false).marks p) (hits_at (hit_so 3 false).hits p) (page_at three p)
counts zero = refl
counts (suc zero) = refl
counts (suc (suc zero)) = refl
counts (suc (suc (suc p))) = refl

merges-fourth : MergesMarks Linux three 0 2 (hit_so 3 false) (hit_so 4 false)
merges-fourth = record { groups = refl; size = refl; marks = marks; counts = refl; hits = counts }
  where
    marks : (p : ℕ) → is_marked (hit_so 4 false).marks p ≡ (is_marked (hit_so 3 false).marks p || is_marking Linux (is_in_bits 0 2) (hits_at (hit_so 3 false).hits p) (page_at three p))
    marks zero = refl
    marks (suc zero) = refl
    marks (suc (suc zero)) = refl
    marks (suc (suc (suc p))) = refl

-- the fifth marks the page, and the count ends
merges-fifth : MergesMarks Linux three 0 2 (hit_so 4 false) (hit_so 0 true)
merges-fifth = record { groups = refl; size = refl; marks = marks; counts = refl; hits = hits }
  where
    marks : (p : ℕ) → is_marked (hit_so 0 true).marks p ≡ (is_marked (hit_so 4 false).marks p || is_marking Linux (is_in_bits 0 2) (hits_at (hit_so 4 false).hits p) (page_at three p))
    marks zero = refl
    marks (suc zero) = refl
    marks (suc (suc zero)) = refl
    marks (suc (suc (suc p))) = refl

    hits : (p : ℕ) → hits_at (hit_so 0 true).hits p ≡ hits_with Linux (is_in_bits 0 2) (is_marked (hit_so 4 false).marks p) (hits_at (hit_so 4 false).hits p) (page_at three p)
    hits zero = refl
    hits (suc zero) = refl
    hits (suc (suc zero)) = refl
    hits (suc (suc (suc p))) = refl

-- it does not stay unmarked
fifth-not_unmarked : (after : HeldLists) → is_marked after.marks 1 ≡ false → MergesMarks Linux three 0 2 (hit_so 4 false) after → ⊥
fifth-not_unmarked after clear merges = let e : false ≡ true = sym clear ∙ merges.marks 1 in cc

-- nor does its count go on, so that the next access would mark it again
fifth-not_counted : (after : HeldLists) → hits_at after.hits 1 ≡ 5 → MergesMarks Linux three 0 2 (hit_so 4 false) after → ⊥
fifth-not_counted after counted merges = let e : ◌≡◌ {A = ℕ} 5 0 = sym counted ∙ merges.hits 1 in omega (arith, e)

-- a page that has its mark counts nothing
marked-counts : hits_after Linux File true 0 ≡ 0
marked-counts = refl

-- memory is marked by the first access, as by our own placement
first-not_unmarked : (after : HeldLists) → is_marked after.marks 0 ≡ false → MergesMarks Linux three 0 1 (hit_so 0 false) after → ⊥
first-not_unmarked after clear merges = let e : false ≡ true = sym clear ∙ merges.marks 0 in cc

-- ---- a page that comes, stays or goes

-- its read-in is its first hit
comes : (hits : ℕ) → hits_kept ByType false true hits ≡ 1
comes hits = refl

-- what stays keeps its hits, and what goes leaves none for the next page of its number
stays : (hits : ℕ) → hits_kept ByType true true hits ≡ hits
stays hits = refl

goes : (hits : ℕ) → hits_kept ByType true false hits ≡ 0
goes hits = refl
