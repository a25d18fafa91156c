-- Marks that are cleared, and the rows that aging leaves.
use Rattle.std.proofs.Common.{◌≡◌, ℕ, zero, suc, ◌+◌, max, Bool, true, false, cond, eqb, List, [], ◌∷◌, length, map, filter, set, refl, ◌∙◌, length-set}
use Rattle.std.specs.List.{AllByRecursion}
use Rattle.std.proofs.lemmas.Bool.{eqb-true}
use Rattle.machine.specs.Generations.{Listed, Row, at_seq, merged}
use Rattle.machine.specs.Aging.{has_mark, is_marked, cleared, at_most_three}
use Rattle.page_lists.proofs.ListedLemmas.{each-map}

pub each-marked : (P : Listed → Type 0) (seq : ℕ) (m : List Bool) → ((l : Listed) → P l → has_mark m l ≡ true → P (at_seq seq l)) → (xs : List Listed) → AllByRecursion P xs → AllByRecursion P (map (at_seq seq) (filter (has_mark m) xs))
each-marked P seq m step [] h = tt
each-marked P seq m step (x ∷ xs) h =
    let go : (b : Bool) → has_mark m x ≡ b → AllByRecursion P (map (at_seq seq) (cond b (x ∷ filter (has_mark m) xs) (filter (has_mark m) xs))) =
    λ b t. (elim b as (λ v. has_mark m x ≡ v → AllByRecursion P (map (at_seq seq) (cond v (x ∷ filter (has_mark m) xs) (filter (has_mark m) xs)))) [
      | true ↦ λ t'. (step x h.0 t', each-marked P seq m step xs h.1)
      | false ↦ λ t'. each-marked P seq m step xs h.1
    ]) t in
    go (has_mark m x) refl

pub each-three : (P : Listed → Type 0) (top : ℕ) (row : Row) → (row.min_seq + 3 ≡ top → (l : Listed) → P l → P (at_seq (max (row.min_seq + 1) l.seq) l)) → AllByRecursion P row.pages → AllByRecursion P (at_most_three top row).pages
each-three P top row step h =
    let go : (b : Bool) → eqb (row.min_seq + 3) top ≡ b → AllByRecursion P (let r : Row = cond b (merged row) row in r).pages =
    λ b t. (elim b as (λ v. eqb (row.min_seq + 3) top ≡ v → AllByRecursion P (let r : Row = cond v (merged row) row in r).pages) [
      | true ↦ λ t'. each-map P P (λ l. at_seq (max (row.min_seq + 1) l.seq) l) (step (eqb-true (row.min_seq + 3) top t')) row.pages h
      | false ↦ λ t'. h
    ]) t in
    go (eqb (row.min_seq + 3) top) refl

pub clear-here : (m : List Bool) (p : ℕ) → is_marked (set m p false) p ≡ false
clear-here [] p = refl
clear-here (b ∷ m) zero = refl
clear-here (b ∷ m) (suc p) = clear-here m p

pub clear-keeps : (m : List Bool) (q p : ℕ) → is_marked m p ≡ false → is_marked (set m q false) p ≡ false
clear-keeps [] q p h = h
clear-keeps (b ∷ m) zero zero h = refl
clear-keeps (b ∷ m) zero (suc p) h = h
clear-keeps (b ∷ m) (suc q) zero h = h
clear-keeps (b ∷ m) (suc q) (suc p) h = clear-keeps m q p h

pub cleared-keeps : (ls : List Listed) (m : List Bool) (p : ℕ) → is_marked m p ≡ false → is_marked (cleared ls m) p ≡ false
cleared-keeps [] m p h = h
cleared-keeps (l ∷ ls) m p h = cleared-keeps ls (set m l.page false) p (clear-keeps m l.page p h)

pub cleared-all : (ls : List Listed) (m : List Bool) → AllByRecursion (λ l. is_marked (cleared ls m) l.page ≡ false) ls
cleared-all [] m = tt
cleared-all (l ∷ ls) m = (cleared-keeps ls (set m l.page false) l.page (clear-here m l.page), cleared-all ls (set m l.page false))

pub length-cleared : (ls : List Listed) (m : List Bool) → length (cleared ls m) ≡ length m
length-cleared [] m = refl
length-cleared (l ∷ ls) m = length-cleared ls (set m l.page false) ∙ length-set m l.page false
