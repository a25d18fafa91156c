-- Places of a page table, with those that are not written.
use Rattle.std.proofs.Common.{◌≡◌, ℕ, zero, suc, ◌+◌, ◌-◌, ◌<◌, ◌≤◌, Bool, true, false, List, [], ◌∷◌, ◌++◌, length, set, replicate, cond, Option, None, refl, sym, ap, subst, ◌∙◌, arith}
use Rattle.std.specs.Prelude.{IsSome}
use Rattle.std.proofs.lemmas.List.{append_assoc, replicate-append-replicate, set-append_left, length-append, length-replicate, length-set}
use Rattle.std.proofs.lemmas.Bool.{false≢true}
use Rattle.std.proofs.lemmas.List.Sums.{sum_by-append}
use Rattle.std.proofs.lemmas.List.Folds.{sum_by-replicate}
use Rattle.machine.specs.declared.id.PageId.{PageId}
use Rattle.machine.specs.Slots.{at, there_and, count_there}
use Rattle.spaces.specs.Places.{all_places}

abbrev Places : Type 0
Places = List (Option PageId)

abbrev nones : ℕ → Places
nones n = replicate n None

none_at : (n p : ℕ) → at (nones n) p ≡ None
none_at zero p = refl
none_at (suc n) zero = refl
none_at (suc n) (suc p) = none_at n p

at_more : (xs : Places) (n p : ℕ) → at (xs ++ nones n) p ≡ at xs p
at_more [] n p = none_at n p
at_more (x ∷ xs) n zero = refl
at_more (x ∷ xs) n (suc p) = at_more xs n p

-- a place that is not written maps nothing
pub at_all : (xs : Places) (pages p : ℕ) → at (all_places xs pages) p ≡ at xs p
at_all xs pages p = at_more xs (pages - length xs) p

past : (xs : Places) (p : ℕ) → length xs ≤ p → at xs p ≡ None
past [] p le = refl
past (x ∷ xs) zero le = absurd (omega (arith, le))
past (x ∷ xs) (suc p) le = past xs p (omega (arith, le))

pub past_all : (xs : Places) (pages p : ℕ) → length xs ≤ p → at (all_places xs pages) p ≡ None
past_all xs pages p le = at_all xs pages p ∙ past xs p le

count_more : (test : PageId → Bool) (xs : Places) (n : ℕ) → count_there test (xs ++ nones n) ≡ count_there test xs
count_more test xs n =
    let one = λ (slot : Option PageId). cond (there_and test slot) 1 0 in
    let none = sum_by-replicate one n None in
    let sum = sum_by-append one xs (nones n) in
    omega (arith, sum, none)

pub count_all : (test : PageId → Bool) (xs : Places) (pages : ℕ) → count_there test (all_places xs pages) ≡ count_there test xs
count_all test xs pages = count_more test xs (pages - length xs)

-- places may be written that map nothing
pub all_more : (xs : Places) (n pages : ℕ) → length xs + n ≤ pages → all_places (xs ++ nones n) pages ≡ all_places xs pages
all_more xs n pages le =
    let long : length (xs ++ nones n) ≡ length xs + n = length-append xs (nones n) ∙ ap (λ k. length xs + k) (length-replicate n None) in
    let left : n + (pages - (length xs + n)) ≡ pages - length xs = omega (arith, le) in
    rw long (append_assoc xs (nones n) (nones (pages - (length xs + n))) ∙ ap (λ (rest : Places). xs ++ rest) (replicate-append-replicate n (pages - (length xs + n)) None ∙ ap nones left))

-- one of the written places changes
pub all_set : (xs : Places) (pages p : ℕ) (x : Option PageId) → p < length xs → all_places (set xs p x) pages ≡ set (all_places xs pages) p x
all_set xs pages p x lt = rw (length-set xs p x) (sym (set-append_left xs (nones (pages - length xs)) p x lt))

written_below : (xs : Places) (p : ℕ) → IsSome (at xs p) → p < length xs
written_below [] p h = let wrong : false ≡ true = h in absurd (false≢true wrong)
written_below (x ∷ xs) zero h = omega arith
written_below (x ∷ xs) (suc p) h = let lt = written_below xs p h in omega (arith, lt)

-- what maps a page is written
pub written : (xs : Places) (pages p : ℕ) → IsSome (at (all_places xs pages) p) → p < length xs
written xs pages p h = written_below xs p (subst (λ (slot : Option PageId). IsSome slot) (at_all xs pages p) h)

pub length_all : (xs : Places) (pages : ℕ) → length xs ≤ pages → length (all_places xs pages) ≡ pages
length_all xs pages le =
    let sum = length-append xs (nones (pages - length xs)) in
    let rest : length (nones (pages - length xs)) ≡ pages - length xs = length-replicate (pages - length xs) None in
    omega (arith, sum, rest, le)

-- the places are written up to this one, and then it maps the page
pub all_mapped : (xs ys : Places) (pages p : ℕ) (x : Option PageId) → length xs ≤ pages → p < length (all_places xs pages) → ys ≡ xs ++ nones (p + 1 - length xs)
    → all_places (set ys p x) pages ≡ set (all_places xs pages) p x
all_mapped xs ys pages p x le lt grown =
    let whole = length_all xs pages le in
    let n = p + 1 - length xs in
    let long : length (xs ++ nones n) ≡ length xs + n = length-append xs (nones n) ∙ ap (λ k. length xs + k) (length-replicate n None) in
    let more = ap (λ (all : Places). set all p x) (all_more xs n pages (omega (arith, whole, lt, le))) in
    rw grown (all_set (xs ++ nones n) pages p x (omega (arith, long)) ∙ more)
