-- Lists of pages: which are there, which are old, and two rows in turn.
use Rattle.std.proofs.Common.{◌≡◌, ℕ, ◌+◌, ◌<◌, ◌≤◌, ◌⊎◌, not, ◌||◌, ◌&&◌, nat_le, Bool, true, false, cond, if◌then◌else◌, ltb, List, [], ◌∷◌, ◌++◌, slice_get, refl, ap, inl, inr, arith}
use Rattle.std.specs.List.{AllByRecursion}
use Rattle.std.proofs.lemmas.Bool.{cases_Bool, lt-ltb, le-ltb, leb-true, leb-false, ltb-false}
use Rattle.machine.specs.Generations.{Listed, at_seq, IsRising}
use Rattle.machine.specs.Eviction.{old_of, front_run, behind_run, is_below, in_turn, is_nil}
use Rattle.page_lists.proofs.ListedLemmas.{each-append}

-- ---- what holds of each

pub each-front_run : (P : Listed → Type 0) (test : Listed → Bool) (xs : List Listed) → AllByRecursion P xs → AllByRecursion P (front_run test xs)
each-front_run P test [] h = tt
each-front_run P test (x ∷ xs) h =
    elim (test x) as (λ b. AllByRecursion P (cond b (x ∷ front_run test xs) [])) [
      | true ↦ (h.0, each-front_run P test xs h.1)
      | false ↦ tt
    ]

each-behind_run : (P : Listed → Type 0) (test : Listed → Bool) (xs : List Listed) → AllByRecursion P xs → AllByRecursion P (behind_run test xs)
each-behind_run P test [] h = tt
each-behind_run P test (x ∷ xs) h =
    elim (test x) as (λ b. AllByRecursion P (cond b (behind_run test xs) (x ∷ xs))) [
      | true ↦ each-behind_run P test xs h.1
      | false ↦ h
    ]

pub each-in_turn : (P : Listed → Type 0) (fs gs : List Listed) → AllByRecursion P fs → AllByRecursion P gs → AllByRecursion P (in_turn fs gs)
each-in_turn P [] gs h k = k
each-in_turn P (f ∷ fs) gs h k =
    each-append P (front_run (is_below f.seq) gs) (f ∷ in_turn fs (behind_run (is_below f.seq) gs)) (each-front_run P (is_below f.seq) gs k)
    (h.0, each-in_turn P fs (behind_run (is_below f.seq) gs) h.1 (each-behind_run P (is_below f.seq) gs k))

-- ---- the old pages

pub old_of-tail : (top : ℕ) (xs : List Listed) (l : Listed) → old_of top (xs ++ at_seq top l ∷ []) ≡ old_of top xs
old_of-tail top [] l = let le : top ≤ top + 1 = omega arith in rw le-ltb refl
old_of-tail top (x ∷ xs) l =
    elim (ltb (x.seq + 1) top) as (λ b. cond b (x ∷ old_of top (xs ++ at_seq top l ∷ [])) (old_of top (xs ++ at_seq top l ∷ [])) ≡ cond b (x ∷ old_of top xs) (old_of top xs)) [
      | true ↦ ap (λ ys. x ∷ ys) (old_of-tail top xs l)
      | false ↦ old_of-tail top xs l
    ]

-- behind a page that is not old there is none
pub none-old : (top low : ℕ) (xs : List Listed) → top ≤ low + 1 → AllByRecursion (λ k. low ≤ k.seq) xs → old_of top xs ≡ []
none-old top low [] t h = refl
none-old top low (x ∷ xs) t h =
    let h0 : low ≤ x.seq = h.0 in
    let le : top ≤ x.seq + 1 = omega arith in
    rw le-ltb (none-old top low xs t h.1)

-- the first old page of a row is its first page
pub old_of-first : (top : ℕ) (xs : List Listed) → IsRising xs → (l : Listed) (rest : List Listed) → old_of top xs ≡ l ∷ rest → (ys : List Listed) × (xs ≡ l ∷ ys) × (rest ≡ old_of top ys)
old_of-first top [] r l rest e = absurd (cc)
old_of-first top (x ∷ xs) r l rest e =
    elim (cases_Bool (ltb (x.seq + 1) top)) [
      | inl old ↦ let both : x ∷ old_of top xs ≡ l ∷ rest = rw old at e in (xs, cc, cc)
      | inr new ↦
          let none : old_of top xs ≡ [] = none-old top x.seq xs (ltb-false (x.seq + 1) top new) r.0 in
          let some : old_of top xs ≡ l ∷ rest = rw new at e in
          absurd (cc)
    ]

-- the pages of a row that may be taken, where this says whether any may
abbrev pub usable : Bool → List Listed → List Listed
usable swap gs = if swap then gs else []

pub each-usable : (P : Listed → Type 0) (swap : Bool) (gs : List Listed) → AllByRecursion P gs → AllByRecursion P (usable swap gs)
each-usable P true gs h = h
each-usable P false gs h = tt

pub usable-first : (swap : Bool) (top : ℕ) (xs : List Listed) → IsRising xs → (l : Listed) (rest : List Listed) → old_of top (usable swap xs) ≡ l ∷ rest → (ys : List Listed) × (xs ≡ l ∷ ys) × (rest ≡ old_of top (usable swap ys))
usable-first true top xs r l rest e = old_of-first top xs r l rest e
usable-first false top xs r l rest e = absurd (cc)

-- ---- two rows in turn

-- the first of both is the first of one, and the others follow in turn
pub in_turn-first : (fs gs : List Listed) (l : Listed) (rest : List Listed) → in_turn fs gs ≡ l ∷ rest
    → ((ys : List Listed) × (fs ≡ l ∷ ys) × (rest ≡ in_turn ys gs)) ⊎ ((ys : List Listed) × (gs ≡ l ∷ ys) × (rest ≡ in_turn fs ys))
in_turn-first [] gs l rest e = inr (rest, e, refl)
in_turn-first (f ∷ fs) [] l rest e = inl (fs, cc, cc)
in_turn-first (f ∷ fs) (a ∷ gs) l rest e =
    elim (cases_Bool (ltb a.seq f.seq)) [
      | inl below ↦ let both : a ∷ (front_run (is_below f.seq) gs ++ f ∷ in_turn fs (behind_run (is_below f.seq) gs)) ≡ l ∷ rest = rw below at e in inr (gs, cc, cc)
      | inr above ↦ let both : f ∷ in_turn fs (a ∷ gs) ≡ l ∷ rest = rw above at e in inl (fs, cc, cc)
    ]

-- the row that comes first: the file pages where they have the lesser number or both have it
pub turn-file : (fs gs : List Listed) (fmin amin : ℕ) → ((l : Listed) (ys : List Listed) → fs ≡ l ∷ ys → l.seq ≡ fmin) → ((l : Listed) (ys : List Listed) → gs ≡ l ∷ ys → l.seq ≡ amin)
    → (is_nil gs || (not (is_nil fs) && nat_le fmin amin)) ≡ true → slice_get (in_turn fs gs) 0 ≡ slice_get fs 0
turn-file [] [] fmin amin hf ha e = refl
turn-file [] (a ∷ gs) fmin amin hf ha e = absurd (cc)
turn-file (f ∷ fs) [] fmin amin hf ha e = refl
turn-file (f ∷ fs) (a ∷ gs) fmin amin hf ha e =
    let e1 = hf f fs refl in
    let e2 = ha a gs refl in
    let h = leb-true fmin amin e in
    let le : f.seq ≤ a.seq = omega arith in
    rw le-ltb refl

pub turn-anon : (fs gs : List Listed) (fmin amin : ℕ) → ((l : Listed) (ys : List Listed) → fs ≡ l ∷ ys → l.seq ≡ fmin) → ((l : Listed) (ys : List Listed) → gs ≡ l ∷ ys → l.seq ≡ amin)
    → (is_nil gs || (not (is_nil fs) && nat_le fmin amin)) ≡ false → slice_get (in_turn fs gs) 0 ≡ slice_get gs 0
turn-anon fs [] fmin amin hf ha e = absurd (cc)
turn-anon [] (a ∷ gs) fmin amin hf ha e = refl
turn-anon (f ∷ fs) (a ∷ gs) fmin amin hf ha e =
    let e1 = hf f fs refl in
    let e2 = ha a gs refl in
    let h = leb-false fmin amin e in
    let lt : a.seq < f.seq = omega arith in
    rw lt-ltb refl
