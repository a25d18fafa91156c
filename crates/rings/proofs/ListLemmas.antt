-- RingsOf of numbers: what is in one, and what stays without one number.
use Rattle.std.proofs.Common.{◌≡◌, ◌≢◌, ℕ, zero, suc, ◌<◌, true, false, List, [], ◌∷◌, ◌++◌, map, length, refl, sym, ap, ◌∙◌, inl, inr, arith, eqb, eq-eqb}
use Rattle.std.proofs.lemmas.Bool.{false≢true, true≢false, eqb-true, cases_Bool, or_cases, or_parts, or_left, or_right}
use Rattle.std.proofs.lemmas.List.Folds.{list_any-append}
use Rattle.std.specs.List.{AllByRecursion, IsDistinct}
use Rattle.rings.specs.Rings.{list_at, has, is_listed, without}

pub has_first : (p : ℕ) (xs : List ℕ) → has (p ∷ xs) p ≡ true
has_first p xs = or_left (eqb p p) (has xs p) (eq-eqb p p refl)

pub has_more : (xs ys : List ℕ) (p : ℕ) → has xs p ≡ true → has (xs ++ ys) p ≡ true
has_more xs ys p h = list_any-append (λ (q : ℕ). eqb p q) xs ys ∙ or_left (has xs p) (has ys p) h

pub has_behind : (xs ys : List ℕ) (p : ℕ) → has ys p ≡ true → has (xs ++ ys) p ≡ true
has_behind xs ys p h = list_any-append (λ (q : ℕ). eqb p q) xs ys ∙ or_right (has xs p) (has ys p) h

pub has_round : (xs ys zs : List ℕ) (p : ℕ) → has (xs ++ zs) p ≡ true → has (xs ++ (ys ++ zs)) p ≡ true
has_round xs ys zs p h =
    elim (or_cases (has xs p) (has zs p) (sym (list_any-append (λ (q : ℕ). eqb p q) xs zs) ∙ h)) [
      | inl front ↦ has_more xs (ys ++ zs) p front
      | inr rest ↦ has_behind xs (ys ++ zs) p (has_behind ys zs p rest)
    ]

-- a list parts at a number that it has
pub record IsSplit (p : ℕ) (xs : List ℕ) : Type 0 where
  pub before : List ℕ
  pub after : List ℕ
  pub whole : xs ≡ before ++ p ∷ after

pub split : (p : ℕ) (xs : List ℕ) → has xs p ≡ true → IsSplit p xs
split p [] h = absurd (false≢true h)
split p (x ∷ xs) h =
    elim (or_cases (eqb p x) (has xs p) h) [
      | inl here ↦ record { before = []; after = xs; whole = ap (λ (n : ℕ). n ∷ xs) (sym (eqb-true p x here)) }
      | inr later ↦
          let rest = split p xs later in
          record { before = x ∷ rest.before; after = rest.after; whole = ap (λ (ys : List ℕ). x ∷ ys) rest.whole }
    ]

pub has_still : (xs : List ℕ) (p q : ℕ) → q ≢ p → has xs q ≡ true → has (without p xs) q ≡ true
has_still [] p q apart h = h
has_still (x ∷ xs) p q apart h =
    elim (cases_Bool (eqb p x)) [
      | inl same ↦
          let here : p ≡ x = eqb-true p x same in
          elim (or_cases (eqb q x) (has xs q) h) [
            | inl first ↦ absurd (apart (eqb-true q x first ∙ sym here))
            | inr later ↦ rw same (has_still xs p q apart later)
          ]
      | inr other ↦
          rw other (elim (or_cases (eqb q x) (has xs q) h) [
            | inl first ↦ or_left (eqb q x) (has (without p xs) q) first
            | inr later ↦ or_right (eqb q x) (has (without p xs) q) (has_still xs p q apart later)
          ])
    ]

-- a list without a number that it does not have is the list
pub without_none : (p : ℕ) (xs : List ℕ) → has xs p ≡ false → without p xs ≡ xs
without_none p [] h = refl
without_none p (x ∷ xs) h =
    let parts = or_parts (eqb p x) (has xs p) h in
    rw parts.0 (ap (λ (ys : List ℕ). x ∷ ys) (without_none p xs parts.1))

pub apart_by_recursion : (p : ℕ) (xs : List ℕ) → has xs p ≡ false → AllByRecursion (λ y. eqb p y ≡ false) xs
apart_by_recursion p [] h = tt
apart_by_recursion p (x ∷ xs) h =
    let parts = or_parts (eqb p x) (has xs p) h in
    (parts.0, apart_by_recursion p xs parts.1)

pub nothing_twice : IsDistinct eqb []
unfolding IsDistinct
nothing_twice = tt

-- ---- a list among the lists

-- where each list is without a number, so is the one at a place
pub list_at-map_without : (p : ℕ) (lists : List (List ℕ)) (l : ℕ) → list_at (map (without p) lists) l ≡ without p (list_at lists l)
list_at-map_without p [] l = refl
list_at-map_without p (xs ∷ lists) zero = refl
list_at-map_without p (xs ∷ lists) (suc l) = list_at-map_without p lists l

pub list_within : (lists : List (List ℕ)) (l p : ℕ) → has (list_at lists l) p ≡ true → l < length lists
list_within [] l p h = absurd (false≢true h)
list_within (xs ∷ lists) zero p h = omega arith
list_within (xs ∷ lists) (suc l) p h = let less = list_within lists l p h in omega arith

pub listed_from : (lists : List (List ℕ)) (l p : ℕ) → has (list_at lists l) p ≡ true → is_listed lists p ≡ true
listed_from [] l p h = h
listed_from (xs ∷ lists) zero p h = or_left (has xs p) (is_listed lists p) h
listed_from (xs ∷ lists) (suc l) p h = or_right (has xs p) (is_listed lists p) (listed_from lists l p h)

pub listed_in : (lists : List (List ℕ)) (p : ℕ) → is_listed lists p ≡ true → (l : ℕ) × (has (list_at lists l) p ≡ true)
listed_in [] p h = absurd (false≢true h)
listed_in (xs ∷ lists) p h =
    elim (or_cases (has xs p) (is_listed lists p) h) [
      | inl here ↦ (0, here)
      | inr later ↦ let found = listed_in lists p later in (suc found.0, found.1)
    ]

pub some_from_test : (xs : List ℕ) → eqb (length xs) 0 ≡ false → 0 < length xs
some_from_test [] test = absurd (true≢false test)
some_from_test (x ∷ xs) test = omega arith
