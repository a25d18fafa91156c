-- The path before the last slash.
use Rattle.std.proofs.Common.{◌≡◌, ◌≢◌, ℕ, zero, suc, ◌+◌, ◌-◌, ◌<◌, ◌≤◌, ◌==◌, true, false, not, List, [], ◌∷◌, length, take, get_or, Option, Some, None, refl, sym, ap, ◌∙◌, subst, arith, MatchOption}
use Rattle.std.specs.List.{before_last, suffix_len, slice_range}
use Rattle.std.proofs.lemmas.Bool.Decides.{nat_tests}
use Rattle.std.proofs.lemmas.List.Sums.{suffix_len_is}
use Rattle.machine.specs.Names.{is_slash, or_slash, parent_path}

-- k is the place of the last slash
pub record IsLastSlash (path : List ℕ) (k : ℕ) : Type 0 where
  pub within : k < length path
  pub slash : get_or path k 0 ≡ 47
  pub last : (i : ℕ) → k < i → i < length path → get_or path i 0 ≢ 47

is_no_slash : (b : ℕ) → b ≢ 47 → not (is_slash b) ≡ true
is_no_slash b h = let t : (b == 47) ≡ false = grind (arith, nat_tests, h) in ap not t

is_slash_byte : (b : ℕ) → b ≡ 47 → not (is_slash b) ≡ false
is_slash_byte b h = let t : (b == 47) ≡ true = grind (arith, nat_tests, h) in ap not t

before_last-slash : (path : List ℕ) (k : ℕ) → IsLastSlash path k → before_last is_slash path ≡ take k path
before_last-slash path k h =
    let within : k < length path = h.within in
    let after : suffix_len (λ x. not (is_slash x)) path ≡ length path - (k + 1) =
    suffix_len_is (λ x. not (is_slash x)) path (k + 1) 0 (omega arith)
    (λ i above inside. is_no_slash (get_or path i 0) (h.last i (omega arith) inside))
    (λ _. let here : k + 1 - 1 ≡ k = omega arith in is_slash_byte _ (ap (λ i. get_or path i 0) here ∙ h.slash)) in
    let place : length path - suffix_len (λ x. not (is_slash x)) path - 1 ≡ k = omega (arith, after, within) in
    ap (λ n. take n path) place

before_last-none : (path : List ℕ) → ((i : ℕ) → i < length path → get_or path i 0 ≢ 47) → before_last is_slash path ≡ []
before_last-none path h =
    let all : suffix_len (λ x. not (is_slash x)) path ≡ length path - 0 =
    suffix_len_is (λ x. not (is_slash x)) path 0 0 (omega arith)
    (λ i above inside. is_no_slash (get_or path i 0) (h i inside))
    (λ none. absurd (omega arith)) in
    let place : length path - suffix_len (λ x. not (is_slash x)) path - 1 ≡ 0 = omega (arith, all) in
    ap (λ n. take n path) place

or_slash-take : (path : List ℕ) (k : ℕ) → 0 < k → k < length path → or_slash (take k path) ≡ take k path
or_slash-take path zero some h = absurd (omega arith)
or_slash-take [] (suc k) some h = absurd (omega arith)
or_slash-take (b ∷ path) (suc k) some h = refl

pub parent_path-below : (path : List ℕ) (k : ℕ) → IsLastSlash path k → 0 < k → take k path ≡ parent_path path
parent_path-below path k h some = sym (ap or_slash (before_last-slash path k h) ∙ or_slash-take path k some h.within)

pub parent_path-first : (path : List ℕ) → IsLastSlash path 0 → 47 ∷ [] ≡ parent_path path
parent_path-first path h = sym (ap or_slash (before_last-slash path 0 h))

pub parent_path-none : (path : List ℕ) → ((i : ℕ) → i < length path → get_or path i 0 ≢ 47) → 47 ∷ [] ≡ parent_path path
parent_path-none path h = sym (ap or_slash (before_last-none path h))

-- what a search from the end found
pub parent_path-found : (path : List ℕ) (r : Option ℕ) (k : ℕ)
    → MatchOption r ((i : ℕ) → i < length path → get_or path i 0 ≢ 47) (λ k. (k < length path) × (get_or path k 0 ≡ 47) × ((i : ℕ) → k < i → i < length path → get_or path i 0 ≢ 47))
    → r ≡ Some k → 0 < k → take k path ≡ parent_path path
parent_path-found path None k h e some = absurd cc
parent_path-found path (Some l) k h e some =
    let same : l ≡ k = cc in
    subst (λ n. 0 < n → take n path ≡ parent_path path) same (λ more. parent_path-below path l (record { within = h.0; slash = h.1; last = h.2 }) more) some

pub parent_path-at_root : (path : List ℕ) (r : Option ℕ)
    → MatchOption r ((i : ℕ) → i < length path → get_or path i 0 ≢ 47) (λ k. (k < length path) × (get_or path k 0 ≡ 47) × ((i : ℕ) → k < i → i < length path → get_or path i 0 ≢ 47))
    → ((k : ℕ) → r ≡ Some k → k ≤ 0) → 47 ∷ [] ≡ parent_path path
parent_path-at_root path None h zero_only = parent_path-none path h
parent_path-at_root path (Some zero) h zero_only = parent_path-first path (record { within = h.0; slash = h.1; last = h.2 })
parent_path-at_root path (Some (suc k)) h zero_only = absurd (let no = zero_only (suc k) refl in omega (arith, no))

pub only_zero : (r : Option ℕ) (l k : ℕ) → r ≡ Some l → l ≤ 0 → r ≡ Some k → k ≤ 0
only_zero r l k is zero_or_less also = let same : l ≡ k = cc in omega arith

pub from_start : (path : List ℕ) (k : ℕ) → slice_range path 0 k ≡ take k path
from_start path k = let same : k - 0 ≡ k = omega arith in ap (λ n. take n path) same
