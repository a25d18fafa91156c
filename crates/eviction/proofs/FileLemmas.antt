-- The walk along the old pages of files, up to one that is not marked.
use Rattle.std.proofs.Common.{◌≡◌, ℕ, ◌<◌, not, ◌||◌, Bool, true, false, eqb, List, [], ◌∷◌, ◌++◌, length, Option, Some, option_map, slice_get, refl, sym, ap, ◌∙◌, subst, arith, append_assoc}
use Rattle.std.specs.List.{list_any}
use Rattle.std.proofs.lemmas.Bool.{or_parts, eq-eqb}
use Rattle.machine.specs.Generations.{Listed, has_page, after_in, AreDistinct}
use Rattle.machine.specs.Aging.{has_mark, is_marked}
use Rattle.page_lists.proofs.ListedLemmas.{distinct-middle}
use Rattle.aging.proofs.PromoteLemmas.{rest_of, at}

-- one of these pages is not marked
abbrev pub has_unmarked : List Bool → List Listed → Bool
has_unmarked marks pages = list_any (λ l. not (has_mark marks l)) pages

-- a page that is not among the first ones begins the others
rest-at : (xs : List Listed) (l : Listed) (ys : List Listed) → has_page l.page xs ≡ false → rest_of (Some l.page) (xs ++ l ∷ ys) ≡ l ∷ ys
rest-at [] l ys none = rw (eq-eqb l.page l.page refl) refl
rest-at (x ∷ xs) l ys none =
    let parts = or_parts (eqb x.page l.page) (has_page l.page xs) none in
    rw parts.0 (rest-at xs l ys parts.1)

-- from the first of the last pages on there are the last pages
pub rest-last : (xs ys : List Listed) → AreDistinct (xs ++ ys) → rest_of (option_map (λ (l : Listed). l.page) (slice_get ys 0)) (xs ++ ys) ≡ ys
rest-last xs [] distinct = refl
rest-last xs (y ∷ ys) distinct = rest-at xs y ys (distinct-middle xs y ys distinct).0

-- the walk meets a page, and then those from the one behind it on
record Meets (p : ℕ) (pages : List Listed) : Type 0 where
  here : Listed
  page : here.page ≡ p
  rest : rest_of (Some p) pages ≡ here ∷ rest_of (after_in p pages) pages

meets : (p : ℕ) (pages : List Listed) → AreDistinct pages → has_page p pages ≡ true → Meets p pages
meets p pages distinct there =
    let a = at pages p there in
    let parts = subst AreDistinct a.is distinct in
    let apart : pages ≡ (a.before ++ a.here ∷ []) ++ a.rest = a.is ∙ sym (append_assoc a.before (a.here ∷ []) a.rest) in
    let from = ap (λ (q : ℕ). rest_of (Some q) pages) (sym a.page) ∙ ap (rest_of (Some a.here.page)) a.is ∙ rest-at a.before a.here a.rest (distinct-middle a.before a.here a.rest parts).0 in
    let behind =
    ap (λ (next : Option ℕ). rest_of next pages) a.next
    ∙ ap (rest_of (option_map (λ (l : Listed). l.page) (slice_get a.rest 0))) apart
    ∙ rest-last (a.before ++ a.here ∷ []) a.rest (subst AreDistinct apart distinct) in
    record { here = a.here; page = a.page; rest = from ∙ ap (λ (ys : List Listed). a.here ∷ ys) (sym behind) }

module _ (p : ℕ) (pages : List Listed) (distinct : AreDistinct pages) (there : has_page p pages ≡ true) where
  -- whether one is not marked, from a page on: that page is not, or one behind it
  unmarked-from : (marks : List Bool) → has_unmarked marks (rest_of (Some p) pages) ≡ (not (is_marked marks p) || has_unmarked marks (rest_of (after_in p pages) pages))
  unmarked-from marks =
      let m = meets p pages distinct there in
      ap (has_unmarked marks) m.rest ∙ ap (λ (q : ℕ). not (is_marked marks q) || has_unmarked marks (rest_of (after_in p pages) pages)) m.page

  -- a page that is not marked is found
  pub found-unmarked : (marks : List Bool) → is_marked marks p ≡ false → has_unmarked marks (rest_of (Some p) pages) ≡ true
  found-unmarked marks fresh = unmarked-from marks ∙ rw fresh refl

  -- one that is marked is passed by
  pub passed-marked : (marks : List Bool) → is_marked marks p ≡ true → has_unmarked marks (rest_of (after_in p pages) pages) ≡ has_unmarked marks (rest_of (Some p) pages)
  passed-marked marks marked = sym (unmarked-from marks ∙ rw marked refl)

  -- fewer are left behind a page
  pub fewer-behind : length (rest_of (after_in p pages) pages) < length (rest_of (Some p) pages)
  fewer-behind = let many = ap (λ (xs : List Listed). length xs) (meets p pages distinct there).rest in omega arith
