-- No group is twice in a walk. A group is therefore not behind itself, and a group that a pass comes round to gives alone.
use Rattle.std.proofs.Common.{inl, inr, ◌≡◌, ℕ, ◌+◌, ◌≤◌, ◌==◌, ◌||◌, Bool, true, false, if◌then◌else◌, List, [], ◌∷◌, Option, Some, refl, sym, ap, ◌∙◌, subst, arith}
use Rattle.std.specs.List.{list_any, All, find}
use Rattle.std.specs.Option.{option_or}
use Rattle.std.proofs.lemmas.Bool.{cases_Bool}
use Rattle.std.proofs.lemmas.List.Elements.{All-nil, All-cons}
use Rattle.std.proofs.lemmas.List.Folds.{find-append}
use Rattle.machine.specs.Order.{round_from, place_in, behind_place}
use Rattle.machine.specs.Tree.{Node, is_live, preorder}
use Rattle.group_tree.specs.Groups.{IsGroupTree}
use Rattle.group_tree.specs.Walk.{behind}
use Rattle.group_tree.proofs.TreeFacts.{live-within}
use Rattle.reclaim.proofs.PreorderOnce.{times, times-own, times-other, preorder_once}
use Rattle.reclaim.specs.Walk.{up_to, IsOnce}
use Rattle.reclaim.proofs.WalkLemmas.{parts, behind-place}

abbrev has : List ℕ → ℕ → Bool
has gs g = list_any (λ a. a == g) gs

-- ---- lists without a number twice

-- what is behind a number does not have it
pub behind-once : (gs : List ℕ) (g : ℕ) → IsOnce gs → has (behind gs g) g ≡ false
behind-once [] g once = refl
behind-once (a ∷ rest) g once =
    elim (cases_Bool (a == g)) [
      | inl here ↦ (let same : a ≡ g = grind (arith, here) in ap (λ b. has (if b then rest else behind rest g) g) here ∙ subst (λ x. has rest x ≡ false) same once.0)
      | inr other ↦ ap (λ b. has (if b then rest else behind rest g) g) other ∙ behind-once rest g once.1
    ]

-- what comes once at most is not there twice
none-there : (g : ℕ) (gs : List ℕ) → times g gs ≡ 0 → has gs g ≡ false
none-there g [] none = refl
none-there g (a ∷ gs) none =
    elim (cases_Bool (a == g)) [
      | inl here ↦ absurd (let one : times g (a ∷ gs) ≡ 1 + times g gs = ap (λ b. (if b then 1 else 0) + times g gs) here in omega (arith, one, none))
      | inr other ↦ ap (λ b. b || has gs g) other ∙ none-there g gs (sym (times-other g a gs other) ∙ none)
    ]

once-of : (gs : List ℕ) → ((g : ℕ) → times g gs ≤ 1) → IsOnce gs
once-of [] most = tt
once-of (a ∷ gs) most = (
  none-there a gs (let own = times-own a gs in let one = most a in omega (arith, own, one)),
  once-of gs (λ g. let one = most g in let least : times g gs ≤ times g (a ∷ gs) = omega arith in omega (arith, one, least)),
)

-- a walk from a live group comes to none twice
pub walk-once : (tree : List Node) → IsGroupTree tree → (target : ℕ) → is_live tree target ≡ true → IsOnce (preorder tree target)
walk-once tree groups target live = once-of (preorder tree target) (preorder_once tree groups.earlier_parents target (live-within tree target live))

-- ---- the group that was served last
module _ (g : ℕ) where
  -- a list without it does not find it
  finds-other : (test : ℕ → Bool) (xs : List ℕ) (rest : Option ℕ) → has xs g ≡ false → option_or (find test xs) rest ≡ Some g → (list_any test xs ≡ false) × (rest ≡ Some g)
  finds-other test [] rest none found = (refl, found)
  finds-other test (x ∷ xs) rest none found = by_test (x == g) refl none (finds-other test xs rest) (test x) refl found
    where
      by_test : (e : Bool) → (x == g) ≡ e → (e || has xs g) ≡ false → (has xs g ≡ false → option_or (find test xs) rest ≡ Some g → (list_any test xs ≡ false) × (rest ≡ Some g))
          → (b : Bool) → test x ≡ b → option_or (if b then Some x else find test xs) rest ≡ Some g → ((test x || list_any test xs) ≡ false) × (rest ≡ Some g)
      by_test true own none later b is found = absurd cc
      by_test false differs none later true is here = absurd (let same : x ≡ g = cc in let own : (x == g) ≡ true = grind (arith, same) in let wrong : true ≡ false = sym own ∙ differs in cc)
      by_test false differs none later false is found = let others = later none found in (ap (λ b. b || list_any test xs) is ∙ others.0, others.1)

  -- no other one passes the test
  abbrev pub IsAlone : (ℕ → Bool) → List ℕ → Type 0
  IsAlone test xs = All (λ a. test a ≡ true → a ≡ g) xs

  fails-alone : (test : ℕ → Bool) (x : ℕ) (xs : List ℕ) → test x ≡ false → IsAlone test xs → IsAlone test (x ∷ xs)
  fails-alone test x xs fails = All-cons (λ a. test a ≡ true → a ≡ g) x xs (λ passes. absurd (let wrong : true ≡ false = sym passes ∙ fails in cc))

  none-alone : (test : ℕ → Bool) (xs : List ℕ) → list_any test xs ≡ false → IsAlone test xs
  none-alone test [] none = All-nil (λ a. test a ≡ true → a ≡ g)
  none-alone test (x ∷ xs) none = by_test (test x) refl none (none-alone test xs)
    where
      by_test : (b : Bool) → test x ≡ b → (b || list_any test xs) ≡ false → (list_any test xs ≡ false → IsAlone test xs) → IsAlone test (x ∷ xs)
      by_test true is none rest = absurd cc
      by_test false is none rest = fails-alone test x xs is (rest none)

  around-alone : (test : ℕ → Bool) (xs : List ℕ) → list_any test (behind xs g) ≡ false → find test (up_to xs (Some g)) ≡ Some g → IsAlone test xs
  around-alone test [] none found = All-nil (λ a. test a ≡ true → a ≡ g)
  around-alone test (x ∷ xs) none found = by_place (x == g) refl none found (around-alone test xs)
    where
      by_test : (x == g) ≡ false → (b : Bool) → test x ≡ b → (if b then Some x else find test (up_to xs (Some g))) ≡ Some g → (find test (up_to xs (Some g)) ≡ Some g → IsAlone test xs) → IsAlone test (x ∷ xs)
      by_test differs true is here rest = absurd (let same : x ≡ g = cc in let own : (x == g) ≡ true = grind (arith, same) in let wrong : true ≡ false = sym own ∙ differs in cc)
      by_test differs false is later rest = fails-alone test x xs is (rest later)

      by_place : (e : Bool) → (x == g) ≡ e → list_any test (if e then xs else behind xs g) ≡ false → (if test x then Some x else find test (if e then [] else up_to xs (Some g))) ≡ Some g
          → (list_any test (behind xs g) ≡ false → find test (up_to xs (Some g)) ≡ Some g → IsAlone test xs) → IsAlone test (x ∷ xs)
      by_place true here none found rest = let same : x ≡ g = grind (arith, here) in All-cons (λ a. test a ≡ true → a ≡ g) x xs (λ passes. same) (none-alone test xs none)
      by_place false other none found rest = by_test other (test x) refl found (rest none)

module _ (gs : List ℕ) (g : ℕ) (once : IsOnce gs) where
  -- it is not behind itself
  pub not_behind : has (behind_place gs (place_in gs (Some g))) g ≡ false
  not_behind = ap (λ rest. has rest g) (sym (behind-place gs (Some g))) ∙ behind-once gs g once

  -- and if a pass comes round to it, no other group passes the test
  pub comes-round : (test : ℕ → Bool) → find test (round_from gs (place_in gs (Some g))) ≡ Some g → IsAlone g test gs
  comes-round test found =
      let both = finds-other g test (behind gs g) (find test (up_to gs (Some g))) (behind-once gs g once) (sym (find-append test (behind gs g) (up_to gs (Some g))) ∙ ap (find test) (parts gs (Some g)) ∙ found) in
      around-alone g test gs both.0 both.1
