-- A walk comes to no group twice.
use Rattle.std.proofs.Common.{inl, inr, ◌≡◌, ℕ, zero, suc, ◌+◌, ◌<◌, ◌≤◌, ◌==◌, ◌||◌, Bool, true, false, if◌then◌else◌, List, [], ◌∷◌, ◌++◌, length, Option, Some, None, refl, sym, ap, ◌∙◌, subst, arith}
use Rattle.std.specs.Prelude.{flat_map}
use Rattle.std.proofs.lemmas.Bool.{cases_lt, cases_Bool, or_cases}
use Rattle.std.proofs.lemmas.Bool.Decides.{nat_tests}
use Rattle.machine.specs.Tree.{Node, node_at, is_child, under, under_at, IsTree, preorder}
use Rattle.machine.proofs.TreeLemmas.{under_at-None, under_at-beyond, under_at-step}
use Rattle.group_tree.specs.Walk.{children_from}
use Rattle.group_tree.proofs.LineageLemmas.{under-child}
use Rattle.group_tree.proofs.PreorderLemmas.{children_from-end, children_from-child, children_from-other, child_parent, preorder-step}

-- how often a group comes in a list
abbrev pub times : ℕ → List ℕ → ℕ
times g [] = 0
times g (a ∷ gs) = (if a == g then 1 else 0) + times g gs

abbrev pub IsOnce : List ℕ → Type 0
IsOnce gs = (g : ℕ) → times g gs ≤ 1

pub times-append : (g : ℕ) (xs ys : List ℕ) → times g (xs ++ ys) ≡ times g xs + times g ys
times-append g [] ys = let same : times g ys ≡ 0 + times g ys = omega arith in same
times-append g (x ∷ xs) ys =
    ap (λ n. (if x == g then 1 else 0) + n) (times-append g xs ys) ∙ (let same : (if x == g then 1 else 0) + (times g xs + times g ys) ≡ (if x == g then 1 else 0) + times g xs + times g ys = omega arith in same)

pub times-own : (g : ℕ) (gs : List ℕ) → times g (g ∷ gs) ≡ 1 + times g gs
times-own g gs = let own : (g == g) ≡ true = grind arith in ap (λ b. (if b then 1 else 0) + times g gs) own

pub times-other : (g a : ℕ) (gs : List ℕ) → (a == g) ≡ false → times g (a ∷ gs) ≡ times g gs
times-other g a gs other = ap (λ b. (if b then 1 else 0) + times g gs) other ∙ (let same : 0 + times g gs ≡ times g gs = omega arith in same)

module _ (tree : List Node) (is : IsTree tree) where
  -- what is above a group has no greater number
  pub above-least : (a g : ℕ) → under tree a g ≡ true → a ≤ g
  above-least a g below =
      elim (cases_lt g a) [
        | inl less ↦ absurd (let wrong : true ≡ false = sym below ∙ under_at-beyond tree is (Some g) a less in cc)
        | inr most ↦ most
      ]

  -- a group is above itself
  own_under : (g : ℕ) → under tree g g ≡ true
  own_under g = let own : (g == g) ≡ true = grind arith in under_at-step tree is g g ∙ ap (λ b. b || under_at tree g (node_at tree g).parent) own

  -- two children of a group have no group below both
  apart : (n s a b g : ℕ) → g < n → (node_at tree a).parent ≡ Some s → (node_at tree b).parent ≡ Some s → a < b → under tree a g ≡ true → under tree b g ≡ true → (at : Option ℕ) → (node_at tree g).parent ≡ at → ⊥
  apart zero s a b g lt below_a below_b less at_a at_b at parent = omega (arith, lt)
  apart (suc n) s a b g lt below_a below_b less at_a at_b at parent =
      elim (or_cases (a == g) _ (sym (under_at-step tree is a g) ∙ at_a)) [
        | inl here ↦
            (let same : a ≡ g = grind (arith, nat_tests, here) in
            let low = above-least b g at_b in
            omega (arith, same, low, less))
        | inr above_a ↦ elim (or_cases (b == g) _ (sym (under_at-step tree is b g) ∙ at_b)) [
          | inl here ↦
              (let same : b ≡ g = grind (arith, nat_tests, here) in
              let low = above-least a s (ap (under_at tree a) (sym below_b ∙ ap (λ x. (node_at tree x).parent) same) ∙ above_a) in
              let high = is.falls a s below_a in
              omega (arith, low, high))
          | inr above_b ↦ higher (λ p falls in_a in_b. apart n s a b p (omega (arith, falls, lt)) below_a below_b less in_a in_b (node_at tree p).parent refl) at parent above_a above_b
        ]
      ]
    where
      higher : ((p : ℕ) → p < g → under tree a p ≡ true → under tree b p ≡ true → ⊥) → (at : Option ℕ) → (node_at tree g).parent ≡ at → under_at tree a (node_at tree g).parent ≡ true
          → under_at tree b (node_at tree g).parent ≡ true → ⊥
      higher more None parent above_a above_b = let wrong : true ≡ false = sym above_a ∙ ap (under_at tree a) parent ∙ under_at-None tree is a in cc
      higher more (Some p) parent above_a above_b = more p (is.falls g p parent) (ap (under_at tree a) (sym parent) ∙ above_a) (ap (under_at tree b) (sym parent) ∙ above_b)

  -- what is below a child is below the group
  above-child : (s c : ℕ) → (node_at tree c).parent ≡ Some s → (n g : ℕ) → g < n → under tree c g ≡ true → (at : Option ℕ) → (node_at tree g).parent ≡ at → under tree s g ≡ true
  above-child s c hangs zero g less under_c at parent = absurd (omega (arith, less))
  above-child s c hangs (suc n) g less under_c at parent =
      elim (or_cases (c == g) _ (sym (under_at-step tree is c g) ∙ under_c)) [
        | inl here ↦ (let same : c ≡ g = grind (arith, nat_tests, here) in under-child tree is s g s (ap (λ x. (node_at tree x).parent) (sym same) ∙ hangs) (own_under s))
        | inr above ↦ by_parent (λ p falls in_c. above-child s c hangs n p (omega (arith, falls, less)) in_c (node_at tree p).parent refl) at parent above
      ]
    where
      by_parent : ((p : ℕ) → p < g → under tree c p ≡ true → under tree s p ≡ true) → (at : Option ℕ) → (node_at tree g).parent ≡ at → under_at tree c (node_at tree g).parent ≡ true → under tree s g ≡ true
      by_parent more None parent above = absurd (let wrong : true ≡ false = sym above ∙ ap (under_at tree c) parent ∙ under_at-None tree is c in cc)
      by_parent more (Some p) parent above = under-child tree is s g p parent (more p (is.falls g p parent) (ap (under_at tree c) (sym parent) ∙ above))

  -- what comes in the walk of a group is below it
  pub record IsWalk (s : ℕ) (gs : List ℕ) : Type 0 where
    pub once : IsOnce gs
    pub below : (g : ℕ) → 1 ≤ times g gs → under tree s g ≡ true

  -- and in the walks of its children from a number on, each below one of these
  record AreWalks (s k : ℕ) (gs : List ℕ) : Type 0 where
    once : IsOnce gs
    below : (g : ℕ) → 1 ≤ times g gs → (c : ℕ) × (k ≤ c) × ((node_at tree c).parent ≡ Some s) × (under tree c g ≡ true)

  children-walk : (s n k : ℕ) → length tree ≤ n + k → ((c : ℕ) → k ≤ c → c < length tree → IsWalk c (preorder tree c)) → AreWalks s k (flat_map (preorder tree) (children_from tree s k))
  children-walk s zero k enough each =
      subst (λ (cs : List ℕ). AreWalks s k (flat_map (preorder tree) cs)) (sym (children_from-end tree s k (omega (arith, enough))))
      (record { once = λ g. (let none : 0 ≤ 1 = omega arith in none); below = λ g some. absurd (omega (arith, some)) })
  children-walk s (suc n) k enough each =
      elim (cases_lt k (length tree)) [
        | inl lt ↦ by_child (children-walk s n (k + 1) (omega (arith, enough)) (λ c from inside. each c (omega (arith, from)) inside)) lt (is_child s (node_at tree k)) refl
        | inr ge ↦
            subst (λ (cs : List ℕ). AreWalks s k (flat_map (preorder tree) cs)) (sym (children_from-end tree s k ge))
            (record { once = λ g. (let none : 0 ≤ 1 = omega arith in none); below = λ g some. absurd (omega (arith, some)) })
      ]
    where
      rest : List ℕ
      rest = flat_map (preorder tree) (children_from tree s (k + 1))

      by_child : AreWalks s (k + 1) rest → k < length tree → (b : Bool) → is_child s (node_at tree k) ≡ b → AreWalks s k (flat_map (preorder tree) (children_from tree s k))
      by_child later lt false other =
          subst (λ (cs : List ℕ). AreWalks s k (flat_map (preorder tree) cs)) (sym (children_from-other tree s k lt other))
          (record { once = later.once; below = λ g some. (let found = later.below g some in (found.0, (let more = found.1 in omega (arith, more)), found.2, found.3)) })
      by_child later lt true child =
          subst (λ (cs : List ℕ). AreWalks s k (flat_map (preorder tree) cs)) (sym (children_from-child tree s k lt child)) (record { once = once; below = below })
        where
          hangs : (node_at tree k).parent ≡ Some s
          hangs = child_parent tree s k child

          own : IsWalk k (preorder tree k)
          own = each k (omega arith) lt

          once : IsOnce (preorder tree k ++ rest)
          once g =
              let both = times-append g (preorder tree k) rest in
              let left = own.once g in
              let right = later.once g in
              elim (cases_lt 0 (times g (preorder tree k))) [
                | inl here ↦ elim (cases_lt 0 (times g rest)) [
                  | inl there ↦
                      absurd
                      (let found = later.below g (omega (arith, there)) in
                      let more = found.1 in
                      apart (g + 1) s k found.0 g (omega arith) hangs found.2 (omega (arith, more)) (own.below g (omega (arith, here))) found.3 (node_at tree g).parent refl)
                  | inr none ↦ omega (arith, both, left, none)
                ]
                | inr none ↦ omega (arith, both, right, none)
              ]

          below : (g : ℕ) → 1 ≤ times g (preorder tree k ++ rest) → (c : ℕ) × (k ≤ c) × ((node_at tree c).parent ≡ Some s) × (under tree c g ≡ true)
          below g some =
              let both = times-append g (preorder tree k) rest in
              elim (cases_lt 0 (times g (preorder tree k))) [
                | inl here ↦ (k, (let least : k ≤ k = omega arith in least), hangs, own.below g (omega (arith, here)))
                | inr none ↦ (let found = later.below g (omega (arith, both, none, some)) in (found.0, (let more = found.1 in omega (arith, more)), found.2, found.3))
              ]

  -- a group is below itself, and what is below a child is below it
  walk-from : (s : ℕ) → s < length tree → AreWalks s (s + 1) (flat_map (preorder tree) (children_from tree s (s + 1))) → IsWalk s (preorder tree s)
  walk-from s lt walks = subst (IsWalk s) (sym (preorder-step tree is s lt)) (record { once = once; below = below })
    where
      rest : List ℕ
      rest = flat_map (preorder tree) (children_from tree s (s + 1))

      once : IsOnce (s ∷ rest)
      once g =
          let right = walks.once g in
          elim (cases_Bool (s == g)) [
            | inl here ↦
                (let same : s ≡ g = grind (arith, nat_tests, here) in
                let step : times g (s ∷ rest) ≡ 1 + times g rest = ap (λ b. (if b then 1 else 0) + times g rest) here in
                elim (cases_lt 0 (times g rest)) [
                  | inl there ↦
                      absurd (let found = walks.below g (omega (arith, there)) in let more = found.1 in let low = above-least found.0 g found.3 in omega (arith, more, low, same))
                  | inr none ↦ omega (arith, step, none)
                ])
            | inr other ↦ (let step = times-other g s rest other in omega (arith, step, right))
          ]

      below : (g : ℕ) → 1 ≤ times g (s ∷ rest) → under tree s g ≡ true
      below g some =
          elim (cases_Bool (s == g)) [
            | inl here ↦ (let same : s ≡ g = grind (arith, nat_tests, here) in ap (under tree s) (sym same) ∙ own_under s)
            | inr other ↦
                (let step = times-other g s rest other in
                let found = walks.below g (omega (arith, step, some)) in
                above-child s found.0 found.2 (g + 1) g (omega arith) found.3 (node_at tree g).parent refl)
          ]

  -- a walk comes to no group twice
  walks-once : (n s : ℕ) → s < length tree → length tree ≤ n + s → IsWalk s (preorder tree s)
  walks-once zero s lt enough = absurd (omega (arith, lt, enough))
  walks-once (suc n) s lt enough =
      walk-from s lt (children-walk s (length tree) (s + 1) (omega arith) (λ c from inside. walks-once n c inside (omega (arith, from, enough))))

pub preorder_once : (tree : List Node) → IsTree tree → (target : ℕ) → target < length tree → IsOnce (preorder tree target)
preorder_once tree is target lt = let walk = walks-once tree is (length tree) target lt (omega arith) in walk.once
