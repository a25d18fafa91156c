-- Which groups are at or below which.
use Rattle.std.proofs.Common.{inl, inr, ◌≡◌, ℕ, zero, suc, ◌<◌, ◌≤◌, ◌==◌, true, false, List, Option, Some, None, sym, ap, ◌∙◌, arith}
use Rattle.std.proofs.lemmas.Bool.{cases_lt, or_right, or_cases}
use Rattle.machine.specs.Tree.{Node, node_at, under, under_at, rank, IsTree}
use Rattle.machine.proofs.TreeLemmas.{under_at-None, under_at-step, under_at-beyond, rank-parent}
use Rattle.group_tree.proofs.LineageLemmas.{under-child}
use Rattle.group_tree.proofs.WalkLemmas.{under_here}

module _ (tree : List Node) (is : IsTree tree) where
  -- what a group is under is numbered no higher
  pub under-not_above : (a g : ℕ) → under tree a g ≡ true → a ≤ g
  under-not_above a g h =
      elim (cases_lt g a) [
        | inl lt ↦ absurd (let none = under_at-beyond tree is (Some g) a lt in let wrong : true ≡ false = sym h ∙ none in cc)
        | inr ge ↦ ge
      ]

  -- whatever is under a group is under its parent
  pub below-parent : (s p : ℕ) → (node_at tree s).parent ≡ Some p → (n : ℕ) (at : Option ℕ) → rank at < n → under_at tree s at ≡ true → under_at tree p at ≡ true
  below-parent s p e zero at lt h = absurd (omega arith)
  below-parent s p e (suc n) None lt h = absurd (let none : true ≡ false = sym h ∙ under_at-None tree is s in cc)
  below-parent s p e (suc n) (Some g) lt h =
      elim (or_cases (s == g) _ (sym (under_at-step tree is s g) ∙ h)) [
        | inl here ↦
            (let same : s ≡ g = grind (arith, here) in
            under-child tree is p g p (ap (λ i. (node_at tree i).parent) (sym same) ∙ e) (under_here tree p p (let own : (p == p) ≡ true = grind arith in own)))
        | inr above ↦
            under_at-step tree is p g
            ∙ or_right (p == g) _ (below-parent s p e n (node_at tree g).parent (let falls = rank-parent tree is g in omega (arith, falls, lt)) above)
      ]

  -- no group is under two children of one
  pub apart : (k s p : ℕ) → k < s → (node_at tree k).parent ≡ Some p → (node_at tree s).parent ≡ Some p → (n : ℕ) (at : Option ℕ) → rank at < n → under_at tree k at ≡ true → under_at tree s at ≡ true → ⊥
  apart k s p differs ek es zero at lt hk hs = omega arith
  apart k s p differs ek es (suc n) None lt hk hs = let none : true ≡ false = sym hk ∙ under_at-None tree is k in cc
  apart k s p differs ek es (suc n) (Some g) lt hk hs =
      elim (or_cases (k == g) _ (sym (under_at-step tree is k g) ∙ hk)) [
        | inl k_here ↦
            (let k_same : k ≡ g = grind (arith, k_here) in
            elim (or_cases (s == g) _ (sym (under_at-step tree is s g) ∙ hs)) [
              | inl s_here ↦ (let s_same : s ≡ g = grind (arith, s_here) in omega (arith, k_same, s_same, differs))
              | inr s_above ↦ none s (is.falls s p es) g (ap (λ i. (node_at tree i).parent) (sym k_same) ∙ ek) s_above
            ])
        | inr k_above ↦
            elim (or_cases (s == g) _ (sym (under_at-step tree is s g) ∙ hs)) [
              | inl s_here ↦ (let s_same : s ≡ g = grind (arith, s_here) in none k (is.falls k p ek) g (ap (λ i. (node_at tree i).parent) (sym s_same) ∙ es) k_above)
              | inr s_above ↦ apart k s p differs ek es n (node_at tree g).parent (let falls = rank-parent tree is g in omega (arith, falls, lt)) k_above s_above
            ]
      ]
    where
      -- their parent is under neither
      none : (c : ℕ) → p < c → (g : ℕ) → (node_at tree g).parent ≡ Some p → under_at tree c (node_at tree g).parent ≡ true → ⊥
      none c below g e h = let wrong : true ≡ false = sym h ∙ ap (under_at tree c) e ∙ under_at-beyond tree is (Some p) c below in cc
