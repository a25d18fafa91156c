-- For callers: from stored counts to those of the machine.
use Rattle.std.proofs.Common.{inl, inr, ◌≡◌, ◌≢◌, ℕ, zero, suc, ◌<◌, Bool, true, List, length, Option, Some, None, refl, sym, ap, ◌∙◌, arith}
use Rattle.machine.specs.declared.amount.Amount.{Amount}
use Rattle.machine.specs.Amounts.{at_most}
use Rattle.machine.specs.Protection.{effective}
use Rattle.machine.specs.Tree.{Node, node_at, IsTree, under}
use Rattle.machine.proofs.TreeLemmas.{eq_cases}
use Rattle.page_counter.proofs.ChildLemmas.{children_min_usage-same}
use Rattle.protection.proofs.EffectiveLemmas.{same_below, effective-child, effective-step, has_parent, under-parent}

-- counts that agree at each group that is there give the same effective values
module _ (tree : List Node) (is : IsTree tree) (target : ℕ) (recursive : Bool) (setting : ℕ → Amount) (f h : ℕ → ℕ) (same : (a : ℕ) → a < length tree → f a ≡ h a) where
  same_at : (n g : ℕ) → g < n → g < length tree → target ≢ g → under tree target g ≡ true → (at : Option ℕ) → (node_at tree g).parent ≡ at → effective recursive tree setting f target g ≡ effective recursive tree setting h target g
  same_at zero g lt within differs below at parent = absurd (omega arith)
  same_at (suc n) g lt within differs below None parent = absurd (has_parent tree is target g differs below parent)
  same_at (suc n) g lt within differs below (Some p) parent =
      elim (eq_cases target p) [
        | inl child ↦
            (let on_target = parent ∙ ap Some (sym child) in
            effective-child tree is target recursive setting f g differs on_target ∙ sym (effective-child tree is target recursive setting h g differs on_target))
        | inr more ↦
            (let falls = is.falls g p parent in
            let above = same_at n p (omega arith) (omega arith) more (under-parent tree is target g p differs parent below) (node_at tree p).parent refl in
            effective-step tree is target recursive setting f g p differs parent more
            ∙ same_below recursive above (children_min_usage-same tree setting f h same p) (same p (omega arith)) (same g within) (ap (λ n. at_most n (setting g)) (same g within))
            ∙ sym (effective-step tree is target recursive setting h g p differs parent more))
      ]

  pub effective-same : (g : ℕ) → g < length tree → target ≢ g → under tree target g ≡ true → effective recursive tree setting f target g ≡ effective recursive tree setting h target g
  effective-same g within differs below = same_at (suc g) g (omega arith) within differs below (node_at tree g).parent refl
