-- The effective value of a group by that of its parent.
use Rattle.std.proofs.Common.{◌≡◌, ◌≢◌, ℕ, ◌==◌, Bool, true, false, cond, not, ◌||◌, List, [], ◌∷◌, Option, Some, None, sym, ap, ◌∙◌, arith}
use Rattle.std.specs.Prelude.{take_while}
use Rattle.std.proofs.lemmas.List.Sums.{take_while-cons}
use Rattle.machine.specs.declared.amount.Amount.{Amount}
use Rattle.machine.specs.Protection.{min_usage, children_min_usage, below_parent, effective_along, effective}
use Rattle.machine.specs.Tree.{Node, node_at, IsTree, chain, chain_below, under, under_at}
use Rattle.machine.proofs.ChainLemmas.{chain_below-more, chain_below-step, chain_below-own}
use Rattle.machine.proofs.TreeLemmas.{under_at-None, under_at-step}

-- equal numbers give the same value below a parent
pub same_below : (recursive : Bool) {e k : Amount} {s t a b u v n m : ℕ} → e ≡ k → s ≡ t → a ≡ b → u ≡ v → n ≡ m → below_parent recursive e s a u n ≡ below_parent recursive k t b v m
same_below recursive p q r x y = cc

module _ (tree : List Node) (is : IsTree tree) (target : ℕ) where
  module _ (recursive : Bool) (setting : ℕ → Amount) (usage : ℕ → ℕ) where
    -- rule 2: a child of the target
    pub effective-child : (g : ℕ) → target ≢ g → (node_at tree g).parent ≡ Some target → effective recursive tree setting usage target g ≡ setting g
    unfolding effective_along
    effective-child g differs parent = ap (effective_along recursive tree setting usage) (chain_below-step tree is target g target differs parent ∙ ap (λ rest. g ∷ rest) (chain_below-own tree is target))

    -- rules 3 to 5: a group below that
    pub effective-step : (g p : ℕ) → target ≢ g → (node_at tree g).parent ≡ Some p → target ≢ p
        → effective recursive tree setting usage target g ≡ below_parent recursive (effective recursive tree setting usage target p) (children_min_usage tree setting usage p) (usage p) (usage g) (min_usage setting usage g)
    unfolding effective_along
    effective-step g p differs parent more =
        ap (effective_along recursive tree setting usage) (chain_below-step tree is target g p differs parent ∙ ap (λ rest. g ∷ rest) (chain_below-more tree is target p more))
        ∙ ap (λ e. below_parent recursive e (children_min_usage tree setting usage p) (usage p) (usage g) (min_usage setting usage g)) (ap (effective_along recursive tree setting usage) (sym (chain_below-more tree is target p more)))

  above_is : (g : ℕ) → target ≢ g → under tree target g ≡ true → under_at tree target (node_at tree g).parent ≡ true
  above_is g differs h =
      let other : (target == g) ≡ false = grind (arith, differs) in
      sym (ap (λ b. b || under_at tree target (node_at tree g).parent) other) ∙ sym (under_at-step tree is target g) ∙ h

  -- what hangs below the target hangs below a group that is at or below it
  pub under-parent : (g p : ℕ) → target ≢ g → (node_at tree g).parent ≡ Some p → under tree target g ≡ true → under tree target p ≡ true
  under-parent g p differs parent h = ap (under_at tree target) (sym parent) ∙ above_is g differs h

  pub has_parent : (g : ℕ) → target ≢ g → under tree target g ≡ true → (node_at tree g).parent ≡ None → ⊥
  has_parent g differs h none = let wrong : false ≡ true = sym (ap (under_at tree target) none ∙ under_at-None tree is target) ∙ above_is g differs h in cc
