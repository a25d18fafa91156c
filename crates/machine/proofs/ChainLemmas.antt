-- The chain from a group up to a group above it.
use Rattle.std.proofs.Common.{◌≡◌, ◌≢◌, ℕ, ◌==◌, true, false, cond, not, List, [], ◌∷◌, Option, Some, None, sym, ap, ◌∙◌, arith}
use Rattle.std.specs.Prelude.{take_while}
use Rattle.std.proofs.lemmas.List.Sums.{take_while-cons}
use Rattle.machine.specs.Tree.{Node, node_at, IsTree, chain, chain_below}
use Rattle.machine.proofs.TreeLemmas.{chain-step}

module _ (tree : List Node) (is : IsTree tree) (target : ℕ) where
  -- the groups from here up that are below the target
  pub below : Option ℕ → List ℕ
  below at = take_while (λ a. not (a == target)) (chain tree at)

  pub chain_below-more : (g : ℕ) → target ≢ g → chain_below tree target g ≡ g ∷ below (node_at tree g).parent
  unfolding chain_below below
  chain_below-more g differs =
      let other : (g == target) ≡ false = grind (arith, differs) in
      ap (take_while (λ a. not (a == target))) (chain-step tree is g) ∙ take_while-cons (λ a. not (a == target)) g (chain tree (node_at tree g).parent)
      ∙ ap (λ b. cond (not b) (g ∷ below (node_at tree g).parent) []) other

  pub chain_below-step : (g p : ℕ) → target ≢ g → (node_at tree g).parent ≡ Some p → chain_below tree target g ≡ g ∷ chain_below tree target p
  unfolding chain_below below
  chain_below-step g p differs parent = chain_below-more g differs ∙ ap (λ at. g ∷ below at) parent

  pub chain_below-own : chain_below tree target target ≡ []
  unfolding chain_below
  chain_below-own =
      let same : (target == target) ≡ true = grind arith in
      ap (take_while (λ a. not (a == target))) (chain-step tree is target) ∙ take_while-cons (λ a. not (a == target)) target (chain tree (node_at tree target).parent)
      ∙ ap (λ b. cond (not b) (target ∷ take_while (λ a. not (a == target)) (chain tree (node_at tree target).parent)) []) same
