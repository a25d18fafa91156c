-- Groups with and without paths have the same children.
use Rattle.std.proofs.Common.{◌≡◌, ℕ, ◌+◌, ◌&&◌, List, [], ◌∷◌, length, map, filter, refl, ap, ◌∙◌, arith}
use Rattle.std.specs.Prelude.{sum_by}
use Rattle.std.specs.List.{enumerate_from}
use Rattle.std.proofs.lemmas.List.Elements.{filter_agree}
use Rattle.machine.specs.declared.amount.Amount.{Amount}
use Rattle.machine.specs.Protection.{min_usage, children_min_usage}
use Rattle.machine.specs.Tree.{Node, node_at, is_child, is_parent, numbers, children}
use Rattle.group_tree.specs.Kin.{AreKin}

same_numbers : (k : ℕ) (xs ys : List Node) → length xs ≡ length ys → map (λ e. e.0) (enumerate_from k xs) ≡ map (λ e. e.0) (enumerate_from k ys)
same_numbers k [] [] len = refl
same_numbers k [] (y ∷ ys) len = absurd (omega arith)
same_numbers k (x ∷ xs) [] len = absurd (omega arith)
same_numbers k (x ∷ xs) (y ∷ ys) len = ap (λ rest. k ∷ rest) (same_numbers (k + 1) xs ys (omega arith))

module _ (kin tree : List Node) (are : AreKin kin tree) where
  is_child-kin : (p g : ℕ) → is_child p (node_at kin g) ≡ is_child p (node_at tree g)
  is_child-kin p g = ap (λ b. b && is_parent (node_at kin g).parent p) (are.living g) ∙ ap (λ at. (node_at tree g).live && is_parent at p) (are.parents g)

  children-kin : (p : ℕ) → children kin p ≡ children tree p
  children-kin p =
      filter_agree (λ g. is_child p (node_at kin g)) (λ g. is_child p (node_at tree g)) (is_child-kin p) (numbers kin)
      ∙ ap (filter (λ g. is_child p (node_at tree g))) (same_numbers 0 kin tree are.len)

  -- and their children ask for as much
  pub children_min_usage-kin : (setting : ℕ → Amount) (usage : ℕ → ℕ) (p : ℕ) → children_min_usage kin setting usage p ≡ children_min_usage tree setting usage p
  children_min_usage-kin setting usage p = ap (sum_by (min_usage setting usage)) (children-kin p)
