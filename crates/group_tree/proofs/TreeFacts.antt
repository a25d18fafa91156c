-- Which numbers are groups', and what a list of groups says of them once there is one more.
use Rattle.std.proofs.Common.{inl, inr, ◌≡◌, ℕ, ◌<◌, true, List, [], ◌∷◌, ◌++◌, length, Some, None, sym, ap, ◌∙◌, arith, length-append}
use Rattle.std.proofs.lemmas.Bool.{cases_lt}
use Rattle.std.proofs.lemmas.List.{get_or_append_left}
use Rattle.std.proofs.Math.Seq.{get_or-append_seam}
use Rattle.std.proofs.Math.ListN.{get_or-eq_default}
use Rattle.machine.specs.Tree.{Node, no_node, node_at, is_live}
use Rattle.machine.proofs.TreeLemmas.{lt_cases}

-- a live group is there
pub live-within : (tree : List Node) (g : ℕ) → is_live tree g ≡ true → g < length tree
live-within tree g live =
    elim (cases_lt g (length tree)) [
      | inl lt ↦ lt
      | inr beyond ↦ absurd (let not_live = ap (λ x. x.live) (get_or-eq_default tree no_node beyond) in cc)
    ]

-- only a group hangs below another
pub within : (tree : List Node) (g p : ℕ) → (node_at tree g).parent ≡ Some p → g < length tree
within tree g p e =
    elim (cases_lt g (length tree)) [
      | inl lt ↦ lt
      | inr beyond ↦ absurd (let none : None ≡ Some p = sym (ap (λ x. x.parent) (get_or-eq_default tree no_node beyond)) ∙ e in cc)
    ]

module _ (tree : List Node) (x : Node) where
  pub at_old : (g : ℕ) → g < length tree → node_at (tree ++ x ∷ []) g ≡ node_at tree g
  at_old g lt = get_or_append_left tree (x ∷ []) no_node g lt

  pub at_new : (g : ℕ) → g ≡ length tree → node_at (tree ++ x ∷ []) g ≡ x
  at_new g same = ap (node_at (tree ++ x ∷ [])) same ∙ get_or-append_seam tree x [] no_node

  pub at_none : (g : ℕ) → length tree < g → node_at (tree ++ x ∷ []) g ≡ no_node
  at_none g gt = get_or-eq_default (tree ++ x ∷ []) no_node (let len = length-append tree (x ∷ []) in omega (arith, len))

  pub still_live : (g : ℕ) → is_live tree g ≡ true → is_live (tree ++ x ∷ []) g ≡ true
  still_live g live = ap (λ y. y.live) (at_old g (live-within tree g live)) ∙ live

  -- below a live group, it leaves what live groups hang below live
  pub push-parents_live : (p : ℕ) → x.parent ≡ Some p → is_live tree p ≡ true → ((g q : ℕ) → is_live tree g ≡ true → (node_at tree g).parent ≡ Some q → is_live tree q ≡ true)
      → (g q : ℕ) → is_live (tree ++ x ∷ []) g ≡ true → (node_at (tree ++ x ∷ []) g).parent ≡ Some q → is_live (tree ++ x ∷ []) q ≡ true
  push-parents_live p below parent_live parents_live g q live e =
      elim (lt_cases g (length tree)) [
        | inl old ↦ still_live q (parents_live g q (sym (ap (λ y. y.live) (at_old g old)) ∙ live) (sym (ap (λ y. y.parent) (at_old g old)) ∙ e))
        | inr (inl new) ↦ (let some : Some p ≡ Some q = sym below ∙ sym (ap (λ y. y.parent) (at_new g new)) ∙ e in let same : p ≡ q = cc in still_live q (ap (is_live tree) (sym same) ∙ parent_live))
        | inr (inr beyond) ↦ absurd (let none : None ≡ Some q = sym (ap (λ y. y.parent) (at_none g beyond)) ∙ e in cc)
      ]
