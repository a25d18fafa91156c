-- What the chain, `under` and `over` of a group are by those of its parent.
use Rattle.std.proofs.Common.{◌⊎◌, inl, inr, ◌≡◌, ℕ, zero, suc, ◌+◌, ◌<◌, ◌==◌, Bool, true, false, cond, if◌then◌else◌, List, [], ◌∷◌, ◌++◌, length, length-append, Option, Some, None, refl, sym, ap, ◌∙◌, subst, arith, ◌≤◌, ◌||◌}
use Rattle.std.specs.Prelude.{find, nat_lt}
use Rattle.std.specs.List.{list_any}
use Rattle.std.proofs.lemmas.List.{get_or_append_left}
use Rattle.std.proofs.Math.Seq.{get_or-append_seam}
use Rattle.std.proofs.Math.ListN.{get_or-eq_default}
use Rattle.std.proofs.lemmas.Bool.{cases_Bool}
use Rattle.std.proofs.lemmas.Bool.Decides.{nat_tests}
use Rattle.machine.specs.Amounts.{exceeds}
use Rattle.machine.specs.Tree.{Node, node_at, IsTree, chain_up, chain, under_at, share, IsBelow, IsAbove, rank, no_node}
use Rattle.machine.specs.declared.record.Limits.{Limits}
use Rattle.machine.specs.Counts.{limits_at, is_full, over_at}

pub eq_cases : (a g : ℕ) → (a ≡ g) ⊎ (a ≡ g → ⊥)
eq_cases a g =
    elim (cases_Bool (a == g)) [
      | inl so ↦ inl (grind (arith, so))
      | inr not_so ↦ inr (λ same. grind (arith, not_so, same))
    ]

pub lt_cases : (u g : ℕ) → (u < g) ⊎ ((u ≡ g) ⊎ (g < u))
lt_cases u g =
    elim (cases_Bool (nat_lt u g)) [
      | inl so ↦ inl (grind (arith, so, nat_tests))
      | inr not_so ↦ elim (eq_cases u g) [
        | inl same ↦ inr (inl same)
        | inr differs ↦ inr (inr (grind (arith, not_so, differs, nat_tests)))
      ]
    ]

module _ (nodes : List Node) (tree : IsTree nodes) where
  parent_below : (g n : ℕ) (at : Option ℕ) → (node_at nodes g).parent ≡ at → g < suc n → IsBelow at n
  parent_below g n None e h = tt
  parent_below g n (Some p) e h = let lt : p < g = tree.falls g p e in omega arith

  -- more steps than the number change nothing
  chain_up-steps : (n m : ℕ) (at : Option ℕ) → IsBelow at n → IsBelow at m → chain_up n nodes at ≡ chain_up m nodes at
  unfolding chain_up
  chain_up-steps zero zero at h k = refl
  chain_up-steps zero (suc m) None h k = refl
  chain_up-steps zero (suc m) (Some g) h k = absurd (omega arith)
  chain_up-steps (suc n) zero None h k = refl
  chain_up-steps (suc n) zero (Some g) h k = absurd (omega arith)
  chain_up-steps (suc n) (suc m) None h k = refl
  chain_up-steps (suc n) (suc m) (Some g) h k =
      ap (λ rest. g ∷ rest) (chain_up-steps n m (node_at nodes g).parent (parent_below g n _ refl h) (parent_below g m _ refl k))

  chain_rest : (g : ℕ) (at : Option ℕ) → (node_at nodes g).parent ≡ at → chain_up g nodes at ≡ chain nodes at
  unfolding chain chain_up
  chain_rest zero None e = refl
  chain_rest (suc g) None e = refl
  chain_rest g (Some p) e = chain_up-steps g (suc p) (Some p) (tree.falls g p e) (omega arith)

  pub chain-step : (g : ℕ) → chain nodes (Some g) ≡ g ∷ chain nodes (node_at nodes g).parent
  unfolding chain chain_up
  chain-step g = ap (λ rest. g ∷ rest) (chain_rest g (node_at nodes g).parent refl)

  -- whoever is under a is not below it
  beyond : (n : ℕ) (at : Option ℕ) (a : ℕ) → IsBelow at a → list_any (λ g. a == g) (chain_up n nodes at) ≡ false
  unfolding chain_up
  beyond zero at a h = refl
  beyond (suc n) None a h = refl
  beyond (suc n) (Some g) a h =
      let differs : (a == g) ≡ false = grind arith in
      rw differs (beyond n (node_at nodes g).parent a (parent_below g a _ refl (omega arith)))

  chain-up : (at : Option ℕ) → (n : ℕ) × (chain nodes at ≡ chain_up n nodes at)
  unfolding chain chain_up
  chain-up None = (0, refl)
  chain-up (Some g) = (suc g, refl)

  pub under_at-beyond : (at : Option ℕ) (a : ℕ) → IsBelow at a → under_at nodes a at ≡ false
  unfolding under_at
  under_at-beyond at a h = let c = chain-up at in rw c.1 (beyond c.0 at a h)

  pub under_at-None : (a : ℕ) → under_at nodes a None ≡ false
  unfolding under_at chain
  under_at-None a = refl

  pub under_at-step : (a g : ℕ) → under_at nodes a (Some g) ≡ ((a == g) || under_at nodes a (node_at nodes g).parent)
  unfolding under_at
  under_at-step a g = rw chain-step refl

  pub share-None : (a : ℕ) → share nodes a None ≡ 0
  unfolding share
  share-None a = rw under_at-None refl

  pub share-beyond : (at : Option ℕ) (a : ℕ) → IsBelow at a → share nodes a at ≡ 0
  unfolding share
  share-beyond at a h = rw (under_at-beyond at a h) refl

  parent_below_own : (g : ℕ) (at : Option ℕ) → (node_at nodes g).parent ≡ at → IsBelow at g
  parent_below_own g None e = tt
  parent_below_own g (Some p) e = tree.falls g p e

  one_share : (a g : ℕ) (b c : Bool) → (a == g) ≡ c → (a ≡ g → b ≡ false) → cond (c || b) 1 0 ≡ cond c 1 0 + cond b 1 0
  one_share a g true true e h = absurd (let same : a ≡ g = grind arith in let wrong = h same in cc)
  one_share a g true false e h = refl
  one_share a g false true e h = refl
  one_share a g false false e h = refl

  pub share-step : (a g : ℕ) → share nodes a (Some g) ≡ (if a == g then 1 else 0) + share nodes a (node_at nodes g).parent
  unfolding share
  share-step a g =
      rw (under_at-step a g) (one_share a g _ _ refl (λ same. under_at-beyond _ a (subst (IsBelow (node_at nodes g).parent) (sym same) (parent_below_own g _ refl))))

  pub share-under : (a : ℕ) (at : Option ℕ) → share nodes a at ≡ (if under_at nodes a at then 1 else 0)
  unfolding share
  share-under a at = refl

  pub share-own : (g : ℕ) → share nodes g (Some g) ≡ 1
  share-own g =
      let step = share-step g g in
      let none = share-beyond (node_at nodes g).parent g (parent_below_own g _ refl) in
      let same : (g == g) ≡ true = grind arith in
      grind (arith, step, none, same)

  pub share-le : (a : ℕ) (at : Option ℕ) → share nodes a at ≤ 1
  unfolding share
  share-le a at = elim (under_at nodes a at) as (λ b. cond b 1 0 ≤ 1) [ true ↦ omega arith | false ↦ omega arith ]

  -- an ancestor that is not the group itself is not at the group
  pub share-above : (low : Option ℕ) (g : ℕ) → IsAbove nodes low (Some g) → (low ≡ Some g → ⊥) → share nodes g low ≡ 0
  share-above None g above differs = share-None g
  share-above (Some u) g above differs =
      elim (lt_cases u g) [
        | inl lt ↦ share-beyond (Some u) g lt
        | inr (inl same) ↦ absurd (differs (ap Some same))
        | inr (inr gt) ↦ absurd (let own = share-own u in let none = share-beyond (Some g) u gt in let h = above u in omega (arith, own, none, h))
      ]

  -- the parent is over what the group is over, but for the group itself
  pub above_parent : (low : Option ℕ) (g : ℕ) → IsAbove nodes low (Some g) → (low ≡ Some g → ⊥) → IsAbove nodes low (node_at nodes g).parent
  above_parent low g above differs a =
      elim (eq_cases a g) [
        | inl same ↦ rw same (let none = share-above low g above differs in omega (arith, none))
        | inr other ↦ (let step = share-step a g in let h = above a in let no : (a == g) ≡ false = grind (arith, other) in grind (arith, step, h, no))
      ]

  pub parent_above : (g : ℕ) → IsAbove nodes (node_at nodes g).parent (Some g)
  parent_above g a = let step = share-step a g in grind (arith, step)

  rank_of_below : (g : ℕ) (at : Option ℕ) → IsBelow at g → rank at < rank (Some g)
  rank_of_below g None h = omega arith
  rank_of_below g (Some p) h = omega arith

  pub rank-parent : (g : ℕ) → rank (node_at nodes g).parent < rank (Some g)
  rank-parent g = rank_of_below g _ (parent_below_own g _ refl)

  pub parent_in : (g n : ℕ) → g < n → IsBelow (node_at nodes g).parent n
  parent_in g n h = parent_below g n _ refl (omega arith)

  pub over_at-None : (limits : List Limits) (charged : ℕ → ℕ) → over_at nodes limits charged None ≡ None
  unfolding over_at chain
  over_at-None limits charged = refl

  pub over_at-step : (limits : List Limits) (charged : ℕ → ℕ) (g : ℕ) → over_at nodes limits charged (Some g) ≡ cond (is_full limits charged g) (Some g) (over_at nodes limits charged (node_at nodes g).parent)
  unfolding over_at
  over_at-step limits charged g = rw chain-step refl

-- trees with the same parents have the same chains
same_chain_up : (xs ys : List Node) → ((g : ℕ) → (node_at xs g).parent ≡ (node_at ys g).parent) → (n : ℕ) (at : Option ℕ) → chain_up n xs at ≡ chain_up n ys at
unfolding chain_up
same_chain_up xs ys same zero at = refl
same_chain_up xs ys same (suc n) None = refl
same_chain_up xs ys same (suc n) (Some g) =
    ap (λ rest. g ∷ rest) (same_chain_up xs ys same n (node_at xs g).parent ∙ ap (chain_up n ys) (same g))

pub same_chain : (xs ys : List Node) → ((g : ℕ) → (node_at xs g).parent ≡ (node_at ys g).parent) → (at : Option ℕ) → chain xs at ≡ chain ys at
unfolding chain
same_chain xs ys same None = refl
same_chain xs ys same (Some g) = same_chain_up xs ys same (suc g) (Some g)

pub same_under : (xs ys : List Node) → ((g : ℕ) → (node_at xs g).parent ≡ (node_at ys g).parent) → (a : ℕ) (at : Option ℕ) → under_at xs a at ≡ under_at ys a at
unfolding under_at
same_under xs ys same a at = ap (list_any (λ g. a == g)) (same_chain xs ys same at)

-- a group more at the end leaves the chains of the others
node_at-append : (nodes more : List Node) (g : ℕ) → g < length nodes → node_at (nodes ++ more) g ≡ node_at nodes g
node_at-append nodes more g lt = get_or_append_left nodes more _ g lt

chain_up-append : (nodes more : List Node) → IsTree nodes → (n : ℕ) (at : Option ℕ) → IsBelow at (length nodes) → chain_up n (nodes ++ more) at ≡ chain_up n nodes at
unfolding chain_up
chain_up-append nodes more tree zero at h = refl
chain_up-append nodes more tree (suc n) None h = refl
chain_up-append nodes more tree (suc n) (Some g) h =
    ap (λ rest. g ∷ rest)
    (ap (λ x. chain_up n (nodes ++ more) x.parent) (node_at-append nodes more g h)
    ∙ chain_up-append nodes more tree n (node_at nodes g).parent (parent_in nodes tree g (length nodes) h))

pub chain-append : (nodes more : List Node) → IsTree nodes → (at : Option ℕ) → IsBelow at (length nodes) → chain (nodes ++ more) at ≡ chain nodes at
unfolding chain
chain-append nodes more tree None h = refl
chain-append nodes more tree (Some g) h = chain_up-append nodes more tree (suc g) (Some g) h

pub under_at-append : (nodes more : List Node) → IsTree nodes → (a : ℕ) (at : Option ℕ) → IsBelow at (length nodes) → under_at (nodes ++ more) a at ≡ under_at nodes a at
unfolding under_at
under_at-append nodes more tree a at h = ap (list_any (λ g. a == g)) (chain-append nodes more tree at h)

below_at : (at : Option ℕ) (n p : ℕ) → IsBelow at n → at ≡ Some p → p < n
below_at None n p h e = cc
below_at (Some g) n p h e = let same : g ≡ p = cc in omega (arith, h, same)

IsTree-push-falls : (nodes : List Node) (x : Node) → IsTree nodes → IsBelow x.parent (length nodes) → (g p : ℕ) → (node_at (nodes ++ x ∷ []) g).parent ≡ Some p
    → (g < length nodes) ⊎ ((g ≡ length nodes) ⊎ (length nodes < g)) → p < g
IsTree-push-falls nodes x tree h g p e (inl lt) = tree.falls g p (rw (node_at-append nodes (x ∷ []) g lt) at e)
IsTree-push-falls nodes x tree h g p e (inr (inl same)) =
    let is : node_at (nodes ++ x ∷ []) g ≡ x = rw same (get_or-append_seam nodes x [] _) in
    let f = below_at x.parent (length nodes) p h (sym (ap (λ y. y.parent) is) ∙ e) in omega (arith, f, same)
IsTree-push-falls nodes x tree h g p e (inr (inr gt)) =
    let is : node_at (nodes ++ x ∷ []) g ≡ no_node = get_or-eq_default (nodes ++ x ∷ []) _ (simp length-append (omega arith)) in
    let wrong : None ≡ Some p = sym (ap (λ y. y.parent) is) ∙ e in cc

-- a child of a group that is there keeps the tree
pub IsTree-push : (nodes : List Node) (x : Node) → IsTree nodes → IsBelow x.parent (length nodes) → IsTree (nodes ++ x ∷ [])
IsTree-push nodes x tree h = record { falls = λ g p e. IsTree-push-falls nodes x tree h g p e (lt_cases g (length nodes)) }

-- each group of a chain is there
over_up-same : (nodes : List Node) (limits : List Limits) → IsTree nodes → (f h : ℕ → ℕ) → ((a : ℕ) → a < length nodes → f a ≡ h a) → (n : ℕ) (at : Option ℕ) → IsBelow at (length nodes)
    → find (is_full limits f) (chain_up n nodes at) ≡ find (is_full limits h) (chain_up n nodes at)
unfolding chain_up
over_up-same nodes limits tree f h same zero at below = refl
over_up-same nodes limits tree f h same (suc n) None below = refl
over_up-same nodes limits tree f h same (suc n) (Some g) below =
    ap (λ m. cond (exceeds (m + 1) (limits_at limits g).max) (Some g) (find (is_full limits f) (chain_up n nodes (node_at nodes g).parent))) (same g below)
    ∙ ap (cond (is_full limits h g) (Some g)) (over_up-same nodes limits tree f h same n (node_at nodes g).parent (parent_in nodes tree g (length nodes) below))

-- counts that agree at each group have the same group over its max
pub over_at-same : (nodes : List Node) (limits : List Limits) → IsTree nodes → (f h : ℕ → ℕ) → ((a : ℕ) → a < length nodes → f a ≡ h a) → (at : Option ℕ) → IsBelow at (length nodes) → over_at nodes limits f at ≡ over_at nodes limits h at
unfolding over_at
over_at-same nodes limits tree f h same at below = let c = chain-up nodes tree at in rw c.1 (over_up-same nodes limits tree f h same c.0 at below)

pub share-is : (nodes : List Node) (a : ℕ) (at : Option ℕ) → share nodes a at ≡ cond (under_at nodes a at) 1 0
unfolding share
share-is nodes a at = refl
