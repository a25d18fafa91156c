-- A walk over a tree with a group less, one that had no children: it is left out, and all others stay where they are.
use Rattle.std.proofs.Common.{inl, inr, ◌≡◌, ◌≢◌, ℕ, zero, suc, ◌+◌, ◌-◌, ◌<◌, ◌≤◌, ◌&&◌, ◌||◌, Bool, true, false, if◌then◌else◌, List, [], ◌∷◌, ◌++◌, length, Some, refl, sym, ap, ◌∙◌, subst, arith, length-set}
use Rattle.std.specs.Prelude.{flat_map}
use Rattle.std.specs.List.{list_any}
use Rattle.std.proofs.lemmas.Bool.{cases_lt, cases_Bool}
use Rattle.machine.specs.Tree.{Node, node_at, is_live, is_child, is_parent, has_children, under, IsTree, preorder, without_group}
use Rattle.machine.proofs.TreeLemmas.{eq_cases}
use Rattle.machine.proofs.RemovedLemmas.{without-dead, without-other, without-falls}
use Rattle.group_tree.specs.Groups.{IsGroupTree}
use Rattle.group_tree.specs.Walk.{children_among, children_from}
use Rattle.group_tree.proofs.TreeFacts.{live-within, within}
use Rattle.group_tree.proofs.PreorderLemmas.{children_from-end, children_from-child, children_from-other, children_from-own, child_parent, child-from, flat_map-children, preorder-step}
use Rattle.group_tree.proofs.UnderLemmas.{under-not_above}
use Rattle.group_tree.proofs.SpliceLemmas.{Swaps, swaps-front, same_apart, swaps-above}

-- where no group hangs below p, it has no children
among-none : (p k : ℕ) (xs : List Node) → list_any (is_child p) xs ≡ false → children_among p k xs ≡ []
among-none p k [] h = refl
among-none p k (x ∷ xs) h =
    elim (cases_Bool (is_child p x)) [
      | inl child ↦ absurd (let some : true ≡ false = sym (ap (λ b. b || list_any (is_child p) xs) child) ∙ h in cc)
      | inr other ↦
          ap (λ b. if b then k ∷ children_among p (k + 1) xs else children_among p (k + 1) xs) other ∙ among-none p (k + 1) xs (sym (ap (λ b. b || list_any (is_child p) xs) other) ∙ h)
    ]

pub preorder-childless : (tree : List Node) → IsTree tree → (g : ℕ) → g < length tree → has_children tree g ≡ false → preorder tree g ≡ g ∷ []
preorder-childless tree is g lt childless =
    preorder-step tree is g lt ∙ ap (λ cs. g ∷ flat_map (preorder tree) cs) (sym (children_from-own tree is g (g + 1) 0 lt (omega arith)) ∙ among-none g 0 tree childless)

-- trees in which the same are children of q from a number on
children-alike : (tree new : List Node) (q : ℕ) → length new ≡ length tree → (n k : ℕ) → length tree ≤ n + k → ((j : ℕ) → k ≤ j → is_child q (node_at new j) ≡ is_child q (node_at tree j))
    → children_from new q k ≡ children_from tree q k
children-alike tree new q len zero k enough same = children_from-end new q k (omega (arith, len)) ∙ sym (children_from-end tree q k (omega arith))
children-alike tree new q len (suc n) k enough same =
    elim (cases_lt k (length tree)) [
      | inl lt ↦
          (let rest = children-alike tree new q len n (k + 1) (omega arith) (λ j from. same j (omega (arith, from))) in
          elim (cases_Bool (is_child q (node_at tree k))) [
            | inl child ↦ children_from-child new q k (omega (arith, len, lt)) (same k (omega arith) ∙ child) ∙ ap (λ cs. k ∷ cs) rest ∙ sym (children_from-child tree q k lt child)
            | inr other ↦ children_from-other new q k (omega (arith, len, lt)) (same k (omega arith) ∙ other) ∙ rest ∙ sym (children_from-other tree q k lt other)
          ])
      | inr ge ↦ children_from-end new q k (omega (arith, len, ge)) ∙ sym (children_from-end tree q k ge)
    ]

module _ (tree : List Node) (g p : ℕ) (groups : IsGroupTree tree) (live : is_live tree g ≡ true) (below : (node_at tree g).parent ≡ Some p) (childless : has_children tree g ≡ false) where
  is_tree : IsTree (without_group tree g)
  is_tree = without-falls tree g groups.earlier_parents

  len : length (without_group tree g) ≡ length tree
  len = length-set tree g _

  -- the removed group is no child
  gone : (q : ℕ) → is_child q (node_at (without_group tree g) g) ≡ false
  gone q = ap (λ (b : Bool). b && is_parent (node_at (without_group tree g) g).parent q) (without-dead tree g)

  others : (q j : ℕ) → j ≢ g → is_child q (node_at (without_group tree g) j) ≡ is_child q (node_at tree j)
  others q j differs = ap (is_child q) (without-other tree g j differs)

  later : (q k : ℕ) → g < k → children_from (without_group tree g) q k ≡ children_from tree q k
  later q k more = children-alike tree (without_group tree g) q len (length tree) k (omega arith) (λ j from. others q j (λ same. omega (arith, same, from, more)))

  alike : (q : ℕ) → q ≢ p → q < length tree → children_from (without_group tree g) q (q + 1) ≡ children_from tree q (q + 1)
  alike q differs lt = children-alike tree (without_group tree g) q len (length tree) (q + 1) (omega arith) (λ j from. same j)
    where
      not_own : (b : Bool) → is_child q (node_at tree g) ≡ b → is_child q (node_at tree g) ≡ false
      not_own true is = absurd (let parents : Some q ≡ Some p = sym (child_parent tree q g is) ∙ below in differs (let e : q ≡ p = cc in e))
      not_own false is = is

      same : (j : ℕ) → is_child q (node_at (without_group tree g) j) ≡ is_child q (node_at tree j)
      same j =
          elim (eq_cases j g) [
            | inl here ↦ ap (λ i. is_child q (node_at (without_group tree g) i)) here ∙ gone q ∙ sym (ap (λ i. is_child q (node_at tree i)) here ∙ not_own (is_child q (node_at tree g)) refl)
            | inr other ↦ others q j other
          ]

  -- a child of p is not above p, so a walk from it is as it was
  same-child : (c : ℕ) → (node_at tree c).parent ≡ Some p → preorder (without_group tree g) c ≡ preorder tree c
  same-child c e =
      let longer = len in
      same_apart tree (without_group tree g) groups.earlier_parents is_tree (omega (arith, longer)) p alike (length tree) c (within tree c p e) (omega arith) not_above
    where
      not_above : under tree c p ≡ false
      not_above =
          elim (cases_Bool (under tree c p)) [
            | inl it_is ↦ absurd (let falls = groups.earlier_parents.falls c p e in let no_more = under-not_above tree groups.earlier_parents c p it_is in omega (arith, falls, no_more))
            | inr it_is_not ↦ it_is_not
          ]

  over-children : (n k : ℕ) → k + n ≡ g → Swaps (g ∷ []) [] (flat_map (preorder tree) (children_from tree p k)) (flat_map (preorder (without_group tree g)) (children_from (without_group tree g) p k))
  over-children zero k sum =
      let same : k ≡ g = omega arith in
      let lt = live-within tree g live in
      let longer = len in
      let rest : flat_map (preorder (without_group tree g)) (children_from tree p (g + 1)) ≡ flat_map (preorder tree) (children_from tree p (g + 1)) =
      flat_map-children tree (preorder (without_group tree g)) (preorder tree) p 0 (λ c from e. same-child c e) (length tree) (g + 1) (omega arith) (omega arith) in
      record {
        before = [];
        after = flat_map (preorder tree) (children_from tree p (g + 1));
        was =
            ap (λ cs. flat_map (preorder tree) cs) (ap (children_from tree p) same ∙ children_from-child tree p g lt (child-from tree p g live below))
            ∙ ap (λ xs. xs ++ flat_map (preorder tree) (children_from tree p (g + 1))) (preorder-childless tree groups.earlier_parents g lt childless);
        now_is =
            ap (λ cs. flat_map (preorder (without_group tree g)) cs)
            (ap (children_from (without_group tree g) p) same ∙ children_from-other (without_group tree g) p g (omega (arith, longer, lt)) (gone p) ∙ later p (g + 1) (omega arith))
            ∙ rest;
      }
  over-children (suc n) k sum =
      let lt = live-within tree g live in
      let longer = len in
      let rest = over-children n (k + 1) (omega arith) in
      let same = others p k (λ e. omega (arith, e, sum)) in
      elim (cases_Bool (is_child p (node_at tree k))) [
        | inl child ↦
            subst (λ (cs : List ℕ). Swaps (g ∷ []) [] (flat_map (preorder tree) cs) (flat_map (preorder (without_group tree g)) (children_from (without_group tree g) p k)))
            (sym (children_from-child tree p k (omega (arith, lt, sum)) child))
            (subst (λ (cs : List ℕ). Swaps (g ∷ []) [] (preorder tree k ++ flat_map (preorder tree) (children_from tree p (k + 1))) (flat_map (preorder (without_group tree g)) cs))
            (sym (children_from-child (without_group tree g) p k (omega (arith, lt, sum, longer)) (same ∙ child)))
            (subst (λ (ys : List ℕ). Swaps (g ∷ []) [] (preorder tree k ++ flat_map (preorder tree) (children_from tree p (k + 1))) (ys ++ flat_map (preorder (without_group tree g)) (children_from (without_group tree g) p (k + 1))))
            (sym (same-child k (child_parent tree p k child)))
            (swaps-front (g ∷ []) [] (flat_map (preorder tree) (children_from tree p (k + 1))) (flat_map (preorder (without_group tree g)) (children_from (without_group tree g) p (k + 1))) rest (preorder tree k))))
        | inr other ↦
            subst (λ (cs : List ℕ). Swaps (g ∷ []) [] (flat_map (preorder tree) cs) (flat_map (preorder (without_group tree g)) (children_from (without_group tree g) p k)))
            (sym (children_from-other tree p k (omega (arith, lt, sum)) other))
            (subst (λ (cs : List ℕ). Swaps (g ∷ []) [] (flat_map (preorder tree) (children_from tree p (k + 1))) (flat_map (preorder (without_group tree g)) cs))
            (sym (children_from-other (without_group tree g) p k (omega (arith, lt, sum, longer)) (same ∙ other))) rest)
      ]

  parent_live : is_live tree p ≡ true
  parent_live = groups.parents_live g p live below

  at-parent : Swaps (g ∷ []) [] (preorder tree p) (preorder (without_group tree g) p)
  at-parent =
      let lt = live-within tree p parent_live in
      let longer = len in
      let falls = groups.earlier_parents.falls g p below in
      subst (λ (xs : List ℕ). Swaps (g ∷ []) [] xs (preorder (without_group tree g) p)) (sym (preorder-step tree groups.earlier_parents p lt))
      (subst (λ (ys : List ℕ). Swaps (g ∷ []) [] (p ∷ flat_map (preorder tree) (children_from tree p (p + 1))) ys) (sym (preorder-step (without_group tree g) is_tree p (omega (arith, lt, longer))))
      (swaps-front (g ∷ []) [] (flat_map (preorder tree) (children_from tree p (p + 1))) (flat_map (preorder (without_group tree g)) (children_from (without_group tree g) p (p + 1)))
      (over-children (g - (p + 1)) (p + 1) (omega (arith, falls))) (p ∷ [])))

  -- the group is left out of each walk that had it
  pub swaps-removed : (target : ℕ) → under tree target p ≡ true → Swaps (g ∷ []) [] (preorder tree target) (preorder (without_group tree g) target)
  swaps-removed target inside =
      let longer = len in
      swaps-above tree (without_group tree g) groups.earlier_parents is_tree (omega (arith, longer)) p alike (g ∷ []) [] groups.parents_live target parent_live at-parent inside

  -- and any other walk is as it was
  pub same-removed : (s : ℕ) → s < length tree → under tree s p ≡ false → preorder (without_group tree g) s ≡ preorder tree s
  same-removed s lt other = let longer = len in same_apart tree (without_group tree g) groups.earlier_parents is_tree (omega (arith, longer)) p alike (length tree) s lt (omega arith) other
