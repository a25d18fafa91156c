-- A walk over a tree with a group more: the new group comes behind all at and below its parent.
use Rattle.std.proofs.Common.{inl, inr, ◌≡◌, ◌≢◌, ℕ, ◌+◌, ◌<◌, ◌≤◌, ◌==◌, Bool, true, false, if◌then◌else◌, List, [], ◌∷◌, ◌++◌, length, drop, Some, refl, sym, ap, ◌∙◌, subst, arith, append-nil, length-append, length-drop}
use Rattle.std.specs.Prelude.{flat_map}
use Rattle.std.proofs.lemmas.Bool.{cases_Bool, and_from, and_parts}
use Rattle.std.proofs.lemmas.List.{drop-append-le}
use Rattle.std.proofs.lemmas.Grind.{flat_map-append}
use Rattle.machine.specs.Tree.{Node, node_at, is_live, is_child, is_parent, under, IsTree, IsBelow, preorder}
use Rattle.machine.proofs.TreeLemmas.{IsTree-push}
use Rattle.group_tree.specs.Groups.{IsGroupTree}
use Rattle.group_tree.specs.Walk.{children_among, children_from}
use Rattle.group_tree.proofs.TreeFacts.{live-within, within}
use Rattle.group_tree.proofs.PreorderLemmas.{children_from-end, is_parent-same, flat_map-children, preorder-step}
use Rattle.group_tree.proofs.UnderLemmas.{under-not_above}
use Rattle.group_tree.proofs.SpliceLemmas.{Swaps, same_apart, swaps-above}

among-push : (p k : ℕ) (xs : List Node) (x : Node) → children_among p k (xs ++ x ∷ []) ≡ children_among p k xs ++ (if is_child p x then (k + length xs) ∷ [] else [])
among-push p k [] x =
    let same : k ≡ k + 0 = omega arith in
    ap (λ j. if is_child p x then j ∷ [] else []) same
among-push p k (y ∷ xs) x =
    let same : k + 1 + length xs ≡ k + length (y ∷ xs) = omega arith in
    let rest = among-push p (k + 1) xs x ∙ ap (λ j. children_among p (k + 1) xs ++ (if is_child p x then j ∷ [] else [])) same in
    elim (cases_Bool (is_child p y)) [
      | inl child ↦
          ap (λ b. if b then k ∷ children_among p (k + 1) (xs ++ x ∷ []) else children_among p (k + 1) (xs ++ x ∷ [])) child ∙ ap (λ cs. k ∷ cs) rest
          ∙ sym (ap (λ b. (if b then k ∷ children_among p (k + 1) xs else children_among p (k + 1) xs) ++ (if is_child p x then (k + length (y ∷ xs)) ∷ [] else [])) child)
      | inr other ↦
          ap (λ b. if b then k ∷ children_among p (k + 1) (xs ++ x ∷ []) else children_among p (k + 1) (xs ++ x ∷ [])) other ∙ rest
          ∙ sym (ap (λ b. (if b then k ∷ children_among p (k + 1) xs else children_among p (k + 1) xs) ++ (if is_child p x then (k + length (y ∷ xs)) ∷ [] else [])) other)
    ]

module _ (tree : List Node) (x : Node) where
  -- the new group is the last child of its parent
  children_from-push : (p k : ℕ) → k ≤ length tree → children_from (tree ++ x ∷ []) p k ≡ children_from tree p k ++ (if is_child p x then length tree ∷ [] else [])
  children_from-push p k h =
      let len = length-drop k tree in
      let same : k + length (drop k tree) ≡ length tree = omega (arith, len, h) in
      ap (children_among p k) (drop-append-le k tree (x ∷ []) h) ∙ among-push p k (drop k tree) x
      ∙ ap (λ j. children_from tree p k ++ (if is_child p x then j ∷ [] else [])) same

module _ (tree : List Node) (x : Node) (p : ℕ) (groups : IsGroupTree tree) (live : x.live ≡ true) (below : x.parent ≡ Some p) (parent_live : is_live tree p ≡ true) where
  is_tree : IsTree (tree ++ x ∷ [])
  is_tree = IsTree-push tree x groups.earlier_parents (subst (λ at. IsBelow at (length tree)) (sym below) (live-within tree p parent_live))

  longer : length (tree ++ x ∷ []) ≡ length tree + 1
  longer = length-append tree (x ∷ [])

  alike : (q : ℕ) → q ≢ p → q < length tree → children_from (tree ++ x ∷ []) q (q + 1) ≡ children_from tree q (q + 1)
  alike q differs lt =
      children_from-push tree x q (q + 1) (omega (arith, lt)) ∙ ap (λ b. children_from tree q (q + 1) ++ (if b then length tree ∷ [] else [])) (not_child (is_child q x) refl) ∙ append-nil (children_from tree q (q + 1))
    where
      not_child : (b : Bool) → is_child q x ≡ b → is_child q x ≡ false
      not_child true is =
          let same : Some q ≡ Some p = sym (is_parent-same x.parent q (and_parts x.live _ is).1) ∙ below in
          absurd (differs (let e : q ≡ p = cc in e))
      not_child false is = is

  -- nothing is below the new group
  pub preorder-new : preorder (tree ++ x ∷ []) (length tree) ≡ length tree ∷ []
  preorder-new =
      let len = longer in
      preorder-step (tree ++ x ∷ []) is_tree (length tree) (omega (arith, len))
      ∙ ap (λ cs. length tree ∷ flat_map (preorder (tree ++ x ∷ [])) cs) (children_from-end (tree ++ x ∷ []) (length tree) (length tree + 1) (omega (arith, len)))

  -- it comes last of all at and below its parent
  preorder-parent : preorder (tree ++ x ∷ []) p ≡ preorder tree p ++ length tree ∷ []
  preorder-parent =
      let len = longer in
      let lt = live-within tree p parent_live in
      let child : is_child p x ≡ true = and_from x.live _ live (ap (λ at. is_parent at p) below ∙ (let same : (p == p) ≡ true = grind arith in same)) in
      let old : flat_map (preorder (tree ++ x ∷ [])) (children_from tree p (p + 1)) ≡ flat_map (preorder tree) (children_from tree p (p + 1)) =
      flat_map-children tree (preorder (tree ++ x ∷ [])) (preorder tree) p 0
      (λ c from e. same_apart tree (tree ++ x ∷ []) groups.earlier_parents is_tree (omega (arith, len)) p alike (length tree) c (within tree c p e) (omega arith) (not_above c e)) (length tree) (p + 1) (omega arith) (omega arith) in
      preorder-step (tree ++ x ∷ []) is_tree p (omega (arith, len, lt))
      ∙ ap (λ cs. p ∷ flat_map (preorder (tree ++ x ∷ [])) cs) (children_from-push tree x p (p + 1) (omega (arith, lt)) ∙ ap (λ b. children_from tree p (p + 1) ++ (if b then length tree ∷ [] else [])) child)
      ∙ ap (λ rest. p ∷ rest)
      (flat_map-append (preorder (tree ++ x ∷ [])) (children_from tree p (p + 1)) (length tree ∷ [])
      ∙ ap (λ ys. ys ++ (preorder (tree ++ x ∷ []) (length tree) ++ [])) old ∙ ap (λ ys. flat_map (preorder tree) (children_from tree p (p + 1)) ++ ys) (append-nil (preorder (tree ++ x ∷ []) (length tree)) ∙ preorder-new))
      ∙ ap (λ ys. ys ++ length tree ∷ []) (sym (preorder-step tree groups.earlier_parents p lt))
    where
      not_above : (c : ℕ) → (node_at tree c).parent ≡ Some p → under tree c p ≡ false
      not_above c e =
          elim (cases_Bool (under tree c p)) [
            | inl it_is ↦ absurd (let falls = groups.earlier_parents.falls c p e in let no_more = under-not_above tree groups.earlier_parents c p it_is in omega (arith, falls, no_more))
            | inr it_is_not ↦ it_is_not
          ]

  -- so it comes there in each walk from its parent or from above it
  pub swaps-pushed : (target : ℕ) → under tree target p ≡ true → Swaps (preorder tree p) (preorder tree p ++ length tree ∷ []) (preorder tree target) (preorder (tree ++ x ∷ []) target)
  swaps-pushed target inside =
      let len = longer in
      swaps-above tree (tree ++ x ∷ []) groups.earlier_parents is_tree (omega (arith, len)) p alike (preorder tree p) (preorder tree p ++ length tree ∷ []) groups.parents_live target parent_live
      (record { before = []; after = []; was = sym (append-nil (preorder tree p)); now_is = preorder-parent ∙ sym (append-nil (preorder tree p ++ length tree ∷ [])) }) inside

  -- and any other walk is as it was
  pub same-pushed : (g : ℕ) → g < length tree → under tree g p ≡ false → preorder (tree ++ x ∷ []) g ≡ preorder tree g
  same-pushed g lt other = let len = longer in same_apart tree (tree ++ x ∷ []) groups.earlier_parents is_tree (omega (arith, len)) p alike (length tree) g lt (omega arith) other
