-- A walk over two trees in which all groups but one have the same children: where the first tree's walk has what is at and below that one, the second's has
-- what is there, and else they are one.
use Rattle.std.proofs.Common.{inl, inr, ◌≡◌, ◌≢◌, ℕ, zero, suc, ◌+◌, ◌-◌, ◌<◌, ◌≤◌, ◌==◌, true, false, List, [], ◌∷◌, ◌++◌, length, Option, Some, None, refl, sym, ap, ◌∙◌, subst, arith, append_assoc, append-nil, length-append}
use Rattle.std.specs.Prelude.{flat_map}
use Rattle.std.proofs.lemmas.Bool.{cases_Bool, or_cases}
use Rattle.machine.specs.Tree.{Node, node_at, is_live, is_child, under, under_at, IsTree, preorder}
use Rattle.machine.proofs.Values.{unlike}
use Rattle.machine.proofs.TreeLemmas.{under_at-None, under_at-step}
use Rattle.group_tree.specs.Walk.{children_from}
use Rattle.group_tree.proofs.TreeFacts.{live-within, within}
use Rattle.group_tree.proofs.WalkLemmas.{under_here}
use Rattle.group_tree.proofs.PreorderLemmas.{children_from-child, children_from-other, child_parent, child-from, flat_map-children, preorder-step}
use Rattle.group_tree.proofs.UnderLemmas.{under-not_above, below-parent, apart}

pub own : (tree : List Node) (g : ℕ) → under tree g g ≡ true
own tree g = under_here tree g g (let same : (g == g) ≡ true = grind arith in same)

-- the second list is the first with `put` in the place of `cut`
pub record Swaps (cut put old new : List ℕ) : Type 0 where
  pub before : List ℕ
  pub after : List ℕ
  pub was : old ≡ before ++ (cut ++ after)
  pub now_is : new ≡ before ++ (put ++ after)

module _ (cut put old new : List ℕ) (swaps : Swaps cut put old new) where
  pub swaps-behind : (more : List ℕ) → Swaps cut put (old ++ more) (new ++ more)
  swaps-behind more = record {
    before = swaps.before;
    after = swaps.after ++ more;
    was = ap (λ xs. xs ++ more) swaps.was ∙ append_assoc swaps.before (cut ++ swaps.after) more ∙ ap (λ xs. swaps.before ++ xs) (append_assoc cut swaps.after more);
    now_is = ap (λ xs. xs ++ more) swaps.now_is ∙ append_assoc swaps.before (put ++ swaps.after) more ∙ ap (λ xs. swaps.before ++ xs) (append_assoc put swaps.after more);
  }

  pub swaps-front : (more : List ℕ) → Swaps cut put (more ++ old) (more ++ new)
  swaps-front more = record {
    before = more ++ swaps.before;
    after = swaps.after;
    was = ap (λ xs. more ++ xs) swaps.was ∙ sym (append_assoc more swaps.before (cut ++ swaps.after));
    now_is = ap (λ xs. more ++ xs) swaps.now_is ∙ sym (append_assoc more swaps.before (put ++ swaps.after));
  }

  -- what one list gains over the other is what is put
  pub swaps-length : length new + length cut ≡ length old + length put
  swaps-length =
      let a = length-append swaps.before (cut ++ swaps.after) in
      let b = length-append cut swaps.after in
      let c = length-append swaps.before (put ++ swaps.after) in
      let d = length-append put swaps.after in
      let e = ap length swaps.was in
      let f = ap length swaps.now_is in
      omega (arith, a, b, c, d, e, f)

module _ (tree new : List Node) (is : IsTree tree) (is_new : IsTree new) (longer : length tree ≤ length new) (p : ℕ)
    (alike : (q : ℕ) → q ≢ p → q < length tree → children_from new q (q + 1) ≡ children_from tree q (q + 1)) where
  -- a walk from a group that is not at or above p is the same
  pub same_apart : (n s : ℕ) → s < length tree → length tree ≤ n + s → under tree s p ≡ false → preorder new s ≡ preorder tree s
  same_apart zero s lt enough other = absurd (omega arith)
  same_apart (suc n) s lt enough other =
      preorder-step new is_new s (omega (arith, longer)) ∙ ap (λ cs. s ∷ flat_map (preorder new) cs) (alike s differs lt)
      ∙ ap (λ rest. s ∷ rest)
      (flat_map-children tree (preorder new) (preorder tree) s 0
      (λ c from e. let falls = is.falls c s e in same_apart n c (within tree c s e) (omega (arith, falls, enough)) (not_below c e)) (length tree) (s + 1) (omega arith) (omega arith))
      ∙ sym (preorder-step tree is s lt)
    where
      differs : s ≢ p
      differs same = unlike (under tree s p) (ap (λ q. under tree q p) same ∙ own tree p) other

      not_below : (c : ℕ) → (node_at tree c).parent ≡ Some s → under tree c p ≡ false
      not_below c e =
          elim (cases_Bool (under tree c p)) [
            | inl it_is ↦ absurd (unlike (under tree s p) (below-parent tree is c s e (p + 2) (Some p) (omega arith) it_is) other)
            | inr it_is_not ↦ it_is_not
          ]

  module _ (cut put : List ℕ) where
    -- p is below one child of q: over the children of q from k on
    over-children : (c q : ℕ) → is_live tree c ≡ true → (node_at tree c).parent ≡ Some q → under tree c p ≡ true → Swaps cut put (preorder tree c) (preorder new c)
        → (n k : ℕ) → k + n ≡ c → Swaps cut put (flat_map (preorder tree) (children_from tree q k)) (flat_map (preorder new) (children_from tree q k))
    over-children c q live e below swaps zero k sum =
        let same : k ≡ c = omega arith in
        let first = ap (children_from tree q) same ∙ children_from-child tree q c (live-within tree c live) (child-from tree q c live e) in
        subst (λ (cs : List ℕ). Swaps cut put (flat_map (preorder tree) cs) (flat_map (preorder new) cs)) (sym first)
        (subst (λ (ys : List ℕ). Swaps cut put (preorder tree c ++ flat_map (preorder tree) (children_from tree q (c + 1))) (preorder new c ++ ys)) (sym others)
        (swaps-behind cut put (preorder tree c) (preorder new c) swaps (flat_map (preorder tree) (children_from tree q (c + 1)))))
      where
        not_under : (j : ℕ) → c + 1 ≤ j → (node_at tree j).parent ≡ Some q → under tree j p ≡ false
        not_under j more f =
            elim (cases_Bool (under tree j p)) [
              | inl it_is ↦ absurd (apart tree is c j q (omega (arith, more)) e f (p + 2) (Some p) (omega arith) below it_is)
              | inr it_is_not ↦ it_is_not
            ]

        others : flat_map (preorder new) (children_from tree q (c + 1)) ≡ flat_map (preorder tree) (children_from tree q (c + 1))
        others =
            flat_map-children tree (preorder new) (preorder tree) q (c + 1) (λ j more f. same_apart (length tree) j (within tree j q f) (omega arith) (not_under j more f)) (length tree) (c + 1) (omega arith) (omega arith)
    over-children c q live e below swaps (suc n) k sum =
        let lt = live-within tree c live in
        let rest = over-children c q live e below swaps n (k + 1) (omega arith) in
        elim (cases_Bool (is_child q (node_at tree k))) [
          | inl child ↦
              subst (λ (cs : List ℕ). Swaps cut put (flat_map (preorder tree) cs) (flat_map (preorder new) cs)) (sym (children_from-child tree q k (omega (arith, lt, sum)) child))
              (subst (λ (ys : List ℕ). Swaps cut put (preorder tree k ++ flat_map (preorder tree) (children_from tree q (k + 1))) (ys ++ flat_map (preorder new) (children_from tree q (k + 1))))
              (sym (same_apart (length tree) k (omega (arith, lt, sum)) (omega arith) (not_under child)))
              (swaps-front cut put (flat_map (preorder tree) (children_from tree q (k + 1))) (flat_map (preorder new) (children_from tree q (k + 1))) rest (preorder tree k)))
          | inr other ↦
              subst (λ (cs : List ℕ). Swaps cut put (flat_map (preorder tree) cs) (flat_map (preorder new) cs)) (sym (children_from-other tree q k (omega (arith, lt, sum)) other)) rest
        ]
      where
        not_under : is_child q (node_at tree k) ≡ true → under tree k p ≡ false
        not_under child =
            elim (cases_Bool (under tree k p)) [
              | inl it_is ↦ absurd (apart tree is k c q (omega arith) (child_parent tree q k child) e (p + 2) (Some p) (omega arith) it_is below)
              | inr it_is_not ↦ it_is_not
            ]

    -- from one level to the next
    one-up : (s q : ℕ) → is_live tree s ≡ true → is_live tree q ≡ true → (node_at tree s).parent ≡ Some q → under tree s p ≡ true → Swaps cut put (preorder tree s) (preorder new s)
        → Swaps cut put (preorder tree q) (preorder new q)
    one-up s q live above e below swaps =
        let falls = is.falls s q e in
        let beneath = under-not_above tree is s p below in
        let lt = live-within tree q above in
        let step : preorder new q ≡ q ∷ flat_map (preorder new) (children_from tree q (q + 1)) =
        preorder-step new is_new q (omega (arith, lt, longer)) ∙ ap (λ cs. q ∷ flat_map (preorder new) cs) (alike q (λ same. omega (arith, same, falls, beneath)) lt) in
        subst (λ (xs : List ℕ). Swaps cut put xs (preorder new q)) (sym (preorder-step tree is q lt))
        (subst (λ (ys : List ℕ). Swaps cut put (q ∷ flat_map (preorder tree) (children_from tree q (q + 1))) ys) (sym step)
        (swaps-front cut put (flat_map (preorder tree) (children_from tree q (q + 1))) (flat_map (preorder new) (children_from tree q (q + 1)))
        (over-children s q live e below swaps (s - (q + 1)) (q + 1) (omega (arith, falls))) (q ∷ [])))

    module _ (parents : (g q : ℕ) → is_live tree g ≡ true → (node_at tree g).parent ≡ Some q → is_live tree q ≡ true) (target : ℕ) where
      up-to : (n s : ℕ) → s < n → is_live tree s ≡ true → under tree target s ≡ true → under tree s p ≡ true → Swaps cut put (preorder tree s) (preorder new s)
          → (at : Option ℕ) → (node_at tree s).parent ≡ at → Swaps cut put (preorder tree target) (preorder new target)
      up-to zero s lt live inside below swaps at e = absurd (omega arith)
      up-to (suc n) s lt live inside below swaps None e =
          elim (or_cases (target == s) _ (sym (under_at-step tree is target s) ∙ inside)) [
            | inl here ↦ (let same : s ≡ target = grind (arith, here) in subst (λ (t : ℕ). Swaps cut put (preorder tree t) (preorder new t)) same swaps)
            | inr above ↦ absurd (unlike (under_at tree target (node_at tree s).parent) above (ap (under_at tree target) e ∙ under_at-None tree is target))
          ]
      up-to (suc n) s lt live inside below swaps (Some q) e =
          elim (or_cases (target == s) _ (sym (under_at-step tree is target s) ∙ inside)) [
            | inl here ↦ (let same : s ≡ target = grind (arith, here) in subst (λ (t : ℕ). Swaps cut put (preorder tree t) (preorder new t)) same swaps)
            | inr above ↦
                (let falls = is.falls s q e in
                let there = parents s q live e in
                up-to n q (omega (arith, falls, lt)) there (ap (under_at tree target) (sym e) ∙ above) (below-parent tree is s q e (p + 2) (Some p) (omega arith) below) (one-up s q live there e below swaps)
                (node_at tree q).parent refl)
          ]

      -- what is swapped at p is swapped in a walk from p or from above it
      pub swaps-above : is_live tree p ≡ true → Swaps cut put (preorder tree p) (preorder new p) → under tree target p ≡ true → Swaps cut put (preorder tree target) (preorder new target)
      swaps-above live swaps inside = up-to (p + 1) p (omega arith) live inside (own tree p) swaps (node_at tree p).parent refl

-- a walk from a group that another is under has the walk from that one as a part
pub found-within : (tree : List Node) → IsTree tree → ((g q : ℕ) → is_live tree g ≡ true → (node_at tree g).parent ≡ Some q → is_live tree q ≡ true)
    → (target g : ℕ) → is_live tree g ≡ true → under tree target g ≡ true → Swaps (preorder tree g) (preorder tree g) (preorder tree target) (preorder tree target)
found-within tree is parents target g live inside =
    swaps-above tree tree is is (omega arith) g (λ q differs lt. refl) (preorder tree g) (preorder tree g) parents target live
    (record { before = []; after = []; was = sym (append-nil (preorder tree g)); now_is = sym (append-nil (preorder tree g)) }) inside
