-- The sums stay kept where a group is made or removed, or where each group asks for as much as before.
use Rattle.std.proofs.Common.{inl, inr, ◌≡◌, ℕ, suc, ◌+◌, ◌<◌, false, cond, List, [], ◌∷◌, ◌++◌, length, length-append, length-set, Some, sym, ap, ◌∙◌, arith, slice_index, slice_set, get_or-set_other}
use Rattle.std.proofs.lemmas.Bool.{cases_Bool}
use Rattle.std.proofs.lemmas.List.{get_or_append_left}
use Rattle.std.proofs.Math.Seq.{get_or-append_seam}
use Rattle.machine.specs.declared.amount.Amount.{Amount}
use Rattle.machine.specs.Amounts.{at_most}
use Rattle.machine.specs.Protection.{children_min_usage}
use Rattle.machine.specs.Tree.{Node, no_node, node_at, is_child, IsTree}
use Rattle.machine.proofs.TreeLemmas.{eq_cases, lt_cases}
use Rattle.group_tree.specs.Lineages.{bare}
use Rattle.group_tree.proofs.PreorderLemmas.{child_parent}
use Rattle.page_counter.specs.Sums.{AreKept, part}
use Rattle.page_counter.proofs.ChildLemmas.{at_most-le}
use Rattle.page_counter.proofs.SumLemmas.{sum_below, same_below, none_below, children_parts, part-other, part-zero}
use Rattle.page_counter.proofs.KeptLemmas.{asks}

-- who counts nothing asks for nothing
asks_nothing : (count : ℕ) (amount : Amount) → count ≡ 0 → at_most count amount ≡ 0
asks_nothing count amount none = let le = at_most-le count amount in omega (arith, le, none)

-- another setting, which is the same at each group
pub AreKept-same : (tree : List Node) (setting setting' : ℕ → Amount) (usage sums : List ℕ) → ((c : ℕ) → setting' c ≡ setting c) → AreKept tree setting usage sums → AreKept tree setting' usage sums
AreKept-same tree setting setting' usage sums same are =
    record {
      len = are.len;
      kept =
          λ p lt.
          (let e = are.kept p lt in
          let parts = same_below (λ c. part tree p c (asks setting' usage c)) (λ c. part tree p c (asks setting usage c)) (length tree) (λ c below. ap (λ m. part tree p c (at_most (slice_index usage c) m)) (same c)) in
          let left = children_parts tree p (asks setting' usage) in
          let right = children_parts tree p (asks setting usage) in
          omega (arith, e, parts, left, right));
    }

-- a group that counts nothing is removed
module _ (tree : List Node) (setting : ℕ → Amount) (usage sums : List ℕ) (group : ℕ) (uncharged : slice_index usage group ≡ 0) (are : AreKept tree setting usage sums) where
  removed_part : (p c : ℕ) → part (slice_set tree group (record (node_at tree group) { live = false })) p c (asks setting usage c) ≡ part tree p c (asks setting usage c)
  removed_part p c =
      elim (eq_cases c group) [
        | inl same ↦
            (let none = asks_nothing (slice_index usage c) (setting c) (ap (slice_index usage) same ∙ uncharged) in
            part-zero (slice_set tree group (record (node_at tree group) { live = false })) p c (asks setting usage c) none ∙ sym (part-zero tree p c (asks setting usage c) none))
        | inr differs ↦ ap (λ node. cond (is_child p node) (asks setting usage c) 0) (get_or-set_other tree group c _ no_node differs)
      ]

  pub AreKept-remove : AreKept (slice_set tree group (record (node_at tree group) { live = false })) setting usage sums
  AreKept-remove =
      let fewer : length (slice_set tree group (record (node_at tree group) { live = false })) ≡ length tree = length-set _ _ _ in
      record {
        len = are.len ∙ sym fewer;
        kept =
            λ p lt.
            (let e = are.kept p (omega (arith, lt, fewer)) in
            let left = children_parts (slice_set tree group (record (node_at tree group) { live = false })) p (asks setting usage) in
            let parts = same_below (λ c. part (slice_set tree group (record (node_at tree group) { live = false })) p c (asks setting usage c)) (λ c. part tree p c (asks setting usage c)) (length tree) (λ c below. removed_part p c) in
            let all = ap (sum_below (λ c. part (slice_set tree group (record (node_at tree group) { live = false })) p c (asks setting usage c))) fewer in
            let right = children_parts tree p (asks setting usage) in
            omega (arith, e, left, parts, all, right));
      }

-- a group is made, below q
module _ (tree : List Node) (setting setting' : ℕ → Amount) (usage sums : List ℕ) (q : ℕ) (ordered : IsTree tree) (usage_length : length usage ≡ length tree) (same : (c : ℕ) → c < length tree → setting' c ≡ setting c) (are : AreKept tree setting usage sums) where
  old_part : (p c : ℕ) → c < length tree → part (tree ++ bare (Some q) ∷ []) p c (asks setting' (usage ++ 0 ∷ []) c) ≡ part tree p c (asks setting usage c)
  old_part p c lt =
      ap (λ node. cond (is_child p node) (asks setting' (usage ++ 0 ∷ []) c) 0) (get_or_append_left tree (bare (Some q) ∷ []) no_node c lt)
      ∙ ap (λ l. part tree p c (at_most (slice_index (usage ++ 0 ∷ []) c) l)) (same c lt) ∙ ap (λ u. part tree p c (at_most u (setting c))) (get_or_append_left usage (0 ∷ []) 0 c (omega arith))

  new_part : (p : ℕ) → part (tree ++ bare (Some q) ∷ []) p (length tree) (asks setting' (usage ++ 0 ∷ []) (length tree)) ≡ 0
  new_part p =
      part-zero (tree ++ bare (Some q) ∷ []) p (length tree) _
      (asks_nothing (slice_index (usage ++ 0 ∷ []) (length tree)) (setting' (length tree))
      (ap (slice_index (usage ++ 0 ∷ [])) (sym usage_length) ∙ get_or-append_seam usage 0 [] 0))

  pushed_sum : (p : ℕ) → children_min_usage (tree ++ bare (Some q) ∷ []) setting' (λ a. slice_index (usage ++ 0 ∷ []) a) p ≡ sum_below (λ c. part tree p c (asks setting usage c)) (length tree)
  pushed_sum p =
      let f : ℕ → ℕ = λ c. part (tree ++ bare (Some q) ∷ []) p c (asks setting' (usage ++ 0 ∷ []) c) in
      let more : length (tree ++ bare (Some q) ∷ []) ≡ suc (length tree) = (let len = length-append tree (bare (Some q) ∷ []) in omega (arith, len)) in
      let all = children_parts (tree ++ bare (Some q) ∷ []) p (asks setting' (usage ++ 0 ∷ [])) in
      let split : sum_below f (length (tree ++ bare (Some q) ∷ [])) ≡ sum_below f (length tree) + f (length tree) = ap (sum_below f) more in
      let old = same_below f (λ c. part tree p c (asks setting usage c)) (length tree) (λ c lt. old_part p c lt) in
      let new = new_part p in
      omega (arith, all, split, old, new)

  no_child : (c : ℕ) → c < length tree → is_child (length tree) (node_at tree c) ≡ false
  no_child c lt =
      elim (cases_Bool (is_child (length tree) (node_at tree c))) [
        | inl child ↦ absurd (let falls = ordered.falls c (length tree) (child_parent tree (length tree) c child) in omega (arith, falls, lt))
        | inr other ↦ other
      ]

  pub AreKept-push : AreKept (tree ++ bare (Some q) ∷ []) setting' (usage ++ 0 ∷ []) (sums ++ 0 ∷ [])
  AreKept-push =
      let len = are.len in
      let left = length-append sums (0 ∷ []) in
      let right = length-append tree (bare (Some q) ∷ []) in
      record {
        len = omega (arith, len, left, right);
        kept =
            λ p lt.
            elim (lt_cases p (length tree)) [
              | inl old ↦
                  (let sum = get_or_append_left sums (0 ∷ []) 0 p (omega (arith, len, old)) in
                  let e = are.kept p old in
                  let before = children_parts tree p (asks setting usage) in
                  let after = pushed_sum p in
                  omega (arith, sum, e, before, after))
              | inr (inl first) ↦
                  (let sum : slice_index (sums ++ 0 ∷ []) p ≡ 0 = ap (slice_index (sums ++ 0 ∷ [])) (first ∙ sym len) ∙ get_or-append_seam sums 0 [] 0 in
                  let none = none_below (λ c. part tree p c (asks setting usage c)) (length tree) (λ c below. part-other tree p c (asks setting usage c) (ap (λ n. is_child n (node_at tree c)) first ∙ no_child c below)) in
                  let after = pushed_sum p in
                  omega (arith, sum, none, after))
              | inr (inr beyond) ↦ absurd (omega (arith, right, beyond, lt))
            ];
      }
