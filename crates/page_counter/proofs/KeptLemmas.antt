-- The sums stay kept where one group asks for something else.
use Rattle.std.proofs.Common.{inl, inr, ◌≡◌, ◌≢◌, ℕ, ◌+◌, ◌-◌, ◌<◌, ◌≤◌, ◌==◌, ◌&&◌, true, false, cond, List, length, Option, Some, None, ap, ◌∙◌, arith, slice_index, slice_set, get_or-set_other, get_or-set_same}
use Rattle.machine.specs.declared.amount.Amount.{Amount}
use Rattle.machine.specs.declared.amount.Amount.TheVariants.{Max, Pages}
use Rattle.machine.specs.Amounts.{at_most}
use Rattle.machine.specs.Protection.{min_usage, children_min_usage}
use Rattle.machine.specs.Tree.{Node, node_at, is_live, is_child, is_parent, IsTree}
use Rattle.machine.proofs.TreeLemmas.{eq_cases}
use Rattle.group_tree.specs.Lineages.{IsLineage}
use Rattle.group_tree.proofs.LineageLemmas.{live-within}
use Rattle.group_tree.proofs.PreorderLemmas.{child_parent}
use Rattle.page_counter.specs.Sums.{AreKept, part, Propagates}
use Rattle.page_counter.proofs.SumLemmas.{part-child, part-le, part-changed}

-- what a group asks for by these tables
abbrev pub asks : (ℕ → Amount) → List ℕ → ℕ → ℕ
asks setting usage c = min_usage setting (λ a. slice_index usage a) c

-- What `propagate` leaves.
module _ (tree : List Node) (g : ℕ) (live : is_live tree g ≡ true) where
  part_at : (p n : ℕ) (at : Option ℕ) → (node_at tree g).parent ≡ at → part tree p g n ≡ cond (is_parent at p) n 0
  part_at p n at parent = ap (λ b. cond (b && is_parent (node_at tree g).parent p) n 0) live ∙ ap (λ q. cond (is_parent q p) n 0) parent

  pub child_of : (q : ℕ) → (node_at tree g).parent ≡ Some q → is_child q (node_at tree g) ≡ true
  child_of q parent =
      let same : (q == q) ≡ true = grind arith in
      ap (λ b. b && is_parent (node_at tree g).parent q) live ∙ ap (λ at. is_parent at q) parent ∙ same

  pub parent_within : IsLineage tree → (q : ℕ) → (node_at tree g).parent ≡ Some q → (sums : List ℕ) → length sums ≡ length tree → q < length sums
  parent_within is q parent sums len =
      let falls = is.earlier_parents.falls g q parent in
      let within = live-within tree g live in
      omega (arith, falls, within, len)

  pub Propagates-none : (before after : ℕ) (sums : List ℕ) → (node_at tree g).parent ≡ None → Propagates tree g before after sums sums
  Propagates-none before after sums none p lt =
      let left = part_at p before None none in
      let right = part_at p after None none in
      omega (arith, left, right)

  pub Propagates-set : (before after : ℕ) (sums : List ℕ) (q sum : ℕ) → (node_at tree g).parent ≡ Some q → q < length sums → sum ≡ slice_index sums q → before ≤ sum → Propagates tree g before after sums (slice_set sums q (sum - before + after))
  Propagates-set before after sums q sum parent within read covered p lt =
      let left = part_at p before (Some q) parent in
      let right = part_at p after (Some q) parent in
      elim (eq_cases p q) [
        | inl same ↦
            (let test : (q == p) ≡ true = grind (arith, same) in
            let less = left ∙ ap (λ b. cond b before 0) test in
            let more = right ∙ ap (λ b. cond b after 0) test in
            let set : slice_index (slice_set sums q (sum - before + after)) p ≡ sum - before + after = rw same (get_or-set_same sums q _ _ within) in
            let at_p : slice_index sums p ≡ slice_index sums q = ap (slice_index sums) same in
            omega (arith, less, more, set, at_p, covered, read))
        | inr differs ↦
            (let test : (q == p) ≡ false = grind (arith, differs) in
            let less = left ∙ ap (λ b. cond b before 0) test in
            let more = right ∙ ap (λ b. cond b after 0) test in
            let set : slice_index (slice_set sums q (sum - before + after)) p ≡ slice_index sums p = get_or-set_other sums q p _ _ differs in
            omega (arith, less, more, set))
      ]

-- the group g asks for `after` where it asked for `before`, and no other asks for more or less
pub record AsksAnew (tree : List Node) (setting setting' : ℕ → Amount) (usage usage' : List ℕ) (g before after : ℕ) : Type 0 where
  pub was : before ≡ asks setting usage g
  pub is : after ≡ asks setting' usage' g
  pub others : (c : ℕ) → c < length tree → c ≢ g → asks setting' usage' c ≡ asks setting usage c

module _ {tree : List Node} {setting setting' : ℕ → Amount} {usage usage' sums : List ℕ} {g before after : ℕ} (ordered : IsTree tree) (there : g < length tree) (are : AreKept tree setting usage sums) (anew : AsksAnew tree setting setting' usage usage' g before after) where
  change : (p : ℕ) → children_min_usage tree setting' (λ a. slice_index usage' a) p + part tree p g before ≡ children_min_usage tree setting (λ a. slice_index usage a) p + part tree p g after
  change p =
      let both = part-changed tree p (asks setting' usage') (asks setting usage) g there anew.others in
      let left = ap (part tree p g) anew.was in
      let right = ap (part tree p g) anew.is in
      omega (arith, both, left, right)

  pub AreKept-propagated : (sums' : List ℕ) → length sums' ≡ length sums → Propagates tree g before after sums sums' → AreKept tree setting' usage' sums'
  AreKept-propagated sums' same propagated =
      record {
        len = same ∙ are.len;
        kept =
            λ p lt.
            (let e = propagated p lt in
            let before_it = are.kept p lt in
            let both = change p in
            omega (arith, e, before_it, both));
      }

  within : (p : ℕ) → is_child p (node_at tree g) ≡ true → p < length tree
  within p child = let falls = ordered.falls g p (child_parent tree p g child) in omega (arith, falls, there)

  -- what was asked for is part of the sum
  pub covered : (p : ℕ) → is_child p (node_at tree g) ≡ true → before ≤ slice_index sums p
  covered p child =
      let sum = are.kept p (within p child) in
      let le = part-le tree p (asks setting usage) g there in
      let own = part-child tree p g (asks setting usage g) child in
      let was = anew.was in
      omega (arith, sum, le, own, was)

  -- the new sum fits, where it is at most `most`
  pub fits : (most p : ℕ) → is_child p (node_at tree g) ≡ true → children_min_usage tree setting' (λ a. slice_index usage' a) p ≤ most → slice_index sums p + after ≤ most + before
  fits most p child le =
      let sum = are.kept p (within p child) in
      let both = change p in
      let left = part-child tree p g before child in
      let right = part-child tree p g after child in
      omega (arith, sum, both, left, right, le)

-- where a group asks for more by the same setting, it counts more
pub counts_more : (count more : ℕ) (amount : Amount) → at_most count amount < at_most more amount → count < more
counts_more count more Max lt = lt
counts_more count more (Pages n) lt = omega (arith, lt)
