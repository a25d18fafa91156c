-- Which charges are out after a group was made or removed.
use Rattle.std.proofs.Common.{inl, inr, ◌≡◌, ◌≢◌, ℕ, zero, suc, ◌+◌, ◌<◌, ◌≤◌, Bool, true, false, cond, List, [], ◌∷◌, ◌++◌, length, length-append, length-set, get_or, Some, refl, sym, ap, subst, ◌∙◌, arith, slice_index, slice_set, get_or-set_other, get_or-set_same}
use Rattle.std.specs.Prelude.{count_by}
use Rattle.std.specs.List.{All}
use Rattle.std.proofs.lemmas.List.{get_or_append_left}
use Rattle.std.proofs.lemmas.List.Sums.{sum_by-cons}
use Rattle.std.proofs.Math.Seq.{get_or-append_seam}
use Rattle.std.proofs.lemmas.List.Elements.{All-head, All-tail}
use Rattle.machine.specs.Counts.{no_limits}
use Rattle.machine.specs.Tree.{Node, no_node, node_at, is_live, IsTree, under}
use Rattle.machine.proofs.TreeLemmas.{eq_cases, lt_cases, share-own, same_under, under_at-append, under_at-beyond, IsTree-push}
use Rattle.group_tree.specs.Lineages.{bare, IsLineage}
use Rattle.group_tree.proofs.LineageLemmas.{live-within}
use Rattle.page_counter.specs.Counts.{Counts, AreCounts, usage_of}
use Rattle.page_counter.specs.Tables.{IsCounted}
use Rattle.page_counter.proofs.ChargeLemmas.{count_more}

-- a group to which pages are charged counts them
counts_own : (tree : List Node) → IsTree tree → (charges : List ℕ) (k d : ℕ) → k < length charges → 1 ≤ count_by (λ x. under tree (get_or charges k d) x) charges
counts_own tree is [] k d lt = absurd (omega arith)
counts_own tree is (g ∷ charges) zero d lt =
    let more = count_more tree is g g charges in
    let own = share-own tree is g in
    omega (arith, more, own)
counts_own tree is (g ∷ charges) (suc k) d lt =
    let more = count_more tree is (get_or charges k d) g charges in
    let rest = counts_own tree is charges k d (omega arith) in
    omega (arith, more, rest)

same_counts : (xs ys : List Node) → ((g : ℕ) → (node_at xs g).parent ≡ (node_at ys g).parent) → (a : ℕ) (charges : List ℕ) → count_by (λ x. under xs a x) charges ≡ count_by (λ x. under ys a x) charges
same_counts xs ys same a [] = refl
same_counts xs ys same a (g ∷ charges) =
    sum_by-cons (λ x. cond (under xs a x) 1 0) g charges ∙ ap (λ b. cond b 1 0 + count_by (λ x. under xs a x) charges) (same_under xs ys same a (Some g))
    ∙ ap (λ n. cond (under ys a g) 1 0 + n) (same_counts xs ys same a charges) ∙ sym (sum_by-cons (λ x. cond (under ys a x) 1 0) g charges)

-- a group that counts no page is removed
module _ (s : Counts) (group : ℕ) (is : IsLineage s.tree) (live : is_live s.tree group ≡ true) (uncharged : usage_of s group ≡ 0) where
  other_node : (g : ℕ) → g ≢ group → node_at (slice_set s.tree group (record (node_at s.tree group) { live = false })) g ≡ node_at s.tree g
  other_node g differs = get_or-set_other s.tree group g _ no_node differs

  parent_kept : (g : ℕ) → (node_at (slice_set s.tree group (record (node_at s.tree group) { live = false })) g).parent ≡ (node_at s.tree g).parent
  parent_kept g =
      elim (eq_cases g group) [
        | inl same ↦ rw same (ap (λ x. x.parent) (get_or-set_same s.tree group _ no_node (live-within s.tree group live)))
        | inr differs ↦ ap (λ x. x.parent) (other_node g differs)
      ]

  charged_elsewhere : (charges : List ℕ) → AreCounts s charges → (k d : ℕ) → k < length charges → get_or charges k d ≢ group
  charged_elsewhere charges counted k d lt same =
      let own = counts_own s.tree is.earlier_parents charges k d lt in
      let count = counted.counts group (live-within s.tree group live) in
      let at_group : count_by (λ x. under s.tree (get_or charges k d) x) charges ≡ count_by (λ x. under s.tree group x) charges = ap (λ g. count_by (λ x. under s.tree g x) charges) same in
      omega (arith, own, count, at_group, uncharged)

  pub AreCounts-remove : (new : Counts) (charges : List ℕ) → new.tree ≡ slice_set s.tree group (record (node_at s.tree group) { live = false }) → new.usage ≡ s.usage → AreCounts s charges → AreCounts new charges
  AreCounts-remove new charges tree usage counted =
      subst (λ t. AreCounts (record { tree = t; limits = new.limits; usage = new.usage; room = new.room }) charges) (sym tree)
      (record {
        live = λ k d lt. ap (λ x. x.live) (other_node (get_or charges k d) (charged_elsewhere charges counted k d lt)) ∙ counted.live k d lt;
        counts =
            λ a lt.
            (let len : length (slice_set s.tree group (record (node_at s.tree group) { live = false })) ≡ length s.tree = length-set _ _ _ in
            let within : a < length s.tree = omega (arith, len, lt) in
            ap (λ u. slice_index u a) usage ∙ counted.counts a within ∙ sym (same_counts _ s.tree parent_kept a charges));
      })

  pub IsCounted-remove : (new : Counts) → new.tree ≡ slice_set s.tree group (record (node_at s.tree group) { live = false }) → new.limits ≡ s.limits → new.usage ≡ s.usage → IsCounted s → IsCounted new
  IsCounted-remove new tree limits usage held =
      let fewer : length new.tree ≡ length s.tree = ap length tree ∙ length-set _ _ _ in
      record {
        limits_length = ap length limits ∙ held.limits_length ∙ sym fewer;
        usage_length = ap length usage ∙ held.usage_length ∙ sym fewer;
        charges = held.charges;
        counted = AreCounts-remove new held.charges tree usage held.counted;
      }

counts_append : (tree more : List Node) → IsTree tree → (a : ℕ) (charges : List ℕ) → All (λ x. is_live tree x ≡ true) charges → count_by (λ x. under (tree ++ more) a x) charges ≡ count_by (λ x. under tree a x) charges
counts_append tree more is a [] live = refl
counts_append tree more is a (g ∷ charges) live =
    sum_by-cons (λ x. cond (under (tree ++ more) a x) 1 0) g charges
    ∙ ap (λ b. cond b 1 0 + count_by (λ x. under (tree ++ more) a x) charges) (under_at-append tree more is a (Some g) (live-within tree g (All-head (λ x. is_live tree x ≡ true) g charges live)))
    ∙ ap (λ n. cond (under tree a g) 1 0 + n) (counts_append tree more is a charges (All-tail (λ x. is_live tree x ≡ true) g charges live)) ∙ sym (sum_by-cons (λ x. cond (under tree a x) 1 0) g charges)

none_under : (tree : List Node) → IsTree tree → (a : ℕ) (charges : List ℕ) → All (λ g. g < a) charges → count_by (λ x. under tree a x) charges ≡ 0
none_under tree is a [] below = refl
none_under tree is a (g ∷ charges) below =
    let more = sum_by-cons (λ x. cond (under tree a x) 1 0) g charges in
    let here : cond (under tree a g) 1 0 ≡ 0 = ap (λ (b : Bool). let n : ℕ = cond b 1 0 in n) (under_at-beyond tree is (Some g) a (All-head (λ x. x < a) g charges below)) in
    let rest = none_under tree is a charges (All-tail (λ x. x < a) g charges below) in
    omega (arith, more, here, rest)

-- two lists that are as long as each other, and then have one element more
same_length-push : {A B : Type 0} (xs xs' : List A) (ys ys' : List B) (x : A) (y : B) → xs' ≡ xs ++ x ∷ [] → ys' ≡ ys ++ y ∷ [] → length xs ≡ length ys → length xs' ≡ length ys'
same_length-push xs xs' ys ys' x y pushed_x pushed_y same =
    let left = ap length pushed_x ∙ length-append xs (x ∷ []) in
    let right = ap length pushed_y ∙ length-append ys (y ∷ []) in
    omega (arith, left, right, same)

-- a group is made, below a live one
module _ (s new : Counts) (p : ℕ) (is : IsLineage s.tree) (held : IsCounted s) (parent_live : is_live s.tree p ≡ true) (tree : new.tree ≡ s.tree ++ bare (Some p) ∷ []) (usage : new.usage ≡ s.usage ++ 0 ∷ []) where
  pushed_count : (charges : List ℕ) → AreCounts s charges → (a : ℕ) → a < length (s.tree ++ bare (Some p) ∷ []) → slice_index (s.usage ++ 0 ∷ []) a ≡ count_by (λ g. under (s.tree ++ bare (Some p) ∷ []) a g) charges
  pushed_count charges counted a lt =
      elim (lt_cases a (length s.tree)) [
        | inl old ↦
            (let within : a < length s.usage = let same = held.usage_length in omega (arith, same, old) in
            get_or_append_left s.usage (0 ∷ []) 0 a within ∙ counted.counts a old ∙ sym (counts_append s.tree (bare (Some p) ∷ []) is.earlier_parents a charges counted.live))
        | inr (inl first) ↦
            (let at_end : a ≡ length s.usage = first ∙ sym held.usage_length in
            ap (slice_index (s.usage ++ 0 ∷ [])) at_end ∙ get_or-append_seam s.usage 0 [] 0
            ∙ sym (none_under (s.tree ++ bare (Some p) ∷ []) (IsTree-push s.tree (bare (Some p)) is.earlier_parents (live-within s.tree p parent_live)) a charges
            (λ k d h. let there = live-within s.tree (get_or charges k d) (counted.live k d h) in omega (arith, there, first))))
        | inr (inr beyond) ↦ absurd (let len = length-append s.tree (bare (Some p) ∷ []) in omega (arith, len, beyond, lt))
      ]

  pub AreCounts-push : (charges : List ℕ) → AreCounts s charges → AreCounts new charges
  AreCounts-push charges counted =
      subst (λ t. AreCounts (record { tree = t; limits = new.limits; usage = new.usage; room = new.room }) charges) (sym tree)
      (record {
        live =
            λ k d lt.
            ap (λ x. x.live) (get_or_append_left s.tree (bare (Some p) ∷ []) no_node (get_or charges k d) (live-within s.tree (get_or charges k d) (counted.live k d lt))) ∙ counted.live k d lt;
        counts = λ a lt. ap (λ u. slice_index u a) usage ∙ pushed_count charges counted a lt;
      })

  pub IsCounted-push : new.limits ≡ s.limits ++ no_limits ∷ [] → IsCounted new
  IsCounted-push limits =
      record {
        limits_length = same_length-push s.limits new.limits s.tree new.tree _ _ limits tree held.limits_length;
        usage_length = same_length-push s.usage new.usage s.tree new.tree _ _ usage tree held.usage_length;
        charges = held.charges;
        counted = AreCounts-push held.charges held.counted;
      }
