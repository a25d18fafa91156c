-- No group counts more pages than the root.
use Rattle.std.proofs.Common.{◌≡◌, ℕ, ◌<◌, ◌≤◌, Bool, true, cond, List, [], ◌∷◌, length, Some, ap, arith}
use Rattle.std.specs.Prelude.{count_by}
use Rattle.std.specs.List.{All}
use Rattle.std.proofs.lemmas.List.Elements.{All-head, All-tail}
use Rattle.machine.specs.Tree.{Node, is_live, under}
use Rattle.machine.proofs.TreeLemmas.{share-under, share-le}
use Rattle.group_tree.specs.Lineages.{IsLineage}
use Rattle.group_tree.proofs.LineageLemmas.{live-within}
use Rattle.page_counter.specs.Counts.{Counts, AreCounts, usage_of}
use Rattle.page_counter.proofs.ChargeLemmas.{count_more}

-- every page is counted at the root
most_at_root : (tree : List Node) → IsLineage tree → (a : ℕ) (charges : List ℕ) → All (λ x. is_live tree x ≡ true) charges → count_by (λ x. under tree a x) charges ≤ count_by (λ x. under tree 0 x) charges
most_at_root tree is a [] live = omega arith
most_at_root tree is a (g ∷ charges) live =
    let more = count_more tree is.earlier_parents a g charges in
    let root = count_more tree is.earlier_parents 0 g charges in
    let rest = most_at_root tree is a charges (All-tail (λ x. is_live tree x ≡ true) g charges live) in
    let le = share-le tree is.earlier_parents a (Some g) in
    let below_root : cond (under tree 0 g) 1 0 ≡ 1 = ap (λ (b : Bool). let n : ℕ = cond b 1 0 in n) (is.rooted g (live-within tree g (All-head (λ x. is_live tree x ≡ true) g charges live))) in
    let one = share-under tree is.earlier_parents 0 (Some g) in
    omega (arith, more, root, rest, le, below_root, one)

-- no group counts more pages than the root
pub root_counts_most : (s : Counts) (charges : List ℕ) → IsLineage s.tree → AreCounts s charges → (a : ℕ) → a < length s.tree → usage_of s a ≤ usage_of s 0
root_counts_most s charges is counted a lt =
    let here = counted.counts a lt in
    let root = counted.counts 0 (live-within s.tree 0 is.root_first) in
    let le = most_at_root s.tree is a charges counted.live in
    omega (arith, here, root, le)
