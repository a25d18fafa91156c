-- Which charges are out after one more, one less, or one that moved up.
use Rattle.std.proofs.Common.{◌≡◌, ℕ, ◌+◌, ◌<◌, ◌≤◌, ◌==◌, true, cond, List, ◌∷◌, length, Some, sym, ap, subst, ◌∙◌, arith}
use Rattle.std.specs.Prelude.{count_by}
use Rattle.std.proofs.lemmas.List.Elements.{All-cons, All-head, All-tail}
use Rattle.std.proofs.lemmas.List.Sums.{sum_by-cons}
use Rattle.machine.specs.Tree.{Node, node_at, is_live, IsTree, share, under}
use Rattle.machine.proofs.TreeLemmas.{share-under, share-own, share-step}
use Rattle.group_tree.specs.Lineages.{IsLineage}
use Rattle.group_tree.proofs.LineageLemmas.{live-within}
use Rattle.page_counter.specs.Counts.{Counts, Charges, MovesUp, AreCounts, IsOut, usage_of}

-- the count of a after one charge more
pub count_more : (tree : List Node) → IsTree tree → (a g : ℕ) (charges : List ℕ) → count_by (λ x. under tree a x) (g ∷ charges) ≡ count_by (λ x. under tree a x) charges + share tree a (Some g)
count_more tree is a g charges =
    let more = sum_by-cons (λ x. cond (under tree a x) 1 0) g charges in
    let one = share-under tree is a (Some g) in
    omega (arith, more, one)

pub AreCounts-charge : (old new : Counts) (g : ℕ) (charges : List ℕ) → IsTree old.tree → is_live old.tree g ≡ true → Charges old new g → AreCounts old charges → AreCounts new (g ∷ charges)
AreCounts-charge old new g charges is live change counted =
    subst (λ t. AreCounts (record { tree = t; limits = new.limits; usage = new.usage; room = new.room }) (g ∷ charges)) (sym change.groups.tree)
    (record {
      live = All-cons (λ x. is_live old.tree x ≡ true) g charges live counted.live;
      counts =
          λ a lt.
          (let usage = change.usage a lt in
          let before = counted.counts a lt in
          let more = count_more old.tree is a g charges in
          omega (arith, usage, before, more));
    })

pub AreCounts-uncharge : (old new : Counts) (g : ℕ) (rest : List ℕ) → IsTree old.tree → Charges new old g → AreCounts old (g ∷ rest) → AreCounts new rest
AreCounts-uncharge old new g rest is change counted =
    let changed = subst (λ t. (a : ℕ) → a < length t → usage_of old a ≡ usage_of new a + share t a (Some g)) (sym change.groups.tree) change.usage in
    subst (λ t. AreCounts (record { tree = t; limits = new.limits; usage = new.usage; room = new.room }) rest) change.groups.tree
    (record {
      live = All-tail (λ x. is_live old.tree x ≡ true) g rest counted.live;
      counts =
          λ a lt.
          (let usage = changed a lt in
          let before = counted.counts a lt in
          let more = count_more old.tree is a g rest in
          omega (arith, usage, before, more));
    })

pub AreCounts-reparent : (old new : Counts) (g p : ℕ) (rest : List ℕ) → IsLineage old.tree → (node_at old.tree g).parent ≡ Some p → MovesUp old new g → AreCounts old (g ∷ rest) → AreCounts new (p ∷ rest)
AreCounts-reparent old new g p rest is parent change counted =
    subst (λ t. AreCounts (record { tree = t; limits = new.limits; usage = new.usage; room = new.room }) (p ∷ rest)) (sym change.groups.tree)
    (record {
      live =
          All-cons (λ x. is_live old.tree x ≡ true) p rest (is.parents_live g p (All-head (λ x. is_live old.tree x ≡ true) g rest counted.live) parent)
          (All-tail (λ x. is_live old.tree x ≡ true) g rest counted.live);
      counts =
          λ a lt.
          (let usage = change.usage a lt in
          let before = counted.counts a lt in
          let more = count_more old.tree is.earlier_parents a g rest in
          let after = count_more old.tree is.earlier_parents a p rest in
          let step : share old.tree a (Some g) ≡ cond (a == g) 1 0 + share old.tree a (Some p) = share-step old.tree is.earlier_parents a g ∙ ap (λ at. cond (a == g) 1 0 + share old.tree a at) parent in
          omega (arith, usage, before, more, after, step));
    })

-- a charge counts at its group and above
pub share-counted : (s : Counts) (g : ℕ) → IsTree s.tree → IsOut s g → (a : ℕ) → a < length s.tree → share s.tree a (Some g) ≤ usage_of s a
share-counted s g is out a lt =
    let before = out.counted.counts a lt in
    let more = count_more s.tree is a g out.others in
    omega (arith, before, more)

pub live-out : (s : Counts) (g : ℕ) → IsOut s g → is_live s.tree g ≡ true
live-out s g out = All-head (λ x. is_live s.tree x ≡ true) g out.others out.counted.live

pub counts_itself : (s : Counts) (g : ℕ) → IsTree s.tree → IsOut s g → 1 ≤ usage_of s g
counts_itself s g is out =
    let share = share-counted s g is out g (live-within s.tree g (live-out s g out)) in
    let own = share-own s.tree is g in
    omega (arith, share, own)
