-- Steps of the walks up that count a group more, or a group less, in each span above it; and of the loop that tells groups their places.
use Rattle.std.proofs.Common.{inl, inr, ◌≡◌, ℕ, ◌+◌, ◌-◌, ◌<◌, ◌≤◌, ◌==◌, true, false, List, length, get_or, if◌then◌else◌, slice_index, slice_set, take, drop, ◌++◌, Option, Some, None, refl, sym, ap, subst, ◌∙◌, arith, get_or-set_other, get_or-set_same}
use Rattle.std.proofs.lemmas.List.{get_or-map, length-map}
use Rattle.std.proofs.Math.Seq.{take-append_seam}
use Rattle.machine.specs.Tree.{Node, no_node, node_at, is_live, IsTree, share, rank}
use Rattle.machine.proofs.TreeLemmas.{eq_cases, rank-parent, share-None, share-step, share-own, share-le}
use Rattle.group_tree.specs.declared.tree.Group.{Group}
use Rattle.group_tree.specs.Groups.{IsGroupTree}
use Rattle.group_tree.specs.Places.{IsLiveAt, IsOnceEach, ArePlaced}
use Rattle.group_tree.specs.Tables.{number, node_of, nodes_of}
use Rattle.group_tree.proofs.TreeFacts.{live-within}

-- a live group is in the table
pub in-table : (groups : List Group) (g : ℕ) → is_live (nodes_of groups) g ≡ true → g < length groups
in-table groups g live =
    let lt = live-within (nodes_of groups) g live in
    let len : length (nodes_of groups) ≡ length groups = length-map groups node_of in
    omega (arith, lt, len)

-- what the table says a group hangs below is what the tree says
pub parent-read : (groups : List Group) (g : ℕ) (d : Group) → g < length groups → number (get_or groups g d).parent ≡ (node_at (nodes_of groups) g).parent
parent-read groups g d lt = ap (λ (x : Node). x.parent) (sym (get_or-map node_of groups g d no_node lt))

live_at : (tree : List Node) → IsGroupTree tree → (g : ℕ) → is_live tree g ≡ true → (at : Option ℕ) → (node_at tree g).parent ≡ at → IsLiveAt tree at
live_at tree groups g live None e = tt
live_at tree groups g live (Some p) e = groups.parents_live g p live e

-- what the table says a live group hangs below is live, and nearer to the root
pub parent-live : (groups : List Group) → IsGroupTree (nodes_of groups) → (g : ℕ) (d : Group) → is_live (nodes_of groups) g ≡ true → IsLiveAt (nodes_of groups) (number (get_or groups g d).parent)
parent-live groups tree g d live = subst (IsLiveAt (nodes_of groups)) (sym (parent-read groups g d (in-table groups g live))) (live_at (nodes_of groups) tree g live (node_at (nodes_of groups) g).parent refl)

pub parent-nearer : (groups : List Group) → IsTree (nodes_of groups) → (g : ℕ) (d : Group) → is_live (nodes_of groups) g ≡ true → rank (number (get_or groups g d).parent) < rank (Some g)
parent-nearer groups is g d live =
    let lower = rank-parent (nodes_of groups) is g in
    let read = ap rank (parent-read groups g d (in-table groups g live)) in
    omega (arith, lower, read)

-- two tables are the same once what walks up from two groups count is added to each
abbrev pub AgreeUp : List Node → List ℕ → Option ℕ → List ℕ → Option ℕ → Type 0
AgreeUp tree xs at ys from = (g : ℕ) → slice_index xs g + share tree g at ≡ slice_index ys g + share tree g from

-- at its end a walk has counted all: the one table has what the other lacks
pub all-counted : (tree : List Node) → IsTree tree → (xs ys : List ℕ) (at from : Option ℕ) → at ≡ None → AgreeUp tree xs at ys from → (g : ℕ) → slice_index xs g ≡ slice_index ys g + share tree g from
all-counted tree is xs ys at from none agree g =
    let e = agree g in
    let zero : share tree g at ≡ 0 = rw none (share-None tree is g) in
    omega (arith, e, zero)

-- a table in which one number was written, at each place
one-written : (xs : List ℕ) (here v : ℕ) → here < length xs → (g : ℕ) → slice_index (slice_set xs here v) g + (if g == here then slice_index xs here else 0) ≡ slice_index xs g + (if g == here then v else 0)
one-written xs here v within g =
    elim (eq_cases g here) [
      | inl same ↦
          (let set : slice_index (slice_set xs here v) g ≡ v = rw same (get_or-set_same xs here _ _ within) in
          let test : (g == here) ≡ true = grind (arith, same) in
          let read : slice_index xs g ≡ slice_index xs here = ap (slice_index xs) same in
          grind (arith, set, test, read))
      | inr differs ↦
          (let set : slice_index (slice_set xs here v) g ≡ slice_index xs g = get_or-set_other xs here g _ _ differs in
          let test : (g == here) ≡ false = grind (arith, differs) in
          grind (arith, set, test))
    ]

module _ (tree : List Node) (is : IsTree tree) (xs ys : List ℕ) (from : Option ℕ) (here : ℕ) where
  -- a walk up counts each group once
  pub counted-once : AgreeUp tree xs (Some here) ys from → slice_index xs here ≤ slice_index ys here
  counted-once agree =
      let e = agree here in
      let own = share-own tree is here in
      let le = share-le tree is here from in
      omega (arith, e, own, le)

  -- a walk goes on from a group to what it hangs below, as one table has one more there, or the other has one less
  goes-up : (us vs : List ℕ) → ((g : ℕ) → slice_index us g + slice_index ys g ≡ slice_index xs g + slice_index vs g + (if g == here then 1 else 0)) → AgreeUp tree xs (Some here) ys from → AgreeUp tree us (node_at tree here).parent vs from
  goes-up us vs moved agree g =
      let step = share-step tree is g here in
      let m = moved g in
      let e = agree g in
      omega (arith, step, m, e)

  pub one-more : here < length xs → AgreeUp tree xs (Some here) ys from → AgreeUp tree (slice_set xs here (slice_index xs here + 1)) (node_at tree here).parent ys from
  one-more within agree = goes-up _ ys (λ g. let set = one-written xs here (slice_index xs here + 1) within g in grind (arith, set)) agree

  pub one-less : here < length ys → 1 ≤ slice_index ys here → AgreeUp tree xs (Some here) ys from → AgreeUp tree xs (node_at tree here).parent (slice_set ys here (slice_index ys here - 1)) from
  one-less within some agree = goes-up xs _ (λ g. let set = one-written ys here (slice_index ys here - 1) within g in grind (arith, set, some)) agree

-- one group more stands where the places say
pub one-placed : (walk places : List ℕ) (n : ℕ) → IsOnceEach walk → n < length walk → slice_index walk n < length places → ArePlaced walk places n → ArePlaced walk (slice_set places (slice_index walk n) n) (n + 1)
one-placed walk places n once lt within placed i more =
    elim (eq_cases i n) [
      | inl same ↦ ap (λ j. slice_index (slice_set places (slice_index walk n) n) (slice_index walk j)) same ∙ get_or-set_same places (slice_index walk n) n 0 within ∙ sym same
      | inr differs ↦ get_or-set_other places (slice_index walk n) (slice_index walk i) n 0 (λ e. differs (sym (once.1 i (omega (arith, more, lt))) ∙ ap once.0 e ∙ once.1 n lt)) ∙ placed i (omega (arith, more, differs))
    ]

-- a table that was written whole
pub whole : (len : ℕ) (now old : List ℕ) → length now ≡ length old → len ≡ length old → take len (now ++ drop (length now) old) ≡ now
whole len now old same all =
    ap (λ n. take n (now ++ drop (length now) old)) (let e : len ≡ length now = omega (arith, same, all) in e) ∙ take-append_seam now (drop (length now) old)
