-- Groups without their paths are the same tree.
use Rattle.std.proofs.Common.{◌≡◌, inl, inr, ℕ, zero, suc, ◌+◌, ◌<◌, ◌&&◌, Bool, true, false, cond, List, [], ◌∷◌, ◌++◌, length, Option, Some, None, refl, sym, ap, ◌∙◌, arith, length-append}
use Rattle.std.specs.Prelude.{find}
use Rattle.std.proofs.lemmas.List.{get_or_append_left}
use Rattle.std.proofs.Math.Seq.{get_or-append_seam}
use Rattle.std.proofs.Math.ListN.{get_or-eq_default}
use Rattle.machine.specs.declared.record.Limits.{Limits}
use Rattle.machine.specs.declared.record.Key.{Key}
use Rattle.machine.specs.Slots.{count_there}
use Rattle.machine.specs.Tree.{Node, no_node, root, node_at, is_live, under_at}
use Rattle.machine.specs.Pages.{Page, Pages, has_frame, charged}
use Rattle.machine.specs.declared.record.EventCounts.{EventCounts}
use Rattle.machine.specs.Counts.{is_full, over_at, over, total}
use Rattle.machine.proofs.Values.{some_inj}
use Rattle.counts.proofs.CountLemmas.{total-alike}
use Rattle.machine.proofs.TreeLemmas.{same_chain, same_under, lt_cases, over_at-None, over_at-step}
use Rattle.group_tree.specs.Lineages.{bare, IsLineage}
use Rattle.group_tree.proofs.LineageLemmas.{live-within}
use Rattle.group_tree.specs.Kin.{AreKin}

same_tests : {X : Type 0} {f g : X → Bool} → ((x : X) → f x ≡ g x) → f ≡ g
same_tests same = λ i x. same x i

same_numbers : {f g : ℕ → ℕ} → ((a : ℕ) → f a ≡ g a) → f ≡ g
same_numbers same = λ i a. same a i

module _ (kin tree : List Node) (are : AreKin kin tree) where
  pub kin-under : (a : ℕ) (at : Option ℕ) → under_at kin a at ≡ under_at tree a at
  kin-under a at = same_under kin tree are.parents a at

  pub kin-charged : (pages : Pages) (a : ℕ) → charged kin pages a ≡ charged tree pages a
  kin-charged pages a = ap (λ (test : Page → Bool). count_there test pages) (same_tests (λ (page : Page). ap (λ b. has_frame page && b) (kin-under a (Some page.group))))

  pub kin-total : (counted : List EventCounts) (a : ℕ) (k : Key) → total kin counted a k ≡ total tree counted a k
  kin-total counted a k = total-alike kin tree counted a k are.len (λ g lt. kin-under a (Some g))

  over-chain : (limits : List Limits) (count : ℕ → ℕ) (at : Option ℕ) → over_at kin limits count at ≡ over_at tree limits count at
  unfolding over_at
  over-chain limits count at = ap (find (is_full limits count)) (same_chain kin tree are.parents at)

  pub kin-over : (limits : List Limits) (pages : Pages) (g : ℕ) → over kin limits (charged kin pages) g ≡ over tree limits (charged tree pages) g
  kin-over limits pages g = ap (λ (count : ℕ → ℕ). over_at kin limits count (Some g)) (same_numbers (kin-charged pages)) ∙ over-chain limits (charged tree pages) (Some g)

-- the roots
pub kin-root : AreKin (bare None ∷ []) (root ∷ [])
kin-root = record { len = refl; parents = parents; living = living }
  where
    parents : (g : ℕ) → (node_at (bare None ∷ []) g).parent ≡ (node_at (root ∷ []) g).parent
    parents zero = refl
    parents (suc g) = refl

    living : (g : ℕ) → is_live (bare None ∷ []) g ≡ is_live (root ∷ []) g
    living zero = refl
    living (suc g) = refl

-- one group more in both
pub kin-push : (kin tree : List Node) (p : ℕ) (node : Node) → AreKin kin tree → node.parent ≡ Some p → node.live ≡ true → AreKin (kin ++ bare (Some p) ∷ []) (tree ++ node ∷ [])
kin-push kin tree p node are parent live =
    record {
      len = length-append kin _ ∙ ap (λ n. n + 1) are.len ∙ sym (length-append tree _);
      parents = λ g. (same g).0;
      living = λ g. (same g).1;
    }
  where
    beyond : (xs : List Node) (x : Node) (g : ℕ) → length xs < g → node_at (xs ++ x ∷ []) g ≡ no_node
    beyond xs x g gt = get_or-eq_default (xs ++ x ∷ []) no_node (let n = length-append xs (x ∷ []) in omega (arith, n, gt))

    same : (g : ℕ) → ((node_at (kin ++ bare (Some p) ∷ []) g).parent ≡ (node_at (tree ++ node ∷ []) g).parent) × (is_live (kin ++ bare (Some p) ∷ []) g ≡ is_live (tree ++ node ∷ []) g)
    same g =
        elim (lt_cases g (length kin)) [
          | inl lt ↦
              (let old = get_or_append_left kin (bare (Some p) ∷ []) no_node g lt in
              let full = get_or_append_left tree (node ∷ []) no_node g (let n = are.len in omega (arith, n, lt)) in (
                ap (λ (x : Node). x.parent) old ∙ are.parents g ∙ sym (ap (λ (x : Node). x.parent) full),
                ap (λ (x : Node). x.live) old ∙ are.living g ∙ sym (ap (λ (x : Node). x.live) full),
              ))
          | inr (inl is) ↦
              (let old : node_at (kin ++ bare (Some p) ∷ []) g ≡ bare (Some p) = ap (node_at (kin ++ bare (Some p) ∷ [])) is ∙ get_or-append_seam kin (bare (Some p)) [] no_node in
              let full : node_at (tree ++ node ∷ []) g ≡ node = ap (node_at (tree ++ node ∷ [])) (is ∙ are.len) ∙ get_or-append_seam tree node [] no_node in (
                ap (λ (x : Node). x.parent) old ∙ sym (ap (λ (x : Node). x.parent) full ∙ parent),
                ap (λ (x : Node). x.live) old ∙ sym (ap (λ (x : Node). x.live) full ∙ live),
              ))
          | inr (inr gt) ↦
              (let old = beyond kin (bare (Some p)) g gt in
              let full = beyond tree node g (let n = are.len in omega (arith, n, gt)) in (
                ap (λ (x : Node). x.parent) old ∙ sym (ap (λ (x : Node). x.parent) full),
                ap (λ (x : Node). x.live) old ∙ sym (ap (λ (x : Node). x.live) full),
              ))
        ]

-- a live group stays one, whatever group comes
pub live-push : (tree : List Node) (x : Node) (g : ℕ) → is_live tree g ≡ true → is_live (tree ++ x ∷ []) g ≡ true
live-push tree x g live = ap (λ (n : Node). n.live) (get_or_append_left tree (x ∷ []) no_node g (live-within tree g live)) ∙ live

-- the lowest group without room is a live one
module _ (tree : List Node) (is : IsLineage tree) (limits : List Limits) (count : ℕ → ℕ) (a : ℕ) where
  -- from what holds of the groups below a number
  over-live-by : (g : ℕ) → ((p : ℕ) → p < g → is_live tree p ≡ true → over_at tree limits count (Some p) ≡ Some a → is_live tree a ≡ true) → is_live tree g ≡ true → over_at tree limits count (Some g) ≡ Some a → is_live tree a ≡ true
  over-live-by g lower live e = by_full (is_full limits count g) (sym (over_at-step tree is.earlier_parents limits count g) ∙ e)
    where
      by_parent : (at : Option ℕ) → (node_at tree g).parent ≡ at → over_at tree limits count at ≡ Some a → is_live tree a ≡ true
      by_parent None up e = let none : None ≡ Some a = sym (over_at-None tree is.earlier_parents limits count) ∙ e in cc
      by_parent (Some p) up e = lower p (is.earlier_parents.falls g p up) (is.parents_live g p live up) e

      by_full : (b : Bool) → cond b (Some g) (over_at tree limits count (node_at tree g).parent) ≡ Some a → is_live tree a ≡ true
      by_full true e = ap (is_live tree) (sym (some_inj e)) ∙ live
      by_full false e = by_parent (node_at tree g).parent refl e

  over-live-in : (n g : ℕ) → g < n → is_live tree g ≡ true → over_at tree limits count (Some g) ≡ Some a → is_live tree a ≡ true
  over-live-in zero g lt live e = absurd (omega (arith, lt))
  over-live-in (suc n) g lt live e = over-live-by g (λ p below. over-live-in n p (omega (arith, below, lt))) live e

  pub over-live : (g : ℕ) → is_live tree g ≡ true → over tree limits count g ≡ Some a → is_live tree a ≡ true
  over-live g live e = over-live-in (suc g) g (omega arith) live e
