-- A group that is removed: the tree's chains stay, its pages keep their places, and so does what is charged above it.
use Rattle.std.proofs.Common.{◌≡◌, ◌≢◌, inl, inr, ℕ, zero, suc, ◌||◌, Bool, true, false, List, [], ◌∷◌, Option, Some, ne_eqb, refl, sym, ap, ◌∙◌, arith}
use Rattle.std.specs.Prelude.{◌≤◌, ◌⊎◌, slice_set}
use Rattle.std.proofs.lemmas.List.{get_or-set_other}
use Rattle.std.proofs.lemmas.List.Sums.{sum_by-cons}
use Rattle.machine.specs.Slots.{at, there_and, count_there}
use Rattle.machine.specs.Tree.{Node, no_node, node_at, is_live, chain, is_child, has_children, under_at, under, IsTree, without_group}
use Rattle.machine.specs.declared.config.Placement.{Placement}
use Rattle.machine.specs.declared.config.Placement.TheVariants.{Own, Linux}
use Rattle.machine.specs.Pages.{Residence, Held, Coming, Going, Away}
use Rattle.machine.specs.Step.{heir}
use Rattle.machine.proofs.TreeLemmas.{same_chain, same_under, under_at-step}
use Rattle.machine.proofs.SlotLemmas.{one_if}

-- ---- the tree

-- a node with the parent of another takes its place, and every group hangs below what it did
parents-set : (tree : List Node) (g h : ℕ) (x : Node) → x.parent ≡ (node_at tree g).parent → (node_at (slice_set tree g x) h).parent ≡ (node_at tree h).parent
parents-set [] g h x e = refl
parents-set (y ∷ tree) zero zero x e = e
parents-set (y ∷ tree) zero (suc h) x e = refl
parents-set (y ∷ tree) (suc g) zero x e = refl
parents-set (y ∷ tree) (suc g) (suc h) x e = parents-set tree g h x e

pub without-parent : (tree : List Node) (g h : ℕ) → (node_at (without_group tree g) h).parent ≡ (node_at tree h).parent
without-parent tree g h = parents-set tree g h (record (node_at tree g) { live = false }) refl

-- the other groups are there as they were, and this one is not
dead-set : (tree : List Node) (g : ℕ) (x : Node) → x.live ≡ false → (node_at (slice_set tree g x) g).live ≡ false
dead-set [] g x e = refl
dead-set (y ∷ tree) zero x e = e
dead-set (y ∷ tree) (suc g) x e = dead-set tree g x e

pub without-dead : (tree : List Node) (g : ℕ) → is_live (without_group tree g) g ≡ false
without-dead tree g = dead-set tree g (record (node_at tree g) { live = false }) refl

pub without-other : (tree : List Node) (g h : ℕ) → h ≢ g → node_at (without_group tree g) h ≡ node_at tree h
without-other tree g h other = get_or-set_other tree g h (record (node_at tree g) { live = false }) no_node other

pub without-falls : (tree : List Node) (g : ℕ) → IsTree tree → IsTree (without_group tree g)
without-falls tree g falls = record { falls = λ h p e. falls.falls h p (sym (without-parent tree g h) ∙ e) }

or_false : (a b : Bool) → (a || b) ≡ false → (a ≡ false) × (b ≡ false)
or_false true b e = cc
or_false false b e = (refl, e)

-- no live group hangs below one without children
pub no_child : (tree : List Node) (g h : ℕ) → has_children tree g ≡ false → is_child g (node_at tree h) ≡ false
no_child [] g h none = refl
no_child (x ∷ tree) g zero none = (or_false (is_child g x) (has_children tree g) none).0
no_child (x ∷ tree) g (suc h) none = no_child tree g h (or_false (is_child g x) (has_children tree g) none).1

-- the way up from a group stays
pub without-chain : (tree : List Node) (g : ℕ) (from : Option ℕ) → chain (without_group tree g) from ≡ chain tree from
without-chain tree g from = same_chain (without_group tree g) tree (without-parent tree g) from

-- whoever is at or below a group still is
pub without-under : (tree : List Node) (g a : ℕ) (from : Option ℕ) → under_at (without_group tree g) a from ≡ under_at tree a from
without-under tree g a from = same_under (without_group tree g) tree (without-parent tree g) a from

-- what is under another group is so by its parent
pub under-parent : (tree : List Node) → IsTree tree → (a g p : ℕ) → (node_at tree g).parent ≡ Some p → a ≢ g → under tree a g ≡ under tree a p
under-parent tree falls a g p below other =
    under_at-step tree falls a g ∙ ap (λ (b : Bool). b || under_at tree a (node_at tree g).parent) (ne_eqb a g other) ∙ ap (under_at tree a) below

-- ---- its pages

-- a page of a removed group becomes its parent's or the root's
pub heir-either : (placement : Placement) (parent : ℕ) (r : Residence) → (heir placement parent r ≡ parent) ⊎ (heir placement parent r ≡ 0)
heir-either Own parent r = inl refl
heir-either Linux parent (Held frame) = inl refl
heir-either Linux parent (Coming frame block ticket) = inl refl
heir-either Linux parent (Going frame block ticket) = inl refl
heir-either Linux parent (Away block) = inr refl

-- which is no later than the parent
pub heir-low : (placement : Placement) (parent : ℕ) (r : Residence) → heir placement parent r ≤ parent
heir-low placement parent r = elim (heir-either placement parent r) [ inl up ↦ omega (arith, up) | inr root ↦ omega (arith, root) ]

-- ---- what is charged

-- tables that pass two tests alike count the same by them
pub count-alike : {T : Type 0} (test test' : T → Bool) (xs ys : List (Option T)) → ((n : ℕ) → there_and test' (at ys n) ≡ there_and test (at xs n)) → count_there test' ys ≡ count_there test xs
count-alike test test' [] [] same = refl
count-alike {T} test test' [] (y ∷ ys) same =
    let more = sum_by-cons (λ (slot : Option T). one_if (there_and test' slot)) y ys in
    let here : one_if (there_and test' y) ≡ 0 = ap one_if (same 0) in
    let rest : count_there test' ys ≡ 0 = count-alike test test' [] ys (λ n. same (suc n)) in
    omega (arith, more, here, rest)
count-alike {T} test test' (x ∷ xs) [] same =
    let more = sum_by-cons (λ (slot : Option T). one_if (there_and test slot)) x xs in
    let here : 0 ≡ one_if (there_and test x) = ap one_if (same 0) in
    let rest : 0 ≡ count_there test xs = count-alike test test' xs [] (λ n. same (suc n)) in
    omega (arith, more, here, rest)
count-alike {T} test test' (x ∷ xs) (y ∷ ys) same =
    let more = sum_by-cons (λ (slot : Option T). one_if (there_and test slot)) x xs in
    let more' = sum_by-cons (λ (slot : Option T). one_if (there_and test' slot)) y ys in
    let here : one_if (there_and test' y) ≡ one_if (there_and test x) = ap one_if (same 0) in
    let rest = count-alike test test' xs ys (λ n. same (suc n)) in
    omega (arith, more, more', here, rest)
