-- A lineage stays one, whatever group comes or goes.
use Rattle.std.proofs.Common.{inl, inr, ◌≡◌, ◌≢◌, ℕ, zero, suc, ◌<◌, ◌==◌, true, false, ◌||◌, ◌&&◌, List, [], ◌∷◌, ◌++◌, length, get_or, Some, None, refl, sym, ap, ◌∙◌, subst, arith, length-append, length-set, get_or-set_other, get_or-set_same}
use Rattle.std.specs.Prelude.{slice_set}
use Rattle.std.proofs.lemmas.Bool.{or_right}
use Rattle.std.proofs.lemmas.Bool.Decides.{nat_tests}
use Rattle.std.proofs.lemmas.List.{get_or-map, length-map, map-append, map-set}
use Rattle.std.proofs.lemmas.List.Folds.{list_any_at}
use Rattle.machine.specs.declared.id.GroupId.{GroupId}
use Rattle.machine.specs.Tree.{Node, no_node, node_at, is_live, is_parent, is_child, has_children, under, under_at, IsTree}
use Rattle.machine.proofs.TreeLemmas.{eq_cases, lt_cases, under_at-step, under_at-append, same_under, IsTree-push}
use Rattle.group_tree.specs.declared.lineage.Group.{Group}
use Rattle.group_tree.specs.Lineages.{bare, node_of, nodes_of, IsLineage}
pub use Rattle.group_tree.proofs.TreeFacts.{live-within}
use Rattle.group_tree.proofs.TreeFacts.{at_new, still_live, push-parents_live}

-- whatever the parent is under, the group is
pub under-child : (tree : List Node) → IsTree tree → (a g p : ℕ) → (node_at tree g).parent ≡ Some p → under tree a p ≡ true → under tree a g ≡ true
under-child tree is a g p e h = under_at-step tree is a g ∙ ap (λ at. (a == g) || under_at tree a at) e ∙ ap (λ b. (a == g) || b) h ∙ or_right (a == g) true refl

parentless : (g : ℕ) → (node_at (bare None ∷ []) g).parent ≡ None
parentless zero = refl
parentless (suc g) = refl

IsTree-root : IsTree (bare None ∷ [])
IsTree-root = record { falls = λ g p e. absurd (let none : None ≡ Some p = sym (parentless g) ∙ e in cc) }

rooted-root : (g : ℕ) → g < 1 → under (bare None ∷ []) 0 g ≡ true
rooted-root zero lt = under_at-step (bare None ∷ []) IsTree-root 0 0
rooted-root (suc g) lt = absurd (omega arith)

-- the root alone
pub IsLineage-root : IsLineage (bare None ∷ [])
IsLineage-root = record {
  earlier_parents = IsTree-root;
  root_first = refl;
  rooted = rooted-root;
  parents_live = λ g p live e. absurd (let none : None ≡ Some p = sym (parentless g) ∙ e in cc);
}

-- a group more, below a live one
module _ (tree : List Node) (p : ℕ) (is : IsLineage tree) (parent_live : is_live tree p ≡ true) where
  push-tree : IsTree (tree ++ bare (Some p) ∷ [])
  push-tree = IsTree-push tree (bare (Some p)) is.earlier_parents (live-within tree p parent_live)

  push-rooted_old : (g : ℕ) → g < length tree → under (tree ++ bare (Some p) ∷ []) 0 g ≡ true
  push-rooted_old g lt = under_at-append tree (bare (Some p) ∷ []) is.earlier_parents 0 (Some g) lt ∙ is.rooted g lt

  push-rooted : (g : ℕ) → g < length (tree ++ bare (Some p) ∷ []) → under (tree ++ bare (Some p) ∷ []) 0 g ≡ true
  push-rooted g lt =
      elim (lt_cases g (length tree)) [
        | inl old ↦ push-rooted_old g old
        | inr (inl new) ↦ under-child (tree ++ bare (Some p) ∷ []) push-tree 0 g p (ap (λ x. x.parent) (at_new tree (bare (Some p)) g new)) (push-rooted_old p (live-within tree p parent_live))
        | inr (inr beyond) ↦ absurd (let len = length-append tree (bare (Some p) ∷ []) in omega (arith, len, beyond, lt))
      ]

  pub IsLineage-push : IsLineage (tree ++ bare (Some p) ∷ [])
  IsLineage-push = record {
    earlier_parents = push-tree;
    root_first = still_live tree (bare (Some p)) 0 is.root_first;
    rooted = push-rooted;
    parents_live = push-parents_live tree (bare (Some p)) p refl parent_live is.parents_live;
  }

-- a group less, that is not the root and has no children
module _ (tree : List Node) (group : ℕ) (is : IsLineage tree) (below : 0 < group) (live : is_live tree group ≡ true) (childless : has_children tree group ≡ false) where
  at_other : (g : ℕ) → g ≢ group → node_at (slice_set tree group (record (node_at tree group) { live = false })) g ≡ node_at tree g
  at_other g differs = get_or-set_other tree group g _ no_node differs

  at_group : (g : ℕ) → g ≡ group → node_at (slice_set tree group (record (node_at tree group) { live = false })) g ≡ record (node_at tree group) { live = false }
  at_group g same = ap (node_at (slice_set tree group (record (node_at tree group) { live = false }))) same ∙ get_or-set_same tree group _ no_node (live-within tree group live)

  same_parent : (g : ℕ) → (node_at (slice_set tree group (record (node_at tree group) { live = false })) g).parent ≡ (node_at tree g).parent
  same_parent g =
      elim (eq_cases g group) [
        | inl same ↦ ap (λ x. x.parent) (at_group g same) ∙ ap (λ i. (node_at tree i).parent) (sym same)
        | inr differs ↦ ap (λ x. x.parent) (at_other g differs)
      ]

  -- no live group hangs below it
  no_child : (g : ℕ) → is_live tree g ≡ true → (node_at tree g).parent ≡ Some group → ⊥
  no_child g child e =
      let own : (group == group) ≡ true = grind (arith, nat_tests) in
      let test : is_child group (node_at tree g) ≡ true = ap (λ b. b && is_parent (node_at tree g).parent group) child ∙ ap (λ at. is_parent at group) e ∙ own in
      let found = list_any_at (is_child group) tree g no_node (live-within tree g child) test in
      cc

  remove-parents_live : (g q : ℕ) → is_live (slice_set tree group (record (node_at tree group) { live = false })) g ≡ true
      → (node_at (slice_set tree group (record (node_at tree group) { live = false })) g).parent ≡ Some q → is_live (slice_set tree group (record (node_at tree group) { live = false })) q ≡ true
  remove-parents_live g q new_live new_e =
      elim (eq_cases g group) [
        | inl same ↦ absurd (let dead = ap (λ x. x.live) (at_group g same) in cc)
        | inr differs ↦
            (let was_live = sym (ap (λ x. x.live) (at_other g differs)) ∙ new_live in
            let e = sym (same_parent g) ∙ new_e in
            elim (eq_cases q group) [
              | inl same ↦ absurd (no_child g was_live (e ∙ ap Some same))
              | inr other ↦ ap (λ x. x.live) (at_other q other) ∙ is.parents_live g q was_live e
            ])
      ]

  pub IsLineage-remove : IsLineage (slice_set tree group (record (node_at tree group) { live = false }))
  IsLineage-remove = record {
    earlier_parents = record { falls = λ g p e. is.earlier_parents.falls g p (sym (same_parent g) ∙ e) };
    root_first = ap (λ x. x.live) (at_other 0 (λ same. omega arith)) ∙ is.root_first;
    rooted =
        λ g lt.
        same_under _ tree same_parent 0 (Some g)
        ∙ is.rooted g (let len : length (slice_set tree group (record (node_at tree group) { live = false })) ≡ length tree = length-set _ _ _ in omega (arith, len, lt));
    parents_live = remove-parents_live;
  }

-- what the table says of one of its groups
node_at-nodes_of : (groups : List Group) (g : ℕ) (x : Group) → g < length groups → x ≡ get_or groups g x → node_at (nodes_of groups) g ≡ node_of x
node_at-nodes_of groups g x lt is = get_or-map node_of groups g x no_node lt ∙ ap node_of (sym is)

within-table : (groups : List Group) (g : ℕ) → is_live (nodes_of groups) g ≡ true → g < length groups
within-table groups g live = let lt = live-within (nodes_of groups) g live in let len : length (nodes_of groups) ≡ length groups = length-map groups node_of in omega (arith, lt, len)

-- the table after a group was added
module _ (groups new : List Group) (parent : GroupId) (tree : List Node) (view : nodes_of groups ≡ tree) (live : is_live tree parent.0 ≡ true) (pushed : new ≡ groups ++ record { parent = Some parent; live = true } ∷ []) where
  nodes_of-added : nodes_of new ≡ nodes_of groups ++ bare (Some parent.0) ∷ []
  nodes_of-added = ap nodes_of pushed ∙ map-append node_of groups (record { parent = Some parent; live = true } ∷ [])

  pub IsLineage-added : IsLineage (nodes_of groups) → IsLineage (nodes_of new)
  IsLineage-added is = subst IsLineage (sym nodes_of-added) (IsLineage-push (nodes_of groups) parent.0 is (ap (λ t. is_live t parent.0) view ∙ live))

-- the table after a group was removed
module _ (groups : List Group) (group : ℕ) (x : Group) (tree : List Node) (view : nodes_of groups ≡ tree) (live : is_live tree group ≡ true) (read : x ≡ get_or groups group x) where
  was_live : is_live (nodes_of groups) group ≡ true
  was_live = ap (λ t. is_live t group) view ∙ live

  nodes_of-set : nodes_of (slice_set groups group (record { parent = x.parent; live = false })) ≡ slice_set (nodes_of groups) group (record (node_at (nodes_of groups) group) { live = false })
  nodes_of-set =
      map-set node_of groups group (record { parent = x.parent; live = false })
      ∙ ap (λ (node : Node). slice_set (nodes_of groups) group (record node { live = false })) (sym (node_at-nodes_of groups group x (within-table groups group was_live) read))

  pub nodes_of-removed : nodes_of (slice_set groups group (record { parent = x.parent; live = false })) ≡ slice_set tree group (record (node_at tree group) { live = false })
  nodes_of-removed = nodes_of-set ∙ ap (λ t. slice_set t group (record (node_at t group) { live = false })) view

  pub IsLineage-removed : IsLineage (nodes_of groups) → 0 < group → has_children tree group ≡ false → IsLineage (nodes_of (slice_set groups group (record { parent = x.parent; live = false })))
  IsLineage-removed is below childless =
      subst IsLineage (sym nodes_of-set) (IsLineage-remove (nodes_of groups) group is below was_live (ap (λ t. has_children t group) view ∙ childless))
