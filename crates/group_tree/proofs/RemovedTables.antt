-- A group less, in the tables that the tree stands in, and in the groups without their paths.
use Rattle.std.proofs.Common.{inl, inr, ◌≡◌, ◌≢◌, ℕ, ◌-◌, ◌<◌, ◌&&◌, Bool, true, false, cond, List, length, get_or, Option, None, refl, sym, ap, ◌∙◌, subst, arith, length-set}
use Rattle.std.specs.Prelude.{slice_set, string_bytes}
use Rattle.std.specs.Str.{bytes_eq}
use Rattle.std.specs.Map.{lookup}
use Rattle.std.specs.String.{string_eq}
use Rattle.std.proofs.lemmas.List.{get_or-map, length-map, map-set}
use Rattle.std.proofs.lemmas.Map.Text.{hash_map_updates_text}
use Rattle.indexmap.specs.IndexMap.{UpdatesBy}
use Rattle.machine.specs.declared.id.GroupId.{GroupId}
use Rattle.machine.specs.Tree.{Node, no_node, node_at, is_live, has_children, is_at_path, live_groups, find_group, without_group}
use Rattle.machine.proofs.TreeLemmas.{eq_cases}
use Rattle.machine.proofs.RemovedLemmas.{without-parent, without-dead, without-other}
use Rattle.group_tree.specs.declared.tree.Group.{Group}
use Rattle.group_tree.specs.Groups.{IsGroupTree}
use Rattle.group_tree.specs.Kin.{AreKin}
use Rattle.group_tree.specs.Tables.{number, node_of, nodes_of, indexed, AreTables}
use Rattle.group_tree.proofs.TreeFacts.{live-within}
use Rattle.group_tree.proofs.PushLemmas.{Paths}
use Rattle.group_tree.proofs.RemoveLemmas.{find-removed, live-removed, IsGroupTree-removed}

number_without : (b : Bool) (at : Option GroupId) → number (cond b None at) ≡ cond b None (number at)
number_without true at = refl
number_without false at = refl

-- what the removal of a group does to the tables
pub record Removes (tree : List Node) (g : ℕ) (old : List Group) (live : ℕ) (index : Paths) (group : Group) (path : List ℕ) (kept : Paths) : Type 0 where
  pub tables : AreTables old live index.entries
  pub view : nodes_of old ≡ tree
  pub below : 0 < g
  pub is_there : is_live tree g ≡ true
  pub childless : has_children tree g ≡ false
  pub read : group ≡ get_or old g group
  pub path_is : path ≡ string_bytes group.path
  pub taken_out : UpdatesBy string_eq (λ k. bytes_eq path (string_bytes k)) index kept None

module _ (tree : List Node) (g : ℕ) (old : List Group) (live : ℕ) (index : Paths) (group : Group) (path : List ℕ) (kept : Paths) (gone : Removes tree g old live index group path kept) where
  is_tree : IsGroupTree tree
  is_tree = subst IsGroupTree gone.view gone.tables.tree

  not_root : g ≢ 0
  not_root same = let below = gone.below in omega (arith, below, same)

  within-removed : g < length old
  within-removed =
      let lt = live-within tree g gone.is_there in
      let len : length (nodes_of old) ≡ length old = length-map old node_of in
      let seen = ap length gone.view in
      omega (arith, lt, len, seen)

  pub node_is : node_at tree g ≡ node_of group
  node_is = ap (λ (t : List Node). node_at t g) (sym gone.view) ∙ get_or-map node_of old g group no_node within-removed ∙ ap node_of (sym gone.read)

  pub nodes-removed : nodes_of (slice_set old g (record group { live = false })) ≡ without_group tree g
  nodes-removed =
      map-set node_of old g (record group { live = false })
      ∙ ap (λ (t : List Node). slice_set t g (node_of (record group { live = false }))) gone.view
      ∙ ap (λ (x : Node). slice_set tree g (record x { live = false })) (sym node_is)

  found : (q : List ℕ) → indexed kept.entries q ≡ find_group (without_group tree g) q
  found q =
      ap number (hash_map_updates_text path index kept None gone.taken_out q)
      ∙ number_without (bytes_eq path q) (lookup (λ k. bytes_eq q (string_bytes k)) index.entries)
      ∙ ap (cond (bytes_eq path q) None) (gone.tables.found q ∙ ap (λ (t : List Node). find_group t q) gone.view)
      ∙ ap (λ (b : Bool). cond b None (find_group tree q)) (sym at_path)
      ∙ sym (find-removed tree g is_tree gone.is_there gone.childless not_root q)
    where
      at_path : is_at_path q (node_at tree g) ≡ bytes_eq path q
      at_path = ap (λ (b : Bool). b && bytes_eq (node_at tree g).path q) gone.is_there ∙ ap (λ (x : Node). bytes_eq x.path q) node_is ∙ ap (λ (p : List ℕ). bytes_eq p q) (sym gone.path_is)

  pub AreTables-removed : AreTables (slice_set old g (record group { live = false })) (live - 1) kept.entries
  AreTables-removed =
      let was : live ≡ live_groups tree = gone.tables.counted ∙ ap live_groups gone.view in
      let fewer = live-removed tree g is_tree gone.is_there gone.childless not_root in
      let now = ap live_groups nodes-removed in
      record {
        tree = subst IsGroupTree (sym nodes-removed) (IsGroupTree-removed tree g is_tree gone.is_there gone.childless not_root);
        counted = omega (arith, was, fewer, now);
        found = λ q. found q ∙ ap (λ (t : List Node). find_group t q) (sym nodes-removed);
      }

-- a group less in both
pub kin-removed : (kin tree : List Node) (g : ℕ) → AreKin kin tree → AreKin (without_group kin g) (without_group tree g)
kin-removed kin tree g are = record {
  len = length-set kin g _ ∙ are.len ∙ sym (length-set tree g _);
  parents = λ h. without-parent kin g h ∙ are.parents h ∙ sym (without-parent tree g h);
  living =
      λ h.
      elim (eq_cases h g) [
        | inl same ↦ ap (is_live (without_group kin g)) same ∙ without-dead kin g ∙ sym (ap (is_live (without_group tree g)) same ∙ without-dead tree g)
        | inr other ↦ ap (λ (x : Node). x.live) (without-other kin g h other) ∙ are.living h ∙ sym (ap (λ (x : Node). x.live) (without-other tree g h other))
      ];
}
