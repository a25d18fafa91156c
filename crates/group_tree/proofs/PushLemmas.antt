-- A group more, below a live one, keeps what holds of every tree and of the tables.
use Rattle.std.proofs.Common.{inl, inr, ◌≡◌, ℕ, zero, suc, ◌+◌, ◌<◌, ◌≤◌, true, false, cond, List, [], ◌∷◌, ◌++◌, length, Option, Some, None, refl, sym, ap, ◌∙◌, subst, arith, length-append}
use Rattle.std.specs.Prelude.{string_bytes}
use Rattle.std.specs.declared.string.String.{String}
use Rattle.std.specs.declared.alloc.Global.{Global}
use Rattle.std.specs.Map.{lookup}
use Rattle.std.specs.String.{string_eq}
use Rattle.std.specs.declared.hash.FoldHasher.{FoldHasher}
use Rattle.std.specs.declared.hash.BuildHasherDefault.{BuildHasherDefault}
use Rattle.indexmap.specs.IndexMap.{IndexMap, insert_entry}
use Rattle.indexmap.proofs.CallerLemmas.{insert_entry-new}
use Rattle.std.specs.Str.{bytes_eq}
use Rattle.std.proofs.lemmas.Bool.{and_from}
use Rattle.std.proofs.lemmas.List.{map-append}
use Rattle.machine.specs.declared.id.GroupId.{GroupId}
use Rattle.machine.specs.Names.{parent_path}
use Rattle.machine.specs.Tree.{Node, root, node_at, is_live, is_at_path, IsTree, IsBelow, chain, find_group, live_groups}
use Rattle.machine.specs.Refusals.{mkdir_refusal}
use Rattle.machine.specs.Step.{new_node}
use Rattle.machine.proofs.TreeLemmas.{lt_cases, chain-step, chain-append, IsTree-push}
use Rattle.group_tree.specs.declared.tree.Group.{Group}
use Rattle.group_tree.specs.Groups.{IsGroupTree}
use Rattle.group_tree.specs.Tables.{number, node_of, nodes_of, indexed, AreTables}
use Rattle.group_tree.proofs.TreeFacts.{live-within, at_old, at_new, at_none, push-parents_live}
use Rattle.group_tree.proofs.TableLemmas.{live_groups-push, or_else, find_group-push, bytes_eq-self, indexed-found}
use Rattle.group_tree.proofs.RoomLemmas.{IsFree, IsFree-from, found_live}

-- the table of paths
abbrev pub Paths : Type 0
Paths = IndexMap (String Global) GroupId (BuildHasherDefault FoldHasher)

chain_of_none : (tree : List Node) (g : ℕ) → IsTree tree → (node_at tree g).parent ≡ None → length (chain tree (Some g)) ≡ 1
unfolding chain
chain_of_none tree g is e = ap length (chain-step tree is g ∙ ap (λ at. g ∷ chain tree at) e)

chain_of_some : (tree : List Node) (g p : ℕ) → IsTree tree → (node_at tree g).parent ≡ Some p → length (chain tree (Some g)) ≡ length (chain tree (Some p)) + 1
chain_of_some tree g p is e =
    let step = ap length (chain-step tree is g ∙ ap (λ at. g ∷ chain tree at) e) in
    omega (arith, step)

module _ (tree : List Node) (x : Node) (p : ℕ) (groups : IsGroupTree tree) (below : x.parent ≡ Some p) (live : x.live ≡ true) (parent_live : is_live tree p ≡ true)
    (absent : find_group tree x.path ≡ None) (levels : length (chain tree (Some p)) ≤ 16) (few : live_groups tree < 256) (left : length tree < 4294967295) where
  is_tree : IsTree (tree ++ x ∷ [])
  is_tree = IsTree-push tree x groups.earlier_parents (subst (λ at. IsBelow at (length tree)) (sym below) (live-within tree p parent_live))

  own_paths : (g : ℕ) → is_live (tree ++ x ∷ []) g ≡ true → find_group (tree ++ x ∷ []) (node_at (tree ++ x ∷ []) g).path ≡ Some g
  own_paths g there =
      elim (lt_cases g (length tree)) [
        | inl old ↦
            (let same = at_old tree x g old in
            ap (λ y. find_group (tree ++ x ∷ []) y.path) same ∙ find_group-push tree x (node_at tree g).path
            ∙ ap (λ at. or_else at (cond (is_at_path (node_at tree g).path x) (Some (length tree)) None)) (groups.own_paths g (sym (ap (λ y. y.live) same) ∙ there)))
        | inr (inl new) ↦
            (let own : is_at_path x.path x ≡ true = and_from x.live _ live (bytes_eq-self x.path) in
            ap (λ y. find_group (tree ++ x ∷ []) y.path) (at_new tree x g new) ∙ find_group-push tree x x.path
            ∙ ap (λ at. or_else at (cond (is_at_path x.path x) (Some (length tree)) None)) absent ∙ ap (λ b. cond b (Some (length tree)) None) own ∙ ap Some (sym new))
        | inr (inr beyond) ↦ absurd (let none : false ≡ true = sym (ap (λ y. y.live) (at_none tree x g beyond)) ∙ there in cc)
      ]

  all_levels : (g : ℕ) → length (chain (tree ++ x ∷ []) (Some g)) ≤ 17
  all_levels g =
      elim (lt_cases g (length tree)) [
        | inl old ↦ (let same = ap length (chain-append tree (x ∷ []) groups.earlier_parents (Some g) old) in let before = groups.levels g in omega (arith, same, before))
        | inr (inl new) ↦
            (let step = chain_of_some (tree ++ x ∷ []) g p is_tree (ap (λ y. y.parent) (at_new tree x g new) ∙ below) in
            let same = ap length (chain-append tree (x ∷ []) groups.earlier_parents (Some p) (live-within tree p parent_live)) in
            omega (arith, step, same))
        | inr (inr beyond) ↦ (let one = chain_of_none (tree ++ x ∷ []) g is_tree (ap (λ y. y.parent) (at_none tree x g beyond)) in omega (arith, one))
      ]

  pub IsGroupTree-push : IsGroupTree (tree ++ x ∷ [])
  IsGroupTree-push =
      let more = length-append tree (x ∷ []) in
      let one_more = live_groups-push tree x live in
      record {
        earlier_parents = is_tree;
        root_first = (omega (arith, more), at_old tree x 0 groups.root_first.0 ∙ groups.root_first.1);
        parents_live = push-parents_live tree x p below parent_live groups.parents_live;
        own_paths = own_paths;
        levels = all_levels;
        few = omega (arith, one_more, few);
        numbers = omega (arith, more, left);
      }

same_node : (a b : Option ℕ) (q r : List ℕ) → a ≡ b → q ≡ r → (let n : Node = record { parent = a; path = q; live = true } in n) ≡ record { parent = b; path = r; live = true }
same_node a b q r e f = cc

no_number : (at : Option GroupId) → number at ≡ None → at ≡ None
no_number None h = refl
no_number (Some g) h = absurd cc

-- what the making of a group does to the tables, where nothing refuses it and a number is left
pub record Makes (tree : List Node) (path : List ℕ) (old : List Group) (live : ℕ) (index : Paths) (parent : Option GroupId) (key text : String Global) (id : GroupId)
    (new : List Group) (more : ℕ) (entries : List (String Global × GroupId)) : Type 0 where
  pub tables : AreTables old live index.entries
  pub view : nodes_of old ≡ tree
  pub free : mkdir_refusal tree (λ g. false) path ≡ None
  pub left : length tree < 4294967295
  pub found : number parent ≡ find_group tree (parent_path path)
  pub key_is : string_bytes key ≡ path
  pub text_is : string_bytes text ≡ path
  pub next : id.0 ≡ length tree
  pub pushed : new ≡ old ++ record { parent = parent; path = text; live = true } ∷ []
  pub inserted : entries ≡ insert_entry string_eq index.entries key id
  pub counted : more ≡ live + 1

module _ (tree : List Node) (path : List ℕ) (old : List Group) (live : ℕ) (index : Paths) (parent : Option GroupId) (key text : String Global) (id : GroupId)
    (new : List Group) (more : ℕ) (entries : List (String Global × GroupId)) (made : Makes tree path old live index parent key text id new more entries) where
  is_free : IsFree tree path
  is_free = IsFree-from tree path made.free

  -- the index finds what the tree does
  found_before : (q : List ℕ) → indexed index.entries q ≡ find_group tree q
  found_before q = made.tables.found q ∙ ap (λ t. find_group t q) made.view

  -- the path is not in the index
  absent : lookup (λ k. bytes_eq (string_bytes key) (string_bytes k)) index.entries ≡ None
  absent = no_number _ (found_before (string_bytes key) ∙ ap (find_group tree) made.key_is ∙ is_free.absent)

  entries_are : entries ≡ index.entries ++ (key, id) ∷ []
  entries_are = made.inserted ∙ insert_entry-new string_eq index key id absent

  pub nodes-made : nodes_of new ≡ tree ++ new_node tree path ∷ []
  nodes-made =
      ap nodes_of made.pushed ∙ map-append node_of old (record { parent = parent; path = text; live = true } ∷ [])
      ∙ ap (λ t. t ++ node_of (record { parent = parent; path = text; live = true }) ∷ []) made.view ∙ ap (λ x. tree ++ x ∷ []) (same_node _ _ _ _ made.found made.text_is)

  pub AreTables-made : AreTables new more entries
  AreTables-made =
      let room = is_free.room in
      let parent_live = found_live tree (parent_path path) is_free.parent is_free.found in
      let was : live ≡ live_groups tree = made.tables.counted ∙ ap live_groups made.view in
      let one_more = live_groups-push tree (new_node tree path) refl in
      let now = ap live_groups nodes-made in
      let counted = made.counted in
      record {
        tree =
            subst IsGroupTree (sym nodes-made)
            (IsGroupTree-push tree (new_node tree path) is_free.parent (subst IsGroupTree made.view made.tables.tree) is_free.found refl parent_live is_free.absent room.levels room.few made.left);
        counted = omega (arith, was, one_more, now, counted);
        found =
            λ q.
            ap (λ es. indexed es q) entries_are ∙ indexed-found tree (new_node tree path) index.entries key id refl made.key_is made.next found_before q
            ∙ ap (λ t. find_group t q) (sym nodes-made);
      }

parentless : (g : ℕ) → (node_at (root ∷ []) g).parent ≡ None
parentless zero = refl
parentless (suc g) = refl

IsTree-root : IsTree (root ∷ [])
IsTree-root = record { falls = λ g p e. absurd (let none : None ≡ Some p = sym (parentless g) ∙ e in cc) }

root_path : (g : ℕ) → is_live (root ∷ []) g ≡ true → find_group (root ∷ []) (node_at (root ∷ []) g).path ≡ Some g
root_path zero live = refl
root_path (suc g) live = absurd (let none : false ≡ true = live in cc)

pub root_alone : live_groups (root ∷ []) ≡ 1
root_alone = live_groups-push [] root refl

-- the root alone is a tree of groups
pub IsGroupTree-root : IsGroupTree (root ∷ [])
IsGroupTree-root = record {
  earlier_parents = IsTree-root;
  root_first = (omega arith, refl);
  parents_live = λ g p live e. absurd (let none : None ≡ Some p = sym (parentless g) ∙ e in cc);
  own_paths = root_path;
  levels = λ g. (let one = chain_of_none (root ∷ []) g IsTree-root (parentless g) in omega (arith, one));
  few = omega (arith, root_alone);
  numbers = omega arith;
}

module _ (groups : List Group) (index : List (String Global × GroupId)) (key text : String Global) (id : GroupId) (groups_are : groups ≡ record { parent = None; path = text; live = true } ∷ [])
    (index_is : index ≡ (key, id) ∷ []) (key_is : string_bytes key ≡ 47 ∷ []) (text_is : string_bytes text ≡ 47 ∷ []) (id_is : id.0 ≡ 0) where
  pub nodes-root : nodes_of groups ≡ root ∷ []
  nodes-root = ap nodes_of groups_are ∙ ap (λ x. x ∷ []) (same_node None None (string_bytes text) (47 ∷ []) refl text_is)

  pub AreTables-root : AreTables groups 1 index
  AreTables-root = record {
    tree = subst IsGroupTree (sym nodes-root) IsGroupTree-root;
    counted = sym (ap live_groups nodes-root ∙ root_alone);
    found = λ q. ap (λ es. indexed es q) index_is ∙ indexed-found [] root [] key id refl key_is id_is (λ path. refl) q ∙ ap (λ t. find_group t q) (sym nodes-root);
  }
