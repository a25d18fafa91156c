use Rattle.std.proofs.Common.{◌≡◌, ◌+◌, ◌++◌, ◌∷◌, [], List, ap, sym, subst, ◌∙◌, Some, true, arith, refl, length}
use Rattle.std.proofs.lemmas.List.{length-map}
use Rattle.machine.specs.Tree.{Node, find_group}
use Rattle.machine.specs.Step.{new_node}
use Rattle.group_tree.specs.Places.{IsWalkOf}
use Rattle.group_tree.specs.Tables.{number, node_of, nodes_of}
use Rattle.group_tree.proofs.RoomLemmas.{IsFree-from, is-found}
use Rattle.group_tree.proofs.PushLemmas.{Makes, nodes-made, AreTables-made}
use Rattle.group_tree.proofs.tree.Tree.mkdir.Goals as goal

pub unwrap-parent-requires : goal.unwrap-parent-requires
unwrap-parent-requires c =
    let free = IsFree-from c.args.self.now c.args.path.now c.requires in
    is-found c.find.result free.parent (c.find.ensures.group ∙ ap (find_group c.args.self.now) c.parent_path.ensures ∙ free.found)

made : (c : goal.After-self-1)
    → Makes c.args.self.now c.args.path.now c.self.inside.groups.items c.self.inside.live c.self.inside.by_path (Some c.unwrap-parent.result) c.in_ok-key.key c.in_ok-path.path c.next_id-id.result c.push_reserved.new.self.items (c.self.inside.live + 1) c.insert.new.self.entries
made c = record {
  tables = c.self.invariant.0;
  view = c.self.view_is;
  free = c.requires;
  left = (let same = length-map c.self.inside.groups.items node_of in let seen = ap length c.self.view_is in let some = c.if-len-ge-MAX_NUMBERS.false in omega (arith, same, seen, some));
  found = sym (ap number c.unwrap-parent.ensures) ∙ c.find.ensures.group ∙ ap (find_group c.args.self.now) c.parent_path.ensures;
  key_is = c.in_ok-key.ensures.ok;
  text_is = c.in_ok-path.ensures.ok;
  next = c.next_id-id.ensures;
  pushed = c.push_reserved.ensures.items ∙ ap (λ xs. xs ++ record { parent = Some c.unwrap-parent.result; path = c.in_ok-path.path; live = true } ∷ []) c.in_ok-reserve.ensures.items;
  inserted = c.in_ok-insert.ensures.entries;
  counted = refl;
}

pub invariant_of-self-2 : goal.invariant_of-self-2
invariant_of-self-2 c =
    let seen : nodes_of c.deref.result.now ≡ c.args.self.now = ap nodes_of (c.deref.ensures.value ∙ c.in_ok-reserve.ensures.items) ∙ c.self.view_is in (
      AreTables-made _ _ _ _ _ _ _ _ _ _ _ _ (made c),
      subst (λ (t : List Node). IsWalkOf t c.insert-2.new.self) (sym (nodes-made _ _ _ _ _ _ _ _ _ _ _ _ (made c)))
          (subst (λ (t : List Node). IsWalkOf (t ++ new_node c.args.self.now c.args.path.now ∷ []) c.insert-2.new.self) seen (c.insert-2.ensures (new_node c.args.self.now c.args.path.now) refl (sym (made c).found))),
    )

pub returns-clause-ok : goal.returns-clause-ok
returns-clause-ok c = nodes-made _ _ _ _ _ _ _ _ _ _ _ _ (made c)
