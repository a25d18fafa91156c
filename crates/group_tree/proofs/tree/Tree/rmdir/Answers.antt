use Rattle.std.proofs.Common.{◌≡◌, List, ap, sym, subst, ◌∙◌}
use Rattle.machine.specs.Tree.{Node, without_group}
use Rattle.group_tree.specs.Places.{IsWalkOf}
use Rattle.group_tree.specs.Tables.{nodes_of}
use Rattle.group_tree.proofs.RemovedTables.{Removes, nodes-removed, AreTables-removed}
use Rattle.group_tree.proofs.tree.Tree.rmdir.Goals as goal

gone : (c : goal.After-self-2-1) → Removes c.args.self.now c.args.group.0 c.self.inside.groups.items c.self.inside.live c.self.inside.by_path c.index_mut-removed.result.now c.as_str.result.now c.swap_remove.new.self
gone c = record {
  tables = c.self.invariant.0;
  view = c.self.view_is;
  below = c.requires.below;
  is_there = c.requires.live;
  childless = c.requires.childless;
  read = c.index_mut-removed.ensures.value;
  path_is = c.as_str.ensures.value;
  taken_out = c.swap_remove.ensures.updates;
}

pub invariant_of-self : goal.invariant_of-self
invariant_of-self c =
    let seen : nodes_of c.deref.result.now ≡ c.args.self.now = ap nodes_of c.deref.ensures.value ∙ c.self.view_is in (
      AreTables-removed _ _ _ _ _ _ _ _ (gone c),
      subst (λ (t : List Node). IsWalkOf t c.remove.new.self) (sym (nodes-removed _ _ _ _ _ _ _ _ (gone c)))
          (subst (λ (t : List Node). IsWalkOf (without_group t c.args.group.0) c.remove.new.self) seen c.remove.ensures),
    )

pub returns : goal.returns
returns c = nodes-removed _ _ _ _ _ _ _ _ (gone c)
