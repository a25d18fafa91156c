use Rattle.std.proofs.Common.{ap}
use Rattle.group_tree.proofs.LineageLemmas.{nodes_of-removed, IsLineage-removed}
use Rattle.group_tree.proofs.lineage.Lineage.remove.Goals as goal

pub invariant_of-self : goal.invariant_of-self
invariant_of-self c =
    IsLineage-removed c.self.inside.groups.items c.args.group.0 c.index_mut.result.now c.args.self.now.tree (ap (λ k. k.tree) c.self.view_is) c.requires.live c.index_mut.ensures.value c.self.invariant c.requires.below c.requires.childless

pub returns-clause-tree : goal.returns-clause-tree
returns-clause-tree c =
    nodes_of-removed c.self.inside.groups.items c.args.group.0 c.index_mut.result.now c.args.self.now.tree (ap (λ k. k.tree) c.self.view_is) c.requires.live c.index_mut.ensures.value
