use Rattle.std.proofs.Common.{ap}
use Rattle.group_tree.proofs.LineageLemmas.{IsLineage-added}
use Rattle.group_tree.proofs.lineage.Lineage.add.Goals as goal

pub invariant_of-self : goal.invariant_of-self
invariant_of-self c = IsLineage-added c.self.inside.groups.items c.push_reserved.new.self.items c.args.parent c.args.self.now.tree (ap (λ k. k.tree) c.self.view_is) c.requires.parent c.push_reserved.ensures.items c.self.invariant
