use Rattle.std.proofs.Common.{◌≡◌, ◌++◌, ◌∷◌, [], None, ap, sym, subst, ◌∙◌}
use Rattle.group_tree.specs.Lineages.{bare, nodes_of, IsLineage}
use Rattle.group_tree.proofs.LineageLemmas.{IsLineage-root}
use Rattle.group_tree.proofs.lineage.Lineage.new.Goals as goal

pub invariant_of-result : goal.invariant_of-result
invariant_of-result c =
    let root : nodes_of c.push_reserved.new.self.items ≡ bare None ∷ [] = ap nodes_of (c.push_reserved.ensures.items ∙ ap (λ xs. xs ++ _ ∷ []) c.in_ok-groups.ensures.items) in
    subst IsLineage (sym root) IsLineage-root
