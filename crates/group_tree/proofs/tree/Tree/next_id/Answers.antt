use Rattle.std.proofs.Common.{ap, length, arith}
use Rattle.std.proofs.lemmas.List.{length-map}
use Rattle.group_tree.specs.Tables.{node_of}
use Rattle.group_tree.proofs.tree.Tree.next_id.Goals as goal

pub overflow_cast-result : goal.overflow_cast-result
overflow_cast-result c =
    let same = length-map c.self.inside.groups.items node_of in
    let most = c.self.invariant.0.tree.numbers in
    omega (arith, same, most)

pub returns : goal.returns
returns c =
    let same = length-map c.self.inside.groups.items node_of in
    let seen = ap length c.self.view_is in
    omega (arith, same, seen)
