use Rattle.std.proofs.Common.{ap, ◌∙◌}
use Rattle.machine.specs.Tree.{find_group}
use Rattle.group_tree.specs.Tables.{number}
use Rattle.group_tree.proofs.RoomLemmas.{found_number_live}
use Rattle.group_tree.proofs.tree.Tree.find.Goals as goal

pub returns-clause-group : goal.returns-clause-group
returns-clause-group c = ap number (c.copied.ensures ∙ c.get.ensures.value) ∙ c.self.invariant.0.found c.args.path.now ∙ ap (λ tree. find_group tree c.args.path.now) c.self.view_is

pub returns-clause-live : goal.returns-clause-live
returns-clause-live c =
    found_number_live c.args.self.now c.args.path.now c.copied.result
    (ap number (c.copied.ensures ∙ c.get.ensures.value) ∙ c.self.invariant.0.found c.args.path.now ∙ ap (λ tree. find_group tree c.args.path.now) c.self.view_is)
