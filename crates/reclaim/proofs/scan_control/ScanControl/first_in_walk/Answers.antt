use Rattle.std.proofs.Common.{sym, ◌∙◌, subst}
use Rattle.group_tree.specs.Tables.{number}
use Rattle.reclaim.specs.Pass.{asked_by}
use Rattle.reclaim.specs.Walk.{AreAsked}
use Rattle.reclaim.proofs.PassLemmas.{asked-all, first_part, second_part}
use Rattle.reclaim.proofs.scan_control.ScanControl.first_in_walk.Goals as goal

pub first_to_give-requires : goal.first_to_give-requires
first_to_give-requires c =
    subst (AreAsked c.args.self.protection.tree.now c.args.self.protection.target.0) (sym c.preorder-walk.ensures) (asked-all c.args.self.protection.tree.now c.args.self.protection.target.0 c.groups_form_a_tree.ensures c.args.self.live)

pub returns-then-is_some : goal.returns-then-is_some
returns-then-is_some c =
    first_part c.args.self.protection.tree.now (asked_by c.args.self c.args.old_files c.args.low_reclaim) c.args.self.protection.target.0 (number c.args.last) c.first_behind-found.result c.first_behind-found.ensures (sym c.is_some.ensures ∙ c.if-is_some.true)

pub returns : goal.returns
returns c =
    second_part c.args.self.protection.tree.now (asked_by c.args.self c.args.old_files c.args.low_reclaim) c.args.self.protection.target.0 (number c.args.last) c.preorder-walk.result c.first_behind-found.result c.first_to_give.result
    c.preorder-walk.ensures c.first_behind-found.ensures (sym c.is_some.ensures ∙ c.if-is_some.false) c.first_to_give.ensures
