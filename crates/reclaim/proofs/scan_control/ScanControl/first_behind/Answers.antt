use Rattle.std.proofs.Common.{sym, ap, ◌∙◌, subst}
use Rattle.std.specs.List.{find}
use Rattle.machine.specs.Tree.{preorder}
use Rattle.group_tree.specs.Tables.{number}
use Rattle.reclaim.specs.Pass.{asked_by}
use Rattle.reclaim.specs.Walk.{behind_last, AreAsked}
use Rattle.reclaim.proofs.WalkLemmas.{up_to-none}
use Rattle.reclaim.proofs.PassLemmas.{asked-all, asked-behind}
use Rattle.reclaim.proofs.scan_control.ScanControl.first_behind.Goals as goal

pub first_to_give-requires : goal.first_to_give-requires
first_to_give-requires c =
    subst (AreAsked c.args.self.protection.tree.now c.args.self.protection.target.0) (sym c.preorder_behind-rest.ensures)
    (asked-behind c.args.self.protection.tree.now c.args.self.protection.target.0 (preorder c.args.self.protection.tree.now c.args.self.protection.target.0) c.in_ok-last.field-0.0 (asked-all c.args.self.protection.tree.now c.args.self.protection.target.0 c.groups_form_a_tree.ensures c.args.self.live))

pub returns : goal.returns
returns c =
    c.first_to_give.ensures
    ∙ ap (find (asked_by c.args.self c.args.old_files c.args.low_reclaim)) (up_to-none _ ∙ c.preorder_behind-rest.ensures)
    ∙ ap (λ last. find (asked_by c.args.self c.args.old_files c.args.low_reclaim) (behind_last (preorder c.args.self.protection.tree.now c.args.self.protection.target.0) (number last))) (sym c.in_ok-last.was)
