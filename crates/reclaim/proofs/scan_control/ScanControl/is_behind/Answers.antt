use Rattle.std.proofs.Common.{◌≡◌, ◌==◌, Option, Some, sym, ap, ◌∙◌, arith}
use Rattle.std.specs.List.{list_any}
use Rattle.std.proofs.lemmas.Bool.Decides.{nat_tests}
use Rattle.machine.specs.declared.id.GroupId.{GroupId}
use Rattle.machine.specs.Order.{behind_place, place_in}
use Rattle.machine.specs.Tree.{preorder}
use Rattle.group_tree.specs.Tables.{number}
use Rattle.group_tree.specs.Walk.{behind}
use Rattle.reclaim.proofs.WalkLemmas.{behind-place}
use Rattle.reclaim.proofs.TurnLemmas.{behind-own}
use Rattle.reclaim.proofs.scan_control.ScanControl.is_behind.Goals as goal

pub loop-other-init : goal.loop-other-init
loop-other-init c =
    let all = preorder c.args.self.protection.tree.now c.args.self.protection.target.0 in
    let walk : c.into_iter-other-iterator.result ≡ behind all c.in-Some.last.0 = cc (c.into_iter-other-iterator.ensures.into_iter_gives, c.preorder_behind-other-items.ensures) in
    let last : Some c.in-Some.last ≡ c.args.last = cc c.in-Some.is in
    ap (list_any (λ a. a == c.args.group.0)) (walk ∙ behind-place all (Some c.in-Some.last.0))
    ∙ ap (λ (from : Option GroupId). list_any (λ a. a == c.args.group.0) (behind_place all (place_in all (number from)))) last

pub returns-then-eq : goal.returns-then-eq
returns-then-eq c =
    let hit = sym c.eq.ensures ∙ c.if-eq.true in
    let same : c.in-Some.last.0 ≡ c.args.group.0 = grind (arith, nat_tests, hit) in
    let last : c.args.last ≡ Some c.in-Some.last = cc c.in-Some.is in
    sym (behind-own c.args.self.protection.tree.now c.groups_form_a_tree.ensures c.args.self.protection.target.0 c.args.self.live (number c.args.last) c.args.group.0 (ap number last ∙ ap Some same))
