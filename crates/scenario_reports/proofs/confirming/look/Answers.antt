use Rattle.std.proofs.lemmas.Result.{IfOk-weaker}
use Rattle.expansion.specs.ToCome.{still, told_last}
use Rattle.scenario_reports.specs.Confirming.{Sees, SeesItem}
use Rattle.scenario_reports.proofs.ConfirmingLemmas.{sees_item}
use Rattle.scenario_reports.proofs.confirming.look.Goals as goal

pub returns-in-Ok : goal.returns-in-Ok
returns-in-Ok c =
    let s = c.args.scene.now in
    let x = c.args.expansion.now in
    let n = c.next.new.self in
    IfOk-weaker c.seen_of.result (SeesItem s c.in-Ok.item) (λ v. Sees s (still x) v (still n)) (λ v h. sees_item s (still x) (still n) (told_last n) c.in-Ok.item v h c.in-Ok.ensures.comes) c.seen_of.ensures
