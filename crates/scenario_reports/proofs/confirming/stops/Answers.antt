use Rattle.std.proofs.Common.{subst}
use Rattle.expansion.specs.ToCome.{still}
use Rattle.scenario_reports.specs.declared.confirming.Seen.{Seen}
use Rattle.scenario_reports.specs.Confirming.{Sees}
use Rattle.scenario_reports.proofs.ConfirmingLemmas.{left_more, stops_all}
use Rattle.scenario_reports.proofs.confirming.stops.Goals as goal

pub returns-in-Stop : goal.returns-in-Stop
returns-in-Stop c =
    let s = c.args.scene.now in
    let x = c.loop.expansion in
    let n = c.look.new.expansion in
    λ _. stops_all s (still c.args.expansion.now) (still x) (still n) c.loop.invariant.left (subst (λ (v : Seen). Sees s (still x) v (still n)) c.in-Stop.is c.in_ok-look.ensures)

pub loop-preserved : goal.loop-preserved
loop-preserved c =
    let s = c.args.scene.now in
    let x = c.loop.expansion in
    let n = c.look.new.expansion in
    record { left = left_more s (still c.args.expansion.now) (still x) (still n) c.loop.invariant.left (subst (λ (v : Seen). Sees s (still x) v (still n)) c.in-Item.is c.in_ok-look.ensures) }
