use Rattle.std.proofs.Common.{◌≡◌, true, map}
use Rattle.std.proofs.lemmas.Result.{IfOk-weaker}
use Rattle.expansion.specs.ToCome.{still}
use Rattle.scenario_faults.specs.Settings.{settings_of}
use Rattle.scenario_reports.specs.Faulty.{AreFaulty}
use Rattle.scenario_reports.specs.Confirming.{Stops}
use Rattle.scenario_reports.proofs.ConfirmingLemmas.{walk_fails_with}
use Rattle.scenario_reports.proofs.confirming.is_faulty.Goals as goal

pub returns-in-Ok : goal.returns-in-Ok
returns-in-Ok c =
    let ls = c.args.scenario.now.lines.items in
    let named = settings_of (map (λ t. t.now) c.args.texts.now) in
    let s = c.read_header.new.self in
    let r = still c.in-Ok.expansion in
    IfOk-weaker c.stops.result (λ b. b ≡ true → Stops s r) (λ b. b ≡ true → AreFaulty ls named)
    (λ b h is. walk_fails_with ls c.as_slice.result.now named c.in_ok-settings_of.field-0.items c.in_ok-named.named.items c.new-scene.result s c.in_default.field-0 r c.as_slice.ensures.value c.new-scene.ensures c.in_ok-settings_of.ensures
    c.in_ok-named.ensures c.in_default.ensures c.in-Ok.ensures.begins (h is))
    c.stops.ensures
