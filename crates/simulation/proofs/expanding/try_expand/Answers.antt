use Rattle.std.proofs.Common.{◌≢◌, [], map}
use Rattle.simulation.proofs.ReportLemmas.{reported_faulty, reported_misasked}
use Rattle.simulation.proofs.expanding.try_expand.Goals as goal

pub returns-clause-faulty : goal.returns-clause-faulty
returns-clause-faulty g c =
    reported_faulty c.print_script-printed.result c.reported.result c.args.text.now c.in-Ok.scenario.lines.items (map (λ t. t.now) c.args.settings.now) c.in-Ok.ensures.reads c.reported.ensures.same c.print_script-printed.ensures.faulty

pub returns-clause-misasked : goal.returns-clause-misasked
returns-clause-misasked g c =
    reported_misasked c.print_script-printed.result c.reported.result c.args.text.now c.in-Ok.scenario.lines.items (map (λ t. t.now) c.args.settings.now) (c.args.lengths.now ≢ []) c.in-Ok.ensures.reads c.reported.ensures.same c.print_script-printed.ensures.misasked
