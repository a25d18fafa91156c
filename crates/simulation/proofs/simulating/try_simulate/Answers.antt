use Rattle.std.proofs.Common.{◌≢◌, [], map}
use Rattle.simulation.proofs.ReportLemmas.{reported_met, reported_faulty, reported_misasked}
use Rattle.simulation.proofs.simulating.try_simulate.Goals as goal

pub returns-clause-met : goal.returns-clause-met
returns-clause-met g c =
    reported_met c.run_program-ran.result c.reported.result c.args.text.now c.in-Ok.scenario.lines.items (map (λ t. t.now) c.args.asked.now.settings.now) c.in-Ok.ensures.reads c.reported.ensures.same c.run_program-ran.ensures.met

pub returns-clause-faulty : goal.returns-clause-faulty
returns-clause-faulty g c =
    reported_faulty c.run_program-ran.result c.reported.result c.args.text.now c.in-Ok.scenario.lines.items (map (λ t. t.now) c.args.asked.now.settings.now) c.in-Ok.ensures.reads c.reported.ensures.same c.run_program-ran.ensures.faulty

pub returns-clause-misasked : goal.returns-clause-misasked
returns-clause-misasked g c =
    reported_misasked c.run_program-ran.result c.reported.result c.args.text.now c.in-Ok.scenario.lines.items (map (λ t. t.now) c.args.asked.now.settings.now) (c.args.asked.now.groups.now ≢ []) c.in-Ok.ensures.reads c.reported.ensures.same
    c.run_program-ran.ensures.misasked
