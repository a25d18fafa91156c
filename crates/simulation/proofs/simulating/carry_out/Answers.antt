use Rattle.std.proofs.Common.{◌≡◌, true, List, subst}
use Rattle.std.specs.Prelude.{IfOk}
use Rattle.scenarios.specs.Holes.{NamedText}
use Rattle.simulation.specs.Met.{MeetsLines}
use Rattle.simulation.proofs.ReportLemmas.{lines_met}
use Rattle.simulation.proofs.simulating.carry_out.Goals as goal

pub returns : goal.returns
returns g c =
    let ls = c.args.scenario.now.lines.items in
    record {
      met = subst (λ (named : List NamedText). IfOk c.run_machine-ran.result (λ well. well ≡ true → MeetsLines ls named)) c.in_ok-settings.ensures
          (lines_met c.run_machine-ran.result ls c.in_ok-settings.settings.items c.in_ok-expansion.expansion c.in_ok-stepper.stepper c.in_ok-expansion.ensures.header.0 c.in_ok-expansion.ensures.begins c.in_ok-expansion.ensures.header.1
          c.in_ok-stepper.ensures.opens c.run_machine-ran.ensures.met);
    }
