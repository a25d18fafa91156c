use Rattle.std.proofs.Common.{◌∙◌, ℕ, ap, subst}
use Rattle.machine.specs.declared.page_size.PageSize.{PageSize}
use Rattle.scenario_words.specs.Header.{Machine}
use Rattle.expansion.specs.ToCome.{still}
use Rattle.simulation.specs.Met.{MeetsItems}
use Rattle.simulation.proofs.simulating.run_machine.Goals as goal

pub returns : goal.returns
returns g c = record {
  met = λ end well.
      let ran = c.in_ok-well.ensures.met end well in
      let page = ap (λ (p : PageSize). p.bytes) c.in_ok-simulation.ensures.0 ∙ ap (λ (m : Machine). m.page) c.header.ensures in
      (ran.0, subst (λ (p : ℕ). MeetsItems p c.args.stepper.now (still c.args.expansion.now).outs ran.0) page ran.1);
}
