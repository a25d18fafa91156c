use Rattle.expansion.specs.ToCome.{still}
use Rattle.simulation.specs.declared.simulation.Simulation.{Simulation}
use Rattle.simulation.proofs.MetLemmas.{run_met}
use Rattle.simulation.proofs.simulation.Simulation.run_to_end.Goals as goal

pub returns : goal.returns
returns g c = record {
  met = λ end well. run_met (λ (s : Simulation). s.count) c.in_ok-carry_out.field-0 (still c.args.expansion.now).outs c.args.self.now c.carry_out.new.observer c.args.stepper.now c.carry_out.new.stepper (c.in_ok-carry_out.ensures.carried end) well;
}
