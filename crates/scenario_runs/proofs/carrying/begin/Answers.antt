use Rattle.machine.specs.declared.command.Step.TheVariants.{Begin}
use Rattle.scenario_runs.proofs.CarryLemmas.{step_behind}
use Rattle.scenario_runs.proofs.carrying.begin.Goals as goal

pub returns : goal.returns
returns g c =
    step_behind g.O.Sink.took g.O.Sink.saw g.O.Observer.goes_on g.met.O.Observer.unchanged g.met.O.Observer.longer c.args.observer.now c.command_comes.new.self c.take_step.new.observer c.args.stepper.now (Begin c.args.actor c.args.command) c.take_step.new.stepper
    c.in_ok-command_comes.ensures c.in_ok-take_step.ensures
