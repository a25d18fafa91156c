use Rattle.scenario_runs.proofs.carrying.carry_command.Goals as goal

pub returns : goal.returns
returns g c = (c.begin.new.observer, c.begin.new.stepper, c.in_ok-begin.ensures, c.in_ok-finish.ensures)
