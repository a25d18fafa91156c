use Rattle.std.proofs.Common.{sym, subst}
use Rattle.machine.specs.declared.command.Command.{Command}
use Rattle.schedules.specs.declared.schedule.Entry.{Entry}
use Rattle.scenario_runs.specs.Carried.{IsWhole, CarriesEntry}
use Rattle.scenario_runs.proofs.carrying.carry_entry.Goals as goal

pub returns-in_ok-carry_command-in-Whole : goal.returns-in_ok-carry_command-in-Whole
returns-in_ok-carry_command-in-Whole g c =
    subst (λ (e : Entry). CarriesEntry g.O.Sink.took g.O.Sink.saw g.O.Observer.goes_on c.args.observer.now c.args.stepper.now e c.carry_command.new.observer c.carry_command.new.stepper) (sym c.in-Whole.is)
    (subst (λ (what : Command). IsWhole g.O.Sink.took g.O.Sink.saw g.O.Observer.goes_on c.args.observer.now c.args.stepper.now c.in-Whole.actor what c.carry_command.new.observer c.carry_command.new.stepper) c.in_ok-command-in-Whole.ensures
    c.in_ok-carry_command-in-Whole.ensures)
