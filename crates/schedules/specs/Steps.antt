-- Steps that are to be run.
use Rattle.std.specs.Prelude.{List}
use Rattle.machine.specs.declared.command.Step.{Step}
use Rattle.schedules.specs.declared.steps.Steps.{Steps}
use Rattle.schedules.specs.declared.steps.Steps.TheVariants as steps

-- those of a list, or of a schedule
abbrev pub all_steps : Steps → List Step
all_steps (steps.List list) = list.now
all_steps (steps.Lines schedule) = schedule.now.steps
