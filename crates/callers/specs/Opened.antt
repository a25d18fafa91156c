-- What is known at the end of a run of a shell and two tasks, of which each has a pass.
use Rattle.std.specs.Prelude.{◌≡◌, List, [], ◌∷◌}
use Rattle.machine.specs.declared.command.Actor.TheVariants.{Control, Task}
use Rattle.machine.specs.declared.command.Command.{Command}
use Rattle.machine.specs.declared.command.Reply.{Reply}
use Rattle.machine.specs.declared.entry.Entry.{Entry}
use Rattle.machine.specs.State.{Opening}
use Rattle.live.specs.Passes.{PassOf}
use Rattle.live.specs.Works.{Worked}
use Rattle.live.specs.OneRun.{IsOneRun}

-- the shell and the tasks 1 and 2 answered their commands so, with these new passes
pub record Answered (opening : Opening) (setup first second : List Command) (by_shell by_one by_two : List Reply) (passes : List PassOf) : Type 0 where
  pub shell : PassOf
  pub one : PassOf
  pub two : PassOf
  pub are : passes ≡ shell ∷ one ∷ two ∷ []
  pub sets_up : Worked opening Control setup [] shell.exchanges by_shell
  pub works : Worked opening (Task 1) first [] one.exchanges by_one
  pub also : Worked opening (Task 2) second [] two.exchanges by_two

-- and one run of the machine, which left these entries, gave each of them what its answers follow from
pub record AreOfOneRun (opening : Opening) (setup first second : List Command) (by_shell by_one by_two : List Reply) (entries : List Entry) : Type 0 where
  pub passes : List PassOf
  pub answered : Answered opening setup first second by_shell by_one by_two passes
  pub one_run : IsOneRun opening entries passes
