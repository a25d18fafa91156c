-- What a schedule says: its steps, and of each the number of its line.
use Rattle.std.specs.Prelude.{ℕ, List, [], ◌∷◌, flat_map, replicate, length}
use Rattle.machine.specs.declared.command.Step.{Step}
use Rattle.machine.specs.declared.command.Step.TheVariants.{Begin, Finish}
use Rattle.schedules.specs.declared.schedule.Entry.{Entry}
use Rattle.schedules.specs.declared.schedule.Entry.TheVariants as entry
use Rattle.schedules.specs.declared.schedule.Line.{Line}

-- a command from its beginning to its end is two steps
abbrev pub steps_of_entry : Entry → List Step
steps_of_entry (entry.Whole who what) = Begin who what ∷ Finish who ∷ []
steps_of_entry (entry.Step step) = step ∷ []

abbrev pub steps_of_line : Line → List Step
steps_of_line line = steps_of_entry line.entry

abbrev pub numbers_of_line : Line → List ℕ
numbers_of_line line = replicate (length (steps_of_entry line.entry)) line.number

abbrev pub steps_of : List Line → List Step
steps_of lines = flat_map steps_of_line lines

abbrev pub numbers_of : List Line → List ℕ
numbers_of lines = flat_map numbers_of_line lines

pub record ScheduleOf : Type 0 where
  pub steps : List Step
  pub numbers : List ℕ
