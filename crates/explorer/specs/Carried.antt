-- What the steps of an order do to a run, to the counts of lines that were begun, and to the list of answers. The clauses of private functions cite it.
use Rattle.std.specs.Prelude.{◌≡◌, ℕ, List, ◌++◌}
use Rattle.machine.specs.declared.command.Step.{Step}
use Rattle.machine.specs.declared.command.Reply.{Reply as Told_by}
use Rattle.driver.specs.Schedule.{World, Runs}
use Rattle.explorer.specs.declared.parts.Row.{Row}
use Rattle.explorer.specs.Work.{Point, GoesOn, AllGoOn, TakesTurn}

-- the steps were carried out, and their answers added to those before
pub record Carries (old : World) (steps : List Step) (before after : List Told_by) (new : World) : Type 0 where
  pub answers : List Told_by
  pub runs : Runs old steps answers new
  pub adds : after ≡ before ++ answers

abbrev pub at : World → List ℕ → Point
at world begun = record { world = world; begun = begun }

-- the actor at this place begins its next line, if it can
pub record Goes (rows : List Row) (place : ℕ) (old : World) (begun : List ℕ) (before : List Told_by) (new : World) (begun' : List ℕ) (after : List Told_by) : Type 0 where
  pub steps : List Step
  pub answers : List Told_by
  pub goes_on : GoesOn rows (at old begun) place steps answers (at new begun')
  pub adds : after ≡ before ++ answers

-- so do the actors of the first rows, this many
pub record GoesAll (rows : List Row) (count : ℕ) (old : World) (begun : List ℕ) (before : List Told_by) (new : World) (begun' : List ℕ) (after : List Told_by) : Type 0 where
  pub steps : List Step
  pub answers : List Told_by
  pub all : AllGoOn rows (at old begun) count steps answers (at new begun')
  pub adds : after ≡ before ++ answers

-- the actor at this place takes a turn
pub record Turns (rows : List Row) (place : ℕ) (old : World) (begun : List ℕ) (before : List Told_by) (new : World) (begun' : List ℕ) (after : List Told_by) : Type 0 where
  pub steps : List Step
  pub answers : List Told_by
  pub takes : TakesTurn rows (at old begun) place steps answers (at new begun')
  pub adds : after ≡ before ++ answers

-- the looks were carried out, their answers added, and the run was closed: whatever steps led there, they and the looks are a schedule
