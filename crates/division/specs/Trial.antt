-- A trial of the setup, by what its lines ask for. No public clause cites it.
use Rattle.std.specs.Prelude.{◌≡◌, ℕ, ◌-◌, ◌<◌, false, List, take, Some, slice_get, string_bytes}
use Rattle.std.specs.List.{find, flat_map, list_any}
use Rattle.machine.specs.declared.command.Reply.{Reply as Told_by}
use Rattle.driver.specs.Schedule.{World, Runs}
use Rattle.division.specs.declared.fault.Fault.{Fault}
use Rattle.division.specs.declared.fault.Fault.TheVariants as fault
use Rattle.division.specs.declared.said.Said.{Said}
use Rattle.division.specs.Reasons.{refuses, refusal_text}
use Rattle.division.specs.Sorting.{steps_asked}

-- the lines were carried out, and none was refused
pub record Accepts (old : World) (lines : List Said) (new : World) : Type 0 where
  pub answers : List Told_by
  pub runs : Runs old (flat_map steps_asked lines) answers new
  pub accepted : list_any refuses answers ≡ false

-- the same, wherever that leads
abbrev pub IsAccepted : World → List Said → Type 0
IsAccepted old lines = (new : World) × Accepts old lines new

-- the line with this number is the first that is refused, and its first refusal prints this
pub record RefusesLine (old : World) (lines : List Said) (number : ℕ) (said : List ℕ) : Type 0 where
  pub line : Said
  pub before : World
  pub after : World
  pub here : List Told_by
  pub told : Told_by
  pub counted : 0 < number
  pub is_there : slice_get lines (number - 1) ≡ Some line
  pub accepts : Accepts old (take (number - 1) lines) before
  pub carries : Runs before (steps_asked line) here after
  pub refused : find refuses here ≡ Some told
  pub said_is : said ≡ refusal_text told

-- why a trial of these lines fails
abbrev pub IsTrialFault : World → List Said → Fault → Type 0
IsTrialFault old lines (fault.SetupFails number said) = RefusesLine old lines number (string_bytes said)
IsTrialFault old lines fault.Memory = Unit {0}
IsTrialFault old lines (fault.Script why) = ⊥
IsTrialFault old lines (fault.TakesApart number) = ⊥
IsTrialFault old lines fault.NoWork = ⊥
IsTrialFault old lines (fault.TooManyActors actors) = ⊥
IsTrialFault old lines (fault.NoOutcome number outcomes) = ⊥
IsTrialFault old lines fault.Changed = ⊥
IsTrialFault old lines (fault.Unwritable error) = ⊥
