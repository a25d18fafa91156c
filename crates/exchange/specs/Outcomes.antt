-- What is lost of the outcomes of some work if calls of the device come first: nothing.
use Rattle.std.specs.Prelude.{◌≡◌, ℕ, Bool, true, List, length, Some, slice_get}
use Rattle.machine.specs.declared.command.Command.{Command}
use Rattle.machine.specs.declared.command.Step.{Step}
use Rattle.machine.specs.declared.command.Step.TheVariants.{Begin}
use Rattle.driver.specs.Schedule.{number_of}
use Rattle.orders.specs.Runs.{Run}
use Rattle.explorer.specs.declared.choice.Choice.{Choice}
use Rattle.explorer.specs.declared.choice.Choice.TheVariants.{Any, DeviceFirst}
use Rattle.explorer.specs.declared.parts.Parts.{Parts}
use Rattle.explorer.specs.declared.parts.Row.{Row}
use Rattle.explorer.specs.Outcome.{no_call_fails, IsOutcome}

-- each line of a row begins a command of its actor, and different rows have different actors
pub record AreApart (rows : List Row) : Type 0 where
  pub own : (place k : ℕ) (row : Row) (step : Step) → slice_get rows place ≡ Some row → slice_get row.lines.items k ≡ Some step → (what : Command) × (step ≡ Begin row.actor what)
  pub apart : (i j : ℕ) (a b : Row) → slice_get rows i ≡ Some a → slice_get rows j ≡ Some b → number_of a.actor ≡ number_of b.actor → i ≡ j

-- an order with this number of turns gives the outcome. In it a command meets a page in transfer, or none does.
abbrev pub HasOutcome : Choice → Parts → ℕ → Bool → List ℕ → Type 0
HasOutcome choice parts turns busy outcome = (run : Run) × (length run ≡ turns) × IsOutcome choice parts run busy outcome

-- each outcome of an order is one of an order that the choice leaves, with as many turns; and if no command met a page in transfer, none does in that order. (Excludes an outcome
-- that only orders give in which a call of the device waits.)
abbrev pub LosesNothing : Choice → Parts → Type 0
LosesNothing choice parts = (run : Run) (busy : Bool) (outcome : List ℕ) → IsOutcome Any parts run busy outcome → HasOutcome choice parts (length run) busy outcome

-- nothing is lost if calls of the device come first, and none of them fails
abbrev pub DeviceFirstLosesNothing : Type 0
DeviceFirstLosesNothing = (parts : Parts) → no_call_fails parts ≡ true → AreApart parts.rows.items → LosesNothing DeviceFirst parts
