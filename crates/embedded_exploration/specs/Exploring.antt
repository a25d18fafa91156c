-- What a caller asks of an exploration, and what it is told.
use Rattle.std.specs.Prelude.{◌≡◌, ◌⊎◌, ◌<◌, ℕ, Bool, ◌==◌, List, length, Option, Some, None, codes, if◌then◌else◌}
use Rattle.std.specs.Io.KnownBytes.{Appends}
use Rattle.machine.specs.declared.limit.TheConstants.{SCRIPT_BYTES}
use Rattle.script_faults.specs.declared.fault.Fault.TheVariants as scripts_fault
use Rattle.script_faults.specs.Told.{AllTold}
use Rattle.explorer.specs.declared.choice.Choice.{Choice}
use Rattle.explorer.specs.declared.choice.Choice.TheVariants.{Any, DeviceFirst}
use Rattle.explore.specs.declared.asked.Asked.{Asked}
use Rattle.explore.specs.declared.asked.Sample.{Sample}
use Rattle.division.specs.declared.fault.Fault.{Fault}
use Rattle.division.specs.declared.fault.Fault.TheVariants as fault
use Rattle.explore.specs.Explores.{Explains}
use Rattle.explore.specs.declared.report.Verdict.{Verdict}
use Rattle.explore.specs.declared.report.Verdict.TheVariants as verdict
use Rattle.call_buffers.specs.declared.status.TheConstants.{BAD_SCRIPT, NO_MEMORY, BAD_OPTIONS}
use Rattle.call_buffers.specs.Calls.{placement_of, status_of_line}
use Rattle.embedded_exploration.specs.declared.exploration.ExploreAsked.{ExploreAsked}

-- the sample, if one is asked for
abbrev pub sample_of : ExploreAsked → Option Sample
sample_of asked = if asked.sample == 0 then None else Some (record { orders = asked.sample; seed = asked.seed })

-- the outcome that is shown, if one is asked for
abbrev pub show_of : ExploreAsked → Option ℕ
show_of asked = if asked.show == 0 then None else Some asked.show

-- every order is run, or those with calls of the device first
abbrev pub choice_of : Bool → Choice
choice_of every = if every then Any else DeviceFirst

-- the program's options. (Excludes an option that is ignored, and one that is taken for another.)
abbrev pub exploration_of : ExploreAsked → Asked
exploration_of asked = record { orders = asked.orders; sample = sample_of asked; turns = asked.turns; choice = choice_of asked.every; waits = asked.wait; placement = placement_of asked.as_linux; show = show_of asked }

-- all orders were run, or all of the sample
abbrev pub IsWhole : Verdict → Type 0
IsWhole (verdict.All outcomes) = Unit {0}
IsWhole (verdict.Sample outcomes) = Unit {0}
IsWhole (verdict.MoreOrders orders) = ⊥
IsWhole (verdict.MoreTurns turns) = ⊥

-- not all orders were run
abbrev pub IsPart : Verdict → Type 0
IsPart (verdict.All outcomes) = ⊥
IsPart (verdict.Sample outcomes) = ⊥
IsPart (verdict.MoreOrders orders) = Unit {0}
IsPart (verdict.MoreTurns turns) = Unit {0}

-- the status of a fault. (Excludes that lack of memory counts as the script's fault, and the other way round.)
abbrev pub status_for : Fault → ℕ
status_for (fault.Script why) = status_of_line why
status_for (fault.TakesApart number) = BAD_SCRIPT
status_for fault.NoWork = BAD_SCRIPT
status_for (fault.TooManyActors actors) = BAD_SCRIPT
status_for (fault.SetupFails number said) = BAD_SCRIPT
status_for (fault.NoOutcome asked outcomes) = BAD_OPTIONS
status_for fault.Memory = NO_MEMORY
status_for fault.Changed = NO_MEMORY
status_for (fault.Unwritable error) = NO_MEMORY

-- the script is too long, or this is the status of a true reason for which it was not explored. (Excludes the status of a reason that the script does not give.)
abbrev pub IsReasoned : Asked → List ℕ → ℕ → Type 0
IsReasoned asked script status = (SCRIPT_BYTES < length script) ⊎ ((why : Fault) × (status ≡ status_for why) × Explains asked script why)

-- the text has all lines about a faulty line, and this is its status, if there was memory for them. What is said of another fault is only tested.
abbrev pub IsToldOf : Fault → List ℕ → ℕ → Type 0
IsToldOf (fault.Script why) text status =
    ((status ≡ status_of_line why) × AllTold (Appends (Some (codes "script: ")) (Some text)) (scripts_fault.Script why)) ⊎ (status ≡ NO_MEMORY)
IsToldOf (fault.TakesApart number) text status = Unit {0}
IsToldOf fault.NoWork text status = Unit {0}
IsToldOf (fault.TooManyActors actors) text status = Unit {0}
IsToldOf (fault.SetupFails number said) text status = Unit {0}
IsToldOf (fault.NoOutcome asked outcomes) text status = Unit {0}
IsToldOf fault.Memory text status = Unit {0}
IsToldOf fault.Changed text status = Unit {0}
IsToldOf (fault.Unwritable error) text status = Unit {0}
