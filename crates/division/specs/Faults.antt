-- How the parts of an exploration fail. No public clause cites it.
use Rattle.std.specs.Prelude.{◌≡◌, ◌⊎◌, ℕ, ◌+◌, ◌<◌, false, List, [], length, Option, Some}
use Rattle.std.specs.List.{list_any, position}
use Rattle.scripts.specs.declared.meaning.Item.{Item}
use Rattle.division.specs.declared.TheConstants.{MOST_ACTORS}
use Rattle.division.specs.declared.fault.Fault.{Fault}
use Rattle.division.specs.declared.fault.Fault.TheVariants as fault
use Rattle.division.specs.declared.said.Said.{Said}
use Rattle.division.specs.Reasons.{TakesApartAt, HasNoWork, HasCrowd}
use Rattle.division.specs.Sorting.{is_apart, actors_asked}

-- why these lines of the setup and of the work make no parts. The first line of the work has the number `first`.
abbrev pub IsUnsorted : List Said → List Said → ℕ → Fault → Type 0
IsUnsorted setup work first (fault.TakesApart number) = (place : ℕ) × (position is_apart work ≡ Some place) × (number ≡ first + place)
IsUnsorted setup work first fault.NoWork = (list_any is_apart work ≡ false) × (actors_asked setup work ≡ [])
IsUnsorted setup work first (fault.TooManyActors actors) =
    (list_any is_apart work ≡ false) × (actors ≡ length (actors_asked setup work)) × (MOST_ACTORS < actors)
IsUnsorted setup work first fault.Memory = Unit {0}
IsUnsorted setup work first (fault.Script why) = ⊥
IsUnsorted setup work first (fault.SetupFails number said) = ⊥
IsUnsorted setup work first (fault.NoOutcome number outcomes) = ⊥
IsUnsorted setup work first fault.Changed = ⊥
IsUnsorted setup work first (fault.Unwritable error) = ⊥

-- why the lines that say this make no parts
abbrev pub IsUndivided : List Item → Fault → Type 0
IsUndivided is (fault.TakesApart number) = TakesApartAt is number
IsUndivided is fault.NoWork = HasNoWork is
IsUndivided is (fault.TooManyActors actors) = HasCrowd is actors
IsUndivided is fault.Memory = Unit {0}
IsUndivided is (fault.Script why) = ⊥
IsUndivided is (fault.SetupFails number said) = ⊥
IsUndivided is (fault.NoOutcome number outcomes) = ⊥
IsUndivided is fault.Changed = ⊥
IsUndivided is (fault.Unwritable error) = ⊥

-- why the orders were not run
abbrev pub IsOfRun : Fault → Type 0
IsOfRun fault.Memory = Unit {0}
IsOfRun fault.Changed = Unit {0}
IsOfRun (fault.Script why) = ⊥
IsOfRun (fault.TakesApart number) = ⊥
IsOfRun fault.NoWork = ⊥
IsOfRun (fault.TooManyActors actors) = ⊥
IsOfRun (fault.SetupFails number said) = ⊥
IsOfRun (fault.NoOutcome number outcomes) = ⊥
IsOfRun (fault.Unwritable error) = ⊥

-- why an outcome is not shown, if there are so many
abbrev pub IsUnshown : Option ℕ → ℕ → Fault → Type 0
IsUnshown show count (fault.NoOutcome number outcomes) = (show ≡ Some number) × (outcomes ≡ count) × ((number ≡ 0) ⊎ (outcomes < number))
IsUnshown show count fault.Memory = Unit {0}
IsUnshown show count (fault.Script why) = ⊥
IsUnshown show count (fault.TakesApart number) = ⊥
IsUnshown show count fault.NoWork = ⊥
IsUnshown show count (fault.TooManyActors actors) = ⊥
IsUnshown show count (fault.SetupFails number said) = ⊥
IsUnshown show count fault.Changed = ⊥
IsUnshown show count (fault.Unwritable error) = ⊥
