-- How many actors a run on threads has.
use Rattle.std.specs.Prelude.{◌≡◌, ◌⊎◌, ℕ, ◌<◌, nat_eq, List, ◌++◌, map}
use Rattle.std.specs.Set.{distinct_count}
use Rattle.std.specs.Str.Lines.{lines}
use Rattle.machine.specs.declared.command.Actor.{Actor}
use Rattle.machine.specs.declared.command.Command.{Command}
use Rattle.scripts.specs.declared.mode.Mode.TheVariants.{Run}
use Rattle.scripts.specs.Script.{items_of, IsFaultless}
use Rattle.scripts.specs.Work.{number_of, numbers_of, setup_of, worked, work_of}
use Rattle.printer.specs.declared.options.Options.{Options}
use Rattle.script_faults.specs.declared.fault.TheConstants.{MOST_ACTORS}
use Rattle.script_faults.specs.declared.fault.Fault.{Fault}
use Rattle.script_faults.specs.declared.fault.Fault.TheVariants as fault
use Rattle.script_faults.specs.Told.{ExplainsIn}

-- how many actors are asked for something, before `go` or after it. An actor that is asked several times counts once
abbrev pub actors_in : List (Actor × Command) → List (Actor × List Command) → ℕ
actors_in setup work = distinct_count nat_eq (map (λ p. number_of p.0) setup ++ numbers_of work)

-- the same of a script
abbrev pub actors_of_script : List ℕ → ℕ
actors_of_script script = actors_in (setup_of (items_of (lines script))) (work_of (worked (items_of (lines script))))

-- there are more than can run at once, and the fault says how many. (Excludes that a run is refused so whose actors can run, and a wrong number.)
abbrev pub IsCrowd : ℕ → Fault → Type 0
IsCrowd actors why = (MOST_ACTORS < actors) × (why ≡ fault.TooManyActors actors)

-- this is why a script was not run to its end on threads: what it would be in a schedule too; or, if it has no faulty line, that it has too many actors
abbrev pub ExplainsOnThreads : Options → List ℕ → List ℕ → Fault → Type 0
ExplainsOnThreads options file script why = ExplainsIn Run options file script why ⊎ (IsFaultless Run (lines script) × IsCrowd (actors_of_script script) why)
