-- What a run on threads is asked for: what stands before the first `go`, and behind it what each actor is asked for.
use Rattle.std.specs.Prelude.{◌≡◌, ◌≢◌, ℕ, ◌+◌, ◌==◌, nat_lt, Bool, true, false, List, [], ◌∷◌, fold, map, Option, Some, None, Vec, All, Contains, if◌then◌else◌}
use Rattle.std.specs.List.{filter_map}
use Rattle.std.specs.declared.alloc.Global.{Global}
use Rattle.std.specs.List.Sorted.{IsStrictlyIncreasing}
use Rattle.machine.specs.declared.command.Actor.{Actor}
use Rattle.machine.specs.declared.command.Actor.TheVariants as actor
use Rattle.machine.specs.declared.command.Command.{Command}
use Rattle.scripts.specs.declared.meaning.Item.{Item}
use Rattle.scripts.specs.declared.meaning.Item.TheVariants as item
use Rattle.scripts.specs.declared.mode.Mode.{Mode}
use Rattle.scripts.specs.declared.mode.Mode.TheVariants as mode

-- ---- before and behind the first `go`

-- the line is a `go`
abbrev pub is_go : Item → Bool
is_go item.EndsSetup = true
is_go item.Nothing = false
is_go (item.Frames n) = false
is_go (item.Swap n) = false
is_go (item.File file) = false
is_go (item.Marks m) = false
is_go (item.Trace n) = false
is_go (item.Fails what n) = false
is_go item.Recursive = false
is_go (item.PageSize p) = false
is_go (item.Does who what) = false
is_go (item.Begins who what) = false
is_go (item.Advances who) = false
is_go (item.Finishes who) = false

-- the lines before the first `go`: all of them where there is none
abbrev pub before_go : List Item → List Item
before_go [] = []
before_go (i ∷ is) = if is_go i then [] else i ∷ before_go is

-- those behind it
abbrev pub behind_go : List Item → List Item
behind_go [] = []
behind_go (i ∷ is) = if is_go i then is else behind_go is

-- who does what from its beginning to its end, where the line asks for that
abbrev pub does : Item → Option (Actor × Command)
does (item.Does who what) = Some (who, what)
does item.Nothing = None
does item.EndsSetup = None
does (item.Frames n) = None
does (item.Swap n) = None
does (item.File file) = None
does (item.Marks m) = None
does (item.Trace n) = None
does (item.Fails what n) = None
does item.Recursive = None
does (item.PageSize p) = None
does (item.Begins who what) = None
does (item.Advances who) = None
does (item.Finishes who) = None

-- what is done one after the other, before the threads go
abbrev pub setup_of : List Item → List (Actor × Command)
setup_of is = filter_map does (before_go is)

-- what the threads do
abbrev pub worked : List Item → List (Actor × Command)
worked is = filter_map does (behind_go is)

-- ---- by actor

-- different actors have different numbers, and the shell's is below every task's
abbrev pub number_of : Actor → ℕ
number_of actor.Shell = 0
number_of actor.Control = 1
number_of actor.Daemon = 2
number_of (actor.Task n) = n + 3

abbrev pub command_by : Actor → Actor × Command → Option Command
command_by who p = if number_of p.0 == number_of who then Some p.1 else None

-- what of these the actor is asked for, in their order
abbrev pub commands_by : Actor → List (Actor × Command) → List Command
commands_by who ps = filter_map (command_by who) ps

-- the actors, by rising number, and this one among them
abbrev pub with_actor : List Actor → Actor → List Actor
with_actor [] who = who ∷ []
with_actor (a ∷ actors) who =
    if nat_lt (number_of who) (number_of a) then who ∷ a ∷ actors
    else if number_of who == number_of a then a ∷ actors
    else a ∷ with_actor actors who

-- who is asked for something, each once, by rising number
abbrev pub actors_of : List (Actor × Command) → List Actor
actors_of ps = fold (λ actors p. with_actor actors p.0) [] ps

-- a row for each of them, with what it is asked for
abbrev pub work_of : List (Actor × Command) → List (Actor × List Command)
work_of ps = map (λ who. (who, commands_by who ps)) (actors_of ps)

-- the same of rows that the code keeps
abbrev pub shown_rows : List (Actor × Vec Command Global) → List (Actor × List Command)
shown_rows rows = map (λ row. (row.0, row.1.items)) rows

-- ---- in words of its own

abbrev pub numbers_of : List (Actor × List Command) → List ℕ
numbers_of rows = map (λ row. number_of row.0) rows

-- each row is an actor's, with all that it is asked for and something at least; they rise by number; and who is asked for something has a row
pub record IsWork (ps : List (Actor × Command)) (rows : List (Actor × List Command)) : Type 0 where
  pub whole : All (λ row. (row.1 ≡ commands_by row.0 ps) × (row.1 ≢ [])) rows
  pub rising : IsStrictlyIncreasing (numbers_of rows)
  pub all : (who : Actor) → commands_by who ps ≢ [] → Contains (map (λ row. row.0) rows) who

-- ---- by what the script is read for

abbrev pub setup_in : Mode → List Item → List (Actor × Command)
setup_in mode.Schedule is = []
setup_in mode.Run is = setup_of is

abbrev pub work_in : Mode → List Item → List (Actor × List Command)
work_in mode.Schedule is = []
work_in mode.Run is = work_of (worked is)
