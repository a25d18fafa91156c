-- The work of an order: whose turns are taken, and which commands the actors begin.
use Rattle.std.specs.Prelude.{◌≡◌, ℕ, zero, suc, ◌+◌, Bool, List, [], ◌∷◌, ◌++◌, Option, Some, None, Contains, slice_get, slice_index, slice_set, if◌then◌else◌}
use Rattle.std.specs.List.{position}
use Rattle.machine.specs.declared.command.Step.{Step}
use Rattle.machine.specs.declared.command.Step.TheVariants.{Advance}
use Rattle.machine.specs.declared.command.Reply.{Reply as Told_by}
use Rattle.driver.specs.declared.seat.Seat.{Seat}
use Rattle.driver.specs.Schedule.{World, activity_of, Runs}
use Rattle.driver.specs.Seats.{is_under_way, calls_device}
use Rattle.orders.specs.Runs.{Run}
use Rattle.explorer.specs.declared.parts.Row.{Row}
use Rattle.explorer.specs.declared.choice.Choice.{Choice}
use Rattle.explorer.specs.declared.choice.Choice.TheVariants.{Any, DeviceFirst}

-- a point of an order: the world, and for each row how many of its lines were begun
pub record Point : Type 0 where
  pub world : World
  pub begun : List ℕ

-- ---- who is ready

-- the actor of the row has a command under way
abbrev pub is_ready : List Seat → Row → Bool
is_ready seats row = is_under_way (activity_of row.actor seats)

-- the places of the rows whose actors have a command under way, if the first row has this place
abbrev pub ready_from : ℕ → List Seat → List Row → List ℕ
ready_from place seats [] = []
ready_from place seats (row ∷ rows) =
    if is_ready seats row then place ∷ ready_from (place + 1) seats rows else ready_from (place + 1) seats rows

abbrev pub ready_in : List Row → World → List ℕ
ready_in rows world = ready_from 0 world.seats rows

-- ---- who can take the next turn

-- the next turn of the row's actor is a call of the device
abbrev pub is_calling : List Seat → Row → Bool
is_calling seats row = calls_device (activity_of row.actor seats)

-- the place of the first such row
abbrev pub caller_in : List Row → World → Option ℕ
caller_in rows world = position (is_calling world.seats) rows

abbrev pub alone_or : Option ℕ → List ℕ → List ℕ
alone_or None ready = ready
alone_or (Some place) ready = place ∷ []

-- the places of the actors that can take the next turn: all that are ready; or, with device calls first, only the first that is about to call the device, if
-- there is one. (Excludes a second such actor, and others beside the first.)
abbrev pub eligible_in : Choice → List Row → World → List ℕ
eligible_in Any rows world = ready_in rows world
eligible_in DeviceFirst rows world = alone_or (caller_in rows world) (ready_in rows world)

-- ---- what an actor begins

-- what the actor of the row begins next: nothing while a command is under way, nothing after its last line
abbrev pub next_of : Row → ℕ → List Seat → Option Step
next_of row begun seats = if is_ready seats row then None else slice_get row.lines.items begun

abbrev pub BeginsAt : Option Step → Point → ℕ → List Step → List Told_by → Point → Type 0
BeginsAt None old place steps answers new = (steps ≡ []) × (answers ≡ []) × (new ≡ old)
BeginsAt (Some step) old place steps answers new =
    (steps ≡ step ∷ []) × Runs old.world steps answers new.world × (new.begun ≡ slice_set old.begun place (slice_index old.begun place + 1))

-- the actor at this place begins its next line, if it can. (Excludes a line that is begun while another is under way, a line that is left out, and one that is
-- begun twice.)
pub record GoesOn (rows : List Row) (old : Point) (place : ℕ) (steps : List Step) (answers : List Told_by) (new : Point) : Type 0 where
  pub row : Row
  pub is_there : slice_get rows place ≡ Some row
  pub begins : BeginsAt (next_of row (slice_index old.begun place) old.world.seats) old place steps answers new

-- the actors of the first rows, this many, each begin a line, in order
abbrev pub AllGoOn : List Row → Point → ℕ → List Step → List Told_by → Point → Type 0
AllGoOn rows old zero steps answers new = (steps ≡ []) × (answers ≡ []) × (new ≡ old)
AllGoOn rows old (suc count) steps answers new =
    (earlier : List Step) × (last : List Step) × (said : List Told_by) × (later : List Told_by) × (mid : Point) × AllGoOn rows old count earlier said mid × GoesOn rows mid count last later new × (steps ≡ earlier ++ last) × (answers ≡ said ++ later)

-- ---- turns

-- the actor at this place takes a turn. If that ends its command, it begins its next line. (Excludes a turn of another actor.)
pub record TakesTurn (rows : List Row) (old : Point) (place : ℕ) (steps : List Step) (answers : List Told_by) (new : Point) : Type 0 where
  pub row : Row
  pub is_there : slice_get rows place ≡ Some row
  pub mid : World
  pub said : List Told_by
  pub later : List Told_by
  pub begins : List Step
  pub advances : Runs old.world (Advance row.actor ∷ []) said mid
  pub goes_on : GoesOn rows (record old { world = mid }) place begins later new
  pub steps_are : steps ≡ Advance row.actor ∷ begins
  pub answers_are : answers ≡ said ++ later

-- these turns are taken. At each of them the choice says who can take it, and one of these actors does. (Excludes an actor that never takes a turn, one that
-- does with nothing to do, and a turn that is not counted.)
abbrev pub Works : Choice → List Row → Point → Run → List Step → List Told_by → Point → Type 0
Works choice rows old [] steps answers new = (steps ≡ []) × (answers ≡ []) × (new ≡ old)
Works choice rows old (turn ∷ run) steps answers new =
    (here : List Step) × (rest : List Step) × (said : List Told_by) × (later : List Told_by) × (mid : Point) × (turn.ready ≡ eligible_in choice rows old.world) × Contains turn.ready turn.who × TakesTurn rows old turn.who here said mid × Works choice rows mid run rest later new × (steps ≡ here ++ rest) × (answers ≡ said ++ later)
