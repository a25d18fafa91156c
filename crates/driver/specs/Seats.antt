-- Places of seats.
use Rattle.std.specs.Prelude.{◌≡◌, ℕ, Bool, true, false, suc, ◌<◌, List, [], ◌∷◌, length, map, Option, None, Some, if◌then◌else◌}
use Rattle.machine.specs.declared.command.Actor.{Actor}
use Rattle.turns.specs.declared.turn.Stage.{Stage}
use Rattle.turns.specs.declared.turn.Stage.TheVariants as stage
use Rattle.driver.specs.declared.seat.Activity.{Activity}
use Rattle.driver.specs.declared.seat.Activity.TheVariants.{Rests, Begun, Does}
use Rattle.driver.specs.declared.seat.Seat.{Seat}
use Rattle.driver.specs.Schedule.{number_of, is_of}

-- the numbers of those who sit there, one after another
abbrev pub numbers_of : List Seat → List ℕ
numbers_of seats = map (λ (seat : Seat). number_of seat.actor) seats

-- the place of an actor's seat, or how many seats there are
abbrev pub place_of : Actor → List Seat → ℕ
place_of who [] = 0
place_of who (seat ∷ seats) = if is_of who seat then 0 else suc (place_of who seats)

-- the actor sits there
pub record SitsAt (who : Actor) (place : ℕ) (seats : List Seat) : Type 0 where
  pub is : place ≡ place_of who seats
  pub within : place < length seats

-- the actor's seat was looked for, and found there, or there is none
abbrev pub IsFound : Actor → Option ℕ → List Seat → Type 0
IsFound who None seats = place_of who seats ≡ length seats
IsFound who (Some place) seats = SitsAt who place seats

-- a command is not answered yet
abbrev pub is_under_way : Activity → Bool
is_under_way Rests = false
is_under_way (Begun command) = true
is_under_way (Does stage) = true

-- the next turn of a command there is a call of the device
abbrev pub is_call : Stage → Bool
is_call (stage.Read access ticket) = true
is_call (stage.Write on ticket) = true
is_call other = false

abbrev pub calls_device : Activity → Bool
calls_device Rests = false
calls_device (Begun command) = false
calls_device (Does stands) = is_call stands
