-- What commands under way have in hand: the ticket of a transfer that they have to end, and whose it is; and a failed call of the device that nobody was told of yet.
use Rattle.std.specs.Prelude.{ℕ, Bool, true, false, List, [], ◌∷◌, count_by}
use Rattle.turns.specs.declared.turn.Stage.{Stage}
use Rattle.turns.specs.declared.turn.Stage.TheVariants as stage
use Rattle.driver.specs.declared.seat.Activity.{Activity}
use Rattle.driver.specs.declared.seat.Activity.TheVariants.{Rests, Begun, Does}
use Rattle.driver.specs.declared.seat.Seat.{Seat}
use Rattle.turns.specs.Tickets.{holds, OwnStage}

-- a transfer was begun, and its end is still to be asked
abbrev pub carries : Activity → Bool
carries Rests = false
carries (Begun command) = false
carries (Does next) = holds next

-- a call of the device failed, and the EIO that answers it is still to come
abbrev pub owes_at : Stage → Bool
owes_at (stage.FetchFail ticket) = true
owes_at (stage.LeaveFail ticket) = true
owes_at other = false

abbrev pub owes : Activity → Bool
owes Rests = false
owes (Begun command) = false
owes (Does next) = owes_at next

-- how many have a ticket in hand, and how many owe an EIO
abbrev pub tickets_in_hand : List Seat → ℕ
tickets_in_hand seats = count_by (λ (seat : Seat). carries seat.activity) seats

abbrev pub errors_owed : List Seat → ℕ
errors_owed seats = count_by (λ (seat : Seat). owes seat.activity) seats

-- each ticket in hand is one that this worker took, of one of so many blocks
abbrev pub OwnActivity : ℕ → ℕ → Activity → Type 0
OwnActivity worker blocks Rests = Unit {0}
OwnActivity worker blocks (Begun command) = Unit {0}
OwnActivity worker blocks (Does next) = OwnStage worker blocks next

abbrev pub OwnSeats : ℕ → ℕ → List Seat → Type 0
OwnSeats worker blocks [] = Unit {0}
OwnSeats worker blocks (seat ∷ seats) = OwnActivity worker blocks seat.activity × OwnSeats worker blocks seats
