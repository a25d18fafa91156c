-- A desk, with a device, as a world of a schedule.
use denote.Ref.{Bor}
use Rattle.std.specs.Prelude.{◌≡◌, ℕ, ◌≤◌, true, length, List, Option, None, Some}
use Rattle.machine.specs.declared.command.Actor.{Actor}
use Rattle.machine.specs.declared.command.Command.{Command}
use Rattle.machine.specs.declared.command.Step.{Step}
use Rattle.block_store.specs.Device.{Disk}
use Rattle.book.specs.Passes.{is_current}
use Rattle.driver.specs.declared.seat.Activity.TheVariants.{Begun}
use Rattle.driver.specs.declared.seat.Seat.{Seat}
use Rattle.machine.specs.declared.command.Reply.{Reply as Told_by}
use Rattle.machine.specs.Call.{Past}
use Rattle.driver.specs.Schedule.{World, activity_of, with_activity, RunsThrough}
use Rattle.turns.specs.Tickets.{blocks_in}
use Rattle.driver.specs.declared.desk.Desk.{Desk}
use Rattle.driver.specs.Hands.{OwnSeats}

abbrev pub world : Desk → Disk → World
world desk disk = record { past = desk.book; caller = desk.pass.caller; disk = disk; seats = desk.seats; turns = desk.turns }

-- the same once an actor has a seat
abbrev pub with_seat : Actor → World → World
with_seat who w = record w { seats = with_activity who (activity_of who w.seats) w.seats }

-- the seats once a command that is lent to an actor, if one is, has begun
abbrev pub lent_seats : Actor → Option (Bor Command) → List Seat → List Seat
lent_seats who None seats = seats
lent_seats who (Some what) seats = with_activity who (Begun what.now) seats

abbrev pub lent_to : World → Actor → Option (Bor Command) → World
lent_to w who lent = record w { seats = lent_seats who lent w.seats }

-- the steps are carried out, and the sink took their answers and saw the book behind each
abbrev pub RunsTo : {S : Type 0} → (S → S → List Told_by → Type 0) → (S → S → List Past → Type 0) → S → S → World → List Step → World → Type 0
RunsTo took saw old new before steps after =
    (answers : List Told_by) × (pasts : List Past) × took old new answers × saw old new pasts × RunsThrough before steps answers pasts after

-- how many blocks its book uses
abbrev pub blocks_of_desk : Desk → ℕ
blocks_of_desk desk = blocks_in desk.book.state.opening

-- the worker whose pass it has
abbrev pub worker_of_desk : Desk → ℕ
worker_of_desk desk = desk.pass.caller.worker

-- the desk can go on with this device: its pass is current, and has room for the end of each transfer whose ticket is in hand, of which a seat has one at most;
-- these tickets are its worker's, of blocks of the machine, and the device has these
pub record IsOn (desk : Desk) (disk : Disk) : Type 0 where
  pub current : is_current desk.book desk.pass ≡ true
  pub room : length desk.seats ≤ desk.pass.room
  pub own : OwnSeats (worker_of_desk desk) (blocks_of_desk desk) desk.seats
  pub blocks : blocks_of_desk desk ≤ length disk.contents

-- the device has as many blocks as before, and as many calls of it can fail
pub record IsSame (old new : Disk) : Type 0 where
  pub blocks : length new.contents ≡ length old.contents
  pub limit : new.fault_limit ≡ old.fault_limit
