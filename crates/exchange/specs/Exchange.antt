-- Which turns can change places.
use Rattle.std.specs.Prelude.{◌≡◌, ℕ, true, false, List, [], ◌∷◌, ◌++◌, Option, Some, None}
use Rattle.machine.specs.declared.command.Actor.{Actor}
use Rattle.machine.specs.declared.command.Step.{Step}
use Rattle.machine.specs.declared.command.Reply.{Reply as Told_by}
use Rattle.machine.specs.declared.config.Config.{Config}
use Rattle.block_store.specs.Device.{Disk, FaultPlan}
use Rattle.turns.specs.declared.turn.Stage.{Stage}
use Rattle.turns.specs.declared.turn.Stage.TheVariants as stage
use Rattle.driver.specs.declared.seat.Outcome.{Outcome}
use Rattle.driver.specs.declared.seat.Activity.{Activity}
use Rattle.driver.specs.declared.seat.Activity.TheVariants.{Rests, Begun, Does}
use Rattle.driver.specs.Schedule.{World, number_of, activity_of, first_world, Turn, Runs, said_at}
use Rattle.driver.specs.Seats.{is_under_way, calls_device}

-- ---- two turns

-- Actor a takes a turn that leaves the device alone, and then b calls the device. They can change places.
abbrev pub TurnsChangePlaces : Type 0
TurnsChangePlaces =
    (old mid new : World) (a b : Actor) (shows_a shows_b : Outcome) →
    (number_of a ≡ number_of b → ⊥) →
    is_under_way (activity_of a old.seats) ≡ true →
    calls_device (activity_of a old.seats) ≡ false →
    calls_device (activity_of b mid.seats) ≡ true →
    Turn old a shows_a mid →
    Turn mid b shows_b new →
    (between : World) × Turn old b shows_b between × Turn between a shows_a new

-- the block that the next turn of a command there reads or writes
abbrev pub block_at : Stage → Option ℕ
block_at (stage.Read access ticket) = Some ticket.block
block_at (stage.Write on ticket) = Some ticket.block
block_at other = None

abbrev pub block_called : Activity → Option ℕ
block_called Rests = None
block_called (Begun command) = None
block_called (Does stands) = block_at stands

-- no call of the device will fail
pub record IsFaultless (disk : Disk) : Type 0 where
  pub plan : FaultPlan
  pub planned : disk.plan ≡ Some plan
  pub reads : plan.read_faults ≡ []
  pub writes : plan.write_faults ≡ []

-- Actor a calls the device for one block, and then b for another one. They can change places.
abbrev pub CallsChangePlaces : Type 0
CallsChangePlaces =
    (old mid new : World) (a b : Actor) (shows_a shows_b : Outcome) (k j : ℕ) →
    block_called (activity_of a old.seats) ≡ Some k →
    block_called (activity_of b old.seats) ≡ Some j →
    (k ≡ j → ⊥) →
    IsFaultless old.disk →
    Turn old a shows_a mid →
    Turn mid b shows_b new →
    (between : World) × Turn old b shows_b between × Turn between a shows_a new

-- ---- whole walks

-- a turn that was taken, and what it showed
pub record Taken : Type 0 where
  pub who : Actor
  pub shows : Outcome

-- turns, one after another, of actors with a command under way
abbrev pub GoesOn : World → List Taken → World → Type 0
GoesOn w [] v = w ≡ v
GoesOn w (t ∷ ts) v = (m : World) × (is_under_way (activity_of t.who w.seats) ≡ true) × Turn w t.who t.shows m × GoesOn m ts v

-- the same; and wherever an actor is picked, it takes the turn
abbrev pub GoesAsPicked : (World → Option Actor) → World → List Taken → World → Type 0
GoesAsPicked pick w [] v = w ≡ v
GoesAsPicked pick w (t ∷ ts) v =
    (m : World) × (is_under_way (activity_of t.who w.seats) ≡ true) × Turn w t.who t.shows m × ((b : Actor) → pick w ≡ Some b → number_of t.who ≡ number_of b) × GoesAsPicked pick m ts v

-- all that the turns say, in order
abbrev pub said_by : List Taken → List Told_by
said_by [] = []
said_by (t ∷ ts) = said_at t.who t.shows ++ said_by ts

-- no call of the device will fail, and different actors call different blocks
pub record IsQuiet (w : World) : Type 0 where
  pub faultless : IsFaultless w.disk
  pub apart : (a b : Actor) (k : ℕ) → block_called (activity_of a w.seats) ≡ Some k → block_called (activity_of b w.seats) ≡ Some k → number_of a ≡ number_of b

-- Some actors that are about to call the device are picked. Each whole walk has another one with the same end that says the same, in which each takes its turn as soon as
-- it is picked. So nothing is lost if the first such actor takes its turn alone.
abbrev pub CallsMayGoFirst : Type 0
CallsMayGoFirst =
    (pick : World → Option Actor) →
    ((u : World) (b : Actor) → pick u ≡ Some b → calls_device (activity_of b u.seats) ≡ true) →
    (w v : World) (ts : List Taken) →
    ((us : List Taken) (u : World) → GoesOn w us u → IsQuiet u) →
    GoesOn w ts v →
    ((who : Actor) → is_under_way (activity_of who v.seats) ≡ false) →
    (found : List Taken) × GoesAsPicked pick w found v × (said_by found ≡ said_by ts)

-- ---- runs

-- so it is in each world that a run leads to, over a device without faults
abbrev pub RunsAreQuiet : Type 0
RunsAreQuiet =
    (config : Config) (before : Disk) (steps : List Step) (answers : List Told_by) (end : World) →
    IsFaultless before →
    Runs (first_world config before) steps answers end →
    IsQuiet end
