-- The trace of a run, with the ends of the transfers that the run left open.
use Rattle.std.specs.Prelude.{◌≡◌, ℕ, ◌+◌, ◌≤◌, Bool, true, false, List, [], ◌∷◌, ◌++◌, reverse}
use Rattle.machine.specs.declared.config.Config.{Config}
use Rattle.machine.specs.declared.entry.Entry.{Entry}
use Rattle.machine.specs.declared.event.Event.{Event}
use Rattle.machine.specs.declared.event.Event.TheVariants as event
use Rattle.machine.specs.declared.command.Step.{Step}
use Rattle.machine.specs.declared.command.Reply.{Reply as Told_by}
use Rattle.machine.specs.Call.{Past}
use Rattle.machine.specs.FirstBytes.{first_of}
use Rattle.machine.specs.Audit.{Passes}
use Rattle.block_store.specs.Device.{Disk}
use Rattle.driver.specs.Schedule.{World, Schedules, errors}
use Rattle.driver.specs.Sinks.{Gives}

-- a transfer ends, and the call of the device failed, or was not made
abbrev pub is_given_up : Event → Bool
is_given_up (event.FetchFailed ticket) = true
is_given_up (event.LeaveFailed ticket) = true
is_given_up what = false

abbrev pub AreGivenUp : List Entry → Type 0
AreGivenUp [] = Unit {0}
AreGivenUp (entry ∷ earlier) = (is_given_up entry.event ≡ true) × AreGivenUp earlier

-- a history went on by such ends alone
pub record GivesUp (old new : List Entry) : Type 0 where
  pub ends : List Entry
  pub given_up : AreGivenUp ends
  pub is : new ≡ ends ++ old

-- a run that went through, and its entries, the oldest first: what it did, and behind that nothing but ends of transfers that failed. An audit finds nothing wrong in them.
-- (Excludes the trace of another run, and one that is cut off.)
pub record GivesTrace {S : Type 0} (took : S → S → List Told_by → Type 0) (saw : S → S → List Past → Type 0) (config : Config) (before : Disk) (steps : List Step) (old new : S) (after : Disk) (entries : List Entry) : Type 0 where
  pub gives : Gives took saw config before steps old new after
  pub traced : GivesUp gives.schedules.end.past.history (reverse entries)
  pub passes : Passes (first_of (reverse entries)) (reverse entries)

-- a run that went from the opening world to this one a step at a time, and was closed there: the answers to its steps are those of the plain machine, which are at most as many EIO
-- as calls of the device failed meanwhile, and an audit finds nothing wrong in its entries. (Excludes a closing that hands out the trace of another run.)
pub record Closes (config : Config) (before : Disk) (steps : List Step) (answers : List Told_by) (end : World) (entries : List Entry) : Type 0 where
  pub schedules : Schedules config before steps answers end.disk
  pub ends : schedules.end ≡ end
  pub failures : errors answers + before.failures ≤ end.disk.failures
  pub passes : Passes (first_of (reverse entries)) (reverse entries)
