-- Legal histories: each entry is a call that nothing refused, and a step of the machine.
use Rattle.std.specs.Prelude.{◌≡◌, true, false, List, [], ◌∷◌, None}
use Rattle.machine.specs.declared.entry.Entry.{Entry}
use Rattle.machine.specs.State.{Opening, State, first_state}
use Rattle.machine.specs.Refusals.{refusal}
use Rattle.machine.specs.Step.{Step}
use Rattle.machine.specs.Call.{Caller, knows_pass, is_full_for, leaves_entry}

abbrev pub caller_of : Entry → Caller
caller_of entry = record { worker = entry.worker.0 }

-- an entry more, of an event that leaves one: a ticket in it is its worker's, no cause refuses its event, the trace has room for it, and its reply is that of a step.
-- (Excludes a machine that serves what it should have refused: a group that is not there, a number used before, a second root, another's ticket; and a history with merges of marks in it.)
pub record Extends (before : State) (earlier : List Entry) (entry : Entry) (after : State) : Type 0 where
  pub kept : leaves_entry entry.event ≡ true
  pub known : knows_pass before earlier (caller_of entry) entry.event ≡ true
  pub unrefused : refusal before entry.event ≡ None
  pub room : is_full_for before earlier entry.event ≡ false
  pub steps : Step before entry.event entry.reply after

-- the entries lead from the opening state to this one
abbrev pub Legal : Opening → List Entry → State → Type 0
Legal opening [] s = s ≡ first_state opening
Legal opening (entry ∷ earlier) s = (before : State) × Legal opening earlier before × Extends before earlier entry s
