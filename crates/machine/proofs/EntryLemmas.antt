-- What an event leaves in a history.
use Rattle.std.proofs.Common.{◌≡◌, Bool, true, false, cond, List, [], ◌∷◌, ap}
use Rattle.machine.specs.declared.entry.Entry.{Entry}
use Rattle.machine.specs.declared.event.Event.{Event}
use Rattle.machine.specs.declared.reply.Reply.{Reply}
use Rattle.machine.specs.Call.{Caller, entry_of, entries_of, leaves_entry}

-- an event that leaves one leaves one, and one that leaves none leaves none
pub entries-one : (caller : Caller) (history : List Entry) (what : Event) (answer : Reply) → leaves_entry what ≡ true → entries_of caller history what answer ≡ entry_of caller history what answer ∷ []
entries-one caller history what answer leaves = ap (λ (b : Bool). cond b (entry_of caller history what answer ∷ []) []) leaves

pub entries-none : (caller : Caller) (history : List Entry) (what : Event) (answer : Reply) → leaves_entry what ≡ false → entries_of caller history what answer ≡ []
entries-none caller history what answer none = ap (λ (b : Bool). cond b (entry_of caller history what answer ∷ []) []) none
