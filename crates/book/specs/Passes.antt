-- What a contract sees of a pass: whose leave it is, and what was asked with it.
use Rattle.std.specs.Prelude.{ℕ, ◌-◌, ◌==◌, ◌&&◌, ◌||◌, not, nat_lt, Bool, true, false, MatchBool, List, [], ◌∷◌, ◌++◌, length, count_by, Option, option_map}
use Rattle.machine.specs.declared.event.Event.{Event}
use Rattle.machine.specs.declared.event.Event.TheVariants as event
use Rattle.machine.specs.declared.reply.Reply.{Reply}
use Rattle.machine.specs.declared.reply.Reply.TheVariants as reply
use Rattle.machine.specs.declared.refusal.Refusal.TheVariants.{Stranger}
use Rattle.machine.specs.History.{entries_by}
use Rattle.machine.specs.Call.{Past, Caller, leaves_entry, Refuses, Called}
use Rattle.book.specs.declared.kept.Asked.{Asked}
use Rattle.book.specs.declared.kept.Asked.TheVariants.{Whole, Arrival}
use Rattle.book.specs.declared.kept.Kept.{Kept}
use Rattle.book.specs.declared.kept.Kept.TheVariants.{Call, Find}

-- whose pass it is, and what was asked with it
pub record PassOf : Type 0 where
  pub caller : Caller
  -- each event that was asked, with its answer, and each path that was looked for, the oldest first
  pub kept : List Kept
  -- for how many more there is memory
  pub room : ℕ

-- ---- what is kept

-- an event as a pass keeps it: an arrival without its bytes
abbrev pub asked_of : Event → Asked
asked_of (event.Arrived ticket bytes) = Arrival ticket
asked_of what = Whole what

abbrev pub call_of : Event → Reply → Kept
call_of what answer = Call (asked_of what) answer

abbrev pub find_of : List ℕ → Option ℕ → Kept
find_of path g = Find path (option_map (λ n. record { 0 = n }) g)

-- the pass, one thing more having been asked with it
abbrev pub keeping : PassOf → Kept → PassOf
keeping pass more = record { caller = pass.caller; kept = pass.kept ++ more ∷ []; room = pass.room - 1 }

-- the pass after an event that was asked with it. A merge of marks is not kept, as it leaves no entry
abbrev pub keeping_call : PassOf → Event → Reply → PassOf
keeping_call pass (event.MergeMarks word bits) answer = pass
keeping_call pass what answer = keeping pass (call_of what answer)

-- ---- its count

-- it stands in the trace: an event that was not refused
abbrev pub is_entry : Kept → Bool
is_entry (Call asked (reply.Refused why)) = false
is_entry (Call asked answer) = true
is_entry (Find path found) = false

-- how many of its answers stand in the trace
abbrev pub count_of : List Kept → ℕ
count_of kept = count_by is_entry kept

-- the book gave it out, and has as many entries of its worker as the pass has answers that stand in the trace
abbrev pub is_current : Past → PassOf → Bool
is_current past pass = nat_lt pass.caller.worker past.passes && (count_of pass.kept == length (entries_by pass.caller.worker past.history))

-- ---- a call with it

-- the event may be asked with this pass: it leaves no entry, or the pass is current
abbrev pub may_ask : Past → PassOf → Event → Bool
may_ask past pass what = not (leaves_entry what) || is_current past pass

-- one with a pass that is not current is a stranger's, before all else; marks may be merged with any pass. (Excludes a book that serves the pass of another book, or one from which replies were lost.)
abbrev pub CalledWith : Past → PassOf → Event → Reply → Past → Type 0
CalledWith old pass what answer new = MatchBool (may_ask old pass what) (Called old pass.caller what answer new) (Refuses old Stranger answer new)
