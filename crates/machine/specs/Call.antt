-- One call of the book: a ticket that is not the caller's, a cause to refuse, no room in the trace, want of memory, or a step.
use Rattle.std.specs.Prelude.{is_none, ◌≡◌, ℕ, ◌+◌, ◌==◌, ◌&&◌, nat_lt, Bool, true, false, MatchBool, if◌then◌else◌, List, [], ◌∷◌, ◌++◌, length, Option, Some, None}
use Rattle.machine.specs.declared.record.Life.{Life}
use Rattle.machine.specs.declared.record.Life.TheVariants.{Live, Exited, Killed}
use Rattle.machine.specs.declared.record.Task.{Task}
use Rattle.machine.specs.declared.record.Direction.{Direction}
use Rattle.machine.specs.declared.record.Direction.TheVariants.{In, Out}
use Rattle.machine.specs.declared.event.Place.{Place}
use Rattle.machine.specs.declared.event.Op.{Op}
use Rattle.machine.specs.declared.event.Op.TheVariants.{Read}
use Rattle.machine.specs.declared.event.Event.{Event}
use Rattle.machine.specs.declared.event.Event.TheVariants as event
use Rattle.machine.specs.declared.reply.Reply.{Reply}
use Rattle.machine.specs.declared.reply.Reply.TheVariants as reply
use Rattle.machine.specs.declared.refusal.Refusal.{Refusal}
use Rattle.machine.specs.declared.refusal.Refusal.TheVariants.{Stranger, TraceFull, NoMemory}
use Rattle.machine.specs.declared.entry.Entry.{Entry}
use Rattle.machine.specs.Pages.{Pages, is_in_flight, in_transfer}
use Rattle.machine.specs.Tasks.{task_at, lives}
use Rattle.machine.specs.State.{Opening, State, first_state, over_in, is_frame_free}
use Rattle.machine.specs.Access.{Meeting, meets, charges, is_fetch}
use Rattle.machine.specs.Refusals.{refusal}
use Rattle.machine.specs.Reclaim.{has_takeable, stands, target_of}
use Rattle.machine.specs.Step.{Step}
use Rattle.machine.specs.Lists.{Order, first_order, Orders}
use Rattle.machine.specs.History.{taker, entries_by}

-- a state with its history, the order in which pages are taken, and how many passes were given out
pub record Past : Type 0 where
  pub state : State
  pub history : List Entry
  pub order : Order
  pub passes : ℕ

abbrev pub first_past : Opening → Past
first_past opening = record { state = first_state opening; history = []; order = first_order opening; passes = 0 }

-- ---- the caller, and strangers

-- who calls: the worker whose pass it is
pub record Caller : Type 0 where
  pub worker : ℕ

abbrev pub is_worker : ℕ → Option ℕ → Bool
is_worker worker None = false
is_worker worker (Some taken_by) = taken_by == worker

-- a transfer in this direction is in flight under the ticket, and the caller took it
abbrev pub took : Pages → List Entry → Caller → Direction → ℕ → Bool
took pages history caller direction ticket = is_in_flight direction pages ticket && is_worker caller.worker (taker ticket history)

-- the caller may ask this with its pass: the ticket of an ending is one that it took. An event without a ticket may be asked by each
abbrev pub knows_pass : State → List Entry → Caller → Event → Bool
knows_pass s history caller (event.Arrived ticket bytes) = took s.pages history caller In ticket.0
knows_pass s history caller (event.FetchFailed ticket) = took s.pages history caller In ticket.0
knows_pass s history caller (event.Left ticket) = took s.pages history caller Out ticket.0
knows_pass s history caller (event.LeaveFailed ticket) = took s.pages history caller Out ticket.0
knows_pass s history caller what = true

-- ---- what an access will be

-- the charge that it needs is granted, where it needs one
abbrev pub is_granted : State → Option ℕ → Bool
is_granted s None = false
is_granted s (Some g) = is_none (over_in s g) && is_frame_free s

-- it begins to read a page in
abbrev pub meeting_fetches : State → ℕ → Meeting → Bool
meeting_fetches s g meeting = is_fetch meeting && is_granted s (charges s.opening.placement meeting g)

abbrev pub life_fetches : State → ℕ → Place → Op → Task → Life → Bool
life_fetches s t place op task Live = meeting_fetches s task.group.0 (meets s t place op)
life_fetches s t place op task Exited = false
life_fetches s t place op task Killed = false

abbrev pub task_fetches : State → ℕ → Place → Op → Option Task → Bool
task_fetches s t place op None = false
task_fetches s t place op (Some task) = life_fetches s t place op task task.life

abbrev pub fetches : State → ℕ → Place → Op → Bool
fetches s t place op = task_fetches s t place op (task_at s.tasks t)

-- ---- room in the trace

-- how many entries the reply needs, by what it will be: known before a page is chosen and before memory is asked for. A transfer begins with an entry and
-- keeps one for its end, which so needs none more
abbrev pub need : State → Event → ℕ
need s (event.Access t place op) = if fetches s t.0 place op then 2 else 1
need s (event.Relieve cause) = if stands s cause && has_takeable s (target_of cause) then 2 else 1
need s (event.ReclaimOne g) = if has_takeable s g.0 then 2 else 1
need s (event.Arrived ticket bytes) = 0
need s (event.FetchFailed ticket) = 0
need s (event.Left ticket) = 0
need s (event.LeaveFailed ticket) = 0
need s (event.MergeMarks word bits) = 0
need s what = 1

-- the entries, those kept for the ends of transfers, and the need pass the limit. (Excludes a machine that answers TraceFull while there is room.)
abbrev pub is_full_for : State → List Entry → Event → Bool
is_full_for s history what = nat_lt s.opening.trace_limit (length history + in_transfer s.pages + need s what)

abbrev pub is_trace_full : Past → Event → Bool
is_trace_full past what = is_full_for past.state past.history what

-- ---- memory

-- the event makes something, and so may want memory: a group, a task with its page table, which a fork of a live task makes too, or what the bytes of a read-in arrive in. Nothing else may
-- answer NoMemory; that these get memory where there is some is not said here
abbrev pub grows : State → Event → Bool
grows s (event.Access t place op) = fetches s t.0 place op
grows s (event.Spawn t g) = true
grows s (event.Fork t child) = lives s.tasks t.0
grows s (event.Mkdir path) = true
grows s what = false

-- ---- the call

abbrev pub entry_of : Caller → List Entry → Event → Reply → Entry
entry_of caller history what answer =
    record { worker = record { 0 = caller.worker }; count = length (entries_by caller.worker history) + 1; event = what; reply = answer }

-- the event stands in the history where it is answered. A merge of marks does not: it is a hint. (Excludes a history that fills up with hits.)
abbrev pub leaves_entry : Event → Bool
leaves_entry (event.MergeMarks word bits) = false
leaves_entry what = true

-- the entries that an event and its reply make: one, or none
abbrev pub entries_of : Caller → List Entry → Event → Reply → List Entry
entries_of caller history what answer = if leaves_entry what then entry_of caller history what answer ∷ [] else []

-- a step, the page in order where one is taken, and the entries that it makes. Which byte a read gives is not the step's to say: IsRight stands beside it
pub record Answers (old : Past) (caller : Caller) (what : Event) (answer : Reply) (new : Past) : Type 0 where
  pub steps : Step old.state what answer new.state
  pub order : Orders old.state old.order what answer new.state new.order
  pub history : new.history ≡ entries_of caller old.history what answer ++ old.history
  pub passes : new.passes ≡ old.passes

-- a refusal leaves all as it was
abbrev pub Refuses : Past → Refusal → Reply → Past → Type 0
Refuses old why answer new = (answer ≡ reply.Refused why) × (new ≡ old)

abbrev pub Answered : Past → Caller → Event → Reply → Past → Type 0
Answered old caller what (reply.Refused why) new = (why ≡ NoMemory) × (grows old.state what ≡ true) × (new ≡ old)
Answered old caller what answer new = Answers old caller what answer new

abbrev pub JudgedBy : Past → Caller → Event → Option Refusal → Reply → Past → Type 0
JudgedBy old caller what (Some why) answer new = Refuses old why answer new
JudgedBy old caller what None answer new = MatchBool (is_trace_full old what) (Refuses old TraceFull answer new) (Answered old caller what answer new)

-- a stranger comes first, then the causes in order, then the trace's room, then memory
abbrev pub Called : Past → Caller → Event → Reply → Past → Type 0
Called old caller what answer new =
    MatchBool (knows_pass old.state old.history caller what) (JudgedBy old caller what (refusal old.state what) answer new) (Refuses old Stranger answer new)

-- ---- replies that are alike

-- the same byte, but at a read, whose byte the history says (IsRight)
abbrev pub AreBytesAlike : Event → ℕ → ℕ → Type 0
AreBytesAlike (event.Access t place Read) byte byte' = Unit {0}
AreBytesAlike what byte byte' = byte ≡ byte'

-- replies to one event that say the same, but for the numbers of new tickets and for the byte that a read gives
abbrev pub AreAlike : Event → Reply → Reply → Type 0
AreAlike what (reply.Done byte hit) (reply.Done byte' hit') = AreBytesAlike what byte byte' × (hit ≡ hit')
AreAlike what (reply.Fetch ticket) (reply.Fetch ticket') = Unit {0}
AreAlike what (reply.Out ticket) (reply.Out ticket') = Unit {0}
AreAlike what answer answer' = answer ≡ answer'
