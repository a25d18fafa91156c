-- What one call of the book leaves, and what a command makes of its reply.
use Rattle.std.proofs.Common.{◌≡◌, ℕ, ◌-◌, ◌==◌, ◌&&◌, ◌||◌, not, Bool, true, false, List, ◌∷◌, ◌++◌, length, Option, Some, None, refl, sym, ap, ◌∙◌, subst}
use Rattle.std.specs.Prelude.{MatchBool, is_some, nat_le, nat_lt}
use Rattle.machine.specs.declared.record.Life.{Life}
use Rattle.machine.specs.declared.record.Life.TheVariants.{Live, Exited, Killed}
use Rattle.machine.specs.declared.record.Task.{Task}
use Rattle.machine.specs.declared.event.Cause.{Cause}
use Rattle.machine.specs.declared.event.Op.{Op}
use Rattle.machine.specs.declared.event.Op.TheVariants.{Read, Write}
use Rattle.machine.specs.declared.event.Query.{Query}
use Rattle.machine.specs.declared.event.Query.TheVariants as query
use Rattle.machine.specs.declared.entry.Entry.{Entry}
use Rattle.machine.specs.declared.event.Event.{Event}
use Rattle.machine.specs.declared.event.Event.TheVariants as event
use Rattle.machine.specs.declared.reply.Reply.{Reply}
use Rattle.machine.specs.declared.reply.Reply.TheVariants as reply
use Rattle.machine.specs.declared.refusal.Refusal.{Refusal}
use Rattle.machine.specs.declared.refusal.Refusal.TheVariants.{Stranger, Exists, NoEntry, Busy, NoSpace, NoTask, NumberUsed, BadPlace, Invalid, TraceFull}
use Rattle.machine.specs.declared.command.Word.{Word}
use Rattle.machine.specs.declared.command.Word.TheVariants as word
use Rattle.machine.specs.Names.{is_path, parent_path}
use Rattle.machine.specs.Tree.{Node, is_live, chain, has_children, live_groups, find_group}
use Rattle.machine.specs.Tasks.{Tasks, task_at, lives, live_tasks, has_tasks}
use Rattle.machine.specs.State.{State}
use Rattle.machine.specs.Access.{is_place, task_pages}
use Rattle.machine.specs.Refusals.{refusal, first_cause, bars_children, bars_tasks, number_refusal, life_refusal, task_refusal, below_refusal, mkdir_refusal, file_refusal, below_target, show_refusal}
use Rattle.machine.specs.Call.{Past, Caller, Answers, Refuses, Answered, JudgedBy, Called, knows_pass, is_trace_full, leaves_entry, entry_of}
use Rattle.pages.specs.Tickets.{TicketOf}
use Rattle.book_events.specs.declared.event.Reply.{Reply as Book_reply}
use Rattle.book_events.specs.declared.event.Reply.TheVariants as said
use Rattle.book_events.specs.Events.{reply_of}
use Rattle.turns.specs.declared.turn.Access.{Access}
use Rattle.turns.specs.declared.turn.Resume.{Resume}
use Rattle.turns.specs.declared.turn.Resume.TheVariants as resume
use Rattle.turns.specs.declared.turn.Stage.TheVariants as stage
use Rattle.turns.specs.declared.turn.Pending.{Pending}
use Rattle.turns.specs.declared.turn.Pending.TheVariants as pending
use Rattle.turns.specs.declared.turn.Transition.{Transition}
use Rattle.turns.specs.declared.turn.Transition.TheVariants.{Goes}
use Rattle.turns.specs.Turns.{Tried, MadeRoom, MaxSet, Lowered, Reclaimed, Balanced, Made, TaskDid, WasShown, Closed, Told, ends_with, ends_refused, byte_answer, resumes_at}
use Rattle.driver.specs.Schedule.{outcome_of, left_of}
use Rattle.turns.specs.Tickets.{gives_ticket}
use Rattle.machine.proofs.EntryLemmas.{entries-one}
use Rattle.driver.proofs.Keeps.{number_at, pages_none, Fine, FineOutcome}

-- ---- no cause is that of a stranger

abbrev NoStranger : Option Refusal → Type 0
NoStranger cause = cause ≡ Some Stranger → ⊥

no_cause : NoStranger None
no_cause e = cc

causes : (b : Bool) (why : Refusal) (others : Option Refusal) → NoStranger (Some why) → NoStranger others → NoStranger (first_cause b why others)
causes true why others f g = f
causes false why others f g = g

file_causes : (tree : List Node) (g : ℕ) → NoStranger (file_refusal tree g)
file_causes tree g = causes (not (is_live tree g) || (g == 0)) NoEntry None (λ e. cc) no_cause

show_causes : (s : State) (what : Query) → NoStranger (show_refusal s what)
show_causes s (query.Current g) = file_causes s.tree g.0
show_causes s (query.Max g) = file_causes s.tree g.0
show_causes s (query.Guard guard g) = file_causes s.tree g.0
show_causes s (query.OomGroup g) = file_causes s.tree g.0
show_causes s (query.Events g) = file_causes s.tree g.0
show_causes s (query.EventsLocal g) = file_causes s.tree g.0
show_causes s (query.Stat g) = file_causes s.tree g.0
show_causes s (query.Protection guard target g) = causes (not (below_target s.tree target.0 g.0)) NoEntry None (λ e. cc) no_cause

life_causes : (life : Life) (others : Option Refusal) → NoStranger others → NoStranger (life_refusal life others)
life_causes Live others h = h
life_causes Exited others h = λ e. cc
life_causes Killed others h = no_cause

task_causes : (slot : Option Task) (others : Option Refusal) → NoStranger others → NoStranger (task_refusal slot others)
task_causes None others h = λ e. cc
task_causes (Some task) others h = life_causes task.life others h

number_causes : (tasks : Tasks) (t : ℕ) → NoStranger (number_refusal tasks t)
number_causes tasks t =
    causes (not (nat_le 1 t && nat_le t 65535)) Invalid _ (λ e. cc)
    (causes (is_some (task_at tasks t)) NumberUsed _ (λ e. cc) (causes (nat_le 1024 (live_tasks tasks)) NoSpace None (λ e. cc) no_cause))

below_causes : (tree : List Node) (barred : ℕ → Bool) (path : List ℕ) (parent : Option ℕ) → NoStranger (below_refusal tree barred path parent)
below_causes tree barred path None = λ e. cc
below_causes tree barred path (Some parent) =
    causes (is_some (find_group tree path)) Exists _ (λ e. cc)
    (causes (barred parent) Busy _ (λ e. cc) (causes (nat_le 256 (live_groups tree) || nat_lt 16 (length (chain tree (Some parent)))) NoSpace None (λ e. cc) no_cause))

mkdir_causes : (tree : List Node) (barred : ℕ → Bool) (path : List ℕ) → NoStranger (mkdir_refusal tree barred path)
mkdir_causes tree barred path = causes (not (is_path path)) Invalid _ (λ e. cc) (below_causes tree barred path (find_group tree (parent_path path)))

refusal_causes : (s : State) (what : Event) → NoStranger (refusal s what)
refusal_causes s (event.Access t place op) = task_causes (task_at s.tasks t.0) _ (causes (not (is_place s.opening place)) BadPlace None (λ e. cc) no_cause)
refusal_causes s (event.Arrived ticket bytes) = no_cause
refusal_causes s (event.FetchFailed ticket) = no_cause
refusal_causes s (event.Left ticket) = no_cause
refusal_causes s (event.LeaveFailed ticket) = no_cause
refusal_causes s (event.Relieve why) = no_cause
refusal_causes s (event.ReclaimOne g) = causes (not (is_live s.tree g.0)) NoEntry None (λ e. cc) no_cause
refusal_causes s (event.Spawn t g) = causes (not (is_live s.tree g.0)) NoEntry _ (λ e. cc) (causes (bars_tasks s.tree g.0) Busy _ (λ e. cc) (number_causes s.tasks t.0))
refusal_causes s (event.Fork t child) = task_causes (task_at s.tasks t.0) _ (number_causes s.tasks child.0)
refusal_causes s (event.Exit t) = task_causes (task_at s.tasks t.0) None no_cause
refusal_causes s (event.Free t v) = task_causes (task_at s.tasks t.0) _ (causes (not (nat_lt v task_pages)) BadPlace None (λ e. cc) no_cause)
refusal_causes s (event.Attach t g) =
    causes (not (is_live s.tree g.0)) NoEntry _ (λ e. cc) (causes (not (lives s.tasks t.0)) NoTask _ (λ e. cc) (causes (bars_tasks s.tree g.0) Busy None (λ e. cc) no_cause))
refusal_causes s (event.Mkdir path) = mkdir_causes s.tree (bars_children s.tasks) path
refusal_causes s (event.Rmdir g) =
    causes (not (is_live s.tree g.0)) NoEntry _ (λ e. cc) (causes ((g.0 == 0) || (has_children s.tree g.0 || has_tasks s.tasks g.0)) Busy None (λ e. cc) no_cause)
refusal_causes s (event.Set g setting) = file_causes s.tree g.0
refusal_causes s (event.Show what) = show_causes s what
refusal_causes s (event.MergeMarks word bits) = no_cause

-- ---- a call whose ticket is known

-- nothing was done, for a cause that is not a stranger's
pub record IsRefused (old : Past) (answer : Reply) (new : Past) : Type 0 where
  pub why : Refusal
  pub refused : answer ≡ reply.Refused why
  pub known : why ≡ Stranger → ⊥
  pub same : new ≡ old

-- one entry more
pub record IsServed (old : Past) (caller : Caller) (what : Event) (answer : Reply) (new : Past) : Type 0 where
  pub leaves : leaves_entry what ≡ true
  pub unrefused : refusal old.state what ≡ None
  pub room : is_trace_full old what ≡ false
  pub done : (why : Refusal) → answer ≡ reply.Refused why → ⊥
  pub answers : Answers old caller what answer new
  pub history : new.history ≡ entry_of caller old.history what answer ∷ old.history

pub data Comes (old : Past) (caller : Caller) (what : Event) (answer : Reply) (new : Past) : Type 0 where
  ByRefusal : IsRefused old answer new → Comes old caller what answer new
  ByEntry : IsServed old caller what answer new → Comes old caller what answer new

served_comes : (old new : Past) (caller : Caller) (what : Event) (answer : Reply) → leaves_entry what ≡ true → refusal old.state what ≡ None → is_trace_full old what ≡ false → Answered old caller what answer new → Comes old caller what answer new
served_comes old new caller what (reply.Refused why) leaves none room h = ByRefusal (record { why = why; refused = refl; known = λ e. (let is = h.0 in cc); same = h.2 })
served_comes old new caller what answer leaves none room h =
    ByEntry (record { leaves = leaves; unrefused = none; room = room; done = λ why e. cc; answers = h; history = h.history ∙ ap (λ (es : List Entry). es ++ old.history) (entries-one caller old.history what answer leaves) })

pub called_comes : (old new : Past) (caller : Caller) (what : Event) (answer : Reply) → leaves_entry what ≡ true → knows_pass old.state old.history caller what ≡ true → Called old caller what answer new → Comes old caller what answer new
called_comes old new caller what answer leaves known called = by_known (knows_pass old.state old.history caller what) known called
  where
    by_room : (full : Bool) → is_trace_full old what ≡ full → refusal old.state what ≡ None → MatchBool full (Refuses old TraceFull answer new) (Answered old caller what answer new) → Comes old caller what answer new
    by_room true is none h = ByRefusal (record { why = TraceFull; refused = h.0; known = λ e. cc; same = h.1 })
    by_room false is none h = served_comes old new caller what answer leaves none is h

    by_cause : (cause : Option Refusal) → refusal old.state what ≡ cause → JudgedBy old caller what cause answer new → Comes old caller what answer new
    by_cause (Some why) is h = ByRefusal (record { why = why; refused = h.0; known = λ e. refusal_causes old.state what (is ∙ ap (λ (w : Refusal). Some w) e); same = h.1 })
    by_cause None is h = by_room (is_trace_full old what) refl is h

    by_known : (b : Bool) → b ≡ true → MatchBool b (JudgedBy old caller what (refusal old.state what) answer new) (Refuses old Stranger answer new) → Comes old caller what answer new
    by_known true is h = by_cause (refusal old.state what) refl h
    by_known false is h = cc

-- ---- what is made of a reply

-- a ticket is taken up only from the reply that gave it
pub data Next (answered : Book_reply) (transition : Transition) : Type 0 where
  Handless : gives_ticket answered ≡ false → number_at (left_of transition) ≡ None → FineOutcome (outcome_of transition) → Next answered transition
  Reads : (access : Access) (ticket : TicketOf) → answered ≡ said.Fetch ticket → transition ≡ Goes (stage.Read access ticket) → Next answered transition
  Writes : (on : Resume) (ticket : TicketOf) → answered ≡ said.Out ticket → transition ≡ Goes (stage.Write on ticket) → Next answered transition

module _ (answered : Book_reply) (transition : Transition) where
  handless : (is : Transition) → transition ≡ is → gives_ticket answered ≡ false → number_at (left_of is) ≡ None → FineOutcome (outcome_of is) → Next answered transition
  handless is e quiet none fine = Handless quiet (ap (λ (t : Transition). number_at (left_of t)) e ∙ none) (subst (λ (t : Transition). FineOutcome (outcome_of t)) (sym e) fine)

  says_word : (what : Word) → transition ≡ ends_with what → gives_ticket answered ≡ false → (what ≡ word.Refused Stranger → ⊥) → Next answered transition
  says_word what e quiet fine = handless (ends_with what) e quiet refl (λ f. fine (cc))

  says_refused : (why : Refusal) → reply_of answered ≡ reply.Refused why → gives_ticket answered ≡ false → (reply_of answered ≡ reply.Refused Stranger → ⊥) → transition ≡ ends_refused why → Next answered transition
  says_refused why is quiet known e = says_word (word.Refused why) e quiet (λ f. known (is ∙ refusal_is f))
    where
      refusal_is : word.Refused why ≡ word.Refused Stranger → reply.Refused why ≡ reply.Refused Stranger
      refusal_is f = cc

fine_byte : (op : Op) (byte : ℕ) → Fine (byte_answer op byte)
fine_byte Read byte = λ e. cc
fine_byte (Write b) byte = λ e. cc

resumes_at_handless : (on : Resume) → number_at (left_of (Goes (resumes_at on))) ≡ None
resumes_at_handless (resume.Try access) = refl
resumes_at_handless (resume.MakeRoom access why) = refl
resumes_at_handless (resume.Lower g) = refl
resumes_at_handless (resume.Reclaim g left) = pages_none g.0 left
resumes_at_handless resume.Balance = refl

abbrev KnownReply : Book_reply → Type 0
KnownReply answered = reply_of answered ≡ reply.Refused Stranger → ⊥

tried_next : (access : Access) (answered : Book_reply) (transition : Transition) → Tried access answered transition → KnownReply answered → Next answered transition
tried_next access (said.Done byte hit) transition h known = handless _ transition _ h refl refl (fine_byte access.op byte)
tried_next access (said.Fetch ticket) transition h known = Reads access ticket refl h
tried_next access (said.Over g) transition h known = handless _ transition _ h refl refl tt
tried_next access said.NoFrame transition h known = handless _ transition _ h refl refl tt
tried_next access said.Busy transition h known = handless _ transition _ h refl refl (λ e. cc)
tried_next access said.Killed transition h known = says_word _ transition word.Killed h refl (λ e. cc)
tried_next access (said.Refused why) transition h known = says_refused _ transition why refl refl known h
tried_next access answered transition h known = absurd h

room_next : (access : Access) (why : Cause) (answered : Book_reply) (transition : Transition) → MadeRoom access why answered transition → KnownReply answered → Next answered transition
room_next access why said.Room transition h known = handless _ transition _ h refl refl tt
room_next access why said.Dropped transition h known = handless _ transition _ h refl refl tt
room_next access why (said.Out ticket) transition h known = Writes (resume.Try access) ticket refl h
room_next access why said.Wait transition h known = handless _ transition _ h refl refl (λ e. cc)
room_next access why (said.KilledTask t) transition h known = handless _ transition _ h refl refl tt
room_next access why (said.KilledAll victim group tasks) transition h known = handless _ transition _ h refl refl tt
room_next access why said.NoVictim transition h known = says_word _ transition word.OutOfMemory h refl (λ e. cc)
room_next access why (said.Refused refused) transition h known = says_refused _ transition refused refl refl known h
room_next access why answered transition h known = absurd h

set_next : (g : ℕ) (answered : Book_reply) (transition : Transition) → MaxSet g answered transition → KnownReply answered → Next answered transition
set_next g said.Ok transition h known = handless _ transition _ h refl refl tt
set_next g (said.Refused why) transition h known = says_refused _ transition why refl refl known h
set_next g answered transition h known = absurd h

lower_next : (g : ℕ) (answered : Book_reply) (transition : Transition) → Lowered g answered transition → KnownReply answered → Next answered transition
lower_next g said.Room transition h known = handless _ transition _ h refl refl (λ e. cc)
lower_next g said.Dropped transition h known = handless _ transition _ h refl refl tt
lower_next g (said.Out ticket) transition h known = Writes _ ticket refl h
lower_next g said.Wait transition h known = handless _ transition _ h refl refl (λ e. cc)
lower_next g (said.KilledTask t) transition h known = handless _ transition _ h refl refl tt
lower_next g (said.KilledAll victim group tasks) transition h known = handless _ transition _ h refl refl tt
lower_next g said.NoVictim transition h known = handless _ transition _ h refl refl (λ e. cc)
lower_next g (said.Refused why) transition h known = says_refused _ transition why refl refl known h
lower_next g answered transition h known = absurd h

reclaimed_next : (g left : ℕ) (answered : Book_reply) (transition : Transition) → Reclaimed g left answered transition → KnownReply answered → Next answered transition
reclaimed_next g left said.Dropped transition h known = handless _ transition _ h refl (pages_none g (left - 1)) tt
reclaimed_next g left (said.Out ticket) transition h known = Writes _ ticket refl h
reclaimed_next g left said.Wait transition h known = handless _ transition _ h refl refl (λ e. cc)
reclaimed_next g left said.Nothing transition h known = says_word _ transition word.Again h refl (λ e. cc)
reclaimed_next g left (said.Refused why) transition h known = says_refused _ transition why refl refl known h
reclaimed_next g left answered transition h known = absurd h

balanced_next : (answered : Book_reply) (transition : Transition) → Balanced answered transition → KnownReply answered → Next answered transition
balanced_next said.Dropped transition h known = handless _ transition _ h refl refl tt
balanced_next (said.Out ticket) transition h known = Writes _ ticket refl h
balanced_next said.Wait transition h known = handless _ transition _ h refl refl (λ e. cc)
balanced_next said.Nothing transition h known = handless _ transition _ h refl refl (λ e. cc)
balanced_next (said.Refused why) transition h known = says_refused _ transition why refl refl known h
balanced_next answered transition h known = absurd h

made_next : (answered : Book_reply) (transition : Transition) → Made answered transition → KnownReply answered → Next answered transition
made_next said.Ok transition h known = handless _ transition _ h refl refl (λ e. cc)
made_next (said.Refused why) transition h known = says_refused _ transition why refl refl known h
made_next answered transition h known = absurd h

did_next : (answered : Book_reply) (transition : Transition) → TaskDid answered transition → KnownReply answered → Next answered transition
did_next said.Ok transition h known = handless _ transition _ h refl refl (λ e. cc)
did_next said.Killed transition h known = says_word _ transition word.Killed h refl (λ e. cc)
did_next (said.Refused why) transition h known = says_refused _ transition why refl refl known h
did_next answered transition h known = absurd h

shown_next : (page_size : ℕ) (answered : Book_reply) (transition : Transition) → WasShown page_size answered transition → KnownReply answered → Next answered transition
shown_next page_size (said.Shown numbers) transition h known = handless _ transition _ h refl refl (λ e. cc)
shown_next page_size (said.Refused why) transition h known = says_refused _ transition why refl refl known h
shown_next page_size answered transition h known = absurd h

closed_next : (resumed : Transition) (answered : Book_reply) (transition : Transition) → number_at (left_of resumed) ≡ None → FineOutcome (outcome_of resumed) → Closed resumed answered transition → KnownReply answered → Next answered transition
closed_next resumed said.Ok transition none fine h known = handless _ transition resumed h refl none fine
closed_next resumed (said.StrangeIn ticket) transition none fine h known = absurd (known refl)
closed_next resumed (said.StrangeOut ticket) transition none fine h known = absurd (known refl)
closed_next resumed answered transition none fine h known = absurd h

pub told_next : (page_size : ℕ) (remembers : Pending) (answered : Book_reply) (transition : Transition) → Told page_size remembers answered transition → (reply_of answered ≡ reply.Refused Stranger → ⊥) → Next answered transition
told_next page_size (pending.Try access) answered transition h known = tried_next access answered transition h known
told_next page_size (pending.MakeRoom access why) answered transition h known = room_next access why answered transition h known
told_next page_size (pending.SetMax g) answered transition h known = set_next g.0 answered transition h known
told_next page_size (pending.Lower g) answered transition h known = lower_next g.0 answered transition h known
told_next page_size (pending.Reclaim g left) answered transition h known = reclaimed_next g.0 left answered transition h known
told_next page_size pending.Balance answered transition h known = balanced_next answered transition h known
told_next page_size pending.Make answered transition h known = made_next answered transition h known
told_next page_size pending.OfTask answered transition h known = did_next answered transition h known
told_next page_size pending.Show answered transition h known = shown_next page_size answered transition h known
told_next page_size (pending.Arrive access) answered transition h known = closed_next _ answered transition refl tt h known
told_next page_size pending.FetchFail answered transition h known = closed_next _ answered transition refl (λ e. cc) h known
told_next page_size (pending.Leave on) answered transition h known = closed_next _ answered transition (resumes_at_handless on) tt h known
told_next page_size pending.LeaveFail answered transition h known = closed_next _ answered transition refl (λ e. cc) h known
