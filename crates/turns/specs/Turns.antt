-- The table of turns: what a command in a state asks of the book or of the device, and what it makes of the answer.
use Rattle.std.specs.Prelude.{◌≡◌, ℕ, zero, suc, ◌-◌, ◌&&◌, not, nat_le, Bool, true, false, if◌then◌else◌, List, [], ◌∷◌, map, Result, Ok, Err, Option, Some, None}
use Rattle.machine.specs.declared.amount.Amount.{Amount}
use Rattle.machine.specs.declared.amount.Amount.TheVariants as amount
use Rattle.machine.specs.declared.config.Placement.{Placement}
use Rattle.machine.specs.declared.config.Placement.TheVariants.{Own, Linux}
use Rattle.machine.specs.declared.config.Watermarks.{Watermarks}
use Rattle.machine.specs.declared.event.Op.{Op}
use Rattle.machine.specs.declared.event.Op.TheVariants.{Read, Write}
use Rattle.machine.specs.declared.event.Place.{Place}
use Rattle.machine.specs.declared.event.Place.TheVariants as place
use Rattle.machine.specs.declared.event.Cause.{Cause}
use Rattle.machine.specs.declared.event.Cause.TheVariants as cause
use Rattle.machine.specs.declared.event.Setting.TheVariants as setting
use Rattle.machine.specs.declared.event.Query.TheVariants as query
use Rattle.machine.specs.declared.refusal.Refusal.{Refusal}
use Rattle.machine.specs.declared.refusal.Refusal.TheVariants.{NoEntry, Invalid, Stranger}
use Rattle.machine.specs.declared.command.Actor.{Actor}
use Rattle.machine.specs.declared.command.Actor.TheVariants as actor
use Rattle.machine.specs.declared.command.Command.{Command}
use Rattle.machine.specs.declared.command.Command.TheVariants as command
use Rattle.machine.specs.declared.command.Word.{Word}
use Rattle.machine.specs.declared.command.Word.TheVariants as word
use Rattle.machine.specs.declared.command.Answer.{Answer}
use Rattle.machine.specs.declared.command.Answer.TheVariants as answer
use Rattle.machine.specs.declared.command.Reply.{Reply as Told_by}
use Rattle.machine.specs.declared.record.OomGroup.{OomGroup}
use Rattle.machine.specs.declared.control.ControlFile.{ControlFile}
use Rattle.machine.specs.declared.control.ControlFile.TheVariants as file
use Rattle.machine.specs.Slots.{at}
use Rattle.machine.specs.State.{Opening}
use Rattle.machine.specs.Tree.{Node, find_group}
use Rattle.machine.specs.Control.{file_named, has_file, amount_of, flag_written, text_of}
use Rattle.block_store.specs.declared.device.Fault.{Fault}
use Rattle.block_store.specs.Device.{Disk, ReadsBlock, WritesBlock}
use Rattle.pages.specs.Tickets.{TicketOf}
use Rattle.book_events.specs.declared.event.Event.{Event}
use Rattle.book_events.specs.declared.event.Event.TheVariants as event
use Rattle.book_events.specs.declared.event.Reply.{Reply}
use Rattle.book_events.specs.declared.event.Reply.TheVariants as reply
use Rattle.book_events.specs.Replies.{Replies, IsAccessReply, IsReliefReply, IsReclaimReply, IsOkReply, IsTaskReply, IsShownReply, IsInReply, IsOutReply}
use Rattle.turns.specs.declared.turn.Access.{Access}
use Rattle.turns.specs.declared.turn.Resume.{Resume}
use Rattle.turns.specs.declared.turn.Resume.TheVariants as resume
use Rattle.turns.specs.declared.turn.Stage.{Stage}
use Rattle.turns.specs.declared.turn.Stage.TheVariants as stage
use Rattle.turns.specs.declared.turn.Pending.{Pending}
use Rattle.turns.specs.declared.turn.Pending.TheVariants as pending
use Rattle.turns.specs.declared.turn.Want.{Want}
use Rattle.turns.specs.declared.turn.Want.TheVariants as want
use Rattle.turns.specs.declared.turn.Kill.{Kill}
use Rattle.turns.specs.declared.turn.Kill.TheVariants as kill
use Rattle.turns.specs.declared.turn.Transition.{Transition}
use Rattle.turns.specs.declared.turn.Transition.TheVariants.{Goes, Kills, Waits, Ends}

-- ---- what a turn asks

abbrev pub access_event : Access → Event
access_event access = event.Access access.task access.place access.op

abbrev pub done : Want
done = want.End answer.Done

-- one page of so many is taken; with none left the command is done, and asks nothing
abbrev pub wants_pages : ℕ → ℕ → Want
wants_pages g zero = done
wants_pages g (suc left) = want.Call (pending.Reclaim (record { 0 = g }) (suc left)) (event.ReclaimOne (record { 0 = g }))

-- the daemon takes pages of all groups until so many frames are free as its high mark says
abbrev pub wants_balance : Watermarks → ℕ → Want
wants_balance marks free = if nat_le marks.high free then done else want.Call pending.Balance (event.ReclaimOne (record { 0 = 0 }))

-- it begins where fewer are free than its low mark says. (Excludes a daemon that returns at once.)
abbrev pub wants_watch : Watermarks → ℕ → Want
wants_watch marks free = if nat_le marks.low free then done else wants_balance marks free

-- what a command that stands there wants, and what it remembers meanwhile, where so many frames are free
abbrev pub wants : Watermarks → ℕ → Stage → Want
wants marks free (stage.Try access) = want.Call (pending.Try access) (access_event access)
wants marks free (stage.MakeRoom access why) = want.Call (pending.MakeRoom access why) (event.Relieve why)
wants marks free (stage.SetMax g max) = want.Call (pending.SetMax g) (event.Set g (setting.Max max))
wants marks free (stage.Lower g) = want.Call (pending.Lower g) (event.Relieve (cause.Lower g))
wants marks free (stage.SetGuard g guard amount) = want.Call pending.Make (event.Set g (setting.Guard guard amount))
wants marks free (stage.SetOomGroup g flag) = want.Call pending.Make (event.Set g (setting.OomGroup flag))
wants marks free (stage.Reclaim g left) = wants_pages g.0 left
wants marks free stage.Watch = wants_watch marks free
wants marks free stage.Balance = wants_balance marks free
wants marks free (stage.Spawn t g) = want.Call pending.Make (event.Spawn t g)
wants marks free (stage.Fork t child) = want.Call pending.OfTask (event.Fork t child)
wants marks free (stage.Exit t) = want.Call pending.OfTask (event.Exit t)
wants marks free (stage.Free t v) = want.Call pending.OfTask (event.Free t v)
wants marks free (stage.Attach t g) = want.Call pending.Make (event.Attach t g)
wants marks free (stage.Mkdir path) = want.Call pending.Make (event.Mkdir path)
wants marks free (stage.Rmdir g) = want.Call pending.Make (event.Rmdir g)
wants marks free (stage.Show what) = want.Call pending.Show (event.Show what)
wants marks free (stage.Read access ticket) = want.Read access ticket
wants marks free (stage.Arrive access ticket) = want.Call (pending.Arrive access) (event.Arrived ticket)
wants marks free (stage.FetchFail ticket) = want.Call pending.FetchFail (event.FetchFailed ticket)
wants marks free (stage.Write on ticket) = want.Write on ticket
wants marks free (stage.Leave on ticket) = want.Call (pending.Leave on) (event.Left ticket)
wants marks free (stage.LeaveFail ticket) = want.Call pending.LeaveFail (event.LeaveFailed ticket)

-- ---- what it makes of the reply

-- Where a page in transfer is in the way a command waits, and goes on in the state that met it. (Excludes a cause that is lost over the wait, and a page that counts as taken when none was.)

abbrev pub ends_with : Word → Transition
ends_with what = Ends (answer.Word what)

-- a refusal ends a command with its name
abbrev pub ends_refused : Refusal → Transition
ends_refused why = ends_with (word.Refused why)

-- a read is answered with its byte, and a write with nothing to print
abbrev pub byte_answer : Op → ℕ → Answer
byte_answer Read byte = answer.Byte byte
byte_answer (Write b) byte = answer.Done

-- an access is done, or has its page read in, or wants room, or waits, or was of a killed task
abbrev pub Tried : Access → Reply → Transition → Type 0
Tried access (reply.Done byte hit) transition = transition ≡ Ends (byte_answer access.op byte)
Tried access (reply.Fetch ticket) transition = transition ≡ Goes (stage.Read access ticket)
Tried access (reply.Over g) transition = transition ≡ Goes (stage.MakeRoom access (cause.Charge g))
Tried access reply.NoFrame transition = transition ≡ Goes (stage.MakeRoom access cause.Frame)
Tried access reply.Busy transition = transition ≡ Waits (resume.Try access)
Tried access reply.Killed transition = transition ≡ ends_with word.Killed
Tried access (reply.Refused why) transition = transition ≡ ends_refused why
Tried access said transition = ⊥

-- with room, or after a page is dropped or a task killed, the access is tried again; a page that has to be written out is written first; where one is in transfer it waits; with nobody
-- to kill it wants memory
abbrev pub MadeRoom : Access → Cause → Reply → Transition → Type 0
MadeRoom access why reply.Room transition = transition ≡ Goes (stage.Try access)
MadeRoom access why reply.Dropped transition = transition ≡ Goes (stage.Try access)
MadeRoom access why (reply.Out ticket) transition = transition ≡ Goes (stage.Write (resume.Try access) ticket)
MadeRoom access why reply.Wait transition = transition ≡ Waits (resume.MakeRoom access why)
MadeRoom access why (reply.KilledTask t) transition = transition ≡ Kills (kill.One t) (resume.Try access)
MadeRoom access why (reply.KilledAll victim group tasks) transition = transition ≡ Kills (kill.Group victim tasks) (resume.Try access)
MadeRoom access why reply.NoVictim transition = transition ≡ ends_with word.OutOfMemory
MadeRoom access why (reply.Refused refused) transition = transition ≡ ends_refused refused
MadeRoom access why said transition = ⊥

-- a max that was set is set for good; then room is made
abbrev pub MaxSet : ℕ → Reply → Transition → Type 0
MaxSet g reply.Ok transition = transition ≡ Goes (stage.Lower (record { 0 = g }))
MaxSet g (reply.Refused why) transition = transition ≡ ends_refused why
MaxSet g said transition = ⊥

-- room is made until there is enough, or nobody is left to kill
abbrev pub Lowered : ℕ → Reply → Transition → Type 0
Lowered g reply.Room transition = transition ≡ Ends answer.Done
Lowered g reply.Dropped transition = transition ≡ Goes (stage.Lower (record { 0 = g }))
Lowered g (reply.Out ticket) transition = transition ≡ Goes (stage.Write (resume.Lower (record { 0 = g })) ticket)
Lowered g reply.Wait transition = transition ≡ Waits (resume.Lower (record { 0 = g }))
Lowered g (reply.KilledTask t) transition = transition ≡ Kills (kill.One t) (resume.Lower (record { 0 = g }))
Lowered g (reply.KilledAll victim group tasks) transition = transition ≡ Kills (kill.Group victim tasks) (resume.Lower (record { 0 = g }))
Lowered g reply.NoVictim transition = transition ≡ Ends answer.Done
Lowered g (reply.Refused why) transition = transition ≡ ends_refused why
Lowered g said transition = ⊥

-- one page less is wanted once one was dropped, or written out; where one is in transfer it waits; where there is nothing the writer may ask again
abbrev pub Reclaimed : ℕ → ℕ → Reply → Transition → Type 0
Reclaimed g left reply.Dropped transition = transition ≡ Goes (stage.Reclaim (record { 0 = g }) (left - 1))
Reclaimed g left (reply.Out ticket) transition = transition ≡ Goes (stage.Write (resume.Reclaim (record { 0 = g }) (left - 1)) ticket)
Reclaimed g left reply.Wait transition = transition ≡ Waits (resume.Reclaim (record { 0 = g }) left)
Reclaimed g left reply.Nothing transition = transition ≡ ends_with word.Again
Reclaimed g left (reply.Refused why) transition = transition ≡ ends_refused why
Reclaimed g left said transition = ⊥

-- the daemon is done where there is nothing to be taken
abbrev pub Balanced : Reply → Transition → Type 0
Balanced reply.Dropped transition = transition ≡ Goes stage.Balance
Balanced (reply.Out ticket) transition = transition ≡ Goes (stage.Write resume.Balance ticket)
Balanced reply.Wait transition = transition ≡ Waits resume.Balance
Balanced reply.Nothing transition = transition ≡ Ends answer.Done
Balanced (reply.Refused why) transition = transition ≡ ends_refused why
Balanced said transition = ⊥

-- a task or a group is made, a task is moved, a group is removed, or a min is set
abbrev pub Made : Reply → Transition → Type 0
Made reply.Ok transition = transition ≡ Ends answer.Done
Made (reply.Refused why) transition = transition ≡ ends_refused why
Made said transition = ⊥

-- a task has forked, freed a page or ended; or it was killed before
abbrev pub TaskDid : Reply → Transition → Type 0
TaskDid reply.Ok transition = transition ≡ Ends answer.Done
TaskDid reply.Killed transition = transition ≡ ends_with word.Killed
TaskDid (reply.Refused why) transition = transition ≡ ends_refused why
TaskDid said transition = ⊥

-- a control file is shown as its text, with pages of this size. (Excludes a text with pages that always have 4,096 bytes.)
abbrev pub WasShown : ℕ → Reply → Transition → Type 0
WasShown page_size (reply.Shown numbers) transition = transition ≡ Ends (answer.Text (text_of page_size numbers))
WasShown page_size (reply.Refused why) transition = transition ≡ ends_refused why
WasShown page_size said transition = ⊥

-- what is told of a kill
abbrev pub kill_answer : Kill → Answer
kill_answer (kill.One t) = answer.Kill t
kill_answer (kill.Group victim tasks) = answer.KillAll victim tasks

-- where a command goes on once a transfer has ended, its own or another's
abbrev pub resumes_at : Resume → Stage
resumes_at (resume.Try access) = stage.Try access
resumes_at (resume.MakeRoom access why) = stage.MakeRoom access why
resumes_at (resume.Lower g) = stage.Lower g
resumes_at (resume.Reclaim g left) = stage.Reclaim g left
resumes_at resume.Balance = stage.Balance

-- a transfer has ended, and the command goes on so; or the ticket was none of its own, which never happens
abbrev pub Closed : Transition → Reply → Transition → Type 0
Closed resumed reply.Ok transition = transition ≡ resumed
Closed resumed (reply.StrangeIn ticket) transition = transition ≡ ends_refused Stranger
Closed resumed (reply.StrangeOut ticket) transition = transition ≡ ends_refused Stranger
Closed resumed said transition = ⊥

-- the access whose page was read in for it
abbrev pub arrived : Access → Access
arrived access = record access { fetched = true }

-- what a command makes of the reply, by what it remembers, with pages of this size in texts. (Excludes a command that ends at a kill, tries again without room, takes a max back, or ends a transfer that the
-- device was not asked for.)
abbrev pub Told : ℕ → Pending → Reply → Transition → Type 0
Told page_size (pending.Try access) said transition = Tried access said transition
Told page_size (pending.MakeRoom access why) said transition = MadeRoom access why said transition
Told page_size (pending.SetMax g) said transition = MaxSet g.0 said transition
Told page_size (pending.Lower g) said transition = Lowered g.0 said transition
Told page_size (pending.Reclaim g left) said transition = Reclaimed g.0 left said transition
Told page_size pending.Balance said transition = Balanced said transition
Told page_size pending.Make said transition = Made said transition
Told page_size pending.OfTask said transition = TaskDid said transition
Told page_size pending.Show said transition = WasShown page_size said transition
Told page_size (pending.Arrive access) said transition = Closed (Goes (stage.Try (arrived access))) said transition
Told page_size pending.FetchFail said transition = Closed (ends_with word.Io) said transition
Told page_size (pending.Leave on) said transition = Closed (Goes (resumes_at on)) said transition
Told page_size pending.LeaveFail said transition = Closed (ends_with word.Io) said transition

-- ---- which hits leave a mark

abbrev pub is_of_file : Place → Bool
is_of_file (place.Virtual v offset) = false
is_of_file (place.File file q offset) = true

-- an access marks the page that it hits; but as Linux has it, a page of a file that was read in for it gets no mark by it. (Excludes a page of a file that counts as used
-- because it came.)
abbrev pub marks_by : Placement → Access → Bool
marks_by Own access = true
marks_by Linux access = not (access.fetched && is_of_file access.place)

abbrev pub marks_hit : Placement → Pending → Bool
marks_hit placement (pending.Try access) = marks_by placement access
marks_hit placement remembers = true

-- memory for a control file's text was refused, and everything else was there
pub record WantsText (page_size : ℕ) (remembers : Pending) (said : Reply) : Type 0 where
  pub text : List ℕ
  pub told : Told page_size remembers said (Ends (answer.Text text))

-- the replies that can come
abbrev pub Awaits : Pending → Reply → Type 0
Awaits (pending.Try access) said = IsAccessReply said
Awaits (pending.MakeRoom access why) said = IsReliefReply said
Awaits (pending.SetMax g) said = IsOkReply said
Awaits (pending.Lower g) said = IsReliefReply said
Awaits (pending.Reclaim g left) said = IsReclaimReply said
Awaits pending.Balance said = IsReclaimReply said
Awaits pending.Make said = IsOkReply said
Awaits pending.OfTask said = IsTaskReply said
Awaits pending.Show said = IsShownReply said
Awaits (pending.Arrive access) said = IsInReply said
Awaits pending.FetchFail said = IsInReply said
Awaits (pending.Leave on) said = IsOutReply said
Awaits pending.LeaveFail said = IsOutReply said

abbrev pub AwaitsAll : Want → Type 0
AwaitsAll (want.Call remembers what) = (said : Reply) → Replies what said → Awaits remembers said
AwaitsAll (want.Read access ticket) = Unit {0}
AwaitsAll (want.Write on ticket) = Unit {0}
AwaitsAll (want.End said) = Unit {0}

-- ---- what it makes of the device's answer

-- the book is told that the page has arrived, or that it could not be read; that it has left, or could not be written
abbrev pub after_read : Access → Result (Unit {0}) Fault → TicketOf → Stage
after_read access (Ok _) ticket = stage.Arrive access ticket
after_read access (Err fault) ticket = stage.FetchFail ticket

abbrev pub after_write : Resume → Result (Unit {0}) Fault → TicketOf → Stage
after_write on (Ok _) ticket = stage.Leave on ticket
after_write on (Err fault) ticket = stage.LeaveFail ticket

-- the ticket's block is read into it, or the call fails
pub record ReadsIn (old : Disk) (access : Access) (ticket : TicketOf) (transition : Transition) (new : Disk) : Type 0 where
  pub answered : Result (Unit {0}) Fault
  pub filled : TicketOf
  pub reads : ReadsBlock old ticket.block answered filled.bytes new
  pub same : filled ≡ record ticket { bytes = filled.bytes }
  pub goes : transition ≡ Goes (after_read access answered filled)

-- the ticket's bytes are written to its block, or the call fails
pub record WritesOut (old : Disk) (on : Resume) (ticket : TicketOf) (transition : Transition) (new : Disk) : Type 0 where
  pub answered : Result (Unit {0}) Fault
  pub writes : WritesBlock old ticket.block ticket.bytes answered new
  pub goes : transition ≡ Goes (after_write on answered ticket)

-- ---- the first turn: paths are found; then a control file's name, mode and amount are judged

-- where a command stands then, or why it has ended
abbrev pub Judged : Type 0
Judged = Result Stage Refusal

-- with the group of a path
abbrev pub with_group : Option ℕ → (ℕ → Judged) → Judged
with_group None next = Err NoEntry
with_group (Some g) next = next g

-- with a file that there is and that the group has
abbrev pub with_file : ℕ → Option ControlFile → (ControlFile → Judged) → Judged
with_file g None next = Err NoEntry
with_file g (Some f) next = if has_file g f then next f else Err NoEntry

abbrev pub with_amount : Option Amount → (Amount → Judged) → Judged
with_amount None next = Err Invalid
with_amount (Some amount) next = next amount

abbrev pub with_flag : Option OomGroup → (OomGroup → Judged) → Judged
with_flag None next = Err Invalid
with_flag (Some flag) next = next flag

-- the mode of a file that is read
abbrev pub reads_file : ℕ → ControlFile → Judged
reads_file g file.Current = Ok (stage.Show (query.Current (record { 0 = g })))
reads_file g file.Max = Ok (stage.Show (query.Max (record { 0 = g })))
reads_file g (file.Guard guard) = Ok (stage.Show (query.Guard guard (record { 0 = g })))
reads_file g file.OomGroup = Ok (stage.Show (query.OomGroup (record { 0 = g })))
reads_file g file.Events = Ok (stage.Show (query.Events (record { 0 = g })))
reads_file g file.EventsLocal = Ok (stage.Show (query.EventsLocal (record { 0 = g })))
reads_file g file.Stat = Ok (stage.Show (query.Stat (record { 0 = g })))
reads_file g file.Reclaim = Err Invalid

-- so many pages are to be taken; there is no telling how many `max` would be
abbrev pub reclaims : ℕ → Amount → Judged
reclaims g amount.Max = Err Invalid
reclaims g (amount.Pages n) = Ok (stage.Reclaim (record { 0 = g }) n)

-- the mode is judged before the amount
abbrev pub writes_file : Opening → ℕ → List ℕ → ControlFile → Judged
writes_file opening g text file.Current = Err Invalid
writes_file opening g text file.Events = Err Invalid
writes_file opening g text file.EventsLocal = Err Invalid
writes_file opening g text file.Stat = Err Invalid
writes_file opening g text file.Max = with_amount (amount_of opening.page_size text) (λ max. Ok (stage.SetMax (record { 0 = g }) max))
writes_file opening g text (file.Guard guard) = with_amount (amount_of opening.page_size text) (λ amount. Ok (stage.SetGuard (record { 0 = g }) guard amount))
writes_file opening g text file.OomGroup = with_flag (flag_written opening.placement text) (λ flag. Ok (stage.SetOomGroup (record { 0 = g }) flag))
writes_file opening g text file.Reclaim = with_amount (amount_of opening.page_size text) (reclaims g)

-- a command of a task; one that is none of a task's is Invalid
abbrev pub task_judged : ℕ → Command → Judged
task_judged t (command.Access place op) = Ok (stage.Try (record { task = record { 0 = t }; place = place; op = op; fetched = false }))
task_judged t (command.Fork child) = Ok (stage.Fork (record { 0 = t }) (record { 0 = child }))
task_judged t (command.Free page) = Ok (stage.Free (record { 0 = t }) page)
task_judged t command.Exit = Ok (stage.Exit (record { 0 = t }))
task_judged t others = Err Invalid

-- the paths that a command of the shell or of control looks up, in order
abbrev pub shell_paths : Command → List (List ℕ)
shell_paths (command.Rmdir path) = path ∷ []
shell_paths (command.Task t path) = path ∷ []
shell_paths (command.Attach t path) = path ∷ []
shell_paths (command.Set path name text) = path ∷ []
shell_paths (command.Cat path name) = path ∷ []
shell_paths (command.Protection guard target path) = target ∷ path ∷ []
shell_paths others = []

-- and what becomes of it, given what was found for them
abbrev pub shell_judged : Opening → Command → List (Option ℕ) → Judged
shell_judged opening (command.Access place op) found = Err Invalid
shell_judged opening (command.Fork child) found = Err Invalid
shell_judged opening (command.Free page) found = Err Invalid
shell_judged opening command.Exit found = Err Invalid
shell_judged opening command.Daemon found = Err Invalid
shell_judged opening (command.Group path) found = Ok (stage.Mkdir path)
shell_judged opening (command.Rmdir path) found = with_group (at found 0) (λ g. Ok (stage.Rmdir (record { 0 = g })))
shell_judged opening (command.Task t path) found = with_group (at found 0) (λ g. Ok (stage.Spawn (record { 0 = t }) (record { 0 = g })))
shell_judged opening (command.Attach t path) found = with_group (at found 0) (λ g. Ok (stage.Attach (record { 0 = t }) (record { 0 = g })))
shell_judged opening (command.Set path name text) found = with_group (at found 0) (λ g. with_file g (file_named name) (writes_file opening g text))
shell_judged opening (command.Cat path name) found = with_group (at found 0) (λ g. with_file g (file_named name) (reads_file g))
shell_judged opening (command.Protection guard target path) found =
    with_group (at found 0) (λ t. with_group (at found 1) (λ g. Ok (stage.Show (query.Protection guard (record { 0 = t }) (record { 0 = g })))))

abbrev pub daemon_judged : Command → Judged
daemon_judged command.Daemon = Ok stage.Watch
daemon_judged others = Err Invalid

-- the paths that an actor's command looks up in its first turn, in order
abbrev pub paths_of : Actor → Command → List (List ℕ)
paths_of (actor.Task t) what = []
paths_of actor.Shell what = shell_paths what
paths_of actor.Control what = shell_paths what
paths_of actor.Daemon what = []

-- what becomes of it, given what was found for each of them; one that is none of its actor's is Invalid
abbrev pub judged_with : Opening → Actor → Command → List (Option ℕ) → Judged
judged_with opening (actor.Task t) what found = task_judged t what
judged_with opening actor.Shell what found = shell_judged opening what found
judged_with opening actor.Control what found = shell_judged opening what found
judged_with opening actor.Daemon what found = daemon_judged what

-- what becomes of a command in its first turn: all its paths are looked up, and then it is judged
abbrev pub judged : Opening → List Node → Actor → Command → Judged
judged opening tree who what = judged_with opening who what (map (find_group tree) (paths_of who what))

-- ---- what is told

-- one answer, as its actor's
abbrev pub answer_by : Actor → Answer → List Told_by
answer_by who said = record { actor = who; answer = said } ∷ []
