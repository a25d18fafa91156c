-- Runs of commands by a worker: a row of turns like that of a schedule, but without the book and the disk, which others change meanwhile. A call of the book is one
-- exchange; what the device answers is free; busy is no answer, and the state that met it is tried again; there is no limit of turns.
use Rattle.std.specs.Prelude.{◌≡◌, ◌⊎◌, ℕ, List, [], ◌∷◌, ◌++◌, length, Result, Ok, Err, Option, false}
use Rattle.machine.specs.declared.refusal.Refusal.TheVariants.{NoMemory}
use Rattle.machine.specs.declared.command.Actor.{Actor}
use Rattle.machine.specs.declared.command.Command.{Command}
use Rattle.machine.specs.declared.command.Word.TheVariants as word
use Rattle.machine.specs.declared.command.Answer.{Answer}
use Rattle.machine.specs.declared.command.Answer.TheVariants as answer
use Rattle.machine.specs.declared.command.Reply.{Reply as Told_by}
use Rattle.machine.specs.State.{Opening}
use Rattle.block_store.specs.declared.device.Fault.{Fault}
use Rattle.pages.specs.Tickets.{TicketOf}
use Rattle.book_events.specs.declared.event.Event.{Event}
use Rattle.book_events.specs.declared.event.Reply.{Reply}
use Rattle.book_events.specs.Events.{event_of, reply_of}
use Rattle.turns.specs.declared.turn.Access.{Access}
use Rattle.turns.specs.declared.turn.Resume.{Resume}
use Rattle.turns.specs.declared.turn.Pending.{Pending}
use Rattle.turns.specs.declared.turn.Stage.{Stage}
use Rattle.turns.specs.declared.turn.Want.{Want}
use Rattle.turns.specs.declared.turn.Want.TheVariants as want
use Rattle.turns.specs.declared.turn.Transition.{Transition}
use Rattle.turns.specs.declared.turn.Transition.TheVariants.{Goes, Kills, Waits, Ends}
use Rattle.turns.specs.Turns.{wants, Told, resumes_at, kill_answer, after_read, after_write, Judged, paths_of, judged_with, answer_by}
use Rattle.turns.specs.Tickets.{holds}
use Rattle.live.specs.declared.history.Exchange.{Exchange}
use Rattle.live.specs.declared.history.Exchange.TheVariants.{Call}
use Rattle.live.specs.Exchanges.{finding}

-- ---- one turn

-- the book is asked this, whatever it is by then; what is asked and answered is noted, an arrival with the bytes that its ticket has. (Excludes an event that the table does not
-- ask, an answer that the book did not give, and an arrival with other bytes than the device brought.)
pub record Calls (opening : Opening) (remembers : Pending) (what : Event) (added : List Exchange) (transition : Transition) : Type 0 where
  pub said : Reply
  pub kept : added ≡ Call (event_of what) (reply_of said) ∷ []
  pub told : Told opening.page_size remembers said transition

-- the device reads the ticket's block into it, or fails
pub record Reads (access : Access) (ticket : TicketOf) (added : List Exchange) (transition : Transition) : Type 0 where
  pub answered : Result (Unit {0}) Fault
  pub filled : List ℕ
  pub kept : added ≡ []
  pub goes : transition ≡ Goes (after_read access answered (record ticket { bytes = filled }))

-- the device writes the ticket's bytes, or fails
pub record Writes (on : Resume) (ticket : TicketOf) (added : List Exchange) (transition : Transition) : Type 0 where
  pub answered : Result (Unit {0}) Fault
  pub kept : added ≡ []
  pub goes : transition ≡ Goes (after_write on answered ticket)

-- what is wanted is done. (Excludes a read that is told as failed to the book and as done to the task.)
abbrev pub WantMade : Opening → Want → List Exchange → Transition → Type 0
WantMade opening (want.Call remembers what) added transition = Calls opening remembers what added transition
WantMade opening (want.Read access ticket) added transition = Reads access ticket added transition
WantMade opening (want.Write on ticket) added transition = Writes on ticket added transition
WantMade opening (want.End said) added transition = (added ≡ []) × (transition ≡ Ends said)

-- a turn of a command that stands there, with so many frames free
pub record TurnMade (opening : Opening) (stage : Stage) (added : List Exchange) (transition : Transition) : Type 0 where
  pub free : ℕ
  pub made : WantMade opening (wants opening.watermarks free stage) added transition

-- ---- rows of turns

-- where a command goes on after a turn, and what the turn tells. (Excludes a busy that is answered, or that ends a command.)
abbrev pub GoesOn : Actor → Transition → List Told_by → Stage → Type 0
GoesOn who (Goes next) said stage = (said ≡ []) × (stage ≡ next)
GoesOn who (Kills kill on) said stage = (said ≡ answer_by who (kill_answer kill)) × (stage ≡ resumes_at on)
GoesOn who (Waits on) said stage = (said ≡ []) × (stage ≡ resumes_at on)
GoesOn who (Ends what) said stage = ⊥

-- one turn, after which the command goes on
pub record Link (opening : Opening) (who : Actor) (old : Stage) (added : List Exchange) (said : List Told_by) (new : Stage) : Type 0 where
  pub transition : Transition
  pub made : TurnMade opening old added transition
  pub goes : GoesOn who transition said new

-- turns that lead from one state to another, the newest of the states between first
abbrev pub Leads : Opening → Actor → Stage → List Stage → List Exchange → List Told_by → Stage → Type 0
Leads opening who start [] added said end = (added ≡ []) × (said ≡ []) × (end ≡ start)
Leads opening who start (last ∷ row) added said end =
    (before : List Exchange) × (here : List Exchange) × (earlier : List Told_by) × (now : List Told_by)
    × Leads opening who start row before earlier last × Link opening who last here now end × (added ≡ before ++ here) × (said ≡ earlier ++ now)

abbrev pub no_memory : Answer
no_memory = answer.Word (word.Refused NoMemory)

-- the last turn: it ends the command, or memory is wanted and refused: for room in the pass while no ticket is in hand, which adds nothing, or for a control
-- file's text, which was shown. (Excludes a worker that gives up with a ticket in hand.)
abbrev pub Closes : Opening → Stage → List Exchange → Answer → Type 0
Closes opening stage added what =
    TurnMade opening stage added (Ends what)
    ⊎ ((what ≡ no_memory) × (holds stage ≡ false) × (added ≡ []))
    ⊎ ((what ≡ no_memory) × (text : List ℕ) × TurnMade opening stage added (Ends (answer.Text text)))

-- a command that stands there is answered
pub record Answered (opening : Opening) (who : Actor) (start : Stage) (added : List Exchange) (said : List Told_by) : Type 0 where
  pub row : List Stage
  pub last : Stage
  pub before : List Exchange
  pub here : List Exchange
  pub earlier : List Told_by
  pub what : Answer
  pub leads : Leads opening who start row before earlier last
  pub closes : Closes opening last here what
  pub keeps : added ≡ before ++ here
  pub tells : said ≡ earlier ++ answer_by who what

-- ---- commands

-- paths are looked up, one after another, and this is found for them
abbrev pub finds_of : List (List ℕ) → List (Option ℕ) → List Exchange
finds_of [] found = []
finds_of (path ∷ paths) [] = []
finds_of (path ∷ paths) (g ∷ found) = finding path g ∷ finds_of paths found

-- what was judged has ended, or runs from where it stands
abbrev pub JudgedRuns : Opening → Actor → Judged → List Exchange → List Told_by → Type 0
JudgedRuns opening who (Err why) added said = (added ≡ []) × (said ≡ answer_by who (answer.Word (word.Refused why)))
JudgedRuns opening who (Ok stage) added said = Answered opening who stage added said

-- its paths are looked up once, the rest is judged with what was found, and it runs. (Excludes a path that is looked up again.)
pub record Begins (opening : Opening) (who : Actor) (what : Command) (added : List Exchange) (said : List Told_by) : Type 0 where
  pub found : List (Option ℕ)
  pub later : List Exchange
  pub each : length found ≡ length (paths_of who what)
  pub runs : JudgedRuns opening who (judged_with opening who what found) later said
  pub keeps : added ≡ finds_of (paths_of who what) found ++ later

-- one command; or memory for it is refused at once
abbrev pub Does : Opening → Actor → Command → List Exchange → List Told_by → Type 0
Does opening who what added said = Begins opening who what added said ⊎ ((added ≡ []) × (said ≡ answer_by who no_memory))

-- commands, one after another. (Excludes a worker that leaves one out.)
abbrev pub Works : Opening → Actor → List Command → List Exchange → List Told_by → Type 0
Works opening who [] added said = (added ≡ []) × (said ≡ [])
Works opening who (what ∷ commands) added said =
    (here : List Exchange) × (later : List Exchange) × (now : List Told_by) × (then : List Told_by)
    × Does opening who what here now × Works opening who commands later then × (added ≡ here ++ later) × (said ≡ now ++ then)

-- a run of one command, any number of times, whatever it answers; the newest first
abbrev pub Repeats : Opening → Actor → Command → List (List Exchange) → List Exchange → Type 0
Repeats opening who what [] added = added ≡ []
Repeats opening who what (here ∷ row) added = (before : List Exchange) × (said : List Told_by) × Repeats opening who what row before × Does opening who what here said × (added ≡ before ++ here)

-- ---- what a worker's calls do

-- the commands are answered so, and this is what they add to the pass
pub record Worked (opening : Opening) (who : Actor) (commands : List Command) (old new : List Exchange) (said : List Told_by) : Type 0 where
  pub added : List Exchange
  pub keeps : new ≡ old ++ added
  pub works : Works opening who commands added said

-- the command was run any number of times, and this is what that adds to the pass
pub record Repeated (opening : Opening) (who : Actor) (what : Command) (old new : List Exchange) : Type 0 where
  pub row : List (List Exchange)
  pub added : List Exchange
  pub keeps : new ≡ old ++ added
  pub repeats : Repeats opening who what row added
