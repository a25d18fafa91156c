-- Schedules: a row of worlds, one step of the schedule between neighbours, over one book and one device. A step takes one actor's turns, or none.
use Rattle.std.specs.Prelude.{◌≡◌, ◌⊎◌, ℕ, ◌+◌, ◌/◌, ◌%◌, ◌<◌, ◌==◌, ◌&&◌, nat_le, Bool, true, false, MatchBool, if◌then◌else◌, List, [], ◌∷◌, ◌++◌, length, slice_index, count_by, Some, Ok, Err}
use Rattle.std.specs.Int.{bit_at}
use Rattle.machine.specs.declared.config.Config.{Config}
use Rattle.machine.specs.declared.command.Actor.{Actor}
use Rattle.machine.specs.declared.command.Actor.TheVariants as actor
use Rattle.machine.specs.declared.command.Command.{Command}
use Rattle.machine.specs.declared.command.Step.{Step}
use Rattle.machine.specs.declared.command.Step.TheVariants as step
use Rattle.machine.specs.declared.command.Word.TheVariants as word
use Rattle.machine.specs.declared.command.Answer.{Answer}
use Rattle.machine.specs.declared.command.Answer.TheVariants as answer
use Rattle.machine.specs.declared.command.Reply.{Reply as Told_by}
use Rattle.machine.specs.declared.event.Event.TheVariants as event
use Rattle.machine.specs.declared.reply.Reply.{Reply as Plain_reply}
use Rattle.machine.specs.declared.reply.Reply.TheVariants as plain
use Rattle.block_store.specs.Device.{Disk, bytes_on}
use Rattle.book_events.specs.declared.event.Event.{Event}
use Rattle.book_events.specs.declared.event.Reply.{Reply}
use Rattle.book_events.specs.Events.{event_of, reply_of}
use Rattle.book_events.specs.Replies.{KeepsTicket, HandsOut}
use Rattle.turns.specs.declared.turn.Pending.{Pending}
use Rattle.turns.specs.declared.turn.Stage.{Stage}
use Rattle.turns.specs.declared.turn.Want.{Want}
use Rattle.turns.specs.declared.turn.Want.TheVariants as want
use Rattle.turns.specs.declared.turn.Transition.{Transition}
use Rattle.turns.specs.declared.turn.Transition.TheVariants as transition
use Rattle.driver.specs.declared.seat.Outcome.{Outcome}
use Rattle.driver.specs.declared.seat.Outcome.TheVariants.{Goes, Kills, Ends}
use Rattle.driver.specs.declared.seat.Activity.{Activity}
use Rattle.driver.specs.declared.seat.Activity.TheVariants.{Rests, Begun, Does}
use Rattle.driver.specs.declared.seat.Seat.{Seat}
use Rattle.machine.specs.Pages.{home_block}
use Rattle.machine.specs.State.{sizes_of, opening_of, blocks_of, is_config, free_frames}
use Rattle.machine.specs.History.{at_first, Honest, Right}
use Rattle.machine.specs.Call.{Past, first_past, Caller, Called}
use Rattle.turns.specs.Turns.{wants, Told, marks_hit, resumes_at, kill_answer, ReadsIn, WritesOut, Judged, judged, ends_refused, answer_by}

-- ---- what the actors are at

-- different actors have different numbers; those below 3 are for actors that are no task
abbrev pub number_of : Actor → ℕ
number_of actor.Shell = 0
number_of actor.Control = 1
number_of actor.Daemon = 2
number_of (actor.Task n) = n + 3

abbrev pub is_of : Actor → Seat → Bool
is_of who seat = number_of seat.actor == number_of who

-- what an actor is at
abbrev pub activity_of : Actor → List Seat → Activity
activity_of who [] = Rests
activity_of who (seat ∷ seats) = if is_of who seat then seat.activity else activity_of who seats

-- the seats once an actor is at this
abbrev pub with_activity : Actor → Activity → List Seat → List Seat
with_activity who what [] = record { actor = who; activity = what } ∷ []
with_activity who what (seat ∷ seats) =
    if is_of who seat then record { actor = seat.actor; activity = what } ∷ seats else seat ∷ with_activity who what seats

-- a book and who calls it, a device, what each actor is at, and how many turns a finish takes at most, which stays
pub record World : Type 0 where
  pub past : Past
  pub caller : Caller
  pub disk : Disk
  pub seats : List Seat
  pub turns : ℕ

-- the run asks with the first pass
abbrev pub first_caller : Caller
first_caller = record { worker = 0 }

-- the opening world: that pass was given out, and nobody has a command
abbrev pub first_world : Config → Disk → World
first_world config disk = record { past = record (first_past (opening_of config)) { passes = 1 }; caller = first_caller; disk = disk; seats = []; turns = config.turns }

-- ---- one turn

-- nobody waits in a schedule: a command that would has ended, and is answered busy
abbrev pub outcome_of : Transition → Outcome
outcome_of (transition.Goes stage) = Goes
outcome_of (transition.Kills t on) = Kills t
outcome_of (transition.Waits on) = Ends (answer.Word word.Busy)
outcome_of (transition.Ends said) = Ends said

-- where a turn leaves the command. (Excludes one that goes on unasked once a transfer has ended.)
abbrev pub left_of : Transition → Activity
left_of (transition.Goes stage) = Does stage
left_of (transition.Kills t on) = Does (resumes_at on)
left_of (transition.Waits on) = Rests
left_of (transition.Ends said) = Rests

-- the bits of the frame's word have this frame's bit and no other, and they are merged. (Excludes a hit whose page is not marked, another page that is marked in its place, and one that
-- is marked beside it.)
pub record MarksHit (caller : Caller) (old : Past) (frame : ℕ) (new : Past) : Type 0 where
  pub bits : ℕ
  pub one : (f : ℕ) → f / 64 ≡ frame / 64 → bit_at bits (f % 64) ≡ (if f == frame then 1 else 0)
  pub merged : Called old caller (event.MergeMarks (frame / 64) bits) plain.Ok new

-- what comes of a reply before the turn ends: a page that was hit is marked, if it is to be, and nothing else happens
abbrev pub MarksAfter : Bool → Caller → Past → Plain_reply → Past → Type 0
MarksAfter marks caller old (plain.Done byte (Some frame)) new = MatchBool marks (MarksHit caller old frame.0 new) (new ≡ old)
MarksAfter marks caller old said new = new ≡ old

-- the caller asks the book one event; and what the command makes of the reply. A ticket that is given out is that of a page in transfer, and none is lost. A page that was hit is marked
-- in the same turn, but one of a file that an access had read in, as Linux has it. (Excludes a turn without its event, and one with two, but for the merge behind a hit.)
pub record Asks (caller : Caller) (old : Past) (remembers : Pending) (what : Event) (transition : Transition) (new : Past) : Type 0 where
  pub said : Reply
  pub mid : Past
  pub called : Called old caller (event_of what) (reply_of said) mid
  pub gives : HandsOut mid caller.worker said
  pub keeps : KeepsTicket caller.worker what said
  pub told : Told old.state.opening.page_size remembers said transition
  pub marks : MarksAfter (marks_hit old.state.opening.placement remembers) caller mid (reply_of said) new

-- a turn asks the book or the device, and leaves the other as it was; or it asks neither, and the command ends. (Excludes an EIO without a call of the
-- device that failed.)
abbrev pub WantTurn : Caller → Past → Disk → Want → Transition → Past → Disk → Type 0
WantTurn caller past disk (want.Call remembers what) transition past' disk' = Asks caller past remembers what transition past' × (disk' ≡ disk)
WantTurn caller past disk (want.Read access ticket) transition past' disk' = ReadsIn disk access ticket transition disk' × (past' ≡ past)
WantTurn caller past disk (want.Write on ticket) transition past' disk' = WritesOut disk on ticket transition disk' × (past' ≡ past)
WantTurn caller past disk (want.End said) made past' disk' = (made ≡ transition.Ends said) × (past' ≡ past) × (disk' ≡ disk)

-- what it wants as the book stands
abbrev pub wants_at : Past → Stage → Want
wants_at past stage = wants past.state.opening.watermarks (free_frames past.state) stage

-- a turn of a command that stands there. (Excludes a turn that moves another actor.)
pub record StageTurn (old : World) (who : Actor) (stage : Stage) (outcome : Outcome) (new : World) : Type 0 where
  pub transition : Transition
  pub turns : WantTurn old.caller old.past old.disk (wants_at old.past stage) transition new.past new.disk
  pub shows : outcome ≡ outcome_of transition
  pub leaves : new.seats ≡ with_activity who (left_of transition) old.seats
  pub same : new.caller ≡ old.caller
  pub limit : new.turns ≡ old.turns

-- a command's first turn: it has ended, or takes a turn where it stands
abbrev pub JudgedTurn : World → Actor → Judged → Outcome → World → Type 0
JudgedTurn old who (Err why) outcome new =
    (outcome ≡ outcome_of (ends_refused why)) × (new ≡ record old { seats = with_activity who Rests old.seats })
JudgedTurn old who (Ok stage) outcome new = StageTurn old who stage outcome new

-- a turn of an actor that is at this; one without a command is answered idle
abbrev pub ActivityTurn : World → Actor → Activity → Outcome → World → Type 0
ActivityTurn old who Rests outcome new = (outcome ≡ Ends (answer.Word word.Idle)) × (new ≡ old)
ActivityTurn old who (Begun what) outcome new = JudgedTurn old who (judged old.past.state.opening old.past.state.tree who what) outcome new
ActivityTurn old who (Does stage) outcome new = StageTurn old who stage outcome new

-- one turn of an actor
abbrev pub Turn : World → Actor → Outcome → World → Type 0
Turn old who outcome new = ActivityTurn old who (activity_of who old.seats) outcome new

-- ---- steps

-- what a turn prints; a kill is printed at the moment it is made. (Excludes kills that are printed late or left out.)
abbrev pub said_at : Actor → Outcome → List Told_by
said_at who Goes = []
said_at who (Kills kill) = answer_by who (kill_answer kill)
said_at who (Ends said) = answer_by who said

abbrev pub all_said : Actor → List Outcome → List Told_by
all_said who [] = []
all_said who (outcome ∷ outcomes) = said_at who outcome ++ all_said who outcomes

-- the turn ends the command
abbrev pub is_end : Outcome → Bool
is_end Goes = false
is_end (Kills t) = false
is_end (Ends said) = true

-- turns, none of which ends the command
abbrev pub Goings : World → Actor → List Outcome → World → Type 0
Goings old who [] new = new ≡ old
Goings old who (outcome ∷ outcomes) new = (mid : World) × Turn old who outcome mid × (is_end outcome ≡ false) × Goings mid who outcomes new

-- the last turn answers, behind fewer than so many
pub record EndsIn (turns : ℕ) (mid : World) (who : Actor) (earlier : List Outcome) (answers : List Told_by) (new : World) : Type 0 where
  pub last : Outcome
  pub turn : Turn mid who last new
  pub ends : is_end last ≡ true
  pub within : length earlier < turns
  pub answers_are : answers ≡ all_said who earlier ++ said_at who last

-- so many turns, and no answer: the command stays under way
pub record RunsOut (turns : ℕ) (mid : World) (who : Actor) (earlier : List Outcome) (answers : List Told_by) (new : World) : Type 0 where
  pub spent : length earlier ≡ turns
  pub stays : new ≡ mid
  pub answers_are : answers ≡ all_said who earlier ++ answer_by who (answer.Word word.TurnLimit)

-- turns until an answer, at most as many as a finish takes. (Excludes a finish that stops early, and one that goes on for ever.)
abbrev pub Finishes : World → Actor → List Told_by → World → Type 0
Finishes old who answers new =
    (earlier : List Outcome) × (mid : World) × Goings old who earlier mid × (EndsIn old.turns mid who earlier answers new ⊎ RunsOut old.turns mid who earlier answers new)

-- an actor has a command that has had no turn yet
abbrev pub begun : World → Actor → Command → World
begun old who what = record old { seats = with_activity who (Begun what) old.seats }

-- a command is begun, unless one is under way. (Excludes a new command that drops the old one.)
abbrev pub Begins : World → Actor → Command → Activity → List Told_by → World → Type 0
Begins old who what Rests answers new = (answers ≡ []) × (new ≡ begun old who what)
Begins old who what under_way answers new = (answers ≡ answer_by who (answer.Word word.Underway)) × (new ≡ old)

-- one turn, whatever comes of it. (Excludes a step that goes on to the answer, and one that swallows it.)
abbrev pub Advances : World → Actor → List Told_by → World → Type 0
Advances old who answers new = (outcome : Outcome) × Turn old who outcome new × (answers ≡ said_at who outcome)

-- one step of a schedule
abbrev pub Stepped : World → Step → List Told_by → World → Type 0
Stepped old (step.Begin who what) answers new = Begins old who what (activity_of who old.seats) answers new
Stepped old (step.Advance who) answers new = Advances old who answers new
Stepped old (step.Finish who) answers new = Finishes old who answers new

-- ---- runs

-- the answers to a whole list of steps, in order
abbrev pub Runs : World → List Step → List Told_by → World → Type 0
Runs old [] answers new = (answers ≡ []) × (new ≡ old)
Runs old (s ∷ steps) answers new =
    (here : List Told_by) × (later : List Told_by) × (mid : World) × Stepped old s here mid × Runs mid steps later new × (answers ≡ here ++ later)

-- the same, with the pasts between the steps: what stands behind each of them, in order
abbrev pub RunsThrough : World → List Step → List Told_by → List Past → World → Type 0
RunsThrough old [] answers pasts new = (answers ≡ []) × (pasts ≡ []) × (new ≡ old)
RunsThrough old (s ∷ steps) answers pasts new =
    (here : List Told_by) × (later : List Told_by) × (rest : List Past) × (mid : World) × Stepped old s here mid × RunsThrough mid steps later rest new × (answers ≡ here ++ later) × (pasts ≡ mid.past ∷ rest)

-- what the files have at first: what the device's blocks behind those of swap hold. (Excludes a file that reads as zeros whatever is there, or as swap.)
abbrev pub files_on : Config → Disk → ℕ → ℕ → ℕ → ℕ
files_on config disk file q o = slice_index (bytes_on disk.contents (home_block config.swap (sizes_of config.files) file q)) o

-- these answers are those of the plain machine over a device, which is left so: a row of worlds from the opening one gives them, each page that was read
-- in brought what was last written, or what its file had at first, and each read gave that
pub record Schedules (config : Config) (before : Disk) (steps : List Step) (answers : List Told_by) (after : Disk) : Type 0 where
  pub end : World
  pub runs : Runs (first_world config before) steps answers end
  pub device : end.disk ≡ after
  pub honest : Honest (at_first (files_on config before)) end.past.history
  pub right : Right (at_first (files_on config before)) end.past.history

-- the configuration is within its limits, and the device has the blocks that it asks for
abbrev pub fits : Config → Disk → Bool
fits config disk = is_config config && nat_le (blocks_of config) (length disk.contents)

-- ---- errors of the device

abbrev pub is_error : Answer → Bool
is_error (answer.Word word.Io) = true
is_error said = false

-- how many answers tell of an error of the device
abbrev pub errors : List Told_by → ℕ
errors answers = count_by (λ (told : Told_by). is_error told.answer) answers
