-- Each call of the device that failed is answered by one error, or is owed one.
use Rattle.std.proofs.Common.{◌≡◌, inl, inr, ℕ, zero, suc, ◌+◌, ◌≤◌, Bool, true, false, List, [], ◌∷◌, ◌++◌, Option, Some, None, refl, ap, ◌∙◌, subst, arith}
use Rattle.std.specs.Prelude.{◌⊎◌, if◌then◌else◌, map, Result, Ok, Err}
use Rattle.std.proofs.lemmas.List.Sums.{sum_by-append}
use Rattle.machine.specs.declared.record.OomGroup.{OomGroup}
use Rattle.machine.specs.declared.amount.Amount.{Amount}
use Rattle.machine.specs.declared.amount.Amount.TheVariants as amount
use Rattle.machine.specs.declared.config.Config.{Config}
use Rattle.machine.specs.declared.event.Cause.{Cause}
use Rattle.machine.specs.declared.event.Op.{Op}
use Rattle.machine.specs.declared.event.Op.TheVariants.{Read, Write}
use Rattle.machine.specs.declared.command.Actor.{Actor}
use Rattle.machine.specs.declared.command.Actor.TheVariants as actor
use Rattle.machine.specs.declared.command.Command.{Command}
use Rattle.machine.specs.declared.command.Command.TheVariants as command
use Rattle.machine.specs.declared.command.Step.{Step as Line}
use Rattle.machine.specs.declared.command.Step.TheVariants.{Begin, Advance, Finish}
use Rattle.machine.specs.declared.command.Answer.TheVariants as answer
use Rattle.machine.specs.declared.command.Word.TheVariants as word
use Rattle.machine.specs.declared.command.Reply.{Reply as Told_by}
use Rattle.machine.specs.declared.control.ControlFile.{ControlFile}
use Rattle.machine.specs.declared.control.ControlFile.TheVariants as file
use Rattle.machine.specs.declared.refusal.Refusal.TheVariants.{NoEntry, Stranger}
use Rattle.machine.specs.Slots.{at}
use Rattle.machine.specs.Tree.{Node, find_group}
use Rattle.machine.specs.Control.{file_named, has_file, amount_of, flag_written}
use Rattle.machine.specs.State.{Opening, free_frames, opening_of}
use Rattle.machine.specs.Call.{Past, Caller}
use Rattle.block_store.specs.declared.device.Fault.{Fault}
use Rattle.block_store.specs.Device.{Disk, ReadsBlock, WritesBlock}
use Rattle.pages.specs.Tickets.{TicketOf}
use Rattle.book_events.specs.declared.event.Reply.{Reply}
use Rattle.book_events.specs.declared.event.Reply.TheVariants as reply
use Rattle.turns.specs.declared.turn.Kill.TheVariants as kill
use Rattle.turns.specs.declared.turn.Access.{Access}
use Rattle.turns.specs.declared.turn.Resume.{Resume}
use Rattle.turns.specs.declared.turn.Resume.TheVariants as resume
use Rattle.turns.specs.declared.turn.Stage.{Stage}
use Rattle.turns.specs.declared.turn.Stage.TheVariants as stage
use Rattle.turns.specs.declared.turn.Pending.{Pending}
use Rattle.turns.specs.declared.turn.Pending.TheVariants as pending
use Rattle.turns.specs.declared.turn.Want.{Want}
use Rattle.turns.specs.declared.turn.Want.TheVariants as want
use Rattle.turns.specs.declared.turn.Transition.{Transition}
use Rattle.turns.specs.declared.turn.Transition.TheVariants.{Goes, Kills, Waits, Ends}
use Rattle.driver.specs.declared.seat.Outcome.{Outcome}
use Rattle.driver.specs.declared.seat.Outcome.TheVariants as outcome
use Rattle.driver.specs.declared.seat.Activity.{Activity}
use Rattle.driver.specs.declared.seat.Activity.TheVariants.{Rests, Begun, Does}
use Rattle.turns.specs.Turns.{wants_pages, done, byte_answer, ends_refused, resumes_at, arrived, Tried, MadeRoom, MaxSet, Lowered, Reclaimed, Balanced, Made, TaskDid, WasShown, Closed, Told, ReadsIn, WritesOut, after_read, after_write, Judged, with_group, with_file, with_amount, with_flag, reads_file, writes_file, reclaims, task_judged, shell_judged, daemon_judged, paths_of, judged}
use Rattle.driver.specs.Schedule.{World, first_world, activity_of, with_activity, outcome_of, left_of, WantTurn, wants_at, StageTurn, JudgedTurn, ActivityTurn, said_at, all_said, Goings, EndsIn, RunsOut, Begins, Stepped, Runs, is_error, errors}
use Rattle.driver.specs.Hands.{owes_at, owes, errors_owed}
use Rattle.machine.proofs.SlotLemmas.{one_if}
use Rattle.driver.proofs.SeatCounts.{count-with_activity}
use Rattle.driver.proofs.Keeps.{balance_either, watch_either, Fine, FineOutcome, AllFine, runs_keep}
use Rattle.driver.proofs.Tickets.{Tickets, tickets_rest, tickets_turn, tickets_first}

-- ---- what is owed

abbrev owed_at : Stage → ℕ
owed_at now = one_if (owes_at now)

abbrev owed : Activity → ℕ
owed what = one_if (owes what)

-- what a turn leaves owed, or answers
abbrev cost : Transition → ℕ
cost (Goes stage) = owed_at stage
cost (Kills t on) = owed_at (resumes_at on)
cost (Waits on) = 0
cost (Ends said) = one_if (is_error said)

abbrev owed_pending : Pending → ℕ
owed_pending pending.FetchFail = 1
owed_pending pending.LeaveFail = 1
owed_pending others = 0

-- ---- what a command makes of a reply

byte-cost : (op : Op) (byte : ℕ) → cost (Ends (byte_answer op byte)) ≡ 0
byte-cost Read byte = refl
byte-cost (Write b) byte = refl

on-cost : (on : Resume) → cost (Goes (resumes_at on)) ≡ 0
on-cost (resume.Try access) = refl
on-cost (resume.MakeRoom access why) = refl
on-cost (resume.Lower g) = refl
on-cost (resume.Reclaim g left) = refl
on-cost resume.Balance = refl

tried-cost : (access : Access) (said : Reply) (transition : Transition) → Tried access said transition → cost transition ≡ 0
tried-cost access (reply.Done byte hit) transition h = rw h (byte-cost access.op byte)
tried-cost access (reply.Fetch ticket) transition h = rw h refl
tried-cost access (reply.Over g) transition h = rw h refl
tried-cost access reply.NoFrame transition h = rw h refl
tried-cost access reply.Busy transition h = rw h refl
tried-cost access reply.Killed transition h = rw h refl
tried-cost access (reply.Refused why) transition h = rw h refl
tried-cost access said transition h = absurd h

room-cost : (access : Access) (why : Cause) (said : Reply) (transition : Transition) → MadeRoom access why said transition → cost transition ≡ 0
room-cost access why reply.Room transition h = rw h refl
room-cost access why reply.Dropped transition h = rw h refl
room-cost access why (reply.Out ticket) transition h = rw h refl
room-cost access why reply.Wait transition h = rw h refl
room-cost access why (reply.KilledTask t) transition h = rw h refl
room-cost access why (reply.KilledAll victim group tasks) transition h = rw h refl
room-cost access why reply.NoVictim transition h = rw h refl
room-cost access why (reply.Refused refused) transition h = rw h refl
room-cost access why said transition h = absurd h

max-cost : (g : ℕ) (said : Reply) (transition : Transition) → MaxSet g said transition → cost transition ≡ 0
max-cost g reply.Ok transition h = rw h refl
max-cost g (reply.Refused why) transition h = rw h refl
max-cost g said transition h = absurd h

lowered-cost : (g : ℕ) (said : Reply) (transition : Transition) → Lowered g said transition → cost transition ≡ 0
lowered-cost g reply.Room transition h = rw h refl
lowered-cost g reply.Dropped transition h = rw h refl
lowered-cost g (reply.Out ticket) transition h = rw h refl
lowered-cost g reply.Wait transition h = rw h refl
lowered-cost g (reply.KilledTask t) transition h = rw h refl
lowered-cost g (reply.KilledAll victim group tasks) transition h = rw h refl
lowered-cost g reply.NoVictim transition h = rw h refl
lowered-cost g (reply.Refused why) transition h = rw h refl
lowered-cost g said transition h = absurd h

reclaimed-cost : (g left : ℕ) (said : Reply) (transition : Transition) → Reclaimed g left said transition → cost transition ≡ 0
reclaimed-cost g left reply.Dropped transition h = rw h refl
reclaimed-cost g left (reply.Out ticket) transition h = rw h refl
reclaimed-cost g left reply.Wait transition h = rw h refl
reclaimed-cost g left reply.Nothing transition h = rw h refl
reclaimed-cost g left (reply.Refused why) transition h = rw h refl
reclaimed-cost g left said transition h = absurd h

balanced-cost : (said : Reply) (transition : Transition) → Balanced said transition → cost transition ≡ 0
balanced-cost reply.Dropped transition h = rw h refl
balanced-cost (reply.Out ticket) transition h = rw h refl
balanced-cost reply.Wait transition h = rw h refl
balanced-cost reply.Nothing transition h = rw h refl
balanced-cost (reply.Refused why) transition h = rw h refl
balanced-cost said transition h = absurd h

made-cost : (said : Reply) (transition : Transition) → Made said transition → cost transition ≡ 0
made-cost reply.Ok transition h = rw h refl
made-cost (reply.Refused why) transition h = rw h refl
made-cost said transition h = absurd h

did-cost : (said : Reply) (transition : Transition) → TaskDid said transition → cost transition ≡ 0
did-cost reply.Ok transition h = rw h refl
did-cost reply.Killed transition h = rw h refl
did-cost (reply.Refused why) transition h = rw h refl
did-cost said transition h = absurd h

shown-cost : (page_size : ℕ) (said : Reply) (transition : Transition) → WasShown page_size said transition → cost transition ≡ 0
shown-cost page_size (reply.Shown numbers) transition h = rw h refl
shown-cost page_size (reply.Refused why) transition h = rw h refl
shown-cost page_size said transition h = absurd h

-- nobody is told that a ticket is none of its own: no failure is swallowed so
not_strange : (transition : Transition) → transition ≡ ends_refused Stranger → FineOutcome (outcome_of transition) → ⊥
not_strange transition h fine = strange (subst (λ (t : Transition). FineOutcome (outcome_of t)) h fine)
  where
    strange : Fine (answer.Word (word.Refused Stranger)) → ⊥
    strange f = f refl

closed-cost : (resumed : Transition) (said : Reply) (transition : Transition) → Closed resumed said transition → FineOutcome (outcome_of transition) → cost transition ≡ cost resumed
closed-cost resumed reply.Ok transition h fine = rw h refl
closed-cost resumed (reply.StrangeIn ticket) transition h fine = absurd (not_strange transition h fine)
closed-cost resumed (reply.StrangeOut ticket) transition h fine = absurd (not_strange transition h fine)
closed-cost resumed said transition h fine = absurd h

told-cost : (page_size : ℕ) (remembers : Pending) (said : Reply) (transition : Transition) → Told page_size remembers said transition → FineOutcome (outcome_of transition) → cost transition ≡ owed_pending remembers
told-cost page_size (pending.Try access) said transition h fine = tried-cost access said transition h
told-cost page_size (pending.MakeRoom access why) said transition h fine = room-cost access why said transition h
told-cost page_size (pending.SetMax g) said transition h fine = max-cost g.0 said transition h
told-cost page_size (pending.Lower g) said transition h fine = lowered-cost g.0 said transition h
told-cost page_size (pending.Reclaim g left) said transition h fine = reclaimed-cost g.0 left said transition h
told-cost page_size pending.Balance said transition h fine = balanced-cost said transition h
told-cost page_size pending.Make said transition h fine = made-cost said transition h
told-cost page_size pending.OfTask said transition h fine = did-cost said transition h
told-cost page_size pending.Show said transition h fine = shown-cost page_size said transition h
told-cost page_size (pending.Arrive access) said transition h fine = closed-cost (Goes (stage.Try (arrived access))) said transition h fine
told-cost page_size pending.FetchFail said transition h fine = closed-cost (Ends (answer.Word word.Io)) said transition h fine
told-cost page_size (pending.Leave on) said transition h fine = closed-cost (Goes (resumes_at on)) said transition h fine ∙ on-cost on
told-cost page_size pending.LeaveFail said transition h fine = closed-cost (Ends (answer.Word word.Io)) said transition h fine

-- ---- the device's answer

read-cost : (old new : Disk) (access : Access) (ticket : TicketOf) (transition : Transition) → ReadsIn old access ticket transition new → cost transition + old.failures ≡ new.failures
read-cost old new access ticket transition h = by_answer h.answered h.reads h.goes
  where
    by_answer : (answered : Result (Unit {0}) Fault) → ReadsBlock old ticket.block answered h.filled.bytes new → transition ≡ Goes (after_read access answered h.filled) → cost transition + old.failures ≡ new.failures
    by_answer (Ok done) reads e = let same : new.failures ≡ old.failures = ap (λ (d : Disk). d.failures) reads.counts in rw e (omega (arith, same))
    by_answer (Err fault) reads e = let more : new.failures ≡ old.failures + 1 = ap (λ (d : Disk). d.failures) reads.counts in rw e (omega (arith, more))

write-cost : (old new : Disk) (on : Resume) (ticket : TicketOf) (transition : Transition) → WritesOut old on ticket transition new → cost transition + old.failures ≡ new.failures
write-cost old new on ticket transition h = by_answer h.answered h.writes h.goes
  where
    by_answer : (answered : Result (Unit {0}) Fault) → WritesBlock old ticket.block ticket.bytes answered new → transition ≡ Goes (after_write on answered ticket) → cost transition + old.failures ≡ new.failures
    by_answer (Ok done) writes e = let same : new.failures ≡ old.failures = ap (λ (d : Disk). d.failures) writes.sets in rw e (omega (arith, same))
    by_answer (Err fault) writes e = let more = writes.counts in rw e (omega (arith, more))

-- ---- one turn

-- what is owed while the book is asked, or is answered at once
abbrev owed_of : Want → ℕ
owed_of (want.Call remembers what) = owed_pending remembers
owed_of (want.End said) = one_if (is_error said)
owed_of wanted = 0

want-cost : (caller : Caller) (past past' : Past) (old new : Disk) (wanted : Want) (transition : Transition) (owing : ℕ) → owed_of wanted ≡ owing
    → FineOutcome (outcome_of transition) → WantTurn caller past old wanted transition past' new → cost transition + old.failures ≡ owing + new.failures
want-cost caller past past' old new (want.Call remembers what) transition owing is fine turn =
    let told : cost transition ≡ owed_pending remembers = told-cost past.state.opening.page_size remembers turn.0.said transition turn.0.told fine in
    let same : new.failures ≡ old.failures = ap (λ (d : Disk). d.failures) turn.1 in
    omega (arith, told, same, is)
want-cost caller past past' old new (want.Read access ticket) transition owing is fine turn = let read = read-cost old new access ticket transition turn.0 in omega (arith, read, is)
want-cost caller past past' old new (want.Write on ticket) transition owing is fine turn = let write = write-cost old new on ticket transition turn.0 in omega (arith, write, is)
want-cost caller past past' old new (want.End said) transition owing is fine turn =
    let says : cost transition ≡ one_if (is_error said) = ap cost turn.0 in
    let same : new.failures ≡ old.failures = ap (λ (d : Disk). d.failures) turn.2 in
    omega (arith, says, same, is)

pages-owed : (g left : ℕ) → owed_of (wants_pages g left) ≡ 0
pages-owed g zero = refl
pages-owed g (suc left) = refl

-- as much is owed while the book is asked as before
wants-owed : (past : Past) (now : Stage) → owed_of (wants_at past now) ≡ owed_at now
wants-owed past stage.Watch = watch_either (λ w. owed_of w ≡ 0) past.state.opening.watermarks (free_frames past.state) refl refl
wants-owed past stage.Balance = balance_either (λ w. owed_of w ≡ 0) past.state.opening.watermarks (free_frames past.state) refl refl
wants-owed past (stage.Reclaim g left) = pages-owed g.0 left
wants-owed past others = refl

stage-cost : (old new : World) (who : Actor) (now : Stage) (outcome : Outcome) (turn : StageTurn old who now outcome new) → FineOutcome outcome → cost turn.transition + old.disk.failures ≡ owed_at now + new.disk.failures
stage-cost old new who now outcome turn fine = want-cost old.caller old.past new.past old.disk new.disk (wants_at old.past now) turn.transition (owed_at now) (wants-owed old.past now) (subst FineOutcome turn.shows fine) turn.turns

-- a command that has had no turn owes nothing
abbrev owed_judged : Judged → ℕ
owed_judged (Ok now) = owed_at now
owed_judged (Err why) = 0

group-owed : (found : Option ℕ) (next : ℕ → Judged) → ((g : ℕ) → owed_judged (next g) ≡ 0) → owed_judged (with_group found next) ≡ 0
group-owed None next none = refl
group-owed (Some g) next none = none g

file-owed : (g : ℕ) (found : Option ControlFile) (next : ControlFile → Judged) → ((f : ControlFile) → owed_judged (next f) ≡ 0) → owed_judged (with_file g found next) ≡ 0
file-owed g None next none = refl
file-owed g (Some f) next none = by_test (has_file g f)
  where
    by_test : (b : Bool) → owed_judged (if b then next f else Err NoEntry) ≡ 0
    by_test true = none f
    by_test false = refl

amount-owed : (found : Option Amount) (next : Amount → Judged) → ((a : Amount) → owed_judged (next a) ≡ 0) → owed_judged (with_amount found next) ≡ 0
amount-owed None next none = refl
amount-owed (Some a) next none = none a

flag-owed : (found : Option OomGroup) (next : OomGroup → Judged) → ((flag : OomGroup) → owed_judged (next flag) ≡ 0) → owed_judged (with_flag found next) ≡ 0
flag-owed None next none = refl
flag-owed (Some flag) next none = none flag

reads-owed : (g : ℕ) (f : ControlFile) → owed_judged (reads_file g f) ≡ 0
reads-owed g file.Current = refl
reads-owed g file.Max = refl
reads-owed g (file.Guard guard) = refl
reads-owed g file.OomGroup = refl
reads-owed g file.Events = refl
reads-owed g file.EventsLocal = refl
reads-owed g file.Stat = refl
reads-owed g file.Reclaim = refl

reclaims-owed : (g : ℕ) (a : Amount) → owed_judged (reclaims g a) ≡ 0
reclaims-owed g amount.Max = refl
reclaims-owed g (amount.Pages n) = refl

writes-owed : (opening : Opening) (g : ℕ) (text : List ℕ) (f : ControlFile) → owed_judged (writes_file opening g text f) ≡ 0
writes-owed opening g text file.Current = refl
writes-owed opening g text file.Events = refl
writes-owed opening g text file.EventsLocal = refl
writes-owed opening g text file.Stat = refl
writes-owed opening g text file.Max = amount-owed (amount_of opening.page_size text) _ (λ a. refl)
writes-owed opening g text (file.Guard guard) = amount-owed (amount_of opening.page_size text) _ (λ a. refl)
writes-owed opening g text file.OomGroup = flag-owed (flag_written opening.placement text) _ (λ flag. refl)
writes-owed opening g text file.Reclaim = amount-owed (amount_of opening.page_size text) _ (reclaims-owed g)

task-owed : (t : ℕ) (what : Command) → owed_judged (task_judged t what) ≡ 0
task-owed t (command.Access place op) = refl
task-owed t (command.Fork child) = refl
task-owed t (command.Free page) = refl
task-owed t command.Exit = refl
task-owed t others = refl

shell-owed : (opening : Opening) (what : Command) (found : List (Option ℕ)) → owed_judged (shell_judged opening what found) ≡ 0
shell-owed opening (command.Access place op) found = refl
shell-owed opening (command.Fork child) found = refl
shell-owed opening (command.Free page) found = refl
shell-owed opening command.Exit found = refl
shell-owed opening command.Daemon found = refl
shell-owed opening (command.Group path) found = refl
shell-owed opening (command.Rmdir path) found = group-owed (at found 0) _ (λ g. refl)
shell-owed opening (command.Task t path) found = group-owed (at found 0) _ (λ g. refl)
shell-owed opening (command.Attach t path) found = group-owed (at found 0) _ (λ g. refl)
shell-owed opening (command.Set path name text) found = group-owed (at found 0) _ (λ g. file-owed g (file_named name) _ (writes-owed opening g text))
shell-owed opening (command.Cat path name) found = group-owed (at found 0) _ (λ g. file-owed g (file_named name) _ (reads-owed g))
shell-owed opening (command.Protection guard target path) found = group-owed (at found 0) _ (λ t. group-owed (at found 1) _ (λ g. refl))

daemon-owed : (what : Command) → owed_judged (daemon_judged what) ≡ 0
daemon-owed command.Daemon = refl
daemon-owed others = refl

judged-owed : (opening : Opening) (tree : List Node) (who : Actor) (what : Command) → owed_judged (judged opening tree who what) ≡ 0
judged-owed opening tree (actor.Task t) what = task-owed t what
judged-owed opening tree actor.Shell what = shell-owed opening what (map (find_group tree) (paths_of actor.Shell what))
judged-owed opening tree actor.Control what = shell-owed opening what (map (find_group tree) (paths_of actor.Control what))
judged-owed opening tree actor.Daemon what = daemon-owed what

-- ---- answers that name no stranger

split_fine : (xs ys : List Told_by) → AllFine (xs ++ ys) → AllFine xs × AllFine ys
split_fine [] ys h = (tt, h)
split_fine (told ∷ xs) ys h = let later = split_fine xs ys h.1 in ((h.0, later.0), later.1)

outcome_fine : (who : Actor) (outcome : Outcome) → AllFine (said_at who outcome) → FineOutcome outcome
outcome_fine who outcome.Goes h = tt
outcome_fine who (outcome.Kills t) h = tt
outcome_fine who (outcome.Ends said) h = h.0

-- ---- all seats

errors-append : (xs ys : List Told_by) → errors (xs ++ ys) ≡ errors xs + errors ys
errors-append xs ys = sum_by-append (λ (told : Told_by). one_if (is_error told.answer)) xs ys

-- the errors answered, and those owed, are as many as calls failed
record Evens (old : World) (answers : List Told_by) (new : World) : Type 0 where
  pub balance : errors answers + errors_owed new.seats + old.disk.failures ≡ errors_owed old.seats + new.disk.failures

same-balance : (old new : World) (answers : List Told_by) → new ≡ old → errors answers ≡ 0 → Evens old answers new
same-balance old new answers e none =
    let seats : errors_owed new.seats ≡ errors_owed old.seats = ap (λ (w : World). errors_owed w.seats) e in
    let failures : new.disk.failures ≡ old.disk.failures = ap (λ (w : World). w.disk.failures) e in
    record { balance = omega (arith, seats, failures, none) }

then-balance : (old mid new : World) (xs ys : List Told_by) → Evens old xs mid → Evens mid ys new → Evens old (xs ++ ys) new
then-balance old mid new xs ys a b = let sum = errors-append xs ys in record { balance = omega (arith, sum, a.balance, b.balance) }

said-cost : (who : Actor) (transition : Transition) → errors (said_at who (outcome_of transition)) + owed (left_of transition) ≡ cost transition
said-cost who (Goes now) = omega arith
said-cost who (Kills (kill.One t) on) = omega arith
said-cost who (Kills (kill.Group victim tasks) on) = omega arith
said-cost who (Waits on) = refl
said-cost who (Ends said) = alone (one_if (is_error said))
  where
    alone : (n : ℕ) → 0 + n + 0 ≡ n
    alone n = omega arith

stage-balance : (old new : World) (who : Actor) (now : Stage) (outcome : Outcome) → owed_at now ≡ owed (activity_of who old.seats) → FineOutcome outcome → StageTurn old who now outcome new → Evens old (said_at who outcome) new
stage-balance old new who now outcome is fine turn =
    let paid = stage-cost old new who now outcome turn fine in
    let seats : errors_owed new.seats + owed (activity_of who old.seats) ≡ errors_owed old.seats + owed (left_of turn.transition) = rw turn.leaves (count-with_activity owes refl who (left_of turn.transition) old.seats) in
    let shown : errors (said_at who outcome) + owed (left_of turn.transition) ≡ cost turn.transition = rw turn.shows (said-cost who turn.transition) in
    record { balance = omega (arith, paid, seats, is, shown) }

-- an activity that owed nothing is set down for another that owes nothing
set-balance : (old new : World) (who : Actor) (now : Activity) (answers : List Told_by) → owed now ≡ 0 → owed (activity_of who old.seats) ≡ 0 → errors answers ≡ 0
    → new ≡ record old { seats = with_activity who now old.seats } → Evens old answers new
set-balance old new who now answers free was none e =
    let failures : new.disk.failures ≡ old.disk.failures = ap (λ (w : World). w.disk.failures) e in
    let seats : errors_owed new.seats + owed (activity_of who old.seats) ≡ errors_owed old.seats + owed now =
    (let both = count-with_activity owes refl who now old.seats in let same : errors_owed new.seats ≡ errors_owed (with_activity who now old.seats) = ap (λ (w : World). errors_owed w.seats) e in omega (arith, both, same)) in
    record { balance = omega (arith, none, was, free, failures, seats) }

judged-balance : (old new : World) (who : Actor) (found : Judged) (outcome : Outcome) → owed_judged found ≡ 0 → owed (activity_of who old.seats) ≡ 0 → FineOutcome outcome → JudgedTurn old who found outcome new
    → Evens old (said_at who outcome) new
judged-balance old new who (Err why) outcome free was fine turn = set-balance old new who Rests (said_at who outcome) refl was (ap (λ o. errors (said_at who o)) turn.0) turn.1
judged-balance old new who (Ok now) outcome free was fine turn = stage-balance old new who now outcome (let f = free in let w = was in omega (arith, f, w)) fine turn

turn-balance : (old new : World) (who : Actor) (what : Activity) (outcome : Outcome) → activity_of who old.seats ≡ what → AllFine (said_at who outcome) → ActivityTurn old who what outcome new → Evens old (said_at who outcome) new
turn-balance old new who Rests outcome is fine turn = same-balance old new (said_at who outcome) turn.1 (ap (λ o. errors (said_at who o)) turn.0)
turn-balance old new who (Begun what) outcome is fine turn =
    judged-balance old new who (judged old.past.state.opening old.past.state.tree who what) outcome (judged-owed old.past.state.opening old.past.state.tree who what) (ap owed is) (outcome_fine who outcome fine) turn
turn-balance old new who (Does now) outcome is fine turn =
    stage-balance old new who now outcome (let e : owed (activity_of who old.seats) ≡ owed_at now = ap owed is in omega (arith, e)) (outcome_fine who outcome fine) turn

-- ---- runs

goings-balance : (old new : World) (who : Actor) (outcomes : List Outcome) → AllFine (all_said who outcomes) → Goings old who outcomes new → Evens old (all_said who outcomes) new
goings-balance old new who [] fine goes = same-balance old new [] goes refl
goings-balance old new who (outcome ∷ outcomes) fine goes =
    let fines = split_fine (said_at who outcome) (all_said who outcomes) fine in
    then-balance old goes.0 new (said_at who outcome) (all_said who outcomes) (turn-balance old goes.0 who (activity_of who old.seats) outcome refl fines.0 goes.1) (goings-balance goes.0 new who outcomes fines.1 goes.3)

finish-balance : (turns : ℕ) (old mid new : World) (who : Actor) (earlier : List Outcome) (answers : List Told_by) → AllFine answers → Goings old who earlier mid
    → EndsIn turns mid who earlier answers new ⊎ RunsOut turns mid who earlier answers new → Evens old answers new
finish-balance turns old mid new who earlier answers fine goes (inl ends) =
    let fines = split_fine (all_said who earlier) (said_at who ends.last) (subst AllFine ends.answers_are fine) in
    rw ends.answers_are (then-balance old mid new (all_said who earlier) (said_at who ends.last) (goings-balance old mid who earlier fines.0 goes) (turn-balance mid new who (activity_of who mid.seats) ends.last refl fines.1 ends.turn))
finish-balance turns old mid new who earlier answers fine goes (inr out) =
    let fines = split_fine (all_said who earlier) _ (subst AllFine out.answers_are fine) in
    rw out.answers_are (then-balance old mid new (all_said who earlier) _ (goings-balance old mid who earlier fines.0 goes) (same-balance mid new _ out.stays refl))

begin-balance : (old new : World) (who : Actor) (what : Command) (at : Activity) (answers : List Told_by) → activity_of who old.seats ≡ at → Begins old who what at answers new → Evens old answers new
begin-balance old new who what Rests answers is h = set-balance old new who (Begun what) answers refl (ap owed is) (ap errors h.0) h.1
begin-balance old new who what (Begun other) answers is h = same-balance old new answers h.1 (ap errors h.0)
begin-balance old new who what (Does now) answers is h = same-balance old new answers h.1 (ap errors h.0)

step-balance : (old new : World) (line : Line) (answers : List Told_by) → AllFine answers → Stepped old line answers new → Evens old answers new
step-balance old new (Begin who what) answers fine h = begin-balance old new who what (activity_of who old.seats) answers refl h
step-balance old new (Advance who) answers fine h = rw h.2 (turn-balance old new who (activity_of who old.seats) h.0 refl (subst AllFine h.2 fine) h.1)
step-balance old new (Finish who) answers fine h = finish-balance old.turns old h.1 new who h.0 answers fine h.2 h.3

runs-balance : (old new : World) (lines : List Line) (answers : List Told_by) → AllFine answers → Runs old lines answers new → Evens old answers new
runs-balance old new [] answers fine h = same-balance old new answers h.1 (ap errors h.0)
runs-balance old new (line ∷ lines) answers fine h =
    let fines = split_fine h.0 h.1 (subst AllFine h.5 fine) in rw h.5 (then-balance old h.2 new h.0 h.1 (step-balance old h.2 line h.0 fines.0 h.3) (runs-balance h.2 new lines h.1 fines.1 h.4))

module _ (config : Config) (before : Disk) (steps : List Line) (answers : List Told_by) (end : World) (runs : Runs (first_world config before) steps answers end) where
  none_strange : AllFine answers
  none_strange = (runs_keep (Tickets (opening_of config)) (tickets_rest (opening_of config)) (tickets_turn (opening_of config)) (first_world config before) end steps answers runs (tickets_first config before)).1

  pub each_failure_is_answered : errors answers + errors_owed end.seats + before.failures ≡ end.disk.failures
  each_failure_is_answered = let all = runs-balance (first_world config before) end steps answers none_strange runs in let balance = all.balance in omega (arith, balance)

  -- so no more are told than failed
  pub errors_are_failures : errors answers + before.failures ≤ end.disk.failures
  errors_are_failures = let all = each_failure_is_answered in omega (arith, all)
