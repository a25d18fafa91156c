-- What each actor is at once one of them is at something else; and what every turn keeps, every run keeps.
use Rattle.std.proofs.Common.{◌≡◌, inl, inr, ℕ, zero, suc, ◌==◌, Bool, true, false, List, [], ◌∷◌, ◌++◌, Option, Some, None, eqb-true, eq-eqb, ne_eqb, refl, sym, ap, ◌∙◌, subst}
use Rattle.std.specs.Prelude.{◌⊎◌, if◌then◌else◌, nat_le, map, Ok, Err, slice_get}
use Rattle.machine.specs.declared.record.OomGroup.{OomGroup}
use Rattle.machine.specs.declared.amount.Amount.{Amount}
use Rattle.machine.specs.declared.amount.Amount.TheVariants as amount
use Rattle.machine.specs.declared.config.Watermarks.{Watermarks}
use Rattle.machine.specs.declared.refusal.Refusal.TheVariants.{Stranger, NoEntry}
use Rattle.machine.specs.declared.command.Actor.{Actor}
use Rattle.machine.specs.declared.command.Actor.TheVariants as actor
use Rattle.machine.specs.declared.command.Command.{Command}
use Rattle.machine.specs.declared.command.Command.TheVariants as command
use Rattle.machine.specs.declared.command.Step.{Step as Line}
use Rattle.machine.specs.declared.command.Step.TheVariants.{Begin, Advance, Finish}
use Rattle.machine.specs.declared.command.Reply.{Reply as Told_by}
use Rattle.machine.specs.declared.command.Word.TheVariants as word
use Rattle.machine.specs.declared.command.Answer.{Answer}
use Rattle.machine.specs.declared.command.Answer.TheVariants as answer
use Rattle.machine.specs.declared.control.ControlFile.{ControlFile}
use Rattle.machine.specs.declared.control.ControlFile.TheVariants as file
use Rattle.machine.specs.Slots.{at}
use Rattle.machine.specs.Tree.{Node, find_group}
use Rattle.machine.specs.State.{Opening, free_frames}
use Rattle.machine.specs.Call.{Past, leaves_entry}
use Rattle.machine.specs.Control.{file_named, has_file, amount_of, flag_written}
use Rattle.book_events.specs.declared.event.Event.{Event}
use Rattle.book_events.specs.declared.event.Event.TheVariants as event
use Rattle.book_events.specs.Events.{event_of}
use Rattle.turns.specs.declared.turn.Kill.TheVariants as kill
use Rattle.turns.specs.declared.turn.Stage.{Stage}
use Rattle.turns.specs.declared.turn.Stage.TheVariants as stage
use Rattle.turns.specs.declared.turn.Pending.{Pending}
use Rattle.turns.specs.declared.turn.Pending.TheVariants as pending
use Rattle.turns.specs.declared.turn.Want.{Want}
use Rattle.turns.specs.declared.turn.Want.TheVariants as want
use Rattle.driver.specs.declared.seat.Outcome.{Outcome}
use Rattle.driver.specs.declared.seat.Outcome.TheVariants.{Goes, Kills, Ends}
use Rattle.driver.specs.declared.seat.Activity.{Activity}
use Rattle.driver.specs.declared.seat.Activity.TheVariants.{Rests, Begun, Does}
use Rattle.driver.specs.declared.seat.Seat.{Seat}
use Rattle.turns.specs.Turns.{access_event, wants, wants_pages, wants_balance, wants_watch, done, Judged, paths_of, judged, task_judged, shell_judged, daemon_judged, with_group, with_file, with_amount, with_flag, reads_file, writes_file, reclaims, answer_by}
use Rattle.driver.specs.Schedule.{number_of, is_of, activity_of, with_activity, World, wants_at, StageTurn, JudgedTurn, ActivityTurn, said_at, all_said, Goings, EndsIn, RunsOut, Begins, Stepped, Runs}
use Rattle.legal.proofs.Effects.{ends}

-- ---- seats

pub activity_of-own : (a who : Actor) (what : Activity) (seats : List Seat) → number_of a ≡ number_of who → activity_of a (with_activity who what seats) ≡ what
activity_of-own a who what [] e = rw (eq-eqb (number_of who) (number_of a) (sym e)) refl
activity_of-own a who what (seat ∷ seats) e = at (is_of who seat) refl (activity_of-own a who what seats e)
  where
    is_same : is_of a seat ≡ is_of who seat
    is_same = ap (λ n. number_of seat.actor == n) e

    at : (b : Bool) → is_of who seat ≡ b → activity_of a (with_activity who what seats) ≡ what
        → activity_of a (if b then record { actor = seat.actor; activity = what } ∷ seats else seat ∷ with_activity who what seats) ≡ what
    at true is ih = rw (is_same ∙ is) refl
    at false is ih = rw (is_same ∙ is) ih

pub activity_of-other : (a who : Actor) (what : Activity) (seats : List Seat) → (number_of a ≡ number_of who → ⊥) → activity_of a (with_activity who what seats) ≡ activity_of a seats
activity_of-other a who what [] e = rw (ne_eqb (number_of who) (number_of a) (λ same. e (sym same))) refl
activity_of-other a who what (seat ∷ seats) e = at (is_of who seat) refl (activity_of-other a who what seats e)
  where
    at : (b : Bool) → is_of who seat ≡ b → activity_of a (with_activity who what seats) ≡ activity_of a seats
        → activity_of a (if b then record { actor = seat.actor; activity = what } ∷ seats else seat ∷ with_activity who what seats) ≡ (if is_of a seat then seat.activity else activity_of a seats)
    at true is ih =
        let miss : is_of a seat ≡ false = ne_eqb (number_of seat.actor) (number_of a) (λ same. e (sym same ∙ eqb-true (number_of seat.actor) (number_of who) is)) in
        rw miss refl
    at false is ih = ap (λ rest. if is_of a seat then seat.activity else rest) ih

-- ---- tickets in hand

-- the number of the ticket that goes with it
abbrev pub number_pending : Event → Option ℕ
number_pending what = ends (event_of what)

abbrev pub number_wanted : Want → Option ℕ
number_wanted (want.Call remembers what) = number_pending what
number_wanted (want.Read access ticket) = Some ticket.number
number_wanted (want.Write on ticket) = Some ticket.number
number_wanted (want.End said) = None

-- what a command that stands there wants with both marks at 0, where a daemon asks nothing. With any other marks and free frames the ticket in hand is the same
abbrev pub in_hand : Stage → Want
in_hand stage = wants (record { low = 0; high = 0 }) 0 stage

-- it is the same that is wanted, or there is a ticket neither here nor there
pub data Alike (w other : Want) : Type 0 where
  Same : w ≡ other → Alike w other
  Ticketless : number_wanted w ≡ None → number_wanted other ≡ None → Alike w other

-- a daemon is done, or it takes a page for the root
module _ (P : Want → Type 0) (marks : Watermarks) (free : ℕ) (ends : P done) (takes : P (want.Call pending.Balance (event.ReclaimOne (record { 0 = 0 })))) where
  pub balance_either : P (wants_balance marks free)
  balance_either = by_test (nat_le marks.high free)
    where
      by_test : (b : Bool) → P (if b then done else want.Call pending.Balance (event.ReclaimOne (record { 0 = 0 })))
      by_test true = ends
      by_test false = takes

  pub watch_either : P (wants_watch marks free)
  watch_either = by_test (nat_le marks.low free)
    where
      by_test : (b : Bool) → P (if b then done else wants_balance marks free)
      by_test true = ends
      by_test false = balance_either

pub pages_none : (g left : ℕ) → number_wanted (wants_pages g left) ≡ None
pages_none g zero = refl
pages_none g (suc left) = refl

pub wants_alike : (past : Past) (stage : Stage) → Alike (wants_at past stage) (in_hand stage)
wants_alike past stage.Watch = Ticketless (watch_either (λ w. number_wanted w ≡ None) past.state.opening.watermarks (free_frames past.state) refl refl) refl
wants_alike past stage.Balance = Ticketless (balance_either (λ w. number_wanted w ≡ None) past.state.opening.watermarks (free_frames past.state) refl refl) refl
wants_alike past others = Same refl

number_alike : (w other : Want) → Alike w other → number_wanted w ≡ number_wanted other
number_alike w other (Same e) = ap number_wanted e
number_alike w other (Ticketless e f) = e ∙ sym f

pub wanted_in_hand : (past : Past) (stage : Stage) → number_wanted (wants_at past stage) ≡ number_wanted (in_hand stage)
wanted_in_hand past stage = number_alike (wants_at past stage) (in_hand stage) (wants_alike past stage)

abbrev pub number_at : Activity → Option ℕ
number_at Rests = None
number_at (Begun what) = None
number_at (Does stage) = number_wanted (in_hand stage)

-- no command is under way that has had a turn
abbrev pub is_idle : Activity → Bool
is_idle Rests = true
is_idle (Begun what) = true
is_idle (Does stage) = false

pub idle_none : (what : Activity) → is_idle what ≡ true → number_at what ≡ None
idle_none Rests e = refl
idle_none (Begun what) e = refl
idle_none (Does stage) e = cc

-- ---- answers

-- it is not that a ticket was none of its holder's
abbrev pub Fine : Answer → Type 0
Fine said = said ≡ answer.Word (word.Refused Stranger) → ⊥

abbrev pub FineOutcome : Outcome → Type 0
FineOutcome Goes = Unit {0}
FineOutcome (Kills t) = Unit {0}
FineOutcome (Ends said) = Fine said

abbrev pub AllFine : List Told_by → Type 0
AllFine [] = Unit {0}
AllFine (told ∷ later) = Fine told.answer × AllFine later

-- a command asks it: it merges no marks
abbrev pub OfCommand : Event → Type 0
OfCommand (event.MergeMarks word bits) = ⊥
OfCommand what = Unit {0}

pub of_command-leaves : (what : Event) → OfCommand what → leaves_entry (event_of what) ≡ true
of_command-leaves (event.MergeMarks word bits) is = absurd is
of_command-leaves what is = refl

-- whoever tries an access asks it
abbrev pub Tries : Pending → Event → Type 0
Tries (pending.Try access) what = what ≡ access_event access
Tries remembers what = Unit {0}

-- a turn that asks nothing says nothing of tickets, and none asks for marks to be merged
abbrev pub FineWant : Want → Type 0
FineWant (want.End said) = Fine said
FineWant (want.Call remembers what) = OfCommand what × Tries remembers what
FineWant wanted = Unit {0}

pages_fine : (g left : ℕ) → FineWant (wants_pages g left)
pages_fine g zero = λ e. cc
pages_fine g (suc left) = (tt, tt)

pub wants_fine : (past : Past) (stage : Stage) → FineWant (wants_at past stage)
wants_fine past stage.Watch = watch_either FineWant past.state.opening.watermarks (free_frames past.state) (λ e. cc) (tt, tt)
wants_fine past stage.Balance = balance_either FineWant past.state.opening.watermarks (free_frames past.state) (λ e. cc) (tt, tt)
wants_fine past (stage.Reclaim g left) = pages_fine g.0 left
wants_fine past (stage.Try access) = (tt, refl)
wants_fine past (stage.Read access ticket) = tt
wants_fine past (stage.Write on ticket) = tt
wants_fine past others = (tt, tt)

fine-append : (xs ys : List Told_by) → AllFine xs → AllFine ys → AllFine (xs ++ ys)
fine-append [] ys a b = b
fine-append (told ∷ xs) ys a b = (a.0, fine-append xs ys a.1 b)

fine_said : (who : Actor) (outcome : Outcome) → FineOutcome outcome → AllFine (said_at who outcome)
fine_said who Goes h = tt
fine_said who (Kills (kill.One t)) h = (λ e. cc, tt)
fine_said who (Kills (kill.Group victim tasks)) h = (λ e. cc, tt)
fine_said who (Ends said) h = (h, tt)

pub fine_at : (answers : List Told_by) (k : ℕ) (told : Told_by) → AllFine answers → slice_get answers k ≡ Some told → Fine told.answer
fine_at [] k told h e = cc
fine_at (first ∷ later) zero told h e = subst (λ (t : Told_by). Fine t.answer) (same e) h.0
  where
    same : Some first ≡ Some told → first ≡ told
    same e = cc
fine_at (first ∷ later) (suc k) told h e = fine_at later k told h.1 e

-- ---- first turns

-- a command's first turn has no ticket, and its refusal is not that of a stranger
abbrev pub Plain : Judged → Type 0
Plain (Ok stage) = number_wanted (in_hand stage) ≡ None
Plain (Err why) = why ≡ Stranger → ⊥

pub judged-plain : (opening : Opening) (tree : List Node) (who : Actor) (what : Command) → Plain (judged opening tree who what)
judged-plain opening tree who what = by_actor who
  where
    by_group : (found : Option ℕ) (next : ℕ → Judged) → ((g : ℕ) → Plain (next g)) → Plain (with_group found next)
    by_group None next h = λ e. cc
    by_group (Some g) next h = h g

    by_has : (b : Bool) (next : Judged) → Plain next → Plain (if b then next else Err NoEntry)
    by_has true next h = h
    by_has false next h = λ e. cc

    by_file : (g : ℕ) (found : Option ControlFile) (next : ControlFile → Judged) → ((f : ControlFile) → Plain (next f)) → Plain (with_file g found next)
    by_file g None next h = λ e. cc
    by_file g (Some f) next h = by_has (has_file g f) (next f) (h f)

    by_amount : (found : Option Amount) (next : Amount → Judged) → ((amount : Amount) → Plain (next amount)) → Plain (with_amount found next)
    by_amount None next h = λ e. cc
    by_amount (Some amount) next h = h amount

    by_flag : (found : Option OomGroup) (next : OomGroup → Judged) → ((flag : OomGroup) → Plain (next flag)) → Plain (with_flag found next)
    by_flag None next h = λ e. cc
    by_flag (Some flag) next h = h flag

    reads : (g : ℕ) (f : ControlFile) → Plain (reads_file g f)
    reads g file.Current = refl
    reads g file.Max = refl
    reads g (file.Guard guard) = refl
    reads g file.OomGroup = refl
    reads g file.Events = refl
    reads g file.EventsLocal = refl
    reads g file.Stat = refl
    reads g file.Reclaim = λ e. cc

    reclaimed : (g : ℕ) (amount : Amount) → Plain (reclaims g amount)
    reclaimed g amount.Max = λ e. cc
    reclaimed g (amount.Pages n) = pages_none g n

    writes : (g : ℕ) (text : List ℕ) (f : ControlFile) → Plain (writes_file opening g text f)
    writes g text file.Current = λ e. cc
    writes g text file.Events = λ e. cc
    writes g text file.EventsLocal = λ e. cc
    writes g text file.Stat = λ e. cc
    writes g text file.Max = by_amount (amount_of opening.page_size text) _ (λ amount. refl)
    writes g text (file.Guard guard) = by_amount (amount_of opening.page_size text) _ (λ amount. refl)
    writes g text file.OomGroup = by_flag (flag_written opening.placement text) _ (λ flag. refl)
    writes g text file.Reclaim = by_amount (amount_of opening.page_size text) _ (reclaimed g)

    by_shell : (what : Command) (found : List (Option ℕ)) → Plain (shell_judged opening what found)
    by_shell (command.Access place op) found = λ e. cc
    by_shell (command.Fork child) found = λ e. cc
    by_shell (command.Free page) found = λ e. cc
    by_shell command.Exit found = λ e. cc
    by_shell command.Daemon found = λ e. cc
    by_shell (command.Group path) found = refl
    by_shell (command.Rmdir path) found = by_group (at found 0) _ (λ g. refl)
    by_shell (command.Task t path) found = by_group (at found 0) _ (λ g. refl)
    by_shell (command.Attach t path) found = by_group (at found 0) _ (λ g. refl)
    by_shell (command.Set path name text) found = by_group (at found 0) _ (λ g. by_file g (file_named name) _ (writes g text))
    by_shell (command.Cat path name) found = by_group (at found 0) _ (λ g. by_file g (file_named name) _ (reads g))
    by_shell (command.Protection guard target path) found = by_group (at found 0) _ (λ t. by_group (at found 1) _ (λ g. refl))

    by_daemon : (what : Command) → Plain (daemon_judged what)
    by_daemon command.Daemon = refl
    by_daemon others = λ e. cc

    by_task : (t : ℕ) (what : Command) → Plain (task_judged t what)
    by_task t (command.Access place op) = refl
    by_task t (command.Fork child) = refl
    by_task t (command.Free page) = refl
    by_task t command.Exit = refl
    by_task t others = λ e. cc

    by_actor : (who : Actor) → Plain (judged opening tree who what)
    by_actor (actor.Task t) = by_task t what
    by_actor actor.Shell = by_shell what (map (find_group tree) (paths_of actor.Shell what))
    by_actor actor.Control = by_shell what (map (find_group tree) (paths_of actor.Control what))
    by_actor actor.Daemon = by_daemon what

-- ---- runs

-- the actor is at this; or its command has had no turn, and this asks for no ticket
abbrev pub IsAt : World → Actor → Stage → Type 0
IsAt w who stage = (activity_of who w.seats ≡ Does stage) ⊎ (is_idle (activity_of who w.seats) ≡ true) × (number_wanted (in_hand stage) ≡ None)

module _ (P : World → Type 0)
    (rests : (w : World) (who : Actor) (what : Activity) → is_idle (activity_of who w.seats) ≡ true → is_idle what ≡ true → P w → P (record w { seats = with_activity who what w.seats }))
    (turns : (old new : World) (who : Actor) (stage : Stage) (outcome : Outcome) → IsAt old who stage → StageTurn old who stage outcome new → P old → P new × FineOutcome outcome) where
  same_world : (old new : World) → new ≡ old → P old → P new
  same_world old new e h = subst P (sym e) h

  judged_keeps : (old new : World) (who : Actor) (found : Judged) (outcome : Outcome) → is_idle (activity_of who old.seats) ≡ true → Plain found → JudgedTurn old who found outcome new → P old → P new × FineOutcome outcome
  judged_keeps old new who (Err why) outcome idle plain turn h =
      (same_world (record old { seats = with_activity who Rests old.seats }) new turn.1 (rests old who Rests idle refl h), subst FineOutcome (sym turn.0) (λ e. plain (cc)))
  judged_keeps old new who (Ok stage) outcome idle plain turn h = turns old new who stage outcome (inr (idle, plain)) turn h

  turn_keeps : (old new : World) (who : Actor) (at : Activity) (outcome : Outcome) → activity_of who old.seats ≡ at → ActivityTurn old who at outcome new → P old → P new × FineOutcome outcome
  turn_keeps old new who Rests outcome is turn h = (same_world old new turn.1 h, subst FineOutcome (sym turn.0) (λ e. cc))
  turn_keeps old new who (Begun what) outcome is turn h = judged_keeps old new who (judged old.past.state.opening old.past.state.tree who what) outcome (ap is_idle is) (judged-plain old.past.state.opening old.past.state.tree who what) turn h
  turn_keeps old new who (Does stage) outcome is turn h = turns old new who stage outcome (inl is) turn h

  goings_keep : (old new : World) (who : Actor) (outcomes : List Outcome) → Goings old who outcomes new → P old → P new × AllFine (all_said who outcomes)
  goings_keep old new who [] goes h = (same_world old new goes h, tt)
  goings_keep old new who (outcome ∷ outcomes) goes h =
      let first = turn_keeps old goes.0 who (activity_of who old.seats) outcome refl goes.1 h in
      let later = goings_keep goes.0 new who outcomes goes.3 first.0 in
      (later.0, fine-append (said_at who outcome) (all_said who outcomes) (fine_said who outcome first.1) later.1)

  finish_keeps : (most : ℕ) (mid new : World) (who : Actor) (earlier : List Outcome) (answers : List Told_by) → AllFine (all_said who earlier) → EndsIn most mid who earlier answers new ⊎ RunsOut most mid who earlier answers new → P mid
      → P new × AllFine answers
  finish_keeps most mid new who earlier answers fine (inl ended) h =
      let turn = turn_keeps mid new who (activity_of who mid.seats) ended.last refl ended.turn h in
      (turn.0, subst AllFine (sym ended.answers_are) (fine-append (all_said who earlier) (said_at who ended.last) fine (fine_said who ended.last turn.1)))
  finish_keeps most mid new who earlier answers fine (inr out) h =
      (same_world mid new out.stays h, subst AllFine (sym out.answers_are) (fine-append (all_said who earlier) (answer_by who (answer.Word word.TurnLimit)) fine (λ e. cc, tt)))

  begin_keeps : (old new : World) (who : Actor) (what : Command) (at : Activity) (answers : List Told_by) → activity_of who old.seats ≡ at → Begins old who what at answers new → P old → P new × AllFine answers
  begin_keeps old new who what Rests answers is begins h =
      (same_world (record old { seats = with_activity who (Begun what) old.seats }) new begins.1 (rests old who (Begun what) (ap is_idle is) refl h), subst AllFine (sym begins.0) tt)
  begin_keeps old new who what (Begun other) answers is begins h = (same_world old new begins.1 h, subst AllFine (sym begins.0) (λ e. cc, tt))
  begin_keeps old new who what (Does stage) answers is begins h = (same_world old new begins.1 h, subst AllFine (sym begins.0) (λ e. cc, tt))

  step_keeps : (old new : World) (line : Line) (answers : List Told_by) → Stepped old line answers new → P old → P new × AllFine answers
  step_keeps old new (Begin who what) answers step h = begin_keeps old new who what (activity_of who old.seats) answers refl step h
  step_keeps old new (Advance who) answers step h =
      let turn = turn_keeps old new who (activity_of who old.seats) step.0 refl step.1 h in (turn.0, subst AllFine (sym step.2) (fine_said who step.0 turn.1))
  step_keeps old new (Finish who) answers step h =
      let goes = goings_keep old step.1 who step.0 step.2 h in finish_keeps old.turns step.1 new who step.0 answers goes.1 step.3 goes.0

  pub runs_keep : (old new : World) (lines : List Line) (answers : List Told_by) → Runs old lines answers new → P old → P new × AllFine answers
  runs_keep old new [] answers runs h = (same_world old new runs.1 h, subst AllFine (sym runs.0) tt)
  runs_keep old new (line ∷ lines) answers runs h =
      let first = step_keeps old runs.2 line runs.0 runs.3 h in
      let later = runs_keep runs.2 new lines runs.1 runs.4 first.0 in
      (later.0, subst AllFine (sym runs.5) (fine-append runs.0 runs.1 first.1 later.1))
