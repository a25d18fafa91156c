-- What a task's end is to the plain machine.
use Rattle.std.proofs.Common.{◌≡◌, inl, inr, ℕ, ◌≤◌, ◌==◌, Bool, true, false, List, Some, None, refl, sym, ap, ◌∙◌, arith}
use Rattle.std.proofs.lemmas.Bool.{cases_Bool}
use Rattle.machine.specs.declared.record.Key.TheVariants as key
use Rattle.machine.specs.declared.record.Life.{Life}
use Rattle.machine.specs.declared.record.Life.TheVariants.{Live, Exited, Killed}
use Rattle.machine.specs.declared.record.Task.{Task}
use Rattle.machine.specs.declared.event.Cause.{Cause}
use Rattle.machine.specs.declared.event.Event.{Event}
use Rattle.machine.specs.declared.event.Event.TheVariants as event
use Rattle.machine.specs.declared.reply.Reply.{Reply}
use Rattle.machine.specs.declared.reply.Reply.TheVariants as reply
use Rattle.machine.specs.Slots.{there_and}
use Rattle.machine.specs.Pages.{in_transfer}
use Rattle.machine.specs.declared.record.EventCounts.{EventCounts}
use Rattle.machine.specs.Counts.{with_event, with_events}
use Rattle.machine.specs.Tasks.{task_at, is_live_life, is_live_task, lives, group_of_task}
use Rattle.machine.specs.State.{State}
use Rattle.machine.specs.Call.{need}
use Rattle.machine.specs.Reclaim.{stands, target_of, has_takeable, has_transfer}
use Rattle.machine.specs.Lists.{Youngest, Orders}
use Rattle.machine.specs.Victim.{is_candidate, IsVictim, kill_group_of, killed_with, counts_of_group_kill}
use Rattle.machine.specs.Step.{Step, KillStep, EndsTasks as EndsTasks_of}
use Rattle.machine.specs.History.{Spot, InTask, InFile}
use Rattle.machine.proofs.Values.{unlike}
use Rattle.page_state.specs.States.{StateOf}
use Rattle.book.specs.Decisions.{with_counted}
use Rattle.book_events.specs.Spots.{IsThere}
use Rattle.book.specs.Effects.{byte_at_spot, KnowsSpot, WasByte, ReadsByte}
use Rattle.page_state.specs.Changes.{EndsTask, EndsTasks}
use Rattle.page_state.proofs.DropLemmas.{moving_alike}
use Rattle.book.specs.MakesStep.{AgesByThree, MakesStep}
use Rattle.book.proofs.TouchLemmas.{drops-shown, drops-filed}
use Rattle.book.proofs.StepLemmas.{IsQuiet, was, order-on, flights-kept, live_step, relieve_step, relief-needs}

-- the events counted for the ends, if any, are counted before them
module _ (old new : StateOf) (counted : List EventCounts) (is_gone : ℕ → Bool) (life : Life) (dead : is_live_life life ≡ false) (ends : EndsTasks (with_counted old counted) new is_gone life) where
  -- whoever ended is no live one
  ended : (u : ℕ) → is_gone u ≡ true → lives new.tables.tasks u ≡ false
  ended u gone = ap (there_and is_live_task) (ends.ends u gone) ∙ dead

  stays_of : (u : ℕ) → lives new.tables.tasks u ≡ true → is_gone u ≡ false
  stays_of u alive = elim (cases_Bool (is_gone u)) [ inl gone ↦ absurd (unlike (lives new.tables.tasks u) alive (ended u gone)) | inr stays ↦ stays ]

  lived_before : (u : ℕ) → lives new.tables.tasks u ≡ true → lives old.tables.tasks u ≡ true
  lived_before u h = sym (ap (there_and is_live_task) (ends.stays u (stays_of u h))) ∙ h

  -- what another task shows stays, and so does what files have
  bytes_kept : (spot : Spot) → IsThere new.tables spot → KnowsSpot new spot → WasByte old spot (byte_at_spot new spot)
  bytes_kept (InTask u v o) alive known = drops-shown (with_counted old counted) new ends.drops u v o (ends.others u v (stays_of u alive)) (lived_before u alive) known
  bytes_kept (InFile f q o) there known = drops-filed (with_counted old counted) new ends.drops f q o known

  -- an end of tasks, whatever it was for
  pub makes_step-ended : (what : Event) (answer : Reply) → IsQuiet what answer → Step old.tables what answer new.tables → Orders old.tables old.order what answer new.tables new.order × AgesByThree old new → ReadsByte old what answer
      → 1 ≤ need old.tables what → MakesStep old what answer new
  makes_step-ended what answer quiet steps orders reads needs =
      record {
        steps = steps;
        orders = orders.0;
        ages = orders.1;
        reads = reads;
        bytes = λ spot there known. inr (was old what answer spot (byte_at_spot new spot) (quiet.says spot) (bytes_kept spot there known));
        flights = flights-kept old new answer ends.drops.flights;
        kept = (let same : in_transfer new.tables.pages ≡ in_transfer old.tables.pages = moving_alike (with_counted old counted) new ends.drops in omega (arith, same, needs));
        given = quiet.given;
        opening = ap (λ (s : State). s.opening) ends.tables;
      }

  -- what the machine's step says of it
  machine-ended : EndsTasks_of old.tables is_gone life counted new.tables
  machine-ended = record { none = ends.none; others = ends.others; pages = ends.drops.pages; ends = ends.ends; stays = ends.stays; state = ends.tables }

-- room is wanted for this cause, and nothing can be reclaimed for it
pub record IsStuck (s : State) (why : Cause) : Type 0 where
  pub wants : stands s why ≡ true
  pub untakeable : has_takeable s (target_of why) ≡ false
  pub settled : has_transfer s (target_of why) ≡ false

-- what a kill counts is counted, and then whoever dies ends
makes_step-killing : (old new : StateOf) (why : Cause) (counted : List EventCounts) (is_gone : ℕ → Bool) (answer : Reply) → IsStuck old.tables why → IsQuiet (event.Relieve why) answer → EndsTasks (with_counted old counted) new is_gone Killed
    → (EndsTasks_of old.tables is_gone Killed counted new.tables → KillStep old.tables (target_of why) answer new.tables)
    → Orders old.tables old.order (event.Relieve why) answer new.tables new.order × AgesByThree old new → ReadsByte old (event.Relieve why) answer → MakesStep old (event.Relieve why) answer new
makes_step-killing old new why counted is_gone answer stuck quiet ends kill orders reads =
    makes_step-ended old new counted is_gone Killed refl ends (event.Relieve why) answer quiet
    (relieve_step old.tables why _ _ stuck.wants stuck.untakeable stuck.settled (kill (machine-ended old new counted is_gone Killed refl ends))) orders reads (relief-needs old.tables why)

-- both events are counted, and then the task ends, alone
pub makes_step-kill : (old new : StateOf) (why : Cause) (t : ℕ) → IsStuck old.tables why → IsVictim old.tables.tree old.tables.tasks old.tables.page_tables (target_of why) (Some t)
    → kill_group_of old.tables.tree old.tables.flags old.tables.tasks (target_of why) t ≡ None
    → EndsTask (with_counted old (with_event (with_event old.tables.counted (target_of why) key.Oom) (group_of_task old.tables.tasks t) key.OomKill)) new t Killed
    → MakesStep old (event.Relieve why) (reply.KilledTask (record { 0 = t })) new
makes_step-kill old new why t stuck victim alone ends =
    makes_step-killing old new why _ _ (reply.KilledTask (record { 0 = t })) stuck (record { says = λ spot. refl; given = refl }) ends (λ ended. (victim, alone, ended))
    (order-on Youngest old old.order.held new refl ends.drops.held ends.drops.cursors) tt

-- all events are counted, and then all tasks of the group end
pub makes_step-kill_all : (old new : StateOf) (why : Cause) (victim h tasks : ℕ) → IsStuck old.tables why → IsVictim old.tables.tree old.tables.tasks old.tables.page_tables (target_of why) (Some victim)
    → kill_group_of old.tables.tree old.tables.flags old.tables.tasks (target_of why) victim ≡ Some h → tasks ≡ killed_with old.tables.tree old.tables.tasks h
    → EndsTasks (with_counted old (with_events old.tables.counted (counts_of_group_kill old.tables.opening.placement old.tables.tree old.tables.tasks (target_of why) victim h))) new (is_candidate old.tables.tree old.tables.tasks h) Killed
    → MakesStep old (event.Relieve why) (reply.KilledAll (record { 0 = victim }) (record { 0 = h }) tasks) new
makes_step-kill_all old new why victim h tasks stuck is_victim group many ends =
    makes_step-killing old new why _ _ (reply.KilledAll (record { 0 = victim }) (record { 0 = h }) tasks) stuck (record { says = λ spot. refl; given = refl }) ends (λ ended. (is_victim, group, many, ended))
    (order-on Youngest old old.order.held new refl ends.drops.held ends.drops.cursors) tt

pub makes_step-exit : (old new : StateOf) (t : ℕ) (task : Task) → task_at old.tables.tasks t ≡ Some task → task.life ≡ Live → EndsTask old new t Exited → MakesStep old (event.Exit (record { 0 = t })) reply.Ok new
makes_step-exit old new t task is living exits =
    makes_step-ended old new old.tables.counted (λ u. u == t) Exited refl exits (event.Exit (record { 0 = t })) reply.Ok (record { says = λ spot. refl; given = refl })
    (live_step old.tables _ task _ _ _ is living (refl, machine-ended old new old.tables.counted (λ u. u == t) Exited refl exits))
    (order-on Youngest old old.order.held new refl exits.drops.held exits.drops.cursors) tt (omega arith)
