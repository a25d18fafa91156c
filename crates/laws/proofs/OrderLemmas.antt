-- In which order pages leave, in runs: the lists are right after every run, and so the page that is taken next is the one that they give.
use Rattle.std.proofs.Common.{◌≡◌, ◌/◌, true, List, Some, sym, subst, Bool, false}
use Rattle.machine.specs.declared.event.Event.TheVariants as event
use Rattle.machine.specs.declared.reply.Reply.{Reply}
use Rattle.machine.specs.declared.reply.Reply.TheVariants as reply
use Rattle.machine.specs.declared.config.Config.{Config}
use Rattle.machine.specs.declared.command.Actor.{Actor}
use Rattle.machine.specs.declared.command.Step.{Step as Line}
use Rattle.machine.specs.declared.command.Reply.{Reply as Told_by}
use Rattle.machine.specs.State.{Opening, opening_of}
use Rattle.machine.specs.Call.{Past, Caller}
use Rattle.block_store.specs.Device.{Disk}
use Rattle.book_events.specs.Events.{event_of, reply_of}
use Rattle.driver.specs.declared.seat.Activity.{Activity}
use Rattle.turns.specs.declared.turn.Stage.{Stage}
use Rattle.driver.specs.declared.seat.Outcome.{Outcome}
use Rattle.turns.specs.declared.turn.Transition.{Transition}
use Rattle.turns.specs.declared.turn.Want.{Want}
use Rattle.turns.specs.declared.turn.Want.TheVariants as want
use Rattle.driver.specs.Schedule.{World, first_world, activity_of, with_activity, MarksAfter, WantTurn, wants_at, StageTurn, Runs}
use Rattle.driver.proofs.Keeps.{is_idle, FineOutcome, IsAt, runs_keep}
use Rattle.driver.proofs.Tickets.{Tickets, tickets_rest, tickets_turn, tickets_first}
use Rattle.laws.specs.Laws.{HeldPagesAreListed, GenerationsHold, GroupsHaveCursors, PagesLeaveInOrder, IdleIsLeftAlone, MarkedPagesStay}
use Rattle.laws.proofs.Legals.{IsLegal, legal-called}
use Rattle.laws.proofs.CallLemmas.{IsOrdered, ordered-first, ordered-called, called_leaves, called_stays, called_idle}

-- ---- runs

module _ (opening : Opening) where
  pub record Ordered (w : World) : Type 0 where
    pub tickets : Tickets opening w
    pub order : IsOrdered w.past

  ordered_rest : (w : World) (who : Actor) (what : Activity) → is_idle (activity_of who w.seats) ≡ true → is_idle what ≡ true → Ordered w → Ordered (record w { seats = with_activity who what w.seats })
  ordered_rest w who what was idle h = record { tickets = tickets_rest opening w who what was idle h.tickets; order = h.order }

  -- a page that was hit is marked, and the lists are right still
  marks-ordered : (marks : Bool) (caller : Caller) (mid new : Past) (said : Reply) → MarksAfter marks caller mid said new → IsLegal opening new → IsOrdered mid → IsOrdered new
  marks-ordered true caller mid new (reply.Done byte (Some frame)) h legal was = ordered-called opening mid new caller (event.MergeMarks (frame.0 / 64) h.bits) reply.Ok legal h.merged was
  marks-ordered false caller mid new (reply.Done byte (Some frame)) h legal was = subst IsOrdered (sym h) was
  marks-ordered marks caller mid new said h legal was = subst IsOrdered (sym h) was

  want_ordered : (caller : Caller) (past past' : Past) (disk disk' : Disk) (wanted : Want) (transition : Transition) → WantTurn caller past disk wanted transition past' disk' → IsLegal opening past → IsLegal opening past' → IsOrdered past → IsOrdered past'
  want_ordered caller past past' disk disk' (want.Call remembers what) transition turn before legal h =
      let asks = turn.0 in
      marks-ordered _ caller asks.mid past' (reply_of asks.said) asks.marks legal
      (ordered-called opening past asks.mid caller (event_of what) (reply_of asks.said) (legal-called opening past asks.mid caller (event_of what) (reply_of asks.said) asks.called before) asks.called h)
  want_ordered caller past past' disk disk' (want.Read access ticket) transition turn before legal h = subst IsOrdered (sym turn.1) h
  want_ordered caller past past' disk disk' (want.Write on ticket) transition turn before legal h = subst IsOrdered (sym turn.1) h
  want_ordered caller past past' disk disk' (want.End said) transition turn before legal h = subst IsOrdered (sym turn.1) h

  ordered_turn : (old new : World) (who : Actor) (now : Stage) (outcome : Outcome) → IsAt old who now → StageTurn old who now outcome new → Ordered old → Ordered new × FineOutcome outcome
  ordered_turn old new who now outcome at turn h =
      let ticketed = tickets_turn opening old new who now outcome at turn h.tickets in
      (record { tickets = ticketed.0; order = want_ordered old.caller old.past new.past old.disk new.disk (wants_at old.past now) turn.transition turn.turns h.tickets.legal ticketed.0.legal h.order }, ticketed.1)

ordered_first : (config : Config) (disk : Disk) → Ordered (opening_of config) (first_world config disk)
ordered_first config disk = record { tickets = tickets_first config disk; order = ordered-first (opening_of config) }

module _ (config : Config) (before : Disk) (lines : List Line) (answers : List Told_by) (end : World) (runs : Runs (first_world config before) lines answers end) where
  pub runs_ordered : Ordered (opening_of config) end
  runs_ordered = (runs_keep (Ordered (opening_of config)) (ordered_rest (opening_of config)) (ordered_turn (opening_of config)) (first_world config before) end lines answers runs (ordered_first config before)).0

-- ---- what a run leads to

pub held_pages_are_listed : HeldPagesAreListed
held_pages_are_listed config before lines answers end runs = let h = (runs_ordered config before lines answers end runs).order in (h.listed, λ g. (h.sound g).distinct)

pub generations_hold : GenerationsHold
generations_hold config before lines answers end runs = let h = (runs_ordered config before lines answers end runs).order in record { sound = h.sound; groups = h.groups; marks = h.marks }

pub groups_have_cursors : GroupsHaveCursors
groups_have_cursors config before lines answers end runs = (runs_ordered config before lines answers end runs).order.cursors

-- ---- and the next call

pub pages_leave_in_order : PagesLeaveInOrder
pages_leave_in_order config before lines answers end runs after caller what answer target took called =
    let h = runs_ordered config before lines answers end runs in called_leaves (opening_of config) end.past after caller what answer target took called h.tickets.legal h.order

pub idle_is_left_alone : IdleIsLeftAlone
idle_is_left_alone config before lines answers end runs after caller what answer target took called =
    let h = runs_ordered config before lines answers end runs in called_idle (opening_of config) end.past after caller what answer target took called h.tickets.legal h.order

pub marked_pages_stay : MarkedPagesStay
marked_pages_stay config before lines answers end runs after caller what answer target took called =
    let h = runs_ordered config before lines answers end runs in called_stays (opening_of config) end.past after caller what answer target took called h.tickets.legal h.order
