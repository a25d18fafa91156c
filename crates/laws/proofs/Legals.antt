-- What a schedule does to the history: it stays legal.
use Rattle.std.proofs.Common.{ℕ, ◌≡◌, inl, inr, Bool, true, false, List, [], ◌∷◌, Option, Some, None, refl, sym, subst}
use Rattle.std.specs.Prelude.{◌⊎◌, MatchBool, Ok, Err}
use Rattle.machine.specs.declared.event.Event.{Event}
use Rattle.machine.specs.declared.event.Event.TheVariants as event
use Rattle.machine.specs.declared.refusal.Refusal.{Refusal}
use Rattle.machine.specs.declared.refusal.Refusal.TheVariants.{Stranger, TraceFull}
use Rattle.machine.specs.declared.reply.Reply.{Reply}
use Rattle.machine.specs.declared.reply.Reply.TheVariants as reply
use Rattle.machine.specs.declared.command.Actor.{Actor}
use Rattle.machine.specs.declared.command.Command.{Command}
use Rattle.machine.specs.declared.command.Step.{Step as Line}
use Rattle.machine.specs.declared.command.Step.TheVariants.{Begin, Advance, Finish}
use Rattle.machine.specs.declared.command.Reply.{Reply as Told_by}
use Rattle.turns.specs.declared.turn.Stage.{Stage}
use Rattle.driver.specs.declared.seat.Outcome.{Outcome}
use Rattle.turns.specs.declared.turn.Want.{Want}
use Rattle.turns.specs.declared.turn.Want.TheVariants as want
use Rattle.turns.specs.declared.turn.Transition.{Transition}
use Rattle.block_store.specs.Device.{Disk}
use Rattle.book_events.specs.Events.{event_of, reply_of}
use Rattle.driver.specs.declared.seat.Activity.{Activity}
use Rattle.driver.specs.declared.seat.Activity.TheVariants.{Rests, Begun, Does}
use Rattle.machine.specs.State.{Opening, opening_of}
use Rattle.machine.specs.Refusals.{refusal}
use Rattle.machine.specs.Call.{Past, Caller, knows_pass, Refuses, Answered, JudgedBy, Called, is_trace_full}
use Rattle.machine.specs.Legal.{Legal}
use Rattle.turns.specs.Turns.{Judged, judged}
use Rattle.driver.specs.Schedule.{World, WantTurn, wants_at, first_world, activity_of, StageTurn, JudgedTurn, ActivityTurn, Goings, EndsIn, RunsOut, Begins, Stepped, Runs}
use Rattle.driver.proofs.MarkLemmas.{marks-stay}
use Rattle.laws.specs.Laws.{RunsAreLegal}

module _ (opening : Opening) where
  abbrev pub IsLegal : Past → Type 0
  IsLegal past = Legal opening past.history past.state

  legal-same : (old new : Past) → new ≡ old → IsLegal old → IsLegal new
  legal-same old new e h = subst (λ (p : Past). Legal opening p.history p.state) (sym e) h

  legal-world : (old new : World) → new ≡ old → IsLegal old.past → IsLegal new.past
  legal-world old new e h = subst (λ (w : World). Legal opening w.past.history w.past.state) (sym e) h

  legal-served : (old new : Past) (caller : Caller) (what : Event) (answer : Reply) → knows_pass old.state old.history caller what ≡ true → refusal old.state what ≡ None → is_trace_full old what ≡ false
      → Answered old caller what answer new → IsLegal old → IsLegal new
  legal-served old new caller what (reply.Refused why) known none room h legal = legal-same old new h.2 legal
  legal-served old new caller (event.MergeMarks word bits) reply.Ok known none room h legal = rw (h.history, h.steps) legal
  legal-served old new caller (event.MergeMarks word bits) answer known none room h legal = absurd h.steps
  legal-served old new caller what answer known none room h legal = rw h.history (old.state, legal, record { kept = refl; known = known; unrefused = none; room = room; steps = h.steps })

  pub legal-called : (old new : Past) (caller : Caller) (what : Event) (answer : Reply) → Called old caller what answer new → IsLegal old → IsLegal new
  legal-called old new caller what answer called legal = by_ticket (knows_pass old.state old.history caller what) refl called
    where
      by_room : (full : Bool) → knows_pass old.state old.history caller what ≡ true → is_trace_full old what ≡ full → refusal old.state what ≡ None
          → MatchBool full (Refuses old TraceFull answer new) (Answered old caller what answer new) → IsLegal new
      by_room true known is none h = legal-same old new h.1 legal
      by_room false known is none h = legal-served old new caller what answer known none is h legal

      by_cause : (cause : Option Refusal) → knows_pass old.state old.history caller what ≡ true → refusal old.state what ≡ cause → JudgedBy old caller what cause answer new → IsLegal new
      by_cause (Some why) known is h = legal-same old new h.1 legal
      by_cause None known is h = by_room (is_trace_full old what) known refl is h

      by_ticket : (knows : Bool) → knows_pass old.state old.history caller what ≡ knows
          → MatchBool knows (JudgedBy old caller what (refusal old.state what) answer new) (Refuses old Stranger answer new) → IsLegal new
      by_ticket true known h = by_cause (refusal old.state what) known refl h
      by_ticket false known h = legal-same old new h.1 legal

  -- a device call leaves the past as it was
  pub legal-want : (caller : Caller) (past past' : Past) (disk disk' : Disk) (wanted : Want) (transition : Transition) → WantTurn caller past disk wanted transition past' disk' → IsLegal past → IsLegal past'
  legal-want caller past past' disk disk' (want.Call remembers what) transition turn legal =
      let asks = turn.0 in
      let stays = marks-stay _ caller asks.mid past' (reply_of asks.said) asks.marks in
      rw (stays.history, stays.state) (legal-called past asks.mid caller (event_of what) (reply_of asks.said) asks.called legal)
  legal-want caller past past' disk disk' (want.Read access ticket) transition turn legal = legal-same past past' turn.1 legal
  legal-want caller past past' disk disk' (want.Write on ticket) transition turn legal = legal-same past past' turn.1 legal
  legal-want caller past past' disk disk' (want.End said) transition turn legal = legal-same past past' turn.1 legal

  legal-stage : (old new : World) (who : Actor) (stage : Stage) (outcome : Outcome) → StageTurn old who stage outcome new → IsLegal old.past → IsLegal new.past
  legal-stage old new who stage outcome turn legal = legal-want old.caller old.past new.past old.disk new.disk (wants_at old.past stage) turn.transition turn.turns legal

  legal-judged : (old new : World) (who : Actor) (found : Judged) (outcome : Outcome) → JudgedTurn old who found outcome new → IsLegal old.past → IsLegal new.past
  legal-judged old new who (Err why) outcome turn legal = subst (λ (w : World). Legal opening w.past.history w.past.state) (sym turn.1) legal
  legal-judged old new who (Ok stage) outcome turn legal = legal-stage old new who stage outcome turn legal

  legal-turn : (old new : World) (who : Actor) (what : Activity) (outcome : Outcome) → ActivityTurn old who what outcome new → IsLegal old.past → IsLegal new.past
  legal-turn old new who Rests outcome turn legal = legal-world old new turn.1 legal
  legal-turn old new who (Begun what) outcome turn legal = legal-judged old new who (judged old.past.state.opening old.past.state.tree who what) outcome turn legal
  legal-turn old new who (Does stage) outcome turn legal = legal-stage old new who stage outcome turn legal

  legal-goings : (old new : World) (who : Actor) (outcomes : List Outcome) → Goings old who outcomes new → IsLegal old.past → IsLegal new.past
  legal-goings old new who [] goes legal = legal-world old new goes legal
  legal-goings old new who (outcome ∷ outcomes) goes legal = legal-goings goes.0 new who outcomes goes.3 (legal-turn old goes.0 who (activity_of who old.seats) outcome goes.1 legal)

  legal-finish : (turns : ℕ) (mid new : World) (who : Actor) (earlier : List Outcome) (answers : List Told_by) → EndsIn turns mid who earlier answers new ⊎ RunsOut turns mid who earlier answers new → IsLegal mid.past → IsLegal new.past
  legal-finish turns mid new who earlier answers (inl ends) legal = legal-turn mid new who (activity_of who mid.seats) ends.last ends.turn legal
  legal-finish turns mid new who earlier answers (inr out) legal = legal-world mid new out.stays legal

  legal-begin : (old new : World) (who : Actor) (what : Command) (at : Activity) (answers : List Told_by) → Begins old who what at answers new → IsLegal old.past → IsLegal new.past
  legal-begin old new who what Rests answers h legal = subst (λ (w : World). Legal opening w.past.history w.past.state) (sym h.1) legal
  legal-begin old new who what (Begun other) answers h legal = legal-world old new h.1 legal
  legal-begin old new who what (Does stage) answers h legal = legal-world old new h.1 legal

  legal-step : (old new : World) (line : Line) (answers : List Told_by) → Stepped old line answers new → IsLegal old.past → IsLegal new.past
  legal-step old new (Begin who what) answers h legal = legal-begin old new who what (activity_of who old.seats) answers h legal
  legal-step old new (Advance who) answers h legal = legal-turn old new who (activity_of who old.seats) h.0 h.1 legal
  legal-step old new (Finish who) answers h legal = legal-finish old.turns h.1 new who h.0 answers h.3 (legal-goings old h.1 who h.0 h.2 legal)

  legal-runs : (old new : World) (lines : List Line) (answers : List Told_by) → Runs old lines answers new → IsLegal old.past → IsLegal new.past
  legal-runs old new [] answers h legal = legal-world old new h.1 legal
  legal-runs old new (line ∷ lines) answers h legal = legal-runs h.2 new lines h.1 h.4 (legal-step old h.2 line h.0 h.3 legal)

pub runs_are_legal : RunsAreLegal
runs_are_legal config before lines answers end runs = legal-runs (opening_of config) (first_world config before) end lines answers runs refl
