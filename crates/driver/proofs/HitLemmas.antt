-- A frame that was hit is one of the opening's, and its mark stands among those of its word.
use Rattle.std.proofs.Common.{◌≡◌, ℕ, ◌<◌, true, Some, eq-eqb, refl, ap, ◌∙◌}
use Rattle.machine.specs.declared.event.Event.TheVariants as plain
use Rattle.machine.specs.declared.event.Op.{Op}
use Rattle.machine.specs.declared.event.Place.{Place}
use Rattle.machine.specs.declared.id.FrameId.{FrameId}
use Rattle.machine.specs.declared.id.TaskId.{TaskId}
use Rattle.machine.specs.declared.reply.Reply.TheVariants as answer
use Rattle.machine.specs.Slots.{there_and}
use Rattle.machine.specs.Pages.{frame_at, is_number, has_this_frame, is_frame_taken}
use Rattle.machine.specs.Call.{Past, Caller, leaves_entry, Called}
use Rattle.book_events.specs.declared.event.Event.{Event}
use Rattle.book_events.specs.declared.event.Event.TheVariants as event
use Rattle.book_events.specs.declared.event.Reply.{Reply}
use Rattle.book_events.specs.declared.event.Reply.TheVariants as said
use Rattle.book_events.specs.Events.{event_of, reply_of}
use Rattle.book_events.specs.Replies.{Replies}
use Rattle.legal.proofs.StepLemmas.{access-hits}
use Rattle.driver.specs.Hits.{HitsWithin}
use Rattle.turns.specs.Tickets.{OwnEvent}
use Rattle.driver.proofs.CallCases.{Comes, ByRefusal, ByEntry, called_comes}
use Rattle.driver.proofs.Tickets.{any_there-at}

-- an event of a command leaves an entry
pub own-leaves : (worker blocks : ℕ) (what : Event) → OwnEvent worker blocks what → leaves_entry (event_of what) ≡ true
own-leaves worker blocks (event.MergeMarks word bits) own = absurd own
own-leaves worker blocks what own = refl

module _ (old new : Past) (caller : Caller) (frames : ℕ) (framed : (f : ℕ) → is_frame_taken new.state.pages f ≡ true → f < frames) where
  hit_within : (t : TaskId) (place : Place) (op : Op) (byte : ℕ) (frame : FrameId) → Called old caller (plain.Access t place op) (answer.Done byte (Some frame)) new → frame.0 < frames
  hit_within t place op byte frame called = by_comes (called_comes old new caller (plain.Access t place op) (answer.Done byte (Some frame)) refl refl called)
    where
      by_comes : Comes old caller (plain.Access t place op) (answer.Done byte (Some frame)) new → frame.0 < frames
      by_comes (ByRefusal still) = absurd (let is = still.refused in cc)
      by_comes (ByEntry went) =
          let hit = access-hits old.state new.state t place op byte frame went.answers.steps in
          framed frame.0 (any_there-at (has_this_frame frame.0) new.state.pages hit.p (ap (there_and (has_this_frame frame.0)) hit.there ∙ ap (λ r. is_number (frame_at r) frame.0) hit.stands ∙ eq-eqb frame.0 frame.0 refl))

  pub hits_within : (what : Event) (answered : Reply) → Replies what answered → Called old caller (event_of what) (reply_of answered) new → HitsWithin frames answered
  hits_within (event.Access t place op) (said.Done byte (Some frame)) r called = hit_within t place op byte frame called
  hits_within what (said.Done byte (Some frame)) r called = absurd r
  hits_within what answered r called = tt
