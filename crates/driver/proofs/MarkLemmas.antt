-- What the merge of a hit's mark leaves as it was: all but the order in which pages are taken.
use Rattle.std.specs.Prelude.{MatchBool}
use Rattle.std.proofs.Common.{◌≡◌, ℕ, Bool, true, false, List, Some, ap, ◌∙◌}
use Rattle.machine.specs.declared.entry.Entry.{Entry}
use Rattle.machine.specs.declared.event.Event.TheVariants as event
use Rattle.machine.specs.declared.reply.Reply.{Reply}
use Rattle.machine.specs.declared.reply.Reply.TheVariants as reply
use Rattle.machine.specs.declared.refusal.Refusal.TheVariants.{TraceFull}
use Rattle.machine.specs.State.{State}
use Rattle.machine.specs.Call.{Past, Caller, is_trace_full, Refuses, Answered, Called}
use Rattle.driver.specs.Schedule.{MarksAfter}

pub record Stays (old new : Past) : Type 0 where
  pub state : new.state ≡ old.state
  pub history : new.history ≡ old.history
  pub passes : new.passes ≡ old.passes

pub merged-stays : (caller : Caller) (old new : Past) (word bits : ℕ) → Called old caller (event.MergeMarks word bits) reply.Ok new → Stays old new
merged-stays caller old new word bits called = by_room (is_trace_full old (event.MergeMarks word bits)) called
  where
    by_room : (full : Bool) → MatchBool full (Refuses old TraceFull reply.Ok new) (Answered old caller (event.MergeMarks word bits) reply.Ok new) → Stays old new
    by_room true h = absurd (let wrong : reply.Ok ≡ reply.Refused TraceFull = h.0 in cc)
    by_room false h = record { state = h.steps; history = h.history; passes = h.passes }

stays-same : (old new : Past) → new ≡ old → Stays old new
stays-same old new e = record { state = ap (λ (p : Past). p.state) e; history = ap (λ (p : Past). p.history) e; passes = ap (λ (p : Past). p.passes) e }

pub marks-stay : (marks : Bool) (caller : Caller) (old new : Past) (said : Reply) → MarksAfter marks caller old said new → Stays old new
marks-stay true caller old new (reply.Done byte (Some frame)) h = merged-stays caller old new _ h.bits h.merged
marks-stay false caller old new (reply.Done byte (Some frame)) h = stays-same old new h
marks-stay marks caller old new said h = stays-same old new h

-- and so it is the past that it was, with another order
pub stays-as : (old new : Past) → Stays old new → new ≡ record old { order = new.order }
stays-as old new h =
    ap (λ (x : State). let p : Past = record { state = x; history = new.history; order = new.order; passes = new.passes } in p) h.state
    ∙ ap (λ (x : List Entry). let p : Past = record { state = old.state; history = x; order = new.order; passes = new.passes } in p) h.history
    ∙ ap (λ (x : ℕ). let p : Past = record { state = old.state; history = old.history; order = new.order; passes = x } in p) h.passes
