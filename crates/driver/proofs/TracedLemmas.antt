-- What giving up transfers adds to a history.
use Rattle.std.specs.Prelude.{MatchBool}
use Rattle.std.proofs.Common.{◌≡◌, ℕ, Bool, true, false, List, [], ◌∷◌, ◌++◌, Option, Some, None, refl, sym, ap, ◌∙◌, subst, append_assoc}
use Rattle.machine.specs.declared.entry.Entry.{Entry}
use Rattle.machine.specs.declared.event.Event.{Event}
use Rattle.machine.specs.declared.event.Event.TheVariants as event
use Rattle.machine.specs.declared.reply.Reply.{Reply}
use Rattle.machine.specs.declared.reply.Reply.TheVariants as reply
use Rattle.machine.specs.declared.refusal.Refusal.{Refusal}
use Rattle.machine.specs.declared.refusal.Refusal.TheVariants.{Stranger, TraceFull}
use Rattle.machine.specs.History.{Spot, IsHonest, Honest}
use Rattle.machine.specs.Refusals.{refusal}
use Rattle.machine.specs.Call.{Past, Caller, knows_pass, is_trace_full, leaves_entry, entry_of, Refuses, Answered, JudgedBy, Called}
use Rattle.machine.proofs.EntryLemmas.{entries-one}
use Rattle.driver.specs.Traced.{is_given_up, AreGivenUp, GivesUp}

pub gives_up-none : (history : List Entry) → GivesUp history history
gives_up-none history = record { ends = []; given_up = tt; is = refl }

both-given : (xs ys : List Entry) → AreGivenUp xs → AreGivenUp ys → AreGivenUp (xs ++ ys)
both-given [] ys h k = k
both-given (x ∷ xs) ys h k = (h.0, both-given xs ys h.1 k)

pub gives_up-more : (old mid new : List Entry) → GivesUp old mid → GivesUp mid new → GivesUp old new
gives_up-more old mid new h k =
    record {
      ends = k.ends ++ h.ends;
      given_up = both-given k.ends h.ends k.given_up h.given_up;
      is = k.is ∙ ap (λ (es : List Entry). k.ends ++ es) h.is ∙ sym (append_assoc k.ends h.ends old);
    }

given_up-leaves : (what : Event) → is_given_up what ≡ true → leaves_entry what ≡ true
given_up-leaves (event.MergeMarks word bits) failed = cc
given_up-leaves what failed = refl

-- a call with the end of a transfer that failed adds that end, or nothing
module _ (old new : Past) (caller : Caller) (what : Event) (failed : is_given_up what ≡ true) where
  refused : (answer : Reply) (why : Refusal) → Refuses old why answer new → GivesUp old.history new.history
  refused answer why h = subst (λ (p : Past). GivesUp old.history p.history) (sym h.1) (gives_up-none old.history)

  answered : (answer : Reply) → Answered old caller what answer new → GivesUp old.history new.history
  answered (reply.Refused why) h = subst (λ (p : Past). GivesUp old.history p.history) (sym h.2) (gives_up-none old.history)
  answered answer h =
      record { ends = entry_of caller old.history what answer ∷ []; given_up = (failed, tt); is = h.history ∙ ap (λ (es : List Entry). es ++ old.history) (entries-one caller old.history what answer (given_up-leaves what failed)) }

  judged : (answer : Reply) (why : Option Refusal) → JudgedBy old caller what why answer new → GivesUp old.history new.history
  judged answer (Some why) h = refused answer why h
  judged answer None h = by_room (is_trace_full old what) h
    where
      by_room : (b : Bool) → MatchBool b (Refuses old TraceFull answer new) (Answered old caller what answer new) → GivesUp old.history new.history
      by_room true k = refused answer TraceFull k
      by_room false k = answered answer k

  pub called-given_up : (answer : Reply) → Called old caller what answer new → GivesUp old.history new.history
  called-given_up answer h = by_ticket (knows_pass old.state old.history caller what) h
    where
      by_ticket : (b : Bool) → MatchBool b (JudgedBy old caller what (refusal old.state what) answer new) (Refuses old Stranger answer new) → GivesUp old.history new.history
      by_ticket true k = judged answer (refusal old.state what) k
      by_ticket false k = refused answer Stranger k

no_arrival : (first : Spot → ℕ) (earlier : List Entry) (what : Event) → is_given_up what ≡ true → IsHonest first earlier what
no_arrival first earlier (event.Arrived ticket bytes) e = cc
no_arrival first earlier what e = tt

-- the end of a transfer that failed brings nothing
pub honest-given_up : (first : Spot → ℕ) (old new : List Entry) → GivesUp old new → Honest first old → Honest first new
honest-given_up first old new h honest = subst (Honest first) (sym h.is) (over h.ends h.given_up)
  where
    over : (ends : List Entry) → AreGivenUp ends → Honest first (ends ++ old)
    over [] k = honest
    over (entry ∷ earlier) k = (over earlier k.1, no_arrival first (earlier ++ old) entry.event k.0)
