-- Calls with a pass: which are strangers', and what the pass counts.
use Rattle.std.proofs.Common.{◌≡◌, ℕ, ◌+◌, ◌==◌, ◌&&◌, Bool, true, false, cond, List, [], ◌∷◌, ◌++◌, length, Option, None, Some, eq-eqb, refl, sym, ap, ◌∙◌, add-one, arith}
use Rattle.std.specs.Prelude.{MatchBool, nat_lt, not, ◌||◌}
use Rattle.std.proofs.lemmas.Bool.Decides.{nat_tests}
use Rattle.std.proofs.lemmas.List.Sums.{sum_by-append, sum_by-cons}
use Rattle.machine.proofs.SlotLemmas.{one_if}
use Rattle.machine.proofs.EntryLemmas.{entries-one}
use Rattle.machine.specs.declared.entry.Entry.{Entry}
use Rattle.machine.specs.declared.refusal.Refusal.{Refusal}
use Rattle.machine.specs.declared.refusal.Refusal.TheVariants.{Stranger, TraceFull, NoMemory}
use Rattle.machine.specs.declared.event.Event.{Event}
use Rattle.machine.specs.declared.event.Event.TheVariants as event
use Rattle.machine.specs.declared.reply.Reply.{Reply}
use Rattle.machine.specs.declared.reply.Reply.TheVariants as reply
use Rattle.machine.specs.History.{entries_by}
use Rattle.machine.specs.Refusals.{refusal}
use Rattle.machine.specs.Call.{Past, Caller, knows_pass, grows, is_trace_full, leaves_entry, entry_of, Refuses, Answers, Answered, JudgedBy, Called}
use Rattle.book_events.specs.declared.event.Reply.TheVariants as given
use Rattle.book.specs.declared.kept.Kept.{Kept}
use Rattle.book.specs.declared.kept.Asked.TheVariants.{Whole}
use Rattle.book.specs.MakesStep.{IsAsked, RepliesTo}
use Rattle.book.specs.Passes.{PassOf, asked_of, call_of, find_of, keeping, keeping_call, is_entry, count_of, is_current, may_ask, CalledWith}

-- ---- what is kept of an event

-- an event without a ticket is no arrival, and is kept as it is
pub asked-whole : (what : Event) → IsAsked what → asked_of what ≡ Whole what
asked-whole (event.Arrived ticket bytes) asked = absurd asked
asked-whole what asked = refl

-- each of them may be refused
pub replies-refused : (what : Event) (why : Refusal) → IsAsked what → RepliesTo what (given.Refused why)
replies-refused (event.Arrived ticket bytes) why asked = absurd asked
replies-refused (event.FetchFailed ticket) why asked = absurd asked
replies-refused (event.Left ticket) why asked = absurd asked
replies-refused (event.LeaveFailed ticket) why asked = absurd asked
replies-refused (event.MergeMarks word bits) why asked = absurd asked
replies-refused what why asked = tt

-- ---- the count

count-keeping : (kept : List Kept) (more : Kept) → count_of (kept ++ more ∷ []) ≡ count_of kept + one_if (is_entry more)
count-keeping kept more =
    let both = sum_by-append (λ (k : Kept). one_if (is_entry k)) kept (more ∷ []) in
    let last = sum_by-cons (λ (k : Kept). one_if (is_entry k)) more [] in
    omega (arith, both, last)

count-same : (kept : List Kept) (more : Kept) → is_entry more ≡ false → count_of (kept ++ more ∷ []) ≡ count_of kept
count-same kept more none = let all = count-keeping kept more in let no : one_if (is_entry more) ≡ 0 = ap one_if none in omega (arith, all, no)

count-more : (kept : List Kept) (more : Kept) → is_entry more ≡ true → count_of (kept ++ more ∷ []) ≡ count_of kept + 1
count-more kept more entry = let all = count-keeping kept more in let one : one_if (is_entry more) ≡ 1 = ap one_if entry in omega (arith, all, one)

-- the worker's entry is one more of its
own-more : (caller : Caller) (history : List Entry) (what : Event) (answer : Reply) → length (entries_by caller.worker (entry_of caller history what answer ∷ history)) ≡ length (entries_by caller.worker history) + 1
own-more caller history what answer =
    ap (λ (b : Bool). length (cond b (entry_of caller history what answer ∷ entries_by caller.worker history) (entries_by caller.worker history))) (eq-eqb caller.worker caller.worker refl) ∙ sym (add-one (length (entries_by caller.worker history)))

-- one more on both sides
both-more : (a b : ℕ) → (a + 1 == b + 1) ≡ (a == b)
both-more a b = grind (arith, nat_tests)

-- ---- a pass that was current is so after a call, and one that was not is not

module _ (old : Past) (pass : PassOf) (what : Event) (leaves : leaves_entry what ≡ true) (new : Past) where
  refused-on : (answer : Reply) (why : Refusal) → Refuses old why answer new → is_current new (keeping pass (call_of what answer)) ≡ is_current old pass
  refused-on answer why h =
      ap (λ (p : Past). is_current p (keeping pass (call_of what answer))) h.1
      ∙ ap (λ (a : Reply). is_current old (keeping pass (call_of what a))) h.0
      ∙ ap (λ (n : ℕ). nat_lt pass.caller.worker old.passes && (n == length (entries_by pass.caller.worker old.history))) (count-same pass.kept (call_of what (reply.Refused why)) refl)

  served-on : (answer : Reply) → is_entry (call_of what answer) ≡ true → Answers old pass.caller what answer new → is_current new (keeping pass (call_of what answer)) ≡ is_current old pass
  served-on answer entry h =
      ap (λ (n : ℕ). nat_lt pass.caller.worker n && (count_of (pass.kept ++ call_of what answer ∷ []) == length (entries_by pass.caller.worker new.history))) h.passes
      ∙ ap (λ (es : List Entry). nat_lt pass.caller.worker old.passes && (count_of (pass.kept ++ call_of what answer ∷ []) == length (entries_by pass.caller.worker es)))
      (h.history ∙ ap (λ (es : List Entry). es ++ old.history) (entries-one pass.caller old.history what answer leaves))
      ∙ ap (λ (n : ℕ). nat_lt pass.caller.worker old.passes && (count_of (pass.kept ++ call_of what answer ∷ []) == n)) (own-more pass.caller old.history what answer)
      ∙ ap (λ (n : ℕ). nat_lt pass.caller.worker old.passes && (n == length (entries_by pass.caller.worker old.history) + 1))
      (count-more pass.kept (call_of what answer) entry)
      ∙ ap (λ (b : Bool). nat_lt pass.caller.worker old.passes && b) (both-more (count_of pass.kept) (length (entries_by pass.caller.worker old.history)))

  answered-on : (answer : Reply) → Answered old pass.caller what answer new → is_current new (keeping pass (call_of what answer)) ≡ is_current old pass
  answered-on (reply.Refused why) h = refused-on (reply.Refused why) why (refl, h.2)
  answered-on answer h = served-on answer refl h

  judged-on : (answer : Reply) (why : Option Refusal) → JudgedBy old pass.caller what why answer new → is_current new (keeping pass (call_of what answer)) ≡ is_current old pass
  judged-on answer (Some why) h = refused-on answer why h
  judged-on answer None h = by_room (is_trace_full old what) h
    where
      by_room : (b : Bool) → MatchBool b (Refuses old TraceFull answer new) (Answered old pass.caller what answer new) → is_current new (keeping pass (call_of what answer)) ≡ is_current old pass
      by_room true k = refused-on answer TraceFull k
      by_room false k = answered-on answer k

  called-on : (answer : Reply) → Called old pass.caller what answer new → is_current new (keeping pass (call_of what answer)) ≡ is_current old pass
  called-on answer h = by_ticket (knows_pass old.state old.history pass.caller what) h
    where
      by_ticket : (b : Bool) → MatchBool b (JudgedBy old pass.caller what (refusal old.state what) answer new) (Refuses old Stranger answer new) → is_current new (keeping pass (call_of what answer)) ≡ is_current old pass
      by_ticket true k = judged-on answer (refusal old.state what) k
      by_ticket false k = refused-on answer Stranger k

  pub current-on : (answer : Reply) → CalledWith old pass what answer new → is_current new (keeping pass (call_of what answer)) ≡ is_current old pass
  current-on answer h = by_pass (may_ask old pass what) h
    where
      by_pass : (b : Bool) → MatchBool b (Called old pass.caller what answer new) (Refuses old Stranger answer new) → is_current new (keeping pass (call_of what answer)) ≡ is_current old pass
      by_pass true k = called-on answer k
      by_pass false k = refused-on answer Stranger k

-- a path that was looked for counts nothing
pub find-on : (past : Past) (pass : PassOf) (path : List ℕ) (g : Option ℕ) → is_current past (keeping pass (find_of path g)) ≡ is_current past pass
find-on past pass path g = ap (λ (n : ℕ). nat_lt pass.caller.worker past.passes && (n == length (entries_by pass.caller.worker past.history))) (count-same pass.kept (find_of path g) refl)

-- ---- calls

or_true : (b : Bool) → (b || true) ≡ true
or_true true = refl
or_true false = refl

-- with a current pass each event may be asked
pub may_ask-current : (past : Past) (pass : PassOf) (what : Event) → is_current past pass ≡ true → may_ask past pass what ≡ true
may_ask-current past pass what is = ap (λ (b : Bool). not (leaves_entry what) || b) is ∙ or_true (not (leaves_entry what))

-- an event without a ticket leaves an entry
pub asked-leaves : (what : Event) → IsAsked what → leaves_entry what ≡ true
asked-leaves (event.MergeMarks word bits) asked = absurd asked
asked-leaves what asked = refl

-- what is kept of an event that leaves an entry
pub keeping_call-kept : (pass : PassOf) (what : Event) (answer : Reply) → leaves_entry what ≡ true → keeping_call pass what answer ≡ keeping pass (call_of what answer)
keeping_call-kept pass (event.MergeMarks word bits) answer leaves = cc
keeping_call-kept pass what answer leaves = refl

pub called-current : (old : Past) (pass : PassOf) (what : Event) (answer : Reply) (new : Past) → is_current old pass ≡ true → Called old pass.caller what answer new → CalledWith old pass what answer new
called-current old pass what answer new is h = rw (may_ask-current old pass what is) h

pub called-stale : (old : Past) (pass : PassOf) (what : Event) → leaves_entry what ≡ true → is_current old pass ≡ false → CalledWith old pass what (reply.Refused Stranger) old
called-stale old pass what leaves is = rw (ap (λ (b : Bool). not b || is_current old pass) leaves ∙ is) (refl, refl)

-- where memory is wanted and refused
pub called-short : (old : Past) (caller : Caller) (what : Event) → knows_pass old.state old.history caller what ≡ true → refusal old.state what ≡ None → is_trace_full old what ≡ false → grows old.state what ≡ true
    → Called old caller what (reply.Refused NoMemory) old
called-short old caller what known none room grown = rw known (rw none (rw room (refl, grown, refl)))
