-- What a run leaves in its history, act by act.
use Rattle.std.proofs.Common.{◌≡◌, ℕ, ◌+◌, ◌<◌, ◌==◌, ◌&&◌, Bool, true, false, cond, List, [], ◌∷◌, ◌++◌, map, length, reverse, Option, Some, None, sym, refl, ap, ◌∙◌, arith, append-nil, eq-eqb}
use Rattle.std.specs.List.{filter}
use Rattle.std.specs.Prelude.{MatchBool, nat_lt}
use Rattle.std.proofs.lemmas.Bool.Decides.{nat_tests}
use Rattle.std.proofs.lemmas.List.{reverse-append, map-append, length-map}
use Rattle.std.proofs.lemmas.List.Elements.{filter-append}
use Rattle.std.proofs.lemmas.List.Sorted.{IsPermutation-reverse, sum_by-IsPermutation}
use Rattle.std.proofs.lemmas.List.Sums.{length-filter, sum_by-cons}
use Rattle.machine.specs.declared.event.Event.{Event}
use Rattle.machine.specs.declared.event.Event.TheVariants as event
use Rattle.machine.specs.declared.reply.Reply.{Reply}
use Rattle.machine.specs.declared.reply.Reply.TheVariants as reply
use Rattle.machine.specs.declared.refusal.Refusal.{Refusal}
use Rattle.machine.specs.declared.refusal.Refusal.TheVariants.{Stranger, TraceFull}
use Rattle.machine.specs.declared.entry.Entry.{Entry}
use Rattle.machine.specs.Refusals.{refusal}
use Rattle.machine.specs.State.{Opening}
use Rattle.machine.specs.History.{is_by, entries_by}
use Rattle.machine.specs.Call.{Past, Caller, knows_pass, is_trace_full, leaves_entry, entry_of, entries_of, Refuses, Answers, Answered, JudgedBy, Called}
use Rattle.machine.proofs.EntryLemmas.{entries-one}
use Rattle.legal.proofs.OpeningLemmas.{called_opening}
use Rattle.book.specs.declared.kept.Kept.{Kept}
use Rattle.book.specs.Passes.{PassOf, is_entry, count_of, is_current}
use Rattle.live.specs.declared.history.Exchange.{Exchange}
use Rattle.live.specs.declared.history.Exchange.TheVariants.{Call, Find}
use Rattle.live.specs.declared.history.Told.{Told}
use Rattle.live.specs.Exchanges.{kept_of, stands, entries_in, exchange_of}
use Rattle.live.specs.Told.{told, told_to}
use Rattle.live.specs.Rules.{weight_told}
use Rattle.live.specs.Matching.{told_of, answers_of}
use Rattle.live.specs.OneRun.{Act, Tells, Merges, GivesOut, Merged, Leads, told_in}

-- ---- the history after a call

abbrev Goes : Past → Caller → Event → Reply → Past → Type 0
Goes old caller what answer new = new.history ≡ cond (stands (Call what answer)) (entries_of caller old.history what answer ++ old.history) old.history

module _ (old : Past) (caller : Caller) (what : Event) (new : Past) where
  refused-goes : (answer : Reply) (why : Refusal) → Refuses old why answer new → Goes old caller what answer new
  refused-goes answer why h =
      ap (λ (p : Past). p.history) h.1
      ∙ sym (ap (λ (a : Reply). cond (stands (Call what a)) (entries_of caller old.history what a ++ old.history) old.history) h.0)

  served-goes : (answer : Reply) → stands (Call what answer) ≡ true → Answers old caller what answer new → Goes old caller what answer new
  served-goes answer entry h = h.history ∙ sym (ap (λ (b : Bool). cond b (entries_of caller old.history what answer ++ old.history) old.history) entry)

  answered-goes : (answer : Reply) → Answered old caller what answer new → Goes old caller what answer new
  answered-goes (reply.Refused why) h = refused-goes (reply.Refused why) why (refl, h.2)
  answered-goes answer h = served-goes answer refl h

  judged-goes : (answer : Reply) (why : Option Refusal) → JudgedBy old caller what why answer new → Goes old caller what answer new
  judged-goes answer (Some why) h = refused-goes answer why h
  judged-goes answer None h = by_room (is_trace_full old what) h
    where
      by_room : (b : Bool) → MatchBool b (Refuses old TraceFull answer new) (Answered old caller what answer new) → Goes old caller what answer new
      by_room true k = refused-goes answer TraceFull k
      by_room false k = answered-goes answer k

  called-goes : (answer : Reply) → Called old caller what answer new → Goes old caller what answer new
  called-goes answer h = by_ticket (knows_pass old.state old.history caller what) h
    where
      by_ticket : (b : Bool) → MatchBool b (JudgedBy old caller what (refusal old.state what) answer new) (Refuses old Stranger answer new) → Goes old caller what answer new
      by_ticket true k = judged-goes answer (refusal old.state what) k
      by_ticket false k = refused-goes answer Stranger k

  -- of an event that leaves an entry
  pub called-history : leaves_entry what ≡ true → (answer : Reply) → Called old caller what answer new → new.history ≡ cond (stands (Call what answer)) (entry_of caller old.history what answer ∷ old.history) old.history
  called-history leaves answer h =
      called-goes answer h
      ∙ ap (λ (es : List Entry). cond (stands (Call what answer)) (es ++ old.history) old.history) (entries-one caller old.history what answer leaves)

-- a merge of marks leaves none
pub merged-history : (old : Past) (word bits : ℕ) (new : Past) → Merged old word bits new → new.history ≡ old.history
merged-history old word bits new h = called-goes old h.0 (event.MergeMarks word bits) new reply.Ok h.1

-- ---- the opening

-- what the opening fixes stays
pub leads-opening : (opening : Opening) (acts : List Act) (past : Past) → Leads opening acts past → past.state.opening ≡ opening
leads-opening opening [] past h = ap (λ (p : Past). p.state.opening) h
leads-opening opening (Tells by (Call what said) ∷ acts) past h =
    called_opening h.0 past (record { worker = by }) what said h.2.1 ∙ leads-opening opening acts h.0 h.1
leads-opening opening (Tells by (Find path found) ∷ acts) past h = ap (λ (p : Past). p.state.opening) h.2.1 ∙ leads-opening opening acts h.0 h.1
leads-opening opening (Merges word bits ∷ acts) past h =
    called_opening h.0 past h.2.0 (event.MergeMarks word bits) reply.Ok h.2.1 ∙ leads-opening opening acts h.0 h.1
leads-opening opening (GivesOut ∷ acts) past h = ap (λ (p : Past). p.state.opening) h.2 ∙ leads-opening opening acts h.0 h.1

-- ---- what a worker was told

abbrev if_told : Bool → Exchange → List Exchange
if_told b k = cond b (k ∷ []) []

row-told : (worker : ℕ) (entry : Entry) (history : List Entry) → told_of worker (reverse (entry ∷ history)) ≡ told_of worker (reverse history) ++ if_told (entry.worker.0 == worker) (exchange_of entry)
row-told worker entry history =
    ap (told_of worker) (reverse-append (entry ∷ []) history)
    ∙ (ap (map exchange_of) (filter-append (is_by worker) (reverse history) (entry ∷ []))
    ∙ (map-append exchange_of (entries_by worker (reverse history)) (entries_by worker (entry ∷ []))
    ∙ ap (λ (l : List Exchange). told_of worker (reverse history) ++ l) (one (entry.worker.0 == worker))))
  where
    one : (b : Bool) → map exchange_of (cond b (entry ∷ []) []) ≡ if_told b (exchange_of entry)
    one true = refl
    one false = refl

-- and of that, what stands in the trace
row-answers : (worker by : ℕ) (k : Exchange) (log : List Told) → answers_of (told_to worker (told by k ∷ log)) ≡ answers_of (told_to worker log) ++ cond (by == worker) (if_told (stands k) k) []
row-answers worker by k log =
    filter-append stands (told_to worker log) (if_told (by == worker) k)
    ∙ ap (λ (l : List Exchange). answers_of (told_to worker log) ++ l) (one (by == worker))
  where
    one : (b : Bool) → filter stands (if_told b k) ≡ cond b (if_told (stands k) k) []
    one true = refl
    one false = refl

same-cond : {A : Type 0} (b : Bool) (x : A) → cond b x x ≡ x
same-cond true x = refl
same-cond false x = refl

-- nothing comes to the trace
quiet : (worker by : ℕ) (k : Exchange) (log : List Told) → stands k ≡ false → answers_of (told_to worker (told by k ∷ log)) ≡ answers_of (told_to worker log)
quiet worker by k log is =
    row-answers worker by k log
    ∙ (ap (λ (b : Bool). answers_of (told_to worker log) ++ cond (by == worker) (if_told b k) []) is
    ∙ (ap (λ (l : List Exchange). answers_of (told_to worker log) ++ l) (same-cond (by == worker) []) ∙ append-nil (answers_of (told_to worker log))))

step-told : (worker : ℕ) (caller : Caller) (what : Event) (answer : Reply) (old new : List Entry) (log : List Told) (b : Bool) → stands (Call what answer) ≡ b → new ≡ cond b (entry_of caller old what answer ∷ old) old
    → told_of worker (reverse old) ≡ answers_of (told_to worker log) → told_of worker (reverse new) ≡ answers_of (told_to worker (told caller.worker (Call what answer) ∷ log))
step-told worker caller what answer old new log true is goes before =
    let k = Call what answer in
    ap (λ (h : List Entry). told_of worker (reverse h)) goes
    ∙ (row-told worker (entry_of caller old what answer) old
    ∙ (ap (λ (l : List Exchange). l ++ if_told (caller.worker == worker) k) before
    ∙ sym (row-answers worker caller.worker k log ∙ ap (λ (t : Bool). answers_of (told_to worker log) ++ cond (caller.worker == worker) (if_told t k) []) is)))
step-told worker caller what answer old new log false is goes before =
    ap (λ (h : List Entry). told_of worker (reverse h)) goes ∙ (before ∙ sym (quiet worker caller.worker (Call what answer) log is))

-- in a run, the trace has of each worker what it was told that was no refusal and no path
pub told-trace : (opening : Opening) (acts : List Act) (past : Past) → Leads opening acts past → (worker : ℕ) → told_of worker (reverse past.history) ≡ answers_of (told_to worker (told_in acts))
told-trace opening [] past h worker = ap (λ (p : Past). told_of worker (reverse p.history)) h
told-trace opening (Tells by (Call what said) ∷ acts) past h worker =
    let before = h.0 in
    let caller : Caller = record { worker = by } in
    let goes = called-history before caller what past h.2.0 said h.2.1 in
    step-told worker caller what said before.history past.history (told_in acts) (stands (Call what said)) refl goes (told-trace opening acts before h.1 worker)
told-trace opening (Tells by (Find path found) ∷ acts) past h worker =
    ap (λ (p : Past). told_of worker (reverse p.history)) h.2.1 ∙ (told-trace opening acts h.0 h.1 worker ∙ sym (quiet worker by (Find path found) (told_in acts) refl))
told-trace opening (Merges word bits ∷ acts) past h worker =
    ap (λ (es : List Entry). told_of worker (reverse es)) (merged-history h.0 word bits past h.2) ∙ told-trace opening acts h.0 h.1 worker
told-trace opening (GivesOut ∷ acts) past h worker = ap (λ (p : Past). told_of worker (reverse p.history)) h.2 ∙ told-trace opening acts h.0 h.1 worker

-- so as many of its answers stand in the trace as it has entries there
pub count-trace : (opening : Opening) (acts : List Act) (past : Past) → Leads opening acts past → (worker : ℕ) → entries_in (told_to worker (told_in acts)) ≡ length (entries_by worker past.history)
count-trace opening acts past h worker =
    let kept = told_to worker (told_in acts) in
    let one = length-filter stands kept in
    let two = ap length (told-trace opening acts past h worker) in
    let three = length-map (entries_by worker (reverse past.history)) exchange_of in
    let four = length-filter (is_by worker) (reverse past.history) in
    let five = length-filter (is_by worker) past.history in
    let six = sum_by-IsPermutation (λ (e : Entry). cond (is_by worker e) 1 0) past.history (reverse past.history) (IsPermutation-reverse past.history) in
    omega (arith, one, two, three, four, five, six)

abbrev pub one_if : Bool → ℕ
one_if b = cond b 1 0

abbrev pub entry_weight : Exchange → ℕ
entry_weight k = one_if (stands k)

-- and as many answers of all workers as there are entries
step-weight : (by : ℕ) (k : Exchange) (log : List Told) (n m : ℕ) → n ≡ m + one_if (stands k) → weight_told entry_weight log ≡ m → weight_told entry_weight (told by k ∷ log) ≡ n
step-weight by k log n m more before = omega (arith, sum_by-cons (λ (t : Told). entry_weight t.what) (told by k) log, more, before)

pub weight-trace : (opening : Opening) (acts : List Act) (past : Past) → Leads opening acts past → weight_told entry_weight (told_in acts) ≡ length past.history
weight-trace opening [] past h = sym (ap (λ (p : Past). length p.history) h)
weight-trace opening (Tells by (Call what said) ∷ acts) past h =
    let before = h.0 in
    let goes = called-history before (record { worker = by }) what past h.2.0 said h.2.1 in
    step-weight by (Call what said) (told_in acts) (length past.history) (length before.history)
    (ap length goes ∙ long (stands (Call what said)) (entry_of (record { worker = by }) before.history what said) before.history)
    (weight-trace opening acts before h.1)
  where
    long : (b : Bool) (e : Entry) (es : List Entry) → length (cond b (e ∷ es) es) ≡ length es + one_if b
    long true e es = omega arith
    long false e es = omega arith
weight-trace opening (Tells by (Find path found) ∷ acts) past h =
    step-weight by (Find path found) (told_in acts) (length past.history) (length h.0.history) (let same = ap (λ (p : Past). length p.history) h.2.1 in omega (arith, same)) (weight-trace opening acts h.0 h.1)
weight-trace opening (Merges word bits ∷ acts) past h = weight-trace opening acts h.0 h.1 ∙ ap length (sym (merged-history h.0 word bits past h.2))
weight-trace opening (GivesOut ∷ acts) past h = weight-trace opening acts h.0 h.1 ∙ ap (λ (p : Past). length p.history) (sym h.2)

-- what is kept of them counts as many
pub count-kept : (exchanges : List Exchange) → count_of (map kept_of exchanges) ≡ entries_in exchanges
count-kept [] = refl
count-kept (e ∷ es) =
    omega (arith, sum_by-cons (λ (k : Kept). one_if (is_entry k)) (kept_of e) (map kept_of es), sum_by-cons (λ (x : Exchange). one_if (stands x)) e es, count-kept es)

-- a pass that keeps what its worker was told is current
pub current-trace : (opening : Opening) (acts : List Act) (past : Past) (pass : PassOf) (exchanges : List Exchange) → Leads opening acts past → map kept_of exchanges ≡ pass.kept → exchanges ≡ told_to pass.caller.worker (told_in acts) → pass.caller.worker < past.passes → is_current past pass ≡ true
current-trace opening acts past pass exchanges h whole told lt =
    let given : nat_lt pass.caller.worker past.passes ≡ true = grind (arith, nat_tests) in
    let same = ap count_of (sym whole) ∙ (count-kept exchanges ∙ (ap entries_in told ∙ count-trace opening acts past h pass.caller.worker)) in
    ap (λ (b : Bool). b && (count_of pass.kept == length (entries_by pass.caller.worker past.history))) given
    ∙ eq-eqb (count_of pass.kept) (length (entries_by pass.caller.worker past.history)) same
