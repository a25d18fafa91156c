-- What is so at the end, when all seats are brought together.
use Rattle.std.proofs.Common.{◌≡◌, ◌≢◌, ℕ, zero, suc, ◌+◌, ◌<◌, ◌≤◌, List, [], ◌∷◌, ◌++◌, map, length, reverse, get_or, All, Option, sym, refl, ap, ◌∙◌, subst, arith, append_assoc}
use Rattle.std.specs.Prelude.{AllPairs}
use Rattle.std.specs.List.{sum_by}
use Rattle.std.proofs.lemmas.List.Sums.{sum_by-cons}
use Rattle.live.specs.declared.history.Exchange.{Exchange}
use Rattle.live.specs.Exchanges.{entries_in}
use Rattle.book.specs.Passes.{PassOf as Book_pass}
use Rattle.live.specs.Passes.{PassOf, book_pass}
use Rattle.live.specs.declared.history.Told.{Told}
use Rattle.live.specs.declared.history.Row.{Row}
use Rattle.live.specs.declared.history.View.{View}
use Rattle.live.specs.Told.{told_to}
use Rattle.live.specs.Rules.{row, of_rows, joined, AreRows, times_in, weight_in, weight_told, IsAll}
use Rattle.live.specs.Shared.{rows_of}
use Rattle.std.proofs.lemmas.List.{reverse-reverse, reverse-append, length-reverse, map-append}
use Rattle.std.proofs.lemmas.List.Elements.{All-weaker}
use Rattle.atomic_table.specs.Seated.{TableId}
use Rattle.machine.specs.declared.entry.Entry.{Entry}
use Rattle.machine.specs.State.{Opening}
use Rattle.machine.specs.Call.{Past}
use Rattle.live.specs.Matching.{told_of, answers_of, AreApart, Matches}
use Rattle.live.specs.Logs.{LogOf}
use Rattle.live.specs.OneRun.{Act, Leads, told_in, IsOneRun, WereGiven}
use Rattle.live.specs.Shared.{IsShared}
use Rattle.live.specs.declared.looks.EndLook.{EndLook}
use Rattle.live.specs.Looks.{end_look, EndsLooked}
use Rattle.live.proofs.ActLemmas.{entry_weight, told-trace, weight-trace}
use Rattle.live.proofs.GivenLemmas.{passes-given}
use Rattle.live.proofs.ToldLemmas.{times-own, times-less}

plus-none : (n : ℕ) → n + 0 ≡ n
plus-none n = omega arith

-- a seat that knows rows alone is taken in
pub joined-rows : (view : View) (rows : List Row) → joined view (of_rows rows) ≡ record view { rows = rows ++ view.rows }
joined-rows view rows =
    ap (λ (n : ℕ). record { books = n; rolls = view.rolls + 0; given = view.given; rolled = view.rolled + 0; log = view.log; rows = rows ++ view.rows }) (plus-none view.books)
    ∙ (ap (λ (n : ℕ). record { books = view.books; rolls = n; given = view.given; rolled = view.rolled + 0; log = view.log; rows = rows ++ view.rows }) (plus-none view.rolls)
    ∙ ap (λ (n : ℕ). record { books = view.books; rolls = view.rolls; given = view.given; rolled = n; log = view.log; rows = rows ++ view.rows }) (plus-none view.rolled))

-- the last pass is taken out, and its row is put to the front
pub rows-moved : (passes left : List PassOf) (pass : PassOf) (rows : List Row) → passes ≡ left ++ pass ∷ [] → rows_of left ++ (row pass.caller.worker pass.exchanges ∷ [] ++ rows) ≡ rows_of passes ++ rows
rows-moved passes left pass rows is =
    sym (append_assoc (rows_of left) (row pass.caller.worker pass.exchanges ∷ []) rows) ∙ ap (λ (l : List Row). l ++ rows) (sym (ap rows_of is ∙ pushed left pass))
  where
    pushed : (left : List PassOf) (pass : PassOf) → rows_of (left ++ pass ∷ []) ≡ rows_of left ++ row pass.caller.worker pass.exchanges ∷ []
    pushed [] pass = refl
    pushed (x ∷ left) pass = ap (λ (l : List Row). row x.caller.worker x.exchanges ∷ l) (pushed left pass)

-- and itself behind those that were taken out before
pub ended-moved : (passes left : List PassOf) (pass : PassOf) (old new : List Book_pass) (ended : Book_pass) → passes ≡ left ++ pass ∷ [] → ended ≡ book_pass pass → new ≡ old ++ ended ∷ [] → map book_pass left ++ reverse new ≡ map book_pass passes ++ reverse old
ended-moved passes left pass old new ended is same now =
    ap (λ (l : List Book_pass). map book_pass left ++ reverse l) now
    ∙ (ap (λ (l : List Book_pass). map book_pass left ++ l) (reverse-append old (ended ∷ []))
    ∙ (sym (append_assoc (map book_pass left) (ended ∷ []) (reverse old))
    ∙ ap (λ (l : List Book_pass). l ++ reverse old) (ap (λ (p : Book_pass). map book_pass left ++ p ∷ []) same ∙ sym (ap (map book_pass) is ∙ map-append book_pass left (pass ∷ [])))))

-- ---- passes whose rows are all

pub each-told : (log : List Told) (passes : List PassOf) → AreRows log (rows_of passes) → All (λ (pass : PassOf). pass.exchanges ≡ told_to pass.caller.worker log) passes
each-told log [] are k d lt = absurd (omega arith)
each-told log (pass ∷ passes) are zero d lt = are.0
each-told log (pass ∷ passes) are (suc k) d lt = each-told log passes are.1 k d (omega arith)

pub weight-passes : (h : Exchange → ℕ) (passes : List PassOf) → sum_by (λ (pass : PassOf). sum_by h pass.exchanges) passes ≡ weight_in h (rows_of passes)
weight-passes h [] = refl
weight-passes h (pass ∷ passes) = omega (arith, sum_by-cons (λ (s : PassOf). sum_by h s.exchanges) pass passes, sum_by-cons (λ (r : Row). sum_by h r.exchanges) (row pass.caller.worker pass.exchanges) (rows_of passes), weight-passes h passes)

times-there : (worker : ℕ) (passes : List PassOf) (k : ℕ) (d : PassOf) → k < length passes → (get_or passes k d).caller.worker ≡ worker → 1 ≤ times_in worker (rows_of passes)
times-there worker [] k d lt is = absurd (omega arith)
times-there worker (pass ∷ passes) zero d lt is =
    let one : times_in worker (rows_of (pass ∷ passes)) ≡ 1 + times_in worker (rows_of passes) =
    subst (λ (n : ℕ). times_in n (rows_of (pass ∷ passes)) ≡ 1 + times_in n (rows_of passes)) is (times-own (row pass.caller.worker pass.exchanges) (rows_of passes)) in
    omega (arith, one)
times-there worker (pass ∷ passes) (suc k) d lt is = omega (arith, times-there worker passes k d (omega arith) is, times-less worker (row pass.caller.worker pass.exchanges) (rows_of passes))

-- where there is one row of a worker at most, no two passes are of one
pub apart-passes : (passes : List PassOf) → ((worker : ℕ) → times_in worker (rows_of passes) ≤ 1) → AllPairs (λ (pass other : PassOf). pass.caller.worker ≢ other.caller.worker) passes
apart-passes [] once i j d lt within = absurd (omega arith)
apart-passes (pass ∷ passes) once i zero d lt within = absurd (omega arith)
apart-passes (pass ∷ passes) once zero (suc j) d lt within =
    λ (e : pass.caller.worker ≡ (get_or passes j d).caller.worker).
    absurd (omega (arith, times-there pass.caller.worker passes j d (omega arith) (sym e), times-own (row pass.caller.worker pass.exchanges) (rows_of passes), once pass.caller.worker))
apart-passes (pass ∷ passes) once (suc i) (suc j) d lt within =
    apart-passes passes (λ worker. omega (arith, once worker, times-less worker (row pass.caller.worker pass.exchanges) (rows_of passes))) i j d (omega arith) (omega arith)

pub length-rows : (passes : List PassOf) → length (rows_of passes) ≡ length passes
length-rows [] = refl
length-rows (pass ∷ passes) = ap suc (length-rows passes)

-- ---- passes that have all of a run

sum-ones : {A : Type 0} (xs : List A) → sum_by (λ (x : A). 1) xs ≡ length xs
sum-ones [] = refl
sum-ones {A} (x ∷ xs) = omega (arith, sum_by-cons (λ (y : A). 1) x xs, sum-ones xs)

sum-lengths : (passes : List PassOf) → sum_by (λ (pass : PassOf). length pass.exchanges) passes ≡ sum_by (λ (pass : PassOf). sum_by (λ (k : Exchange). 1) pass.exchanges) passes
sum-lengths [] = refl
sum-lengths (pass ∷ passes) =
    omega (arith, sum_by-cons (λ (p : PassOf). length p.exchanges) pass passes, sum_by-cons (λ (p : PassOf). sum_by (λ (k : Exchange). 1) p.exchanges) pass passes, sum-ones pass.exchanges, sum-lengths passes)

module _ (opening : Opening) (acts : List Act) (past : Past) (leads : Leads opening acts past) (entries : List Entry) (trace : past.history ≡ reverse entries) (passes : List PassOf)
    (each : All (λ (pass : PassOf). pass.exchanges ≡ told_to pass.caller.worker (told_in acts)) passes) (apart : AreApart passes) where
  oldest : reverse past.history ≡ entries
  oldest = ap reverse trace ∙ reverse-reverse entries

  -- each of them keeps what the trace has of its worker
  pub matches : Matches entries passes
  matches = record {
    apart = apart;
    same = All-weaker (λ (pass : PassOf). pass.exchanges ≡ told_to pass.caller.worker (told_in acts)) (λ (pass : PassOf). answers_of pass.exchanges ≡ told_of pass.caller.worker entries)
        (λ pass kept. ap answers_of kept ∙ (sym (told-trace opening acts past leads pass.caller.worker) ∙ ap (told_of pass.caller.worker) oldest)) passes each;
  }

  module _ (weight : (h : Exchange → ℕ) → weight_in h (rows_of passes) ≡ weight_told h (told_in acts)) where
    -- and together they keep as many answers as it has entries
    pub counted : length entries ≡ sum_by (λ (pass : PassOf). entries_in pass.exchanges) passes
    counted =
        let all = weight-passes entry_weight passes in
        omega (arith, length-reverse entries, ap length trace, weight-trace opening acts past leads, weight entry_weight, all)

    pub whole : sum_by (λ (pass : PassOf). length pass.exchanges) passes ≡ length (told_in acts)
    whole = sum-lengths passes ∙ (weight-passes (λ (k : Exchange). 1) passes ∙ (weight (λ (k : Exchange). 1) ∙ sum-ones (told_in acts)))

-- ---- the end

module _ (table : TableId) (opening : Opening) (past : Past) (log : LogOf) (shared : IsShared table opening past log) (entries : List Entry) (trace : past.history ≡ reverse entries) (passes : List PassOf)
    (view : View) (log-is : view.log ≡ log.log) (given-is : view.given ≡ log.given) (all : IsAll (record view { rows = rows_of passes })) (most : view.given ≤ length passes) where
  acts-log : view.log ≡ told_in shared.acts
  acts-log = log-is ∙ sym shared.told_is

  all-told : All (λ (pass : PassOf). pass.exchanges ≡ told_to pass.caller.worker (told_in shared.acts)) passes
  all-told = each-told (told_in shared.acts) passes (subst (λ (l : List Told). AreRows l (rows_of passes)) acts-log all.rows)

  all-apart : AreApart passes
  all-apart = apart-passes passes all.once

  all-weight : (h : Exchange → ℕ) → weight_in h (rows_of passes) ≡ weight_told h (told_in shared.acts)
  all-weight h = all.weight (let long = length-rows passes in omega (arith, most, long)) h ∙ ap (weight_told h) acts-log

  pub run-matches : Matches entries passes
  run-matches = matches opening shared.acts past shared.leads entries trace passes all-told all-apart

  pub run-counted : length entries ≡ sum_by (λ (pass : PassOf). entries_in pass.exchanges) passes
  run-counted = counted opening shared.acts past shared.leads entries trace passes all-told all-apart all-weight

  -- what was looked at is that run's
  pub run-looked : (paths : List (List ℕ)) (looks : List (Option EndLook)) → looks ≡ map (end_look past.state) paths → EndsLooked opening entries passes paths looks
  run-looked paths looks is = record {
    run = record {
      acts = shared.acts;
      past = past;
      leads = shared.leads;
      trace = trace;
      given = (let long = length-rows passes in let few = all.few in let given = shared.given in omega (arith, most, long, few, given, given-is));
      each = all-told;
      apart = all-apart;
      all = whole opening shared.acts past shared.leads entries trace passes all-told all-apart all-weight;
    };
    looks_are = is;
  }

  pub one-run : IsOneRun opening entries passes
  one-run = (run-looked [] [] refl).run

  pub run-each : All (λ (pass : PassOf). WereGiven opening (reverse entries) pass.caller.worker pass.exchanges) passes
  run-each = passes-given opening shared.acts past (reverse entries) passes shared.leads trace all-told
