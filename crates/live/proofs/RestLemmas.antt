-- Where each pass keeps what its worker was told, all entries are theirs and none has a share, no transfer is in flight.
use Rattle.std.proofs.Common.{◌≡◌, ◌≢◌, ℕ, suc, ◌≤◌, Bool, true, false, cond, not, List, [], ◌∷◌, map, length, get_or, reverse, sym, refl, ap, ◌∙◌, subst, arith, ne_eqb}
use Rattle.std.specs.List.{All, filter, sum_by}
use Rattle.std.proofs.lemmas.Bool.{true≢false, not-false, eqb-true, ltb-false}
use Rattle.std.proofs.lemmas.List.Elements.{All-head, All-tail, All-weaker}
use Rattle.std.proofs.lemmas.List.Filters.{length-filter_both, sum_by-filter_both}
use Rattle.std.proofs.lemmas.List.Sorted.{IsPermutation-reverse, sum_by-IsPermutation}
use Rattle.std.proofs.lemmas.List.Sums.{length-filter, sum_by-cons}
use Rattle.std.proofs.lemmas.List.{length-map}
use Rattle.machine.specs.declared.event.Event.{Event}
use Rattle.machine.specs.declared.event.Event.TheVariants as event
use Rattle.machine.specs.declared.reply.Reply.{Reply}
use Rattle.machine.specs.declared.reply.Reply.TheVariants as reply
use Rattle.machine.specs.declared.entry.Entry.{Entry}
use Rattle.machine.specs.History.{is_by, entries_by}
use Rattle.machine.specs.Transfers.{begins_transfer, ends_transfer, transfers_begun, transfers_ended}
use Rattle.book.specs.declared.kept.Kept.{Kept}
use Rattle.book.specs.declared.kept.Kept.TheVariants.{Call}
use Rattle.book.specs.Passes.{asked_of, call_of, is_entry, count_of}
use Rattle.live.specs.declared.history.Exchange.{Exchange}
use Rattle.live.specs.Exchanges.{kept_of, stands, entries_in, exchange_of}
use Rattle.live.specs.Passes.{PassOf}
use Rattle.live.specs.Matching.{told_of, answers_of, AreApart, Matches, begins, asks_end, ends, begun, ended, has_share}
use Rattle.live.proofs.ActLemmas.{count-kept}

-- ---- sums

sum-same : {A : Type 0} (f g : A → ℕ) (xs : List A) → All (λ x. f x ≡ g x) xs → sum_by f xs ≡ sum_by g xs
sum-same f g [] same = refl
sum-same f g (x ∷ xs) same =
    let head : f x ≡ g x = All-head (λ x. f x ≡ g x) x xs same in
    let later = sum-same f g xs (All-tail (λ x. f x ≡ g x) x xs same) in
    omega (arith, sum_by-cons f x xs, sum_by-cons g x xs)

sum-less : {A : Type 0} (f g : A → ℕ) (xs : List A) → All (λ x. f x ≤ g x) xs → sum_by f xs ≤ sum_by g xs
sum-less f g [] less = omega arith
sum-less f g (x ∷ xs) less =
    let head : f x ≤ g x = All-head (λ x. f x ≤ g x) x xs less in
    let later = sum-less f g xs (All-tail (λ x. f x ≤ g x) x xs less) in
    omega (arith, sum_by-cons f x xs, sum_by-cons g x xs)

sum-map : {A B : Type 0} (f : B → ℕ) (g : A → B) (xs : List A) → sum_by f (map g xs) ≡ sum_by (λ x. f (g x)) xs
sum-map f g [] = refl
sum-map f g (x ∷ xs) = omega (arith, sum-map f g xs, sum_by-cons f (g x) (map g xs), sum_by-cons (λ x. f (g x)) x xs)

-- what counts for nothing may be left out
sum-filter : {A : Type 0} (f : A → ℕ) (p : A → Bool) → ((x : A) → p x ≡ false → f x ≡ 0) → (xs : List A) → sum_by f (filter p xs) ≡ sum_by f xs
sum-filter f p nothing [] = refl
sum-filter f p nothing (x ∷ xs) =
    let later = sum-filter f p nothing xs in
    elim (p x) as (λ t. p x ≡ t → sum_by f (cond t (x ∷ filter p xs) (filter p xs)) ≡ sum_by f (x ∷ xs)) [
      | true ↦ λ is. omega (arith, sum_by-cons f x (filter p xs), sum_by-cons f x xs)
      | false ↦ λ is. omega (arith, nothing x is, sum_by-cons f x xs)
    ] refl

sum-reverse : {A : Type 0} (f : A → ℕ) (xs : List A) → sum_by f (reverse xs) ≡ sum_by f xs
sum-reverse f xs = sum_by-IsPermutation f xs (reverse xs) (IsPermutation-reverse xs)

-- ---- entries by worker

-- leaving out what fails anyway
filter-filter : {A : Type 0} (p q : A → Bool) → ((x : A) → q x ≡ false → p x ≡ false) → (xs : List A) → filter p (filter q xs) ≡ filter p xs
filter-filter p q fails [] = refl
filter-filter p q fails (x ∷ xs) =
    let later = filter-filter p q fails xs in
    elim (q x) as (λ t. q x ≡ t → filter p (cond t (x ∷ filter q xs) (filter q xs)) ≡ filter p (x ∷ xs)) [
      | true ↦ λ is. ap (λ l. cond (p x) (x ∷ l) l) later
      | false ↦ λ is. later ∙ ap (λ t. cond t (x ∷ filter p xs) (filter p xs)) (sym (fails x is))
    ] refl

abbrev is_other : ℕ → Entry → Bool
is_other worker entry = not (is_by worker entry)

other-fails : (worker other : ℕ) → worker ≢ other → (entry : Entry) → is_other worker entry ≡ false → is_by other entry ≡ false
other-fails worker other apart entry fails =
    let own : entry.worker.0 ≡ worker = eqb-true entry.worker.0 worker (not-false (is_by worker entry) fails) in
    ne_eqb entry.worker.0 other (λ is. apart (sym own ∙ is))

abbrev Apart : PassOf → PassOf → Type 0
Apart pass other = pass.caller.worker ≢ other.caller.worker

apart-head : (pass : PassOf) (passes : List PassOf) → AreApart (pass ∷ passes) → All (Apart pass) passes
apart-head pass passes apart k d lt = apart 0 (suc k) d (omega arith) (omega arith)

apart-tail : (pass : PassOf) (passes : List PassOf) → AreApart (pass ∷ passes) → AreApart passes
apart-tail pass passes apart i j d lt within = apart (suc i) (suc j) d (omega arith) (omega arith)

abbrev length_of : List Entry → PassOf → ℕ
length_of entries pass = length (entries_by pass.caller.worker entries)

abbrev sum_of : (Entry → ℕ) → List Entry → PassOf → ℕ
sum_of f entries pass = sum_by f (entries_by pass.caller.worker entries)

-- where all entries are of the workers of these passes, a sum over the entries is one over the passes
sum-by_passes : (f : Entry → ℕ) (passes : List PassOf) (entries : List Entry) → AreApart passes → length entries ≡ sum_by (length_of entries) passes → sum_by f entries ≡ sum_by (sum_of f entries) passes
sum-by_passes f [] [] apart all = refl
sum-by_passes f [] (e ∷ es) apart all = absurd (omega arith)
sum-by_passes f (p ∷ ps) es apart all =
    let worker = p.caller.worker in
    let left = filter (is_other worker) es in
    let others = apart-head p ps apart in
    let same = λ (q : PassOf) (ne : Apart p q). filter-filter (is_by q.caller.worker) (is_other worker) (other-fails worker q.caller.worker ne) es in
    let lengths : sum_by (length_of left) ps ≡ sum_by (length_of es) ps =
    sum-same (length_of left) (length_of es) ps (All-weaker (Apart p) (λ q. length_of left q ≡ length_of es q) (λ q ne. ap length (same q ne)) ps others) in
    let sums : sum_by (sum_of f left) ps ≡ sum_by (sum_of f es) ps =
    sum-same (sum_of f left) (sum_of f es) ps (All-weaker (Apart p) (λ q. sum_of f left q ≡ sum_of f es q) (λ q ne. ap (sum_by f) (same q ne)) ps others) in
    let length-both = length-filter_both (is_by worker) (is_other worker) (λ x. refl) es in
    let sum-both = sum_by-filter_both (is_by worker) (is_other worker) (λ x. refl) f es in
    let length-cons = sum_by-cons (length_of es) p ps in
    let sum-cons = sum_by-cons (sum_of f es) p ps in
    let later = sum-by_passes f ps left (apart-tail p ps apart) (omega arith) in
    omega arith

-- ---- what a pass keeps, and what its worker was told

abbrev pub IsWhole : PassOf → Type 0
IsWhole pass = map kept_of pass.exchanges ≡ pass.kept

abbrev kept_of_entry : Entry → Kept
kept_of_entry entry = call_of entry.event entry.reply

-- its answers that stand in the trace are its worker's, as a pass keeps them
abbrev IsTold : List Entry → PassOf → Type 0
IsTold entries pass = filter is_entry pass.kept ≡ map kept_of_entry (entries_by pass.caller.worker entries)

filter-kept : (exchanges : List Exchange) → filter is_entry (map kept_of exchanges) ≡ map kept_of (answers_of exchanges)
filter-kept [] = refl
filter-kept (e ∷ es) =
    let later = filter-kept es in
    elim (stands e) as (λ b. cond b (kept_of e ∷ filter is_entry (map kept_of es)) (filter is_entry (map kept_of es)) ≡ map kept_of (cond b (e ∷ answers_of es) (answers_of es))) [
      | true ↦ ap (λ (l : List Kept). kept_of e ∷ l) later
      | false ↦ later
    ]

entries-kept : (entries : List Entry) → map kept_of (map exchange_of entries) ≡ map kept_of_entry entries
entries-kept [] = refl
entries-kept (e ∷ es) = ap (λ (l : List Kept). kept_of_entry e ∷ l) (entries-kept es)

told-kept : (entries : List Entry) (pass : PassOf) → IsWhole pass → answers_of pass.exchanges ≡ told_of pass.caller.worker entries → IsTold entries pass
told-kept entries pass whole same =
    ap (filter is_entry) (sym whole) ∙ (filter-kept pass.exchanges ∙ (ap (map kept_of) same ∙ entries-kept (entries_by pass.caller.worker entries)))

-- they count as many
pub sum-kept : (passes : List PassOf) → All IsWhole passes → sum_by (λ (pass : PassOf). entries_in pass.exchanges) passes ≡ sum_by (λ (pass : PassOf). count_of pass.kept) passes
sum-kept passes whole =
    sum-same (λ (pass : PassOf). entries_in pass.exchanges) (λ (pass : PassOf). count_of pass.kept) passes
    (All-weaker IsWhole (λ (pass : PassOf). entries_in pass.exchanges ≡ count_of pass.kept) (λ pass is. sym (count-kept pass.exchanges) ∙ ap count_of is) passes whole)

count-told : (entries : List Entry) (pass : PassOf) → IsTold entries pass → count_of pass.kept ≡ length_of entries pass
count-told entries pass same =
    sym (length-filter is_entry pass.kept) ∙ (ap length same ∙ length-map (entries_by pass.caller.worker entries) kept_of_entry)

-- a sum over what is kept, of what counts for nothing where it isn't in the trace
sum-told : (f : Kept → ℕ) → ((kept : Kept) → is_entry kept ≡ false → f kept ≡ 0) → (entries : List Entry) (pass : PassOf) → IsTold entries pass → sum_by f pass.kept ≡ sum_of (λ entry. f (kept_of_entry entry)) entries pass
sum-told f nothing entries pass same =
    sym (sum-filter f is_entry nothing pass.kept) ∙ (ap (sum_by f) same ∙ sum-map f kept_of_entry (entries_by pass.caller.worker entries))

abbrev one : Bool → ℕ
one counts = cond counts 1 0

abbrev begins_one : Kept → ℕ
begins_one kept = one (begins kept)

abbrev ends_one : Kept → ℕ
ends_one kept = one (ends kept)

abbrev entry_begins : Entry → ℕ
entry_begins entry = one (begins_transfer entry.reply)

abbrev entry_ends : Entry → ℕ
entry_ends entry = one (ends_transfer entry.event)

refused-begins : (kept : Kept) → is_entry kept ≡ false → begins_one kept ≡ 0
refused-begins (Call asked (reply.Fetch ticket)) refused = absurd (true≢false refused)
refused-begins (Call asked (reply.Out ticket)) refused = absurd (true≢false refused)
refused-begins kept refused = refl

refused-ends : (kept : Kept) → is_entry kept ≡ false → ends_one kept ≡ 0
refused-ends (Call asked reply.Ok) refused = absurd (true≢false refused)
refused-ends kept refused = refl

asks-end : (what : Event) → asks_end (asked_of what) ≡ ends_transfer what
asks-end (event.Arrived ticket bytes) = refl
asks-end what = refl

ends-less : (what : Event) (answer : Reply) → ends_one (call_of what answer) ≤ one (ends_transfer what)
ends-less what reply.Ok =
    let same : one (asks_end (asked_of what)) ≡ one (ends_transfer what) = ap one (asks-end what) in
    let P : ℕ → Type 0 = λ n. n ≤ one (ends_transfer what) in
    subst P (sym same) (omega arith)
ends-less what answer = omega arith

begun-told : (entries : List Entry) (pass : PassOf) → IsTold entries pass → begun pass.kept ≡ sum_of entry_begins entries pass
begun-told entries pass same = sum-told begins_one refused-begins entries pass same

ended-told : (entries : List Entry) (pass : PassOf) → IsTold entries pass → ended pass.kept ≤ sum_of entry_ends entries pass
ended-told entries pass same =
    let own = entries_by pass.caller.worker entries in
    let kept = sum-told ends_one refused-ends entries pass same in
    let less = sum-less (λ (entry : Entry). ends_one (kept_of_entry entry)) entry_ends own (λ k d lt. ends-less (get_or own k d).event (get_or own k d).reply) in
    omega arith

-- ---- at rest

-- each pass ended what it began, so nobody has a transfer in flight
pub at_rest : (entries : List Entry) (passes : List PassOf) → All IsWhole passes → Matches entries passes → length entries ≡ sum_by (λ (pass : PassOf). count_of pass.kept) passes → All (λ (pass : PassOf). has_share pass.kept ≡ false) passes
    → transfers_ended (reverse entries) ≤ transfers_begun (reverse entries) → transfers_begun (reverse entries) ≡ transfers_ended (reverse entries)
at_rest entries passes whole matches all none before =
    let told : All (IsTold entries) passes = λ k d lt. told-kept entries (get_or passes k d) (whole k d lt) (matches.same k d lt) in
    let counts : sum_by (λ (pass : PassOf). count_of pass.kept) passes ≡ sum_by (length_of entries) passes =
    sum-same (λ (pass : PassOf). count_of pass.kept) (length_of entries) passes (All-weaker (IsTold entries) (λ pass. count_of pass.kept ≡ length_of entries pass) (count-told entries) passes told) in
    let begins-all = sum-by_passes entry_begins passes entries matches.apart (all ∙ counts) in
    let ends-all = sum-by_passes entry_ends passes entries matches.apart (all ∙ counts) in
    let begun-all : sum_by (λ (pass : PassOf). begun pass.kept) passes ≡ sum_by (sum_of entry_begins entries) passes =
    sum-same (λ (pass : PassOf). begun pass.kept) (sum_of entry_begins entries) passes (All-weaker (IsTold entries) (λ pass. begun pass.kept ≡ sum_of entry_begins entries pass) (begun-told entries) passes told) in
    let ended-all : sum_by (λ (pass : PassOf). ended pass.kept) passes ≤ sum_by (sum_of entry_ends entries) passes =
    sum-less (λ (pass : PassOf). ended pass.kept) (sum_of entry_ends entries) passes (All-weaker (IsTold entries) (λ pass. ended pass.kept ≤ sum_of entry_ends entries pass) (ended-told entries) passes told) in
    let rest : sum_by (λ (pass : PassOf). begun pass.kept) passes ≤ sum_by (λ (pass : PassOf). ended pass.kept) passes =
    sum-less (λ (pass : PassOf). begun pass.kept) (λ (pass : PassOf). ended pass.kept) passes (All-weaker (λ pass. has_share pass.kept ≡ false) (λ pass. begun pass.kept ≤ ended pass.kept) (λ pass less. ltb-false (ended pass.kept) (begun pass.kept) less) passes none) in
    let begins-back = sum-reverse entry_begins entries in
    let ends-back = sum-reverse entry_ends entries in
    omega arith
