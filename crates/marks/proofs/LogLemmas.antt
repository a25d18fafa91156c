-- Sums over the logs of all seats, of which one or two change; and of a log with all parts, which no other log adds to.
use Rattle.std.proofs.Common.{◌≡◌, ◌≢◌, ℕ, zero, suc, ◌+◌, ◌<◌, ◌≤◌, List, [], ◌∷◌, ◌++◌, set, sym, refl, ap, ◌∙◌, arith, ⊎_elim}
use Rattle.std.specs.List.{sum_by}
use Rattle.std.proofs.lemmas.List.Sums.{sum_by-cons, sum_by_push}
use mathlib.Core.Option.{some, some-injective, some-ne-none}
use lib.ListN.{get_elem?}
use Rattle.atomic_table.proofs.Lists.{at_set, at_snoc}
use Rattle.marks.specs.declared.log.Log.{Log}
use Rattle.marks.specs.Logs.{fresh}
use Rattle.marks.specs.Rules.{AreIdleEmpty, parts_of}

-- ---- sums after a change

-- one log changes
pub sum_by-set : (f : Log → ℕ) (logs : List Log) (id : ℕ) (old new : Log) → get_elem? logs id ≡ some old → sum_by f (set logs id new) + f old ≡ sum_by f logs + f new
sum_by-set f [] id old new at = absurd (some-ne-none old (sym at))
sum_by-set f (x ∷ xs) zero old new at = let is : f x ≡ f old = ap f (some-injective x old at) in omega (arith, sum_by-cons f new xs, sum_by-cons f x xs)
sum_by-set f (x ∷ xs) (suc i) old new at = omega (arith, sum_by-set f xs i old new at, sum_by-cons f x (set xs i new), sum_by-cons f x xs)

-- a log is cut in two
pub sum_by-split : (f : Log → ℕ) (logs : List Log) (id : ℕ) (old left right : Log) → get_elem? logs id ≡ some old → f left + f right ≡ f old → sum_by f (set logs id left ++ right ∷ []) ≡ sum_by f logs
sum_by-split f logs id old left right at e = let a = sum_by-set f logs id old left at in let b = sum_by_push f (set logs id left) right in omega arith

-- a log takes in another
pub sum_by-join : (f : Log → ℕ) (logs : List Log) (id other : ℕ) (v w both spent : Log) → get_elem? logs id ≡ some v → get_elem? (set logs id both) other ≡ some w → f both + f spent ≡ f v + f w
    → sum_by f (set (set logs id both) other spent) ≡ sum_by f logs
sum_by-join f logs id other v w both spent at at' e = let a = sum_by-set f logs id v both at in let b = sum_by-set f (set logs id both) other w spent at' in omega arith

-- ---- logs without a part stay empty

pub idle-set : (logs : List Log) (id : ℕ) (new : Log) → 0 < new.parts → AreIdleEmpty logs → AreIdleEmpty (set logs id new)
idle-set logs id new some_part idle j log at none_left =
    ⊎_elim
    (λ (h : (j ≡ id) × (new ≡ log)). let e : new.parts ≡ log.parts = ap parts_of h.1 in absurd (omega arith))
    (λ (h : (j ≢ id) × (get_elem? logs j ≡ some log)). idle j log h.1 none_left)
    (at_set logs id j new log at)

pub idle-push : (logs : List Log) (new : Log) → 0 < new.parts → AreIdleEmpty logs → AreIdleEmpty (logs ++ new ∷ [])
idle-push logs new some_part idle id log at none_left =
    ⊎_elim
    (λ (h : get_elem? logs id ≡ some log). idle id log h none_left)
    (λ (h : new ≡ log). let e : new.parts ≡ log.parts = ap parts_of h in absurd (omega arith))
    (at_snoc logs new log id at)

pub idle-spent : (logs : List Log) (id : ℕ) → AreIdleEmpty logs → AreIdleEmpty (set logs id (fresh 0))
idle-spent logs id idle j log at none_left =
    ⊎_elim
    (λ (h : (j ≡ id) × (fresh 0 ≡ log)). sym h.1)
    (λ (h : (j ≢ id) × (get_elem? logs j ≡ some log)). idle j log h.1 none_left)
    (at_set logs id j (fresh 0) log at)

idle-rest : (x : Log) (xs : List Log) → AreIdleEmpty (x ∷ xs) → AreIdleEmpty xs
idle-rest x xs idle id log at = idle (suc id) log at

-- ---- the log with all parts

-- where no log has a part, each is empty
all_idle : (f : Log → ℕ) → f (fresh 0) ≡ 0 → (logs : List Log) → AreIdleEmpty logs → sum_by parts_of logs ≡ 0 → sum_by f logs ≡ 0
all_idle f z [] idle e = refl
all_idle f z (x ∷ xs) idle e =
    let p = sum_by-cons parts_of x xs in
    let none_left : x.parts ≡ 0 = omega arith in
    let here : f x ≡ 0 = ap f (idle 0 x refl none_left) ∙ z in
    let there = all_idle f z xs (idle-rest x xs idle) (omega arith) in
    omega (arith, sum_by-cons f x xs)

-- no log has more parts than all
part_of : (logs : List Log) (id : ℕ) (log : Log) → get_elem? logs id ≡ some log → log.parts ≤ sum_by parts_of logs
part_of [] id log at = absurd (some-ne-none log (sym at))
part_of (x ∷ xs) zero log at = let is : x.parts ≡ log.parts = ap parts_of (some-injective x log at) in omega (arith, sum_by-cons parts_of x xs)
part_of (x ∷ xs) (suc id) log at = omega (arith, part_of xs id log at, sum_by-cons parts_of x xs)

-- a log with the parts of all is all that a sum has
pub only_one : (f : Log → ℕ) → f (fresh 0) ≡ 0 → (logs : List Log) (id : ℕ) (log : Log) → AreIdleEmpty logs → get_elem? logs id ≡ some log → sum_by parts_of logs ≡ log.parts → sum_by f (log ∷ []) ≡ sum_by f logs
only_one f z [] id log idle at e = absurd (some-ne-none log (sym at))
only_one f z (x ∷ xs) zero log idle at e =
    let p = sum_by-cons parts_of x xs in
    let is : x ≡ log = some-injective x log at in
    let parts : x.parts ≡ log.parts = ap parts_of is in
    let same : f x ≡ f log = ap f is in
    let rest = all_idle f z xs (idle-rest x xs idle) (omega arith) in
    omega (arith, sum_by-cons f x xs, sum_by-cons f log [])
only_one f z (x ∷ xs) (suc id) log idle at e =
    let p = sum_by-cons parts_of x xs in
    let most = part_of xs id log at in
    let none_left : x.parts ≡ 0 = omega arith in
    let here : f x ≡ 0 = ap f (idle 0 x refl none_left) ∙ z in
    let rest = only_one f z xs id log (idle-rest x xs idle) at (omega arith) in
    omega (arith, sum_by-cons f x xs)
