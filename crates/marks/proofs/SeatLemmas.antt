-- Seats are cut and put together, and one that has all parts knows the marks.
use Rattle.std.proofs.Common.{◌≡◌, ℕ, ◌+◌, ◌-◌, ◌^◌, ◌<◌, ◌≤◌, List, [], ◌∷◌, ◌++◌, set, map, sym, refl, ap, ◌∙◌, subst, arith}
use Rattle.std.specs.List.{sum_by}
use Rattle.std.proofs.lemmas.List.Sums.{sum_by-cons, sum_by_push, sum_by-append}
use mathlib.Core.Option.{some}
use lib.ListN.{get_elem?}
use Rattle.atomic_table.specs.Table.{Splits, Joins}
use Rattle.marks.specs.declared.log.Log.{Log}
use Rattle.marks.specs.Logs.{SeatOf, clear_found, mark_found, mark_taken, cleared, found, taken, pending, mark, AreBalanced, fresh, one_less, log_of}
use Rattle.marks.specs.Rules.{IsKept, Marking, parts_of, joined}
use Rattle.marks.proofs.LogLemmas.{sum_by-split, sum_by-join, idle-set, idle-push, idle-spent, only_one}

-- logs with the same sums
pub record AreAlike (logs others : List Log) : Type 0 where
  pub parts : sum_by parts_of logs ≡ sum_by parts_of others
  pub cleared_is : (f : ℕ) → sum_by (cleared f) logs ≡ sum_by (cleared f) others
  pub taken_is : (f : ℕ) → sum_by (taken f) logs ≡ sum_by (taken f) others
  pub found_is : (f : ℕ) → sum_by (found f) logs ≡ sum_by (found f) others

pub balanced_alike : (words : List ℕ) (logs others : List Log) → AreAlike logs others → AreBalanced words others → AreBalanced words logs
balanced_alike words logs others alike law f =
    let c = alike.cleared_is f in
    let t = alike.taken_is f in
    let g = alike.found_is f in
    let old = (law f).balance in
    let before = (law f).set_before in
    record { balance = omega arith; set_before = λ h. let some_before = before (omega arith) in omega arith }

-- a seat gives a part to a further one
pub splits : (count id : ℕ) (log : Log) → 2 ≤ log.parts → Splits (IsKept count) id log (one_less log) (fresh 1)
splits count id log two s kept at =
    let parts : sum_by parts_of (set s.views id (one_less log) ++ fresh 1 ∷ []) ≡ sum_by parts_of s.views =
    let e : (log.parts - 1) + 1 ≡ log.parts = omega arith in sum_by-split parts_of s.views id log (one_less log) (fresh 1) at e in
    record {
      words = kept.words;
      parts = parts ∙ kept.parts;
      law = balanced_alike s.words (set s.views id (one_less log) ++ fresh 1 ∷ []) s.views record {
        parts = parts;
        cleared_is = λ f. sum_by-split (cleared f) s.views id log (one_less log) (fresh 1) at (omega arith);
        taken_is = λ f. sum_by-split (taken f) s.views id log (one_less log) (fresh 1) at (omega arith);
        found_is = λ f. sum_by-split (found f) s.views id log (one_less log) (fresh 1) at (omega arith);
      } kept.law;
      idle = idle-push (set s.views id (one_less log)) (fresh 1) (omega arith) (idle-set s.views id (one_less log) (let lt : 0 < log.parts - 1 = omega arith in lt) kept.idle);
    }

-- a seat takes in the log and the parts of another
pub joins : (count id : ℕ) (v : Log) (other : ℕ) (w : Log) → 0 < v.parts → Joins (IsKept count) id v other w (joined v w) (fresh 0)
joins count id v other w some_part s kept at apart at' =
    let parts : sum_by parts_of (set (set s.views id (joined v w)) other (fresh 0)) ≡ sum_by parts_of s.views =
    sum_by-join parts_of s.views id other v w (joined v w) (fresh 0) at at' (omega arith) in
    record {
      words = kept.words;
      parts = parts ∙ kept.parts;
      law = balanced_alike s.words (set (set s.views id (joined v w)) other (fresh 0)) s.views record {
        parts = parts;
        cleared_is = λ f. sum_by-join (cleared f) s.views id other v w (joined v w) (fresh 0) at at' (omega (arith, sum_by-append (clear_found f) v.sets w.sets));
        taken_is = λ f. sum_by-join (taken f) s.views id other v w (joined v w) (fresh 0) at at' (omega (arith, sum_by-append (mark_taken f) v.harvests w.harvests));
        found_is = λ f. sum_by-join (found f) s.views id other v w (joined v w) (fresh 0) at at' (omega (arith, sum_by-append (mark_found f) v.sets w.sets));
      } kept.law;
      idle = idle-spent (set s.views id (joined v w)) other (idle-set s.views id (joined v w) (let lt : 0 < v.parts + w.parts = omega arith in lt) kept.idle);
    }

-- ---- the seat with all parts

-- what all seats did is what this one did
pub last : (count id : ℕ) (log : Log) (words : List ℕ) → log.parts ≡ 2 ^ 32 → (s : Marking) → IsKept count s → get_elem? s.views id ≡ some log → s.words ≡ words → AreBalanced words (log ∷ [])
last count id log words whole s kept at is =
    let e : sum_by parts_of s.views ≡ log.parts = kept.parts ∙ sym whole in
    subst (λ (w : List ℕ). AreBalanced w (log ∷ [])) is
    (balanced_alike s.words (log ∷ []) s.views record {
      parts = omega (arith, e, sum_by-cons parts_of log []);
      cleared_is = λ f. only_one (cleared f) refl s.views id log kept.idle at e;
      taken_is = λ f. only_one (taken f) refl s.views id log kept.idle at e;
      found_is = λ f. only_one (found f) refl s.views id log kept.idle at e;
    } kept.law)

-- so its log tells each mark
pub alone : (count id : ℕ) (log : Log) (s : Marking) → IsKept count s → get_elem? s.views id ≡ some log → log.parts ≡ 2 ^ 32 → (f : ℕ) → mark s.words f ≡ pending f log
alone count id log s kept at whole f =
    let law = (last count id log s.words whole s kept at refl f).balance in
    omega (arith, law, sum_by-cons (cleared f) log [], sum_by-cons (taken f) log [])

-- ---- the loop that puts all seats together

map-push : (xs : List SeatOf) (x : SeatOf) → map log_of (xs ++ x ∷ []) ≡ map log_of xs ++ log_of x ∷ []
map-push [] x = refl
map-push (y ∷ ys) x = ap (λ (l : List Log). log_of y ∷ l) (map-push ys x)

-- the last log goes into the first
sum_by-moved : (f : Log → ℕ) (a b : Log) (logs : List Log) (n : ℕ) → f (joined a b) ≡ f a + f b → sum_by f (a ∷ (logs ++ b ∷ [])) ≡ n → sum_by f (joined a b ∷ logs) ≡ n
sum_by-moved f a b logs n e old = omega (arith, sum_by-cons f a (logs ++ b ∷ []), sum_by_push f logs b, sum_by-cons f (joined a b) logs)

-- the last log comes to the front
sum_by-turned : (f : Log → ℕ) (b : Log) (logs : List Log) → sum_by f (b ∷ logs) ≡ sum_by f (logs ++ b ∷ [])
sum_by-turned f b logs = omega (arith, sum_by_push f logs b, sum_by-cons f b logs)

-- the first seat is taken out
pub alike_first : (xs ys : List SeatOf) (b : SeatOf) → xs ≡ ys ++ b ∷ [] → AreAlike (b.log ∷ map log_of ys) (map log_of xs)
alike_first xs ys b e =
    subst (λ (l : List Log). AreAlike (b.log ∷ map log_of ys) l) (sym (ap (map log_of) e ∙ map-push ys b))
    (record {
      parts = sum_by-turned parts_of b.log (map log_of ys);
      cleared_is = λ f. sum_by-turned (cleared f) b.log (map log_of ys);
      taken_is = λ f. sum_by-turned (taken f) b.log (map log_of ys);
      found_is = λ f. sum_by-turned (found f) b.log (map log_of ys);
    })

-- a further one is put to it
pub alike_next : (a : Log) (xs ys : List SeatOf) (b : SeatOf) (all : List Log) → xs ≡ ys ++ b ∷ [] → AreAlike (a ∷ map log_of xs) all → AreAlike (joined a b.log ∷ map log_of ys) all
alike_next a xs ys b all e alike =
    let logs = map log_of ys in
    let alike' : AreAlike (a ∷ (logs ++ b.log ∷ [])) all = subst (λ (l : List Log). AreAlike (a ∷ l) all) (ap (map log_of) e ∙ map-push ys b) alike in
    record {
      parts = sum_by-moved parts_of a b.log logs _ refl alike'.parts;
      cleared_is = λ f. sum_by-moved (cleared f) a b.log logs _ (sum_by-append (clear_found f) a.sets b.log.sets) (alike'.cleared_is f);
      taken_is = λ f. sum_by-moved (taken f) a b.log logs _ (sum_by-append (mark_taken f) a.harvests b.log.harvests) (alike'.taken_is f);
      found_is = λ f. sum_by-moved (found f) a b.log logs _ (sum_by-append (mark_found f) a.sets b.log.sets) (alike'.found_is f);
    }
