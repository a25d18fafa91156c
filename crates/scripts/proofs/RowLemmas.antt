-- Rows under the numbers of their actors, as a map keeps them: one command more.
use Rattle.std.proofs.Common.{◌≡◌, ℕ, ◌<◌, Bool, true, false, cond, List, [], ◌∷◌, ◌++◌, Option, Some, None, refl, sym, ap, ◌∙◌, arith, Vec}
use Rattle.std.specs.Prelude.{◌==◌, nat_lt}
use Rattle.std.specs.Ordering.{nat_cmp, is_eq, match_ordering}
use Rattle.std.specs.List.{AllByRecursion}
use Rattle.std.specs.List.Sorted.{IsStrictlySortedBy}
use Rattle.std.specs.Map.{keys_of, values_of, lookup, set_value}
use Rattle.std.specs.BTreeMap.{insert_entry, is_at}
use Rattle.std.specs.declared.alloc.Global.{Global}
use Rattle.std.specs.declared.cmp.Ordering.TheVariants.{Less, Equal, Greater}
use Rattle.std.proofs.lemmas.Bool.Decides.{nat_tests}
use Rattle.std.proofs.lemmas.Map.Keys.{sorted_head, sorted_tail}
use Rattle.machine.specs.declared.command.Actor.{Actor}
use Rattle.machine.specs.declared.command.Command.{Command}
use Rattle.scripts.specs.Work.{number_of, numbers_of, shown_rows}
use Rattle.scripts.specs.Rows.{with_command}
use Rattle.scripts.proofs.WorkLemmas.{Row, row_by}

-- a row as it is kept
abbrev pub Kept : Type 0
Kept = Actor × Vec Command Global

abbrev pub Entries : Type 0
Entries = List (ℕ × Kept)

abbrev pub shown : Entries → List Row
shown es = shown_rows (values_of es)

-- each row stands under its actor's number
abbrev pub IsKeyed : Entries → Type 0
IsKeyed es = keys_of es ≡ numbers_of (shown es)

keyed_head : (k : ℕ) (x : Kept) (es : Entries) → IsKeyed ((k, x) ∷ es) → k ≡ number_of x.0
keyed_head k x es h = cc

keyed_tail : (k : ℕ) (x : Kept) (es : Entries) → IsKeyed ((k, x) ∷ es) → IsKeyed es
keyed_tail k x es h = cc

missing_here : {X : Type 0} (b : Bool) (x : X) (o : Option X) → cond b (Some x) o ≡ None → b ≡ false
missing_here true x o h = absurd cc
missing_here false x o h = refl

missing_later : {X : Type 0} (b : Bool) (x : X) (o : Option X) → cond b (Some x) o ≡ None → o ≡ None
missing_later true x o h = absurd cc
missing_later false x o h = h

-- ---- a new row

-- one row more, by whether its number is below the first one's, and is it
abbrev entry_by : Bool → Bool → ℕ × Kept → Entries → ℕ → Kept → Entries
entry_by lt eq e es n v = match_ordering (cond lt Less (cond eq Equal Greater)) ((n, v) ∷ e ∷ es) ((e.0, v) ∷ es) (e ∷ insert_entry nat_cmp es n v)

put_by : (x : Kept) (es : Entries) (v : Kept) (c : Command) (s t : Bool) → v.1.items ≡ c ∷ [] → is_eq (cond s Less (cond t Equal Greater)) ≡ false
    → shown (insert_entry nat_cmp es (number_of v.0) v) ≡ with_command (shown es) (v.0, c)
    → shown (entry_by s t (number_of x.0, x) es (number_of v.0) v) ≡ row_by s t (x.0, x.1.items) (shown es) (v.0, c)
put_by x es v c true t items none ih = ap (λ (cs : List Command). (v.0, cs) ∷ (x.0, x.1.items) ∷ shown es) items
put_by x es v c false true items none ih = absurd cc
put_by x es v c false false items none ih = ap (λ (rows : List Row). (x.0, x.1.items) ∷ rows) ih

put_new : (es : Entries) (v : Kept) (c : Command) → v.1.items ≡ c ∷ [] → IsKeyed es → lookup (is_at (nat_cmp (number_of v.0))) es ≡ None
    → shown (insert_entry nat_cmp es (number_of v.0) v) ≡ with_command (shown es) (v.0, c)
put_new [] v c items keyed none = ap (λ (cs : List Command). (v.0, cs) ∷ []) items
put_new ((k, x) ∷ es) v c items keyed none =
    let key : k ≡ number_of x.0 = keyed_head k x es keyed in
    let here : is_eq (nat_cmp (number_of v.0) k) ≡ false = missing_here (is_eq (nat_cmp (number_of v.0) k)) x (lookup (is_at (nat_cmp (number_of v.0))) es) none in
    let later : lookup (is_at (nat_cmp (number_of v.0))) es ≡ None = missing_later (is_eq (nat_cmp (number_of v.0) k)) x (lookup (is_at (nat_cmp (number_of v.0))) es) none in
    rw key (put_by x es v c (nat_lt (number_of v.0) (number_of x.0)) (number_of v.0 == number_of x.0) items (rw key at here) (put_new es v c items (keyed_tail k x es keyed) later))

-- the map, under the number that was asked for
pub put_in : (es : Entries) (n : ℕ) (v : Kept) (c : Command) → n ≡ number_of v.0 → v.1.items ≡ c ∷ [] → IsKeyed es → lookup (is_at (nat_cmp n)) es ≡ None
    → shown (insert_entry nat_cmp es n v) ≡ with_command (shown es) (v.0, c)
put_in es n v c e items keyed none = rw e (put_new es v c items keyed (rw e at none))

numbers_by : (x : Kept) (es : Entries) (v : Kept) (s t : Bool) → (number_of v.0 == number_of x.0) ≡ t → IsKeyed es → IsKeyed (insert_entry nat_cmp es (number_of v.0) v)
    → IsKeyed (entry_by s t (number_of x.0, x) es (number_of v.0) v)
numbers_by x es v true t f keyed ih = ap (λ (ns : List ℕ). number_of v.0 ∷ number_of x.0 ∷ ns) keyed
numbers_by x es v false true f keyed ih =
    let same : number_of x.0 ≡ number_of v.0 = grind (arith, nat_tests) in
    ap (λ (n : ℕ). n ∷ keys_of es) same ∙ ap (λ (ns : List ℕ). number_of v.0 ∷ ns) keyed
numbers_by x es v false false f keyed ih = ap (λ (ns : List ℕ). number_of x.0 ∷ ns) ih

numbers_new : (es : Entries) (v : Kept) → IsKeyed es → IsKeyed (insert_entry nat_cmp es (number_of v.0) v)
numbers_new [] v keyed = refl
numbers_new ((k, x) ∷ es) v keyed =
    let key : k ≡ number_of x.0 = keyed_head k x es keyed in
    let rest : IsKeyed es = keyed_tail k x es keyed in
    rw key (numbers_by x es v (nat_lt (number_of v.0) (number_of x.0)) (number_of v.0 == number_of x.0) refl rest (numbers_new es v rest))

pub keyed_in : (es : Entries) (n : ℕ) (v : Kept) → n ≡ number_of v.0 → IsKeyed es → IsKeyed (insert_entry nat_cmp es n v)
keyed_in es n v e keyed = rw e (numbers_new es v keyed)

-- ---- a row that is there

-- below all keys nothing is found
none_below : (n k : ℕ) (es : Entries) → n < k → AllByRecursion (λ (y : ℕ). nat_cmp k y ≡ Less) (keys_of es) → lookup (is_at (nat_cmp n)) es ≡ None
none_below n k [] lt h = refl
none_below n k ((j, x) ∷ es) lt h =
    let more : k < j = grind (arith, nat_tests, h.0) in
    let apart : is_eq (nat_cmp n j) ≡ false = grind (arith, nat_tests) in
    rw apart (none_below n k es lt h.1)

abbrev set_by : Bool → Bool → ℕ × Kept → Entries → ℕ → Kept → Entries
set_by lt eq e es n w = cond (is_eq (cond lt Less (cond eq Equal Greater))) ((e.0, w) ∷ es) (e ∷ set_value (is_at (nat_cmp n)) es w)

more_by : (x : Kept) (es : Entries) (who : Actor) (c : Command) (v w : Kept) (s t : Bool) → nat_lt (number_of who) (number_of x.0) ≡ s → w.0 ≡ v.0 → w.1.items ≡ v.1.items ++ c ∷ []
    → IsStrictlySortedBy nat_cmp (number_of x.0 ∷ keys_of es)
    → cond (is_eq (cond s Less (cond t Equal Greater))) (Some x) (lookup (is_at (nat_cmp (number_of who))) es) ≡ Some v
    → (lookup (is_at (nat_cmp (number_of who))) es ≡ Some v → shown (set_value (is_at (nat_cmp (number_of who))) es w) ≡ with_command (shown es) (who, c))
    → shown (set_by s t (number_of x.0, x) es (number_of who) w) ≡ row_by s t (x.0, x.1.items) (shown es) (who, c)
more_by x es who c v w true t e same items sorted found ih =
    let lt : number_of who < number_of x.0 = grind (arith, nat_tests) in
    let none : lookup (is_at (nat_cmp (number_of who))) es ≡ None = none_below (number_of who) (number_of x.0) es lt (sorted_head nat_cmp (number_of x.0) (keys_of es) sorted) in
    absurd cc
more_by x es who c v w false true e same items sorted found ih =
    let is : x ≡ v = cc in
    ap (λ (a : Actor). (a, w.1.items) ∷ shown es) (same ∙ ap (λ (y : Kept). y.0) (sym is))
    ∙ ap (λ (cs : List Command). (x.0, cs) ∷ shown es) (items ∙ ap (λ (y : Kept). y.1.items ++ c ∷ []) (sym is))
more_by x es who c v w false false e same items sorted found ih = ap (λ (rows : List Row). (x.0, x.1.items) ∷ rows) (ih found)

set_more : (es : Entries) (who : Actor) (c : Command) (v w : Kept) → w.0 ≡ v.0 → w.1.items ≡ v.1.items ++ c ∷ [] → IsKeyed es → IsStrictlySortedBy nat_cmp (keys_of es)
    → lookup (is_at (nat_cmp (number_of who))) es ≡ Some v → shown (set_value (is_at (nat_cmp (number_of who))) es w) ≡ with_command (shown es) (who, c)
set_more [] who c v w same items keyed sorted found = absurd cc
set_more ((k, x) ∷ es) who c v w same items keyed sorted found =
    let key : k ≡ number_of x.0 = keyed_head k x es keyed in
    rw key (more_by x es who c v w (nat_lt (number_of who) (number_of x.0)) (number_of who == number_of x.0) refl same items (rw key at sorted) (rw key at found)
    (λ found'. set_more es who c v w same items (keyed_tail k x es keyed) (sorted_tail nat_cmp k (keys_of es) sorted) found'))

pub more_in : (es : Entries) (n : ℕ) (who : Actor) (c : Command) (v w : Kept) → n ≡ number_of who → w.0 ≡ v.0 → w.1.items ≡ v.1.items ++ c ∷ [] → IsKeyed es → IsStrictlySortedBy nat_cmp (keys_of es)
    → lookup (is_at (nat_cmp n)) es ≡ Some v → shown (set_value (is_at (nat_cmp n)) es w) ≡ with_command (shown es) (who, c)
more_in es n who c v w e same items keyed sorted found = rw e (set_more es who c v w same items keyed sorted (rw e at found))

-- whatever becomes of the row's commands, the numbers stay
same_by : (test : ℕ → Bool) (k : ℕ) (x : Kept) (es : Entries) (v w : Kept) (b : Bool) → w.0 ≡ v.0 → cond b (Some x) (lookup test es) ≡ Some v
    → (lookup test es ≡ Some v → numbers_of (shown (set_value test es w)) ≡ numbers_of (shown es)) → numbers_of (shown (cond b ((k, w) ∷ es) ((k, x) ∷ set_value test es w))) ≡ numbers_of (shown ((k, x) ∷ es))
same_by test k x es v w true same found ih = (let is : x ≡ v = cc in ap (λ (a : Actor). number_of a ∷ numbers_of (shown es)) (same ∙ ap (λ (y : Kept). y.0) (sym is)))
same_by test k x es v w false same found ih = ap (λ (ns : List ℕ). number_of x.0 ∷ ns) (ih found)

same_numbers : (test : ℕ → Bool) (es : Entries) (v w : Kept) → w.0 ≡ v.0 → lookup test es ≡ Some v → numbers_of (shown (set_value test es w)) ≡ numbers_of (shown es)
same_numbers test [] v w same found = refl
same_numbers test ((k, x) ∷ es) v w same found = same_by test k x es v w (test k) same found (λ found'. same_numbers test es v w same found')

pub keyed_still : (test : ℕ → Bool) (es new : Entries) (v w : Kept) → w.0 ≡ v.0 → lookup test es ≡ Some v → new ≡ set_value test es w → keys_of new ≡ keys_of es → IsKeyed es → IsKeyed new
keyed_still test es new v w same found set keys keyed = keys ∙ keyed ∙ sym (ap (λ (fs : Entries). numbers_of (shown fs)) set ∙ same_numbers test es v w same found)
