-- Rows of work: one command more, and what they are as a whole.
use Rattle.std.proofs.Common.{◌≡◌, ℕ, zero, suc, ◌+◌, ◌<◌, ◌≤◌, Bool, true, false, ◌||◌, List, [], ◌∷◌, ◌++◌, append_assoc, map, refl, sym, ap, ◌∙◌, subst, arith}
use Rattle.std.specs.Prelude.{◌≢◌, ◌==◌, nat_lt, slice_index, fold, if◌then◌else◌, Contains}
use Rattle.std.specs.List.{list_any, AllByRecursion}
use Rattle.std.specs.List.Sorted.{IsStrictlyIncreasing}
use Rattle.std.proofs.lemmas.Bool.Decides.{nat_tests}
use Rattle.std.proofs.lemmas.List.{append-nil}
use Rattle.std.proofs.lemmas.List.Elements.{filter_map-append, All-from_recursion, Contains-push, Contains-append_left, Contains-append_right}
use Rattle.std.proofs.lemmas.List.Sums.{fold_push}
use Rattle.machine.specs.declared.command.Actor.{Actor}
use Rattle.machine.specs.declared.command.Actor.TheVariants as actor
use Rattle.machine.specs.declared.command.Command.{Command}
use Rattle.scripts.specs.Work.{number_of, command_by, commands_by, with_actor, actors_of, work_of, numbers_of, IsWork}
use Rattle.scripts.specs.Rows.{with_command}

abbrev pub Asked : Type 0
Asked = Actor × Command

abbrev pub Row : Type 0
Row = Actor × List Command

-- ---- what an actor is asked for, with one command more

own : (who : Actor) (ps : List Asked) (p : Asked) → (number_of p.0 == number_of who) ≡ true → commands_by who (ps ++ p ∷ []) ≡ commands_by who ps ++ p.1 ∷ []
own who ps p e =
    let one : commands_by who (p ∷ []) ≡ p.1 ∷ [] = rw e refl in
    filter_map-append (command_by who) ps (p ∷ []) ∙ ap (λ (cs : List Command). commands_by who ps ++ cs) one

other : (who : Actor) (ps : List Asked) (p : Asked) → (number_of p.0 == number_of who) ≡ false → commands_by who (ps ++ p ∷ []) ≡ commands_by who ps
other who ps p e =
    let none : commands_by who (p ∷ []) ≡ [] = rw e refl in
    filter_map-append (command_by who) ps (p ∷ []) ∙ ap (λ (cs : List Command). commands_by who ps ++ cs) none ∙ append-nil (commands_by who ps)

-- ---- actors by rising number

abbrev Above : ℕ → List Actor → Type 0
Above n [] = Unit {0}
Above n (a ∷ actors) = (n < number_of a) × Above n actors

abbrev Rising : List Actor → Type 0
Rising [] = Unit {0}
Rising (a ∷ actors) = Above (number_of a) actors × Rising actors

above_lower : (m n : ℕ) (actors : List Actor) → m ≤ n → Above n actors → Above m actors
above_lower m n [] le h = tt
above_lower m n (a ∷ actors) le (lt, h) = (omega arith, above_lower m n actors le h)

-- one actor more, by whether its number is below the first one's, and is it
abbrev with_by : Bool → Bool → Actor → List Actor → Actor → List Actor
with_by lt eq a actors who = if lt then who ∷ a ∷ actors else if eq then a ∷ actors else a ∷ with_actor actors who

above_by : (n : ℕ) (a : Actor) (actors : List Actor) (who : Actor) (s t : Bool) → n < number_of who → Above n (a ∷ actors) → Above n (with_actor actors who) → Above n (with_by s t a actors who)
above_by n a actors who true t lt h ih = (lt, h)
above_by n a actors who false true lt h ih = h
above_by n a actors who false false lt h ih = (h.0, ih)

above_with : (n : ℕ) (actors : List Actor) (who : Actor) → n < number_of who → Above n actors → Above n (with_actor actors who)
above_with n [] who lt h = (lt, tt)
above_with n (a ∷ actors) who lt h = above_by n a actors who (nat_lt (number_of who) (number_of a)) (number_of who == number_of a) lt h (above_with n actors who lt h.1)

rising_by : (a : Actor) (actors : List Actor) (who : Actor) (s t : Bool) → nat_lt (number_of who) (number_of a) ≡ s → (number_of who == number_of a) ≡ t → Rising (a ∷ actors) → Rising (with_actor actors who)
    → Rising (with_by s t a actors who)
rising_by a actors who true t e f h ih =
    let lt : number_of who < number_of a = grind (arith, nat_tests) in
    ((lt, above_lower (number_of who) (number_of a) actors (omega arith) h.0), h)
rising_by a actors who false true e f h ih = h
rising_by a actors who false false e f h ih =
    let lt : number_of a < number_of who = grind (arith, nat_tests) in
    (above_with (number_of a) actors who lt h.0, ih)

rising_with : (actors : List Actor) (who : Actor) → Rising actors → Rising (with_actor actors who)
rising_with [] who h = (tt, tt)
rising_with (a ∷ actors) who h = rising_by a actors who (nat_lt (number_of who) (number_of a)) (number_of who == number_of a) refl refl h (rising_with actors who h.1)

-- the actors of some commands behind those that are there
abbrev and_of : List Actor → List Asked → List Actor
and_of actors ps = fold (λ (bs : List Actor) (p : Asked). with_actor bs p.0) actors ps

rising_of : (actors : List Actor) (ps : List Asked) → Rising actors → Rising (and_of actors ps)
rising_of actors [] h = h
rising_of actors (p ∷ ps) h = rising_of (with_actor actors p.0) ps (rising_with actors p.0 h)

-- ---- who is among them

abbrev is_who : Actor → Actor → Bool
is_who who a = number_of who == number_of a

none_above : (who : Actor) (actors : List Actor) → Above (number_of who) actors → list_any (is_who who) actors ≡ false
none_above who [] h = refl
none_above who (a ∷ actors) h =
    let lt : number_of who < number_of a = h.0 in
    let e : is_who who a ≡ false = grind (arith, nat_tests) in
    rw e (none_above who actors h.1)

twice : (x r : Bool) → (x || r) ≡ (x || (x || r))
twice true r = refl
twice false r = refl

turned : (x y r : Bool) → (x || (y || r)) ≡ (y || (x || r))
turned true true r = refl
turned true false r = refl
turned false y r = refl

any_by : (who a b : Actor) (actors : List Actor) (s t : Bool) → (number_of b == number_of a) ≡ t → list_any (is_who who) (with_actor actors b) ≡ (is_who who b || list_any (is_who who) actors)
    → list_any (is_who who) (with_by s t a actors b) ≡ (is_who who b || list_any (is_who who) (a ∷ actors))
any_by who a b actors true t f ih = refl
any_by who a b actors false true f ih =
    let same : number_of b ≡ number_of a = grind (arith, nat_tests) in
    let e : is_who who a ≡ is_who who b = ap (λ (n : ℕ). number_of who == n) (sym same) in
    rw e (twice (is_who who b) (list_any (is_who who) actors))
any_by who a b actors false false f ih = ap (λ (r : Bool). is_who who a || r) ih ∙ turned (is_who who a) (is_who who b) (list_any (is_who who) actors)

any_with : (who : Actor) (actors : List Actor) (b : Actor) → list_any (is_who who) (with_actor actors b) ≡ (is_who who b || list_any (is_who who) actors)
any_with who [] b = refl
any_with who (a ∷ actors) b = any_by who a b actors (nat_lt (number_of b) (number_of a)) (number_of b == number_of a) refl (any_with who actors b)

or_parts : (x y : Bool) → (x || y) ≡ false → (x ≡ false) × (y ≡ false)
or_parts true y h = absurd cc
or_parts false y h = (refl, h)

-- who is not among them is asked for nothing
fresh : (who : Actor) (actors : List Actor) (ps : List Asked) → list_any (is_who who) (and_of actors ps) ≡ false → (list_any (is_who who) actors ≡ false) × (commands_by who ps ≡ [])
fresh who actors [] h = (h, refl)
fresh who actors (p ∷ ps) h =
    let rest = fresh who (with_actor actors p.0) ps h in
    let parts = or_parts (is_who who p.0) (list_any (is_who who) actors) (sym (any_with who actors p.0) ∙ rest.0) in
    let no : (number_of who == number_of p.0) ≡ false = parts.0 in
    let e : (number_of p.0 == number_of who) ≡ false = grind (arith, nat_tests) in
    (parts.1, rw e rest.1)

-- ---- rows

-- a row for each of these actors, with what it is asked for of these
abbrev rows_for : List Asked → List Actor → List Row
rows_for ps actors = map (λ (who : Actor). (who, commands_by who ps)) actors

unmoved : (ps : List Asked) (p : Asked) (actors : List Actor) → Above (number_of p.0) actors → rows_for (ps ++ p ∷ []) actors ≡ rows_for ps actors
unmoved ps p [] h = refl
unmoved ps p (a ∷ actors) h =
    let lt : number_of p.0 < number_of a = h.0 in
    let e : (number_of p.0 == number_of a) ≡ false = grind (arith, nat_tests) in
    ap (λ (cs : List Command). (a, cs) ∷ rows_for (ps ++ p ∷ []) actors) (other a ps p e) ∙ ap (λ (rows : List Row). (a, commands_by a ps) ∷ rows) (unmoved ps p actors h.1)

-- one command more, by whether its actor's number is below the first row's, and is it
abbrev pub row_by : Bool → Bool → Row → List Row → Asked → List Row
row_by lt eq row rows p = if lt then (p.0, p.1 ∷ []) ∷ row ∷ rows else if eq then (row.0, row.1 ++ p.1 ∷ []) ∷ rows else row ∷ with_command rows p

rows_by : (ps : List Asked) (p : Asked) (a : Actor) (actors : List Actor) (s t : Bool) → nat_lt (number_of p.0) (number_of a) ≡ s → (number_of p.0 == number_of a) ≡ t → Rising (a ∷ actors)
    → (list_any (is_who p.0) (a ∷ actors) ≡ false → commands_by p.0 ps ≡ [])
    → ((list_any (is_who p.0) actors ≡ false → commands_by p.0 ps ≡ []) → rows_for (ps ++ p ∷ []) (with_actor actors p.0) ≡ with_command (rows_for ps actors) p)
    → rows_for (ps ++ p ∷ []) (with_by s t a actors p.0) ≡ row_by s t (a, commands_by a ps) (rows_for ps actors) p
rows_by ps p a actors true t e f h new ih =
    let lt : number_of p.0 < number_of a = grind (arith, nat_tests) in
    let above : Above (number_of p.0) (a ∷ actors) = (lt, above_lower (number_of p.0) (number_of a) actors (omega arith) h.0) in
    let itself : (number_of p.0 == number_of p.0) ≡ true = grind (arith, nat_tests) in
    let first : commands_by p.0 (ps ++ p ∷ []) ≡ p.1 ∷ [] = own p.0 ps p itself ∙ ap (λ (cs : List Command). cs ++ p.1 ∷ []) (new (none_above p.0 (a ∷ actors) above)) in
    ap (λ (cs : List Command). (p.0, cs) ∷ rows_for (ps ++ p ∷ []) (a ∷ actors)) first ∙ ap (λ (rows : List Row). (p.0, p.1 ∷ []) ∷ rows) (unmoved ps p (a ∷ actors) above)
rows_by ps p a actors false true e f h new ih =
    let same : number_of p.0 ≡ number_of a = grind (arith, nat_tests) in
    let above : Above (number_of p.0) actors = above_lower (number_of p.0) (number_of a) actors (omega arith) h.0 in
    ap (λ (cs : List Command). (a, cs) ∷ rows_for (ps ++ p ∷ []) actors) (own a ps p f) ∙ ap (λ (rows : List Row). (a, commands_by a ps ++ p.1 ∷ []) ∷ rows) (unmoved ps p actors above)
rows_by ps p a actors false false e f h new ih =
    ap (λ (cs : List Command). (a, cs) ∷ rows_for (ps ++ p ∷ []) (with_actor actors p.0)) (other a ps p f) ∙ ap (λ (rows : List Row). (a, commands_by a ps) ∷ rows) (ih (λ none. new (rw f none)))

rows_with : (ps : List Asked) (p : Asked) (actors : List Actor) → Rising actors → (list_any (is_who p.0) actors ≡ false → commands_by p.0 ps ≡ []) → rows_for (ps ++ p ∷ []) (with_actor actors p.0) ≡ with_command (rows_for ps actors) p
rows_with ps p [] h new =
    let itself : (number_of p.0 == number_of p.0) ≡ true = grind (arith, nat_tests) in
    let first : commands_by p.0 (ps ++ p ∷ []) ≡ p.1 ∷ [] = own p.0 ps p itself ∙ ap (λ (cs : List Command). cs ++ p.1 ∷ []) (new refl) in
    ap (λ (cs : List Command). (p.0, cs) ∷ []) first
rows_with ps p (a ∷ actors) h new = rows_by ps p a actors (nat_lt (number_of p.0) (number_of a)) (number_of p.0 == number_of a) refl refl h new (λ new'. rows_with ps p actors h.1 new')

-- with one command more the rows are those with the command put into its actor's
pub work_push : (ps : List Asked) (p : Asked) → work_of (ps ++ p ∷ []) ≡ with_command (work_of ps) p
work_push ps p =
    ap (λ (actors : List Actor). rows_for (ps ++ p ∷ []) actors) (fold_push (λ (bs : List Actor) (q : Asked). with_actor bs q.0) [] ps p)
    ∙ rows_with ps p (actors_of ps) (rising_of [] ps tt) (λ none. (fresh p.0 [] ps none).1)

-- ---- the rows as a whole

number_inj : (a b : Actor) → number_of a ≡ number_of b → a ≡ b
number_inj actor.Shell actor.Shell h = refl
number_inj actor.Control actor.Control h = refl
number_inj actor.Daemon actor.Daemon h = refl
number_inj (actor.Task m) (actor.Task n) h = (let e : m ≡ n = omega arith in ap actor.Task e)
number_inj actor.Shell (actor.Task n) h = absurd (omega arith)
number_inj actor.Control (actor.Task n) h = absurd (omega arith)
number_inj actor.Daemon (actor.Task n) h = absurd (omega arith)
number_inj (actor.Task n) actor.Shell h = absurd (omega arith)
number_inj (actor.Task n) actor.Control h = absurd (omega arith)
number_inj (actor.Task n) actor.Daemon h = absurd (omega arith)
number_inj actor.Shell actor.Control h = absurd (omega arith)
number_inj actor.Shell actor.Daemon h = absurd (omega arith)
number_inj actor.Control actor.Shell h = absurd (omega arith)
number_inj actor.Control actor.Daemon h = absurd (omega arith)
number_inj actor.Daemon actor.Shell h = absurd (omega arith)
number_inj actor.Daemon actor.Control h = absurd (omega arith)

-- what holds of these and of one more holds of all
each_by : (P : Actor → Type 0) (a : Actor) (actors : List Actor) (who : Actor) (s t : Bool) → P who → AllByRecursion P (a ∷ actors) → AllByRecursion P (with_actor actors who) → AllByRecursion P (with_by s t a actors who)
each_by P a actors who true t one h ih = (one, h)
each_by P a actors who false true one h ih = h
each_by P a actors who false false one h ih = (h.0, ih)

each_with : (P : Actor → Type 0) (actors : List Actor) (who : Actor) → P who → AllByRecursion P actors → AllByRecursion P (with_actor actors who)
each_with P [] who one h = (one, tt)
each_with P (a ∷ actors) who one h = each_by P a actors who (nat_lt (number_of who) (number_of a)) (number_of who == number_of a) one h (each_with P actors who one h.1)

abbrev IsAsked : List Asked → Actor → Type 0
IsAsked ps who = commands_by who ps ≢ []

longer : (xs ys : List Command) → xs ≢ [] → xs ++ ys ≢ []
longer [] ys h e = h refl
longer (x ∷ xs) ys h e = absurd cc

ends_so : (xs : List Command) (y : Command) → xs ++ y ∷ [] ≢ []
ends_so [] y e = absurd cc
ends_so (x ∷ xs) y e = absurd cc

asked_still : (ps qs : List Asked) (who : Actor) → IsAsked ps who → IsAsked (ps ++ qs) who
asked_still ps qs who h e = longer (commands_by who ps) (commands_by who qs) h (sym (filter_map-append (command_by who) ps qs) ∙ e)

asked_now : (ps : List Asked) (p : Asked) → IsAsked (ps ++ p ∷ []) p.0
asked_now ps p e =
    let itself : (number_of p.0 == number_of p.0) ≡ true = grind (arith, nat_tests) in
    ends_so (commands_by p.0 ps) p.1 (sym (own p.0 ps p itself) ∙ e)

all_still : (ps qs : List Asked) (actors : List Actor) → AllByRecursion (IsAsked ps) actors → AllByRecursion (IsAsked (ps ++ qs)) actors
all_still ps qs [] h = tt
all_still ps qs (a ∷ actors) h = (asked_still ps qs a h.0, all_still ps qs actors h.1)

each_asked : (done ps : List Asked) (actors : List Actor) → AllByRecursion (IsAsked done) actors → AllByRecursion (IsAsked (done ++ ps)) (and_of actors ps)
each_asked done [] actors h = subst (λ (qs : List Asked). AllByRecursion (IsAsked qs) actors) (sym (append-nil done)) h
each_asked done (p ∷ ps) actors h =
    subst (λ (qs : List Asked). AllByRecursion (IsAsked qs) (and_of actors (p ∷ ps))) (append_assoc done (p ∷ []) ps)
    (each_asked (done ++ p ∷ []) ps (with_actor actors p.0) (each_with (IsAsked (done ++ p ∷ [])) actors p.0 (asked_now done p) (all_still done (p ∷ []) actors h)))

-- who is among them has a row
has_later : (who a : Actor) (actors : List Actor) → Contains actors who → Contains (a ∷ actors) who
has_later who a actors h = Contains-append_right (a ∷ []) actors who h

has_first : (a : Actor) (actors : List Actor) → Contains (a ∷ actors) a
has_first a actors = Contains-append_left (a ∷ []) actors a (Contains-push [] a)

found_by : (who a : Actor) (actors : List Actor) (t : Bool) → is_who who a ≡ t → (t || list_any (is_who who) actors) ≡ true → (list_any (is_who who) actors ≡ true → Contains actors who) → Contains (a ∷ actors) who
found_by who a actors true f h rest =
    let same : number_of who ≡ number_of a = grind (arith, nat_tests) in
    subst (λ (b : Actor). Contains (a ∷ actors) b) (sym (number_inj who a same)) (has_first a actors)
found_by who a actors false f h rest = has_later who a actors (rest h)

found : (who : Actor) (actors : List Actor) → list_any (is_who who) actors ≡ true → Contains actors who
found who [] h = absurd cc
found who (a ∷ actors) h = found_by who a actors (is_who who a) refl h (λ h'. found who actors h')

has_row : (ps : List Asked) (who : Actor) (t : Bool) → list_any (is_who who) (actors_of ps) ≡ t → commands_by who ps ≢ [] → Contains (actors_of ps) who
has_row ps who true e h = found who (actors_of ps) e
has_row ps who false e h = absurd (h (fresh who [] ps e).1)

who_of : (ps : List Asked) (actors : List Actor) → map (λ (row : Row). row.0) (rows_for ps actors) ≡ actors
who_of ps [] = refl
who_of ps (a ∷ actors) = ap (λ (bs : List Actor). a ∷ bs) (who_of ps actors)

rise : (ps : List Asked) (actors : List Actor) → Rising actors → IsStrictlyIncreasing (numbers_of (rows_for ps actors))
rise ps [] h k lt = absurd (omega arith)
rise ps (a ∷ []) h k lt = absurd (omega arith)
rise ps (a ∷ b ∷ actors) h zero lt = h.0.0
rise ps (a ∷ b ∷ actors) h (suc k) lt =
    let next : suc k + 1 ≡ suc (k + 1) = omega arith in
    let numbers : List ℕ = numbers_of (rows_for ps (b ∷ actors)) in
    subst (λ (j : ℕ). slice_index numbers k < slice_index (number_of a ∷ numbers) j) (sym next) (rise ps (b ∷ actors) h.1 k (omega arith))

-- a row's commands, and that there are some
abbrev IsRowOf : List Asked → Row → Type 0
IsRowOf ps row = (row.1 ≡ commands_by row.0 ps) × (row.1 ≢ [])

each_row : (ps : List Asked) (actors : List Actor) → AllByRecursion (IsAsked ps) actors → AllByRecursion (IsRowOf ps) (rows_for ps actors)
each_row ps [] h = tt
each_row ps (a ∷ actors) h = ((refl, h.0), each_row ps actors h.1)

pub work_is_whole : (ps : List Asked) → IsWork ps (work_of ps)
work_is_whole ps =
    record {
      whole = All-from_recursion (IsRowOf ps) (work_of ps) (each_row ps (actors_of ps) (each_asked [] ps [] tt));
      rising = rise ps (actors_of ps) (rising_of [] ps tt);
      all = λ who h. subst (λ (actors : List Actor). Contains actors who) (sym (who_of ps (actors_of ps))) (has_row ps who (list_any (is_who who) (actors_of ps)) refl h);
    }
