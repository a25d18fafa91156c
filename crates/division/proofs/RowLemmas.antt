-- The actors of the work, and their lines.
use Rattle.std.proofs.Common.{◌≡◌, ℕ, zero, suc, ◌+◌, ◌<◌, ◌≤◌, Bool, true, false, cond, ltb, List, [], ◌∷◌, ◌++◌, length, take, get_or, map, Option, Some, None, refl, sym, ap, ◌∙◌, arith}
use Rattle.std.specs.Prelude.{◌==◌, slice_get, nat_lt, nat_le, not, fold, position}
use Rattle.std.specs.List.{filter_map, cons_option, position_or_len, insert}
use Rattle.std.specs.Option.{option_map}
use Rattle.std.proofs.Math.Seq.{take-suc}
use Rattle.std.proofs.lemmas.Option.{slice_get-map}
use Rattle.std.proofs.lemmas.Bool.{ltb-true, ltb-false}
use Rattle.std.proofs.lemmas.Bool.Decides.{nat_tests}
use Rattle.std.proofs.lemmas.List.Elements.{filter_map-append}
use Rattle.std.proofs.lemmas.List.Sums.{fold-append}
use Rattle.machine.proofs.Values.{some_inj}
use Rattle.machine.specs.declared.command.Actor.{Actor}
use Rattle.machine.specs.declared.command.Step.{Step}
use Rattle.scripts.specs.Work.{number_of, with_actor}
use Rattle.division.specs.declared.said.Said.{Said}
use Rattle.division.specs.Sorting.{reaches, with_found, begun, option_list, with_line}

-- ---- maps

-- what a list has at a place, if its map has something there
pub record Mapped {A B : Type 0} (f : A → B) (xs : List A) (k : ℕ) (y : B) : Type 0 where
  pub x : A
  pub there : slice_get xs k ≡ Some x
  pub is : f x ≡ y

pub mapped : {A B : Type 0} (f : A → B) (xs : List A) (k : ℕ) (y : B) → slice_get (map f xs) k ≡ Some y → Mapped f xs k y
mapped f xs k y e = by (slice_get xs k) refl (sym (slice_get-map f xs k) ∙ e)
  where
    by : (o : Option _) → slice_get xs k ≡ o → option_map f o ≡ Some y → Mapped f xs k y
    by None g h = cc
    by (Some x) g h = record { x = x; there = g; is = some_inj h }

abbrev place_for : Actor → List Actor → ℕ
place_for who actors = position_or_len (reaches (number_of who)) actors

-- ---- one actor more

there_by : (a who d : Actor) (actors : List Actor) (b : Bool) → nat_le (number_of who) (number_of a) ≡ b → cond (not b) (1 + place_for who actors) 0 < suc (length actors)
    → number_of (get_or (a ∷ actors) (cond (not b) (1 + place_for who actors) 0) d) ≡ number_of who
    → (place_for who actors < length actors → number_of (get_or actors (place_for who actors) d) ≡ number_of who → with_actor actors who ≡ actors) → with_actor (a ∷ actors) who ≡ a ∷ actors
there_by a who d actors true f lt e ih =
    let below : nat_lt (number_of who) (number_of a) ≡ false = grind (arith, nat_tests) in
    let same : (number_of who == number_of a) ≡ true = grind (arith, nat_tests) in
    rw (below, same) refl
there_by a who d actors false f lt e ih =
    let one : 1 + place_for who actors ≡ suc (place_for who actors) = omega arith in
    let below : nat_lt (number_of who) (number_of a) ≡ false = grind (arith, nat_tests) in
    let other : (number_of who == number_of a) ≡ false = grind (arith, nat_tests) in
    rw (below, other) (ap (λ (l : List Actor). a ∷ l) (ih (omega arith) (rw one at e)))

there : (actors : List Actor) (who d : Actor) → place_for who actors < length actors → number_of (get_or actors (place_for who actors) d) ≡ number_of who → with_actor actors who ≡ actors
there [] who d lt e = absurd (omega arith)
there (a ∷ actors) who d lt e = there_by a who d actors (nat_le (number_of who) (number_of a)) refl lt e (λ l f. there actors who d l f)

new_by : (a who d : Actor) (actors : List Actor) (b : Bool) → nat_le (number_of who) (number_of a) ≡ b
    → (cond (not b) (1 + place_for who actors) 0 < suc (length actors) → number_of (get_or (a ∷ actors) (cond (not b) (1 + place_for who actors) 0) d) ≡ number_of who → ⊥)
    → ((place_for who actors < length actors → number_of (get_or actors (place_for who actors) d) ≡ number_of who → ⊥) → with_actor actors who ≡ insert actors (place_for who actors) who)
    → with_actor (a ∷ actors) who ≡ insert (a ∷ actors) (cond (not b) (1 + place_for who actors) 0) who
new_by a who d actors true f other ih =
    let apart : number_of a ≡ number_of who → ⊥ = other (omega arith) in
    let below : nat_lt (number_of who) (number_of a) ≡ true = grind (arith, nat_tests) in
    rw below refl
new_by a who d actors false f other ih =
    let one : 1 + place_for who actors ≡ suc (place_for who actors) = omega arith in
    let below : nat_lt (number_of who) (number_of a) ≡ false = grind (arith, nat_tests) in
    let apart : (number_of who == number_of a) ≡ false = grind (arith, nat_tests) in
    rw (below, apart, one) (ap (λ (l : List Actor). a ∷ l) (ih (λ lt e. (rw one at other) (omega arith) e)))

new_one : (actors : List Actor) (who d : Actor) → (place_for who actors < length actors → number_of (get_or actors (place_for who actors) d) ≡ number_of who → ⊥) → with_actor actors who ≡ insert actors (place_for who actors) who
new_one [] who d other = refl
new_one (a ∷ actors) who d other = new_by a who d actors (nat_le (number_of who) (number_of a)) refl other (λ o. new_one actors who d o)

-- ---- by the place that was found

found_by : (at place len : ℕ) (t : Bool) → ltb place len ≡ t → cond t (Some place) None ≡ Some at → (at ≡ place) × (place < len)
found_by at place len true e h = (sym (some_inj h), ltb-true _ _ e)
found_by at place len false e h = absurd cc

pub found_in : (o : Option ℕ) (n m : ℕ) (xs ys : List Actor) → o ≡ position (reaches n) xs → n ≡ m → xs ≡ ys → o ≡ position (reaches m) ys
found_in o n m xs ys e f g = e ∙ ap (λ (k : ℕ). position (reaches k) xs) f ∙ ap (position (reaches m)) g

pub stays : (actors : List Actor) (who : Actor) (at : ℕ) → Some at ≡ position (reaches (number_of who)) actors → (d : Actor) → number_of (get_or actors at d) ≡ number_of who → actors ≡ with_actor actors who
stays actors who at h d e =
    let f = found_by at (place_for who actors) (length actors) (ltb (place_for who actors) (length actors)) refl (sym h) in
    let same : number_of (get_or actors (place_for who actors) d) ≡ number_of who = ap (λ (k : ℕ). number_of (get_or actors k d)) (sym f.0) ∙ e in
    sym (there actors who d f.1 same)

pub inserted : (actors : List Actor) (who : Actor) (at : ℕ) → Some at ≡ position (reaches (number_of who)) actors → (d : Actor) → (number_of (get_or actors at d) ≡ number_of who → ⊥) → insert actors at who ≡ with_actor actors who
inserted actors who at h d e =
    let f = found_by at (place_for who actors) (length actors) (ltb (place_for who actors) (length actors)) refl (sym h) in
    ap (λ (k : ℕ). insert actors k who) f.0 ∙ sym (new_one actors who d (λ lt same. e (ap (λ (k : ℕ). number_of (get_or actors k d)) f.0 ∙ same)))

last_by : (who : Actor) (actors : List Actor) (t : Bool) → ltb (place_for who actors) (length actors) ≡ t → cond t (Some (place_for who actors)) None ≡ None → length actors ≤ place_for who actors
last_by who actors true e h = absurd cc
last_by who actors false e h = ltb-false _ _ e

behind : (who : Actor) (actors : List Actor) (k : ℕ) → length actors ≤ k → insert actors k who ≡ actors ++ who ∷ []
behind who [] zero le = refl
behind who [] (suc k) le = refl
behind who (a ∷ actors) zero le = absurd (omega arith)
behind who (a ∷ actors) (suc k) le = ap (λ (l : List Actor). a ∷ l) (behind who actors k (omega arith))

pub pushed : (actors : List Actor) (who : Actor) → None ≡ position (reaches (number_of who)) actors → actors ++ who ∷ [] ≡ with_actor actors who
pushed actors who h =
    let le : length actors ≤ place_for who actors = last_by who actors (ltb (place_for who actors) (length actors)) refl (sym h) in
    sym (behind who actors (place_for who actors) le) ∙ sym (new_one actors who who (λ lt e. absurd (omega (arith, le, lt))))

-- ---- loops

pub take_next : {X : Type 0} (xs : List X) (k : ℕ) (x : X) → k < length xs → x ≡ get_or xs k x → take (k + 1) xs ≡ take k xs ++ x ∷ []
take_next {X} xs k x lt e =
    let one : k + 1 ≡ suc k = omega arith in
    ap (λ (n : ℕ). take n xs) one ∙ (take-suc xs k x lt ∙ ap (λ (y : X). take k xs ++ y ∷ []) (sym e))

found_fold : (acc : List Actor) (o : Option Actor) → fold with_actor acc (option_list o) ≡ with_found acc o
found_fold acc None = refl
found_fold acc (Some who) = refl

list_by : {Y : Type 0} (o : Option Y) → cons_option o [] ≡ option_list o
list_by None = refl
list_by (Some y) = refl

pub map_one : {Y : Type 0} (h : Said → Option Y) (xs : List Said) (x : Said) → filter_map h (xs ++ x ∷ []) ≡ filter_map h xs ++ option_list (h x)
map_one {Y} h xs x = filter_map-append h xs (x ∷ []) ∙ ap (λ (l : List Y). filter_map h xs ++ l) (list_by (h x))

pub fold_one : (acc : List Actor) (h : Said → Option Actor) (xs ys : List Said) (x : Said) (before after : List Actor) → ys ≡ xs ++ x ∷ [] → before ≡ fold with_actor acc (filter_map h xs) → after ≡ with_found before (h x)
    → after ≡ fold with_actor acc (filter_map h ys)
fold_one acc h xs ys x before after e f g =
    g ∙ ap (λ (l : List Actor). with_found l (h x)) f
    ∙ sym (ap (λ (zs : List Said). fold with_actor acc (filter_map h zs)) e ∙ ap (fold with_actor acc) (map_one h xs x) ∙ fold-append with_actor acc (filter_map h xs) (option_list (h x)) ∙ found_fold (fold with_actor acc (filter_map h xs)) (h x))

pub row_one : (who : Actor) (xs ys : List Said) (x : Said) (before after : Actor × List Step) → ys ≡ xs ++ x ∷ [] → before ≡ (who, filter_map (begun who) xs) → after ≡ with_line before x → after ≡ (who, filter_map (begun who) ys)
row_one who xs ys x before after e f g =
    g ∙ ap (λ (row : Actor × List Step). with_line row x) f ∙ sym (ap (λ (l : List Step). (who, l)) (ap (filter_map (begun who)) e ∙ map_one (begun who) xs x))
