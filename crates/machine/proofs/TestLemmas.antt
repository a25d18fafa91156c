-- Which numbers of a table pass a test, and how many.
use Rattle.std.proofs.Common.{◌≡◌, ◌≢◌, ℕ, zero, suc, ◌≤◌, Bool, true, false, List, [], ◌∷◌, Option, None, refl, sym, ap, ◌∙◌, arith, get_or-set_other}
use Rattle.std.specs.Prelude.{slice_set}
use Rattle.std.proofs.lemmas.Bool.{or_parts}
use Rattle.std.proofs.lemmas.List.Sums.{sum_by-cons}
use Rattle.machine.specs.Slots.{at, Changes, there_and, count_there, any_there}
use Rattle.machine.proofs.SlotLemmas.{one_if, count_there-none, count_there-some, count_there-changes}

pub bool_le : (a b : Bool) → (a ≡ true → b ≡ true) → one_if a ≤ one_if b
bool_le true b f = let e : one_if b ≡ 1 = ap one_if (f refl) in omega (arith, e)
bool_le false b f = omega arith

not_true : (b : Bool) → (b ≡ true → false ≡ true) → b ≡ false
not_true true f = let e = f refl in cc
not_true false f = refl

-- what passes one test passes another
pub tests-less : {T : Type 0} (test other : T → Bool) (xs ys : List (Option T)) → ((n : ℕ) → there_and other (at ys n) ≡ true → there_and test (at xs n) ≡ true) → count_there other ys ≤ count_there test xs
tests-less test other xs [] less = omega arith
tests-less test other [] (y ∷ ys) less = let none = count_there-none other (y ∷ ys) (λ n. not_true (there_and other (at (y ∷ ys) n)) (less n)) in omega (arith, none)
tests-less {T} test other (x ∷ xs) (y ∷ ys) less =
    let more = sum_by-cons (λ (slot : Option T). one_if (there_and test slot)) x xs in
    let more' = sum_by-cons (λ (slot : Option T). one_if (there_and other slot)) y ys in
    let here = bool_le (there_and other y) (there_and test x) (less 0) in
    let rest = tests-less test other xs ys (λ n. less (suc n)) in
    omega (arith, more, more', here, rest)

-- what passes there passed before
pub count-less : {T : Type 0} (test : T → Bool) (xs ys : List (Option T)) → ((n : ℕ) → there_and test (at ys n) ≡ true → there_and test (at xs n) ≡ true) → count_there test ys ≤ count_there test xs
count-less test = tests-less test test

-- two places that pass are two
pub count-two : {T : Type 0} (test : T → Bool) (xs : List (Option T)) (p q : ℕ) → p ≢ q → there_and test (at xs p) ≡ true → there_and test (at xs q) ≡ true → 2 ≤ count_there test xs
count-two {T} test xs p q differs first second =
    let without : List (Option T) = slice_set xs p None in
    let gone : Changes xs without p None = record { changed = set_none xs p; others = λ m other. get_or-set_other xs p m None None other } in
    let both = count_there-changes test xs without p None gone in
    let stood : one_if (there_and test (at xs p)) ≡ 1 = ap one_if first in
    let left = count_there-some test without q (ap (there_and test) (get_or-set_other xs p q None None (λ e. differs (sym e))) ∙ second) in
    omega (arith, both, stood, left)
  where
    set_none : (zs : List (Option T)) (n : ℕ) → at (slice_set zs n None) n ≡ None
    set_none [] n = refl
    set_none (z ∷ zs) zero = refl
    set_none (z ∷ zs) (suc n) = set_none zs n

pub none_has : {T : Type 0} (test : T → Bool) (slots : List (Option T)) → any_there test slots ≡ false → (n : ℕ) → there_and test (at slots n) ≡ false
none_has test [] e n = refl
none_has test (slot ∷ slots) e zero = (or_parts (there_and test slot) _ e).0
none_has test (slot ∷ slots) e (suc n) = none_has test slots (or_parts (there_and test slot) _ e).1 n
