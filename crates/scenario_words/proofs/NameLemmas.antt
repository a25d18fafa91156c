-- Names of the script stand for names of the scenario.
use Rattle.std.proofs.Common.{◌≡◌, ℕ, ◌+◌, ◌-◌, ◌^◌, ◌<◌, Bool, true, false, cond, eqb, ltb, List, [], ◌∷◌, ◌++◌, length, get_or, Option, Some, None, codes, decimal, refl, sym, ap, subst, ◌∙◌, arith, rules, length-append}
use Rattle.std.specs.Prelude.{◌&&◌, ◌||◌, is_some, position}
use Rattle.std.specs.Char.{is_ascii_digit}
use Rattle.std.specs.List.{list_all, position_or_len, slice_get}
use Rattle.std.specs.Str.{bytes_eq}
use Rattle.std.specs.Str.Parse.{digits_value}
use Rattle.std.proofs.lemmas.Bool.{lt-ltb, eqb-true}
use Rattle.std.proofs.lemmas.Fmt.{decimal_nonempty, digits_decimal, digits_value-decimal}
use Rattle.std.proofs.lemmas.List.Folds.{position_or_len_push}
use Rattle.std.proofs.lemmas.List.Quantifiers.{position-Some}
use Rattle.std.proofs.lemmas.List.Sums.{position_or_len_is}
use Rattle.std.proofs.lemmas.Option.{slice_get-get_or}
use Rattle.std.proofs.lemmas.Slice.Eq.{bytes_eq-Decides}
use Rattle.std.proofs.lemmas.Str.Parse.{IsNumeralModel, numerals_by_value}
use Rattle.machine.specs.Names.{is_name}
use Rattle.machine.specs.Numbers.{number_below}
use Rattle.scenario_words.specs.Names.{is_own, place_of, with_new, mentioned, script_name, is_mentioned, true_name}

-- ---- numbers

own : IsNumeralModel (λ ds. list_all is_ascii_digit ds ≡ true) (digits_value 10)
own = numerals_by_value _ (search rules)

read_back : (n : ℕ) → n < 2 ^ 64 → number_below (2 ^ 64) (decimal n) ≡ Some n
read_back n small =
    let some : ltb 0 (length (decimal n)) ≡ true = lt-ltb _ _ (decimal_nonempty n small) in
    let digits : list_all is_ascii_digit (decimal n) ≡ true = digits_decimal own n small in
    let value : digits_value 10 (decimal n) ≡ n = digits_value-decimal own n small in
    let below : ltb n (2 ^ 64) ≡ true = lt-ltb _ _ small in
    rw (some, digits, value, below) refl

-- ---- a name in the script

and_false : (b : Bool) → (b && false) ≡ false
and_false true = refl
and_false false = refl

not_own : (ds : List ℕ) → is_own (codes "_x" ++ ds) ≡ false
not_own ds = and_false (is_name (codes "_x" ++ ds))

-- the name at the place of a name
found : (others : List (List ℕ)) (name : List ℕ) (place : ℕ) → place_of others name ≡ Some place → (place < length others) × (slice_get others place ≡ Some name)
found others name place e =
    let at = position-Some (λ n. bytes_eq n name) others place [] e in
    (at.0, slice_get-get_or others place [] at.0 ∙ ap Some ((bytes_eq-Decides (get_or others place []) name).0 at.1))

stands : (others : List (List ℕ)) (name : List ℕ) (place : ℕ) → length others < 2 ^ 64 → place_of others name ≡ Some place → true_name others (codes "_x" ++ decimal (place + 1)) ≡ Some name
stands others name place small e =
    let at = found others name place e in
    let less : place + 1 < 2 ^ 64 = omega (arith, at.0) in
    let same : place + 1 - 1 ≡ place = omega arith in
    rw (not_own (decimal (place + 1)), read_back (place + 1) less, same) at.1

by_place : (others : List (List ℕ)) (name : List ℕ) (o : Option ℕ) → length others < 2 ^ 64 → is_own name ≡ false → place_of others name ≡ o → is_some o ≡ true
    → true_name others (script_name others name) ≡ Some name
by_place others name None small e f there = absurd cc
by_place others name (Some place) small e f there =
    let text : script_name others name ≡ codes "_x" ++ decimal (place + 1) = rw (e, f) refl in
    rw text (stands others name place small f)

by_own : (others : List (List ℕ)) (name : List ℕ) (t : Bool) → length others < 2 ^ 64 → is_own name ≡ t → (t || is_some (place_of others name)) ≡ true → true_name others (script_name others name) ≡ Some name
by_own others name true small e there =
    let text : script_name others name ≡ name = rw e refl in
    rw (text, e) refl
by_own others name false small e there = by_place others name (place_of others name) small e refl there

pub back : (others : List (List ℕ)) (name : List ℕ) → length others < 2 ^ 64 → is_mentioned others name ≡ true → true_name others (script_name others name) ≡ Some name
back others name small there = by_own others name (is_own name) small refl there

pub apart : (others : List (List ℕ)) (a b : List ℕ) → length others < 2 ^ 64 → is_mentioned others a ≡ true → is_mentioned others b ≡ true → script_name others a ≡ script_name others b → a ≡ b
apart others a b small first second e =
    let same : Some a ≡ Some b = sym (back others a small first) ∙ ap (true_name others) e ∙ back others b small second in
    cc

-- ---- later mentions

other : (m n : ℕ) (t : Bool) → eqb m n ≡ t → m < n → eqb m n ≡ false
other m n true e less = let same = eqb-true m n e in absurd (omega (arith, same, less))
other m n false e less = e

still_at : {X : Type 0} (p : X → Bool) (xs : List X) (y : X) (k : ℕ) → position p xs ≡ Some k → position p (xs ++ y ∷ []) ≡ Some k
still_at p xs y k e =
    let at = position-Some p xs k y e in
    let before : position_or_len p xs ≡ k = position_or_len_is p xs k y (omega (arith, at.0)) at.2 (λ _. at.1) in
    let apart : eqb k (length xs) ≡ false = other k (length xs) (eqb k (length xs)) refl at.0 in
    let after : position_or_len p (xs ++ y ∷ []) ≡ k = position_or_len_push p xs y ∙ (rw (before, apart) refl) in
    let long : k < length (xs ++ y ∷ []) = omega (arith, length-append xs (y ∷ []), at.0) in
    let within : ltb k (length (xs ++ y ∷ [])) ≡ true = lt-ltb _ _ long in
    rw (after, within) refl

with_new_at : (others : List (List ℕ)) (name later : List ℕ) (place : ℕ) (o : Option ℕ) → place_of others name ≡ Some place → place_of (with_new others later o) name ≡ Some place
with_new_at others name later place None e = still_at (λ n. bytes_eq n name) others later place e
with_new_at others name later place (Some k) e = e

mentioned_at : (others : List (List ℕ)) (name later : List ℕ) (place : ℕ) (t : Bool) → is_own later ≡ t → place_of others name ≡ Some place → place_of (mentioned others later) name ≡ Some place
mentioned_at others name later place true e at = rw e at
mentioned_at others name later place false e at = rw e (with_new_at others name later place (place_of others later) at)

kept_place : (others : List (List ℕ)) (name later : List ℕ) (o : Option ℕ) → is_own name ≡ false → place_of others name ≡ o → is_some o ≡ true → script_name (mentioned others later) name ≡ script_name others name
kept_place others name later None e f there = absurd cc
kept_place others name later (Some place) e f there =
    let after : place_of (mentioned others later) name ≡ Some place = mentioned_at others name later place (is_own later) refl f in
    rw (e, f, after) refl

kept_own : (others : List (List ℕ)) (name later : List ℕ) (t : Bool) → is_own name ≡ t → (t || is_some (place_of others name)) ≡ true → script_name (mentioned others later) name ≡ script_name others name
kept_own others name later true e there = rw e refl
kept_own others name later false e there = kept_place others name later (place_of others name) e refl there

pub kept : (others : List (List ℕ)) (name later : List ℕ) → is_mentioned others name ≡ true → script_name (mentioned others later) name ≡ script_name others name
kept others name later there = kept_own others name later (is_own name) refl there
