-- Cutting a text at its bytes that pass a test, and the words of a line.
use Rattle.std.proofs.Common.{◌≡◌, ℕ, ◌+◌, ◌<◌, ◌≤◌, Bool, true, false, cond, ltb, List, [], ◌∷◌, ◌++◌, length, take, drop, filter, Some, None, zero, suc, get_or, append_assoc, refl, sym, ap, ◌∙◌, arith}
use Rattle.std.specs.Prelude.{position}
use Rattle.std.specs.List.{slice_split, onto_first, position_or_len, All}
use Rattle.std.specs.Str.{IsUtf8, IsCharBoundary}
use Rattle.std.proofs.lemmas.Bool.{ltb-true, ltb-false}
use Rattle.std.proofs.lemmas.Bool.Decides.{nat_tests}
use Rattle.std.proofs.lemmas.List.Elements.{filter-append}
use Rattle.std.proofs.lemmas.List.Quantifiers.{position-Some}
use Rattle.std.proofs.lemmas.List.Splits.{slice_split_first, slice_split_none}
use Rattle.std.proofs.lemmas.List.Sums.{fails_before_first}
use Rattle.std.proofs.lemmas.Str.{IsCharBoundary-before_ascii, IsCharBoundary-after_ascii}
use Rattle.machine.proofs.Values.{some_inj}
use Rattle.scripts.specs.Words.{is_blank, is_there, words_of}

abbrev pub Parts : Type 0
Parts = List (List ℕ)

-- one part or more
abbrev pub HasPart : Parts → Type 0
HasPart ps = (p : List ℕ) × (qs : Parts) × (ps ≡ p ∷ qs)

onto-part : (x : ℕ) (ps : Parts) → HasPart (onto_first x ps)
onto-part x [] = (x ∷ [], [], refl)
onto-part x (p ∷ ps) = (x ∷ p, ps, refl)

-- what is cut has a first part
pub split-part : (t : ℕ → Bool) (xs : List ℕ) → HasPart (slice_split t xs)
split-part t [] = ([], [], refl)
split-part t (x ∷ xs) = elim (t x) as (λ b. HasPart (cond b ([] ∷ slice_split t xs) (onto_first x (slice_split t xs)))) [ true ↦ ([], slice_split t xs, refl) | false ↦ onto-part x (slice_split t xs) ]

-- ---- by whether the text has such a byte

by_place : (p : ℕ → Bool) (bs : List ℕ) (at : ℕ) (t : Bool) → ltb (position_or_len p bs) (length bs) ≡ t → cond t (Some (position_or_len p bs)) None ≡ Some at → slice_split p bs ≡ take at bs ∷ slice_split p (drop (at + 1) bs)
by_place p bs at false e h = absurd cc
by_place p bs at true e h =
    let k : position_or_len p bs ≡ at = some_inj h in
    let lt : position_or_len p bs < length bs = ltb-true _ _ e in
    rw (← k) (slice_split_first p bs 0 lt)

pub first_cut : (p : ℕ → Bool) (bs : List ℕ) (at : ℕ) → position p bs ≡ Some at → slice_split p bs ≡ take at bs ∷ slice_split p (drop (at + 1) bs)
first_cut p bs at h = by_place p bs at (ltb (position_or_len p bs) (length bs)) refl h

by_none : (p : ℕ → Bool) (bs : List ℕ) (t : Bool) → ltb (position_or_len p bs) (length bs) ≡ t → cond t (Some (position_or_len p bs)) None ≡ None → slice_split p bs ≡ bs ∷ []
by_none p bs true e h = absurd cc
by_none p bs false e h =
    let le : length bs ≤ position_or_len p bs = ltb-false _ _ e in
    let all : All (λ b. p b ≡ false) bs = (λ k d lt. fails_before_first p bs k d (omega arith)) in
    slice_split_none p bs all

pub no_cut : (p : ℕ → Bool) (bs : List ℕ) → position p bs ≡ None → slice_split p bs ≡ bs ∷ []
no_cut p bs h = by_none p bs (ltb (position_or_len p bs) (length bs)) refl h

-- ---- the first words

-- a word of this part, where it isn't empty
abbrev pub word_in : List ℕ → Parts
word_in part = filter is_there (part ∷ [])

-- what is cut off may be cut off earlier
take_again : (n : ℕ) (xs ys : Parts) → take n (take n xs ++ ys) ≡ take n (xs ++ ys)
take_again zero xs ys = refl
take_again (suc n) [] ys = refl
take_again (suc n) (x ∷ xs) ys = ap (λ (zs : Parts). x ∷ zs) (take_again n xs ys)

-- the part up to a blank is kept, and the words behind it are still to come
pub kept_more : (n : ℕ) (kept more all : Parts) (bs : List ℕ) (at : ℕ) → position is_blank bs ≡ Some at → more ≡ take n (kept ++ word_in (take at bs)) → take n (kept ++ words_of bs) ≡ all
    → take n (more ++ words_of (drop (at + 1) bs)) ≡ all
kept_more n kept more all bs at h e so_far =
    let rest = words_of (drop (at + 1) bs) in
    let here : words_of bs ≡ word_in (take at bs) ++ rest =
    ap (filter is_there) (first_cut is_blank bs at h) ∙ filter-append is_there (take at bs ∷ []) (slice_split is_blank (drop (at + 1) bs)) in
    rw e (take_again n (kept ++ word_in (take at bs)) rest ∙ ap (take n) (append_assoc kept (word_in (take at bs)) rest ∙ ap (λ (ws : Parts). kept ++ ws) (sym here)) ∙ so_far)

-- the last part
pub kept_last : (n : ℕ) (kept more all : Parts) (bs : List ℕ) → position is_blank bs ≡ None → more ≡ take n (kept ++ word_in bs) → take n (kept ++ words_of bs) ≡ all → more ≡ all
kept_last n kept more all bs h e so_far = e ∙ ap (λ (ps : Parts). take n (kept ++ filter is_there ps)) (sym (no_cut is_blank bs h)) ∙ so_far

-- ---- a text may be cut before a blank and behind it

blank_is_ascii : (b : ℕ) → is_blank b ≡ true → b < 128
blank_is_ascii b h = grind (arith, nat_tests)

pub around_blank : (bs : List ℕ) (at : ℕ) → IsUtf8 bs → position is_blank bs ≡ Some at → IsCharBoundary bs at × IsCharBoundary bs (at + 1)
around_blank bs at text h =
    let found = position-Some is_blank bs at 0 h in
    let ascii : get_or bs at 0 < 128 = blank_is_ascii (get_or bs at 0) found.1 in
    (IsCharBoundary-before_ascii bs at found.0 ascii, IsCharBoundary-after_ascii bs at text found.0 ascii)
