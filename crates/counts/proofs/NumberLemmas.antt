-- How often a number stands in a list, and lists of the numbers that are free.
use Rattle.std.proofs.Common.{◌≡◌, inl, inr, ℕ, zero, suc, ◌+◌, ◌<◌, ◌≤◌, ◌==◌, not, cond, true, false, List, [], ◌∷◌, ◌++◌, length, length-append, Option, Some, None, get_or, sym, refl, ap, subst, arith}
use Rattle.std.specs.Prelude.{IfSome}
use Rattle.std.specs.List.{All, filter}
use Rattle.std.specs.Option.{option_to_list}
use Rattle.std.proofs.lemmas.Bool.{cases_lt}
use Rattle.std.proofs.lemmas.Bool.Decides.{eqb_tells}
use Rattle.std.proofs.lemmas.List.Elements.{All-head, All-tail}
use Rattle.std.proofs.lemmas.List.Sums.{sum_by-append, sum_by-cons, sum_by_push, length-filter}
use Rattle.std.proofs.lemmas.List.Filters.{length-filter_both, sum_by-filter_both}
use Rattle.counts.specs.Numbers.{times, AreFree}

pub times-push : (xs : List ℕ) (x n : ℕ) → times (xs ++ x ∷ []) n ≡ times xs n + cond (x == n) 1 0
times-push xs x n = sum_by_push (λ y. cond (y == n) 1 0) xs x

pub times-cons : (x : ℕ) (xs : List ℕ) (n : ℕ) → times (x ∷ xs) n ≡ cond (x == n) 1 0 + times xs n
times-cons x xs n = sum_by-cons (λ y. cond (y == n) 1 0) x xs

-- the numbers below k, once each: one more
pub filled_more : (xs : List ℕ) (k : ℕ) → ((n : ℕ) → n < k → times xs n ≡ 1) → ((n : ℕ) → k ≤ n → times xs n ≡ 0) → (n : ℕ) → n < k + 1 → times (xs ++ k ∷ []) n ≡ 1
filled_more xs k below beyond n lt =
    let more = times-push xs k n in
    elim (eqb_tells k n) [
      | inl same ↦ (let none = beyond n (omega (arith, same.1)) in let hit : (k == n) ≡ true = same.0 in grind (arith, more, hit, none))
      | inr other ↦ (let once = below n (omega (arith, other.1, lt)) in let miss : (k == n) ≡ false = other.0 in grind (arith, more, miss, once))
    ]

pub beyond_more : (xs : List ℕ) (k : ℕ) → ((n : ℕ) → k ≤ n → times xs n ≡ 0) → (n : ℕ) → k + 1 ≤ n → times (xs ++ k ∷ []) n ≡ 0
beyond_more xs k beyond n le =
    let more = times-push xs k n in
    let miss : (k == n) ≡ false = grind (arith, le) in
    let none = beyond n (omega (arith, le)) in
    grind (arith, more, miss, none)

-- all but one number
others : ℕ → List ℕ → List ℕ
others n xs = filter (λ m. not (m == n)) xs

-- how long a list is without a number
pub length-others : (xs : List ℕ) (p : ℕ) → length (filter (λ m. not (m == p)) xs) + times xs p ≡ length xs
length-others xs p =
    let both = length-filter_both (λ m. m == p) (λ m. not (m == p)) (λ _. refl) xs in
    let hits = length-filter (λ m. m == p) xs in
    omega (arith, both, hits)

times-others-le : (n : ℕ) (xs : List ℕ) (m : ℕ) → times (others n xs) m ≤ times xs m
unfolding others
times-others-le n xs m =
    let both = sum_by-filter_both (λ m. m == n) (λ m. not (m == n)) (λ _. refl) (λ y. cond (y == m) 1 0) xs in
    omega (arith, both)

times-others-own : (n : ℕ) (xs : List ℕ) → times (others n xs) n ≡ 0
unfolding others
times-others-own n [] = refl
times-others-own n (x ∷ xs) =
    elim (eqb_tells x n) [
      | inl same ↦ rw same.0 (times-others-own n xs)
      | inr other ↦ rw other.0 (let is = times-cons x (others n xs) n in let miss : (x == n) ≡ false = other.0 in let none = times-others-own n xs in grind (arith, is, miss, none))
    ]

times-others-other : (p n : ℕ) (xs : List ℕ) → (p == n) ≡ false → times (others p xs) n ≡ times xs n
unfolding others
times-others-other p n [] differs = refl
times-others-other p n (x ∷ xs) differs =
    let all = times-cons x xs n in
    let rest = times-others-other p n xs differs in
    elim (eqb_tells x p) [
      | inl same ↦ rw same.0 (let miss : (x == n) ≡ false = subst (λ m. (m == n) ≡ false) (sym same.1) differs in grind (arith, all, rest, miss))
      | inr other ↦ rw other.0 (let is = times-cons x (others p xs) n in omega (arith, all, rest, is))
    ]

-- and how often each number stands in it then
pub count-others : (xs : List ℕ) (p n : ℕ) → times (filter (λ m. not (m == p)) xs) n + cond (p == n) (times xs p) 0 ≡ times xs n
unfolding others
count-others xs p n =
    elim (eqb_tells p n) [
      | inl same ↦ rw same.0 (let own = times-others-own p xs in let at_n : times (others p xs) n ≡ times (others p xs) p = ap (times (others p xs)) (sym same.1) in let all : times xs n ≡ times xs p = ap (times xs) (sym same.1) in omega (arith, own, at_n, all))
      | inr other ↦ rw other.0 (let rest = times-others-other p n xs other.0 in omega (arith, rest))
    ]

-- numbers below a bound, each at most once, are no more than the bound
length_within : (bound : ℕ) (xs : List ℕ) → ((n : ℕ) → times xs n ≤ 1) → ((n : ℕ) → bound ≤ n → times xs n ≡ 0) → length xs ≤ bound
unfolding others
length_within zero [] once beyond = omega arith
length_within zero (x ∷ xs) once beyond =
    let none = beyond x (omega arith) in
    let is = times-cons x xs x in
    let hit : (x == x) ≡ true = grind arith in
    absurd (grind (arith, none, is, hit))
length_within (suc k) xs once beyond =
    let rest = length_within k (others k xs) (λ n. omega (arith, once n, times-others-le k xs n)) (λ n le. below_left k xs beyond n le) in
    let all : length (others k xs) + times xs k ≡ length xs = length-others xs k in
    let one = once k in
    omega (arith, rest, all, one)
  where
    below_left : (k : ℕ) (xs : List ℕ) → ((n : ℕ) → suc k ≤ n → times xs n ≡ 0) → (n : ℕ) → k ≤ n → times (others k xs) n ≡ 0
    below_left k xs beyond n le =
        elim (eqb_tells n k) [
          | inl same ↦ subst (λ m. times (others k xs) m ≡ 0) (sym same.1) (times-others-own k xs)
          | inr other ↦ (let none = beyond n (omega (arith, le, other.1)) in let fewer = times-others-le k xs n in omega (arith, none, fewer))
        ]

-- a number that is out comes back
pub AreFree-push : (free : List ℕ) (bound room number : ℕ) → AreFree free bound room → times free number ≡ 0 → number < bound → AreFree (free ++ number ∷ []) bound room
AreFree-push free bound room number is out in_range =
    let once : (n : ℕ) → times (free ++ number ∷ []) n ≤ 1 =
    λ n.
    (let more = times-push free number n in
    let before = is.once n in
    elim (eqb_tells number n) [
      | inl same ↦ (let hit : (number == n) ≡ true = same.0 in let none : times free n ≡ 0 = subst (λ m. times free m ≡ 0) same.1 out in grind (arith, more, hit, none))
      | inr other ↦ (let miss : (number == n) ≡ false = other.0 in grind (arith, more, miss, before))
    ])
    in
    let beyond : (n : ℕ) → bound ≤ n → times (free ++ number ∷ []) n ≡ 0 =
    λ n le.
    (let more = times-push free number n in
    let miss : (number == n) ≡ false = grind (arith, le, in_range) in
    let none = is.none_beyond n le in
    grind (arith, more, miss, none))
    in
    record {
      once = once;
      none_beyond = beyond;
      within = length_within bound (free ++ number ∷ []) once beyond;
      all_fit = is.all_fit;
      countable = is.countable;
    }

-- so there is room for it
pub room_for_one : (free : List ℕ) (bound room number : ℕ) → AreFree free bound room → times free number ≡ 0 → number < bound → length free < room
room_for_one free bound room number is out in_range =
    let after = AreFree-push free bound room number is out in_range in
    let within = after.within in
    let fit = is.all_fit in
    omega (arith, within, fit, length-append free (number ∷ []))

-- a part of the free numbers
pub AreFree-part : (xs ys : List ℕ) (bound room : ℕ) → AreFree (xs ++ ys) bound room → AreFree xs bound room
AreFree-part xs ys bound room is =
    let part : (n : ℕ) → times xs n ≤ times (xs ++ ys) n = λ n. (let both = sum_by-append (λ y. cond (y == n) 1 0) xs ys in omega (arith, both)) in
    record {
      once = λ n. omega (arith, part n, is.once n);
      none_beyond = λ n le. (let none = is.none_beyond n le in omega (arith, part n, none));
      within = (let within = is.within in omega (arith, within, length-append xs ys));
      all_fit = is.all_fit;
      countable = is.countable;
    }

number_out : (free : List ℕ) (taken : Option ℕ) (bound room : ℕ) → AreFree (free ++ option_to_list taken) bound room → IfSome taken (λ n. times free n ≡ 0)
number_out free None bound room is = tt
number_out free (Some n) bound room is =
    let once = is.once n in
    let more = times-push free n n in
    let hit : (n == n) ≡ true = grind arith in
    grind (arith, once, more, hit)

number_in_range : (free : List ℕ) (taken : Option ℕ) (bound room : ℕ) → AreFree (free ++ option_to_list taken) bound room → IfSome taken (λ n. n < bound)
number_in_range free None bound room is = tt
number_in_range free (Some n) bound room is =
    elim (cases_lt n bound) [
      | inl lt ↦ lt
      | inr le ↦ absurd (let none = is.none_beyond n le in let more = times-push free n n in let hit : (n == n) ≡ true = grind arith in grind (arith, none, more, hit))
    ]

-- what is left where one is taken from the end
module _ (all free : List ℕ) (taken : Option ℕ) (bound room : ℕ) (parts : all ≡ free ++ option_to_list taken) (is : AreFree all bound room) where
  parted : AreFree (free ++ option_to_list taken) bound room
  parted = subst (λ xs. AreFree xs bound room) parts is

  pub AreFree-taken : AreFree free bound room
  AreFree-taken = AreFree-part free (option_to_list taken) bound room parted

  -- it is out, and below the bound
  pub taken_out : IfSome taken (λ n. times free n ≡ 0)
  taken_out = number_out free taken bound room parted

  pub taken_in_range : IfSome taken (λ n. n < bound)
  taken_in_range = number_in_range free taken bound room parted

-- all of them
pub AreFree-filled : (free : List ℕ) (bound room : ℕ) → ((n : ℕ) → n < bound → times free n ≡ 1) → ((n : ℕ) → bound ≤ n → times free n ≡ 0) → length free ≡ bound → bound ≤ room → bound < 4294967296 → AreFree free bound room
AreFree-filled free bound room below beyond all fit countable = record {
  once = λ n. elim (cases_lt n bound) [ inl lt ↦ (let once = below n lt in omega (arith, once)) | inr le ↦ (let none = beyond n le in omega (arith, none)) ];
  none_beyond = beyond;
  within = omega (arith, all);
  all_fit = fit;
  countable = countable;
}

-- what stands at an index is counted
pub number-at : (xs : List ℕ) (k : ℕ) (d : ℕ) → k < length xs → 1 ≤ times xs (get_or xs k d)
number-at [] k d lt = absurd (omega (arith, lt))
number-at (x ∷ xs) zero d lt =
    let is = times-cons x xs x in
    let hit : (x == x) ≡ true = grind arith in
    grind (arith, is, hit)
number-at (x ∷ xs) (suc k) d lt =
    let is = times-cons x xs (get_or xs k d) in
    let rest = number-at xs k d (omega (arith, lt)) in
    omega (arith, is, rest)

-- and what is counted stands at some index
pub at-counted : (P : ℕ → Type 0) (xs : List ℕ) → All P xs → (p : ℕ) → 1 ≤ times xs p → P p
at-counted P [] all p some = absurd (omega (arith, some))
at-counted P (x ∷ xs) all p some =
    elim (eqb_tells x p) [
      | inl same ↦ subst P same.1 (All-head P x xs all)
      | inr other ↦
          at-counted P xs (All-tail P x xs all) p
          (let is = times-cons x xs p in let miss : (x == p) ≡ false = other.0 in grind (arith, is, miss, some))
    ]
