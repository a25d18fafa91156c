-- Turns go round: a group that was served stands behind all others, and which of two others comes first stays as it is.
use Rattle.std.proofs.Common.{inl, inr, ◌≡◌, ℕ, zero, suc, ◌+◌, ◌≤◌, ◌==◌, ◌||◌, Bool, true, false, if◌then◌else◌, List, [], ◌∷◌, ◌++◌, length, drop, take, Option, Some, None, refl, sym, ap, ◌∙◌, arith}
use Rattle.std.specs.Prelude.{find}
use Rattle.std.specs.Option.{option_or}
use Rattle.std.specs.List.{list_any, position_from}
use Rattle.std.proofs.lemmas.Bool.{cases_Bool}
use Rattle.std.proofs.lemmas.Bool.Decides.{nat_tests}
use Rattle.std.proofs.lemmas.Iterator.Adapters.{position_from-zero}
use Rattle.std.proofs.lemmas.List.Folds.{find-append}
use Rattle.machine.specs.Order.{round_from, place_in}
use Rattle.reclaim.proofs.PreorderOnce.{times, IsOnce, times-append, times-own, times-other}

-- of two groups this one comes first
abbrev pub comes_first : ℕ → ℕ → List ℕ → Bool
comes_first g h [] = false
comes_first g h (a ∷ gs) = if a == h then false else (if a == g then true else comes_first g h gs)

-- ---- lists

append-assoc : (xs ys zs : List ℕ) → (xs ++ ys) ++ zs ≡ xs ++ (ys ++ zs)
append-assoc [] ys zs = refl
append-assoc (x ∷ xs) ys zs = ap (λ rest. x ∷ rest) (append-assoc xs ys zs)

append-none : (xs : List ℕ) → xs ++ [] ≡ xs
append-none [] = refl
append-none (x ∷ xs) = ap (λ rest. x ∷ rest) (append-none xs)

pub take_drop : (n : ℕ) (xs : List ℕ) → take n xs ++ drop n xs ≡ xs
take_drop zero xs = refl
take_drop (suc n) [] = refl
take_drop (suc n) (x ∷ xs) = ap (λ rest. x ∷ rest) (take_drop n xs)

longer : (xs : List ℕ) → suc (length xs) + 1 ≡ suc (length xs + 1)
longer xs = omega arith

take-front : (xs : List ℕ) (x : ℕ) (ys : List ℕ) → take (length xs + 1) (xs ++ x ∷ ys) ≡ xs ++ x ∷ []
take-front [] x ys = refl
take-front (a ∷ xs) x ys = ap (λ n. take n (a ∷ (xs ++ x ∷ ys))) (longer xs) ∙ ap (λ rest. a ∷ rest) (take-front xs x ys)

drop-front : (xs : List ℕ) (x : ℕ) (ys : List ℕ) → drop (length xs + 1) (xs ++ x ∷ ys) ≡ ys
drop-front [] x ys = refl
drop-front (a ∷ xs) x ys = ap (λ n. drop n (a ∷ (xs ++ x ∷ ys))) (longer xs) ∙ drop-front xs x ys

-- ---- once one of a list was served, the order begins behind it

position-front : (x k : ℕ) (front rest : List ℕ) → times x front ≡ 0 → position_from (λ a. a == x) k (front ++ x ∷ rest) ≡ Some (k + length front)
position-front x k [] rest none =
    let own : (x == x) ≡ true = grind arith in
    ap (λ b. if b then Some k else position_from (λ a. a == x) (k + 1) rest) own ∙ ap (λ n. Some n) (let same : k ≡ k + 0 = omega arith in same)
position-front x k (a ∷ front) rest none =
    elim (cases_Bool (a == x)) [
      | inl here ↦ absurd (let one : times x (a ∷ front) ≡ 1 + times x front = ap (λ b. (if b then 1 else 0) + times x front) here in omega (arith, one, none))
      | inr other ↦
          ap (λ b. if b then Some k else position_from (λ c. c == x) (k + 1) (front ++ x ∷ rest)) other
          ∙ position-front x (k + 1) front rest (sym (times-other x a front other) ∙ none)
          ∙ ap (λ n. Some n) (let same : k + 1 + length front ≡ k + suc (length front) = omega arith in same)
    ]

served-last : (walk : List ℕ) (x : ℕ) (front rest : List ℕ) → IsOnce walk → walk ≡ front ++ x ∷ rest → round_from walk (place_in walk (Some x)) ≡ rest ++ (front ++ x ∷ [])
served-last walk x front rest once is =
    ap (round_from walk) place ∙ ap (λ gs. drop (length front + 1) gs ++ take (length front + 1) gs) is
    ∙ ap (λ gs. gs ++ take (length front + 1) (front ++ x ∷ rest)) (drop-front front x rest) ∙ ap (λ gs. rest ++ gs) (take-front front x rest)
  where
    none : times x front ≡ 0
    none =
        let both = times-append x front (x ∷ rest) in
        let own = times-own x rest in
        let most = once x in
        let same : times x walk ≡ times x (front ++ x ∷ rest) = ap (times x) is in
        omega (arith, both, own, most, same)

    place : place_in walk (Some x) ≡ Some (length front)
    place =
        position_from-zero (λ a. a == x) walk ∙ ap (position_from (λ a. a == x) 0) is ∙ position-front x 0 front rest none
        ∙ ap (λ n. Some n) (let same : 0 + length front ≡ length front = omega arith in same)

-- where the first that passes is found
record Splits (test : ℕ → Bool) (gs : List ℕ) (x : ℕ) : Type 0 where
  front : List ℕ
  rest : List ℕ
  is : gs ≡ front ++ x ∷ rest
  passes : test x ≡ true
  none : list_any test front ≡ false

splits : (test : ℕ → Bool) (gs : List ℕ) (x : ℕ) → find test gs ≡ Some x → Splits test gs x
splits test [] x found = absurd (let wrong : None ≡ Some x = found in cc)
splits test (a ∷ gs) x found = by_test (splits test gs x) (test a) refl found
  where
    by_test : (find test gs ≡ Some x → Splits test gs x) → (b : Bool) → test a ≡ b → (if b then Some a else find test gs) ≡ Some x → Splits test (a ∷ gs) x
    by_test more true is found =
        let same : a ≡ x = cc in
        record { front = []; rest = gs; is = ap (λ y. y ∷ gs) same; passes = ap test (sym same) ∙ is; none = refl }
    by_test more false is found =
        let later = more found in
        record { front = a ∷ later.front; rest = later.rest; is = ap (λ ys. a ∷ ys) later.is; passes = later.passes; none = ap (λ b. b || list_any test later.front) is ∙ later.none }

pub find-none : (test : ℕ → Bool) (gs : List ℕ) → find test gs ≡ None → list_any test gs ≡ false
find-none test [] e = refl
find-none test (a ∷ gs) e = by_test (find-none test gs) (test a) refl e
  where
    by_test : (find test gs ≡ None → list_any test gs ≡ false) → (b : Bool) → test a ≡ b → (if b then Some a else find test gs) ≡ None → (test a || list_any test gs) ≡ false
    by_test more true is none = absurd (let wrong : Some a ≡ None = none in cc)
    by_test more false is none = ap (λ b. b || list_any test gs) is ∙ more none

any-append : (test : ℕ → Bool) (xs ys : List ℕ) → list_any test xs ≡ false → list_any test ys ≡ false → list_any test (xs ++ ys) ≡ false
any-append test [] ys none nor = nor
any-append test (x ∷ xs) ys none nor = by_test (any-append test xs ys) (test x) refl none
  where
    by_test : (list_any test xs ≡ false → list_any test ys ≡ false → list_any test (xs ++ ys) ≡ false) → (b : Bool) → test x ≡ b → (b || list_any test xs) ≡ false → (test x || list_any test (xs ++ ys)) ≡ false
    by_test more true is none = absurd (let wrong : true ≡ false = none in cc)
    by_test more false is none = ap (λ b. b || list_any test (xs ++ ys)) is ∙ more none nor

-- the order before and after: those in front of the one that is served pass no test, and go behind all others, with it
pub record Turns (test : ℕ → Bool) (walk : List ℕ) (order : List ℕ) (x : ℕ) : Type 0 where
  pub front : List ℕ
  pub rest : List ℕ
  pub is : order ≡ front ++ x ∷ rest
  pub passes : test x ≡ true
  pub none : list_any test front ≡ false
  pub next : round_from walk (place_in walk (Some x)) ≡ rest ++ (front ++ x ∷ [])

pub turns : (test : ℕ → Bool) (walk : List ℕ) (at : Option ℕ) (x : ℕ) → IsOnce walk → find test (round_from walk at) ≡ Some x → Turns test walk (round_from walk at) x
turns test walk None x once found =
    let s = splits test walk x found in
    record { front = s.front; rest = s.rest; is = s.is; passes = s.passes; none = s.none; next = served-last walk x s.front s.rest once s.is }
turns test walk (Some k) x once found = by_part (find test behind) refl (sym (find-append test behind ahead) ∙ found)
  where
    behind : List ℕ
    behind = drop (k + 1) walk

    ahead : List ℕ
    ahead = take (k + 1) walk

    by_part : (first : Option ℕ) → find test behind ≡ first → option_or (find test behind) (find test ahead) ≡ Some x → Turns test walk (behind ++ ahead) x
    by_part (Some y) is here =
        let same : y ≡ x = let both : Some y ≡ Some x = sym (ap (λ o. option_or o (find test ahead)) is) ∙ here in cc in
        let s = splits test behind x (is ∙ ap (λ g. Some g) same) in
        record {
          front = s.front;
          rest = s.rest ++ ahead;
          is = ap (λ gs. gs ++ ahead) s.is ∙ append-assoc s.front (x ∷ s.rest) ahead;
          passes = s.passes;
          none = s.none;
          next =
              served-last walk x (ahead ++ s.front) s.rest once (sym (take_drop (k + 1) walk) ∙ ap (λ gs. ahead ++ gs) s.is ∙ sym (append-assoc ahead s.front (x ∷ s.rest)))
              ∙ ap (λ gs. s.rest ++ gs) (append-assoc ahead s.front (x ∷ [])) ∙ sym (append-assoc s.rest ahead (s.front ++ x ∷ []));
        }
    by_part None is later =
        let s = splits test ahead x (sym (ap (λ o. option_or o (find test ahead)) is) ∙ later) in
        record {
          front = behind ++ s.front;
          rest = s.rest;
          is = ap (λ gs. behind ++ gs) s.is ∙ sym (append-assoc behind s.front (x ∷ s.rest));
          passes = s.passes;
          none = any-append test behind s.front (find-none test behind is) s.none;
          next =
              served-last walk x s.front (s.rest ++ behind) once (sym (take_drop (k + 1) walk) ∙ ap (λ gs. gs ++ behind) s.is ∙ append-assoc s.front (x ∷ s.rest) behind)
              ∙ append-assoc s.rest behind (s.front ++ x ∷ []) ∙ ap (λ gs. s.rest ++ gs) (sym (append-assoc behind s.front (x ∷ [])));
        }

-- ---- which of two comes first

first-front : (g h : ℕ) (front rest : List ℕ) → times h front ≡ 0 → comes_first g h rest ≡ true → comes_first g h (front ++ rest) ≡ true
first-front g h [] rest none first = first
first-front g h (a ∷ front) rest none first =
    elim (cases_Bool (a == h)) [
      | inl here ↦ absurd (let one : times h (a ∷ front) ≡ 1 + times h front = ap (λ b. (if b then 1 else 0) + times h front) here in omega (arith, one, none))
      | inr other ↦
          ap (λ b. if b then false else (if a == g then true else comes_first g h (front ++ rest))) other
          ∙ by_first (first-front g h front rest (sym (times-other h a front other) ∙ none) first) (a == g)
    ]
  where
    by_first : comes_first g h (front ++ rest) ≡ true → (b : Bool) → (if b then true else comes_first g h (front ++ rest)) ≡ true
    by_first more true = refl
    by_first more false = more

first-inside : (g h : ℕ) (front rest : List ℕ) → 1 ≤ times h front → comes_first g h (front ++ rest) ≡ comes_first g h front
first-inside g h [] rest some = absurd (omega (arith, some))
first-inside g h (a ∷ front) rest some =
    elim (cases_Bool (a == h)) [
      | inl here ↦
          ap (λ b. if b then false else (if a == g then true else comes_first g h (front ++ rest))) here
          ∙ sym (ap (λ b. if b then false else (if a == g then true else comes_first g h front)) here)
      | inr other ↦
          ap (λ x. if a == h then false else (if a == g then true else x)) (first-inside g h front rest (let less = times-other h a front other in omega (arith, less, some)))
    ]

first-other : (g h : ℕ) (gs : List ℕ) → times g gs ≡ 0 → comes_first g h gs ≡ false
first-other g h [] none = refl
first-other g h (a ∷ gs) none =
    elim (cases_Bool (a == g)) [
      | inl here ↦ absurd (let one : times g (a ∷ gs) ≡ 1 + times g gs = ap (λ b. (if b then 1 else 0) + times g gs) here in omega (arith, one, none))
      | inr other ↦
          ap (λ b. if a == h then false else (if b then true else comes_first g h gs)) other
          ∙ ap (λ x. if a == h then false else x) (first-other g h gs (sym (times-other g a gs other) ∙ none)) ∙ same (a == h)
    ]
  where
    same : (b : Bool) → (if b then false else false) ≡ false
    same true = refl
    same false = refl

first-own : (g h : ℕ) (gs : List ℕ) → (g == h) ≡ false → comes_first g h (g ∷ gs) ≡ true
first-own g h gs other =
    let own : (g == g) ≡ true = grind arith in
    ap (λ b. if b then false else (if g == g then true else comes_first g h gs)) other ∙ ap (λ b. if b then true else comes_first g h gs) own

passes-none : (test : ℕ → Bool) (h : ℕ) (gs : List ℕ) → test h ≡ true → list_any test gs ≡ false → times h gs ≡ 0
passes-none test h [] passes none = refl
passes-none test h (a ∷ gs) passes none = by_test (passes-none test h gs passes) (a == h) refl (test a) refl none
  where
    by_test : (list_any test gs ≡ false → times h gs ≡ 0) → (b : Bool) → (a == h) ≡ b → (t : Bool) → test a ≡ t → (t || list_any test gs) ≡ false → times h (a ∷ gs) ≡ 0
    by_test more b at true is none = absurd (let wrong : true ≡ false = none in cc)
    by_test more true at false is none =
        let same : a ≡ h = grind (arith, nat_tests, at) in
        absurd (let wrong : true ≡ false = sym passes ∙ ap test (sym same) ∙ is in cc)
    by_test more false at false is none = times-other h a gs at ∙ more none

module _ (test : ℕ → Bool) (walk : List ℕ) (at : Option ℕ) (x g h : ℕ) (once : IsOnce walk) (found : find test (round_from walk at) ≡ Some x) (passes : test h ≡ true) (there : 1 ≤ times h walk) where
  t : Turns test walk (round_from walk at) x
  t = turns test walk at x once found

  -- a turn leaves out none
  round_times : (g : ℕ) → times g (round_from walk at) ≡ times g walk
  round_times g = by_place at
    where
      by_place : (at : Option ℕ) → times g (round_from walk at) ≡ times g walk
      by_place None = refl
      by_place (Some k) =
          let one = times-append g (drop (k + 1) walk) (take (k + 1) walk) in
          let two = times-append g (take (k + 1) walk) (drop (k + 1) walk) in
          let whole : times g (take (k + 1) walk ++ drop (k + 1) walk) ≡ times g walk = ap (times g) (take_drop (k + 1) walk) in
          omega (arith, one, two, whole)

  -- none in front is h, which passes the test
  front-none : times h t.front ≡ 0
  front-none = passes-none test h t.front passes t.none

  counted : (g : ℕ) → times g t.front + times g (x ∷ t.rest) ≡ times g walk
  counted g = sym (times-append g t.front (x ∷ t.rest)) ∙ sym (ap (times g) t.is) ∙ round_times g

  in_rest : (x == h) ≡ false → 1 ≤ times h t.rest
  in_rest other = let sum = counted h in let own = times-other h x t.rest other in let none = front-none in omega (arith, sum, own, none, there)

  -- the one that is served came before h, and comes behind it from then on
  pub first_before : (x == h) ≡ false → comes_first x h (round_from walk at) ≡ true
  first_before other = ap (comes_first x h) t.is ∙ first-front x h t.front (x ∷ t.rest) front-none (first-own x h t.rest other)

  pub last_after : (x == h) ≡ false → comes_first x h (round_from walk (place_in walk (Some x))) ≡ false
  last_after other =
      ap (comes_first x h) t.next ∙ first-inside x h t.rest (t.front ++ x ∷ []) (in_rest other)
      ∙ first-other x h t.rest (let sum = counted x in let own = times-own x t.rest in let most = once x in omega (arith, sum, own, most))

  -- and where another comes first then, it did before
  pub first_stays : (x == h) ≡ false → (x == g) ≡ false → comes_first g h (round_from walk (place_in walk (Some x))) ≡ true → comes_first g h (round_from walk at) ≡ true
  first_stays other differs first =
      ap (comes_first g h) t.is
      ∙ first-front g h t.front (x ∷ t.rest) front-none
      (ap (λ b. if b then false else (if x == g then true else comes_first g h t.rest)) other ∙ ap (λ b. if b then true else comes_first g h t.rest) differs
      ∙ sym (first-inside g h t.rest (t.front ++ x ∷ []) (in_rest other)) ∙ sym (ap (comes_first g h) t.next) ∙ first)
