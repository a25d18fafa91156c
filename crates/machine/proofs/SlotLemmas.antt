-- Sums and counts over tables by number, after a change at one number.
use Rattle.std.proofs.Common.{◌≡◌, ◌≢◌, ℕ, zero, suc, ◌+◌, ◌≤◌, Bool, true, false, cond, List, [], ◌∷◌, Option, None, refl, sym, ap, ◌∙◌, arith, get_or}
use Rattle.std.specs.Prelude.{sum_by, take}
use Rattle.std.proofs.lemmas.List.Sums.{sum_by-cons}
use Rattle.machine.specs.Slots.{at, Changes, there_and, count_there, any_there}

-- `d` is what is read past a table's end, and adds nothing
module _ {X : Type 0} (f : X → ℕ) (d : X) (none : f d ≡ 0) where
  -- tables of which each number adds the same have the same sum, however many numbers that add nothing stand at the end
  pub sum_by-alike : (xs ys : List X) → ((j : ℕ) → f (get_or ys j d) ≡ f (get_or xs j d)) → sum_by f ys ≡ sum_by f xs
  sum_by-alike [] [] same = refl
  sum_by-alike [] (y ∷ ys) same =
      let more = sum_by-cons f y ys in
      let here : f y ≡ 0 = same 0 ∙ none in
      let rest = sum_by-alike [] ys (λ j. same (suc j)) in
      omega (arith, more, here, rest)
  sum_by-alike (x ∷ xs) [] same =
      let more = sum_by-cons f x xs in
      let here : f x ≡ 0 = sym (same 0) ∙ none in
      let rest = sum_by-alike xs [] (λ j. same (suc j)) in
      omega (arith, more, here, rest)
  sum_by-alike (x ∷ xs) (y ∷ ys) same =
      let more = sum_by-cons f x xs in
      let more_y = sum_by-cons f y ys in
      let here : f y ≡ f x = same 0 in
      let rest = sum_by-alike xs ys (λ j. same (suc j)) in
      omega (arith, more, more_y, here, rest)

  -- tables of which each number adds at most what it adds in another have at most its sum
  pub sum_by-less : (xs ys : List X) → ((j : ℕ) → f (get_or ys j d) ≤ f (get_or xs j d)) → sum_by f ys ≤ sum_by f xs
  sum_by-less [] [] less = omega arith
  sum_by-less [] (y ∷ ys) less =
      let more = sum_by-cons f y ys in
      let here : f y ≤ f d = less 0 in
      let rest = sum_by-less [] ys (λ j. less (suc j)) in
      omega (arith, more, here, none, rest)
  sum_by-less (x ∷ xs) [] less =
      let more = sum_by-cons f x xs in
      let rest = sum_by-less xs [] (λ j. less (suc j)) in
      omega (arith, more, rest)
  sum_by-less (x ∷ xs) (y ∷ ys) less =
      let more = sum_by-cons f x xs in
      let more_y = sum_by-cons f y ys in
      let here : f y ≤ f x = less 0 in
      let rest = sum_by-less xs ys (λ j. less (suc j)) in
      omega (arith, more, more_y, here, rest)

  -- all numbers but one add the same
  pub sum_by-but_one : (xs ys : List X) (k : ℕ) → ((j : ℕ) → j ≢ k → f (get_or ys j d) ≡ f (get_or xs j d)) → sum_by f ys + f (get_or xs k d) ≡ sum_by f xs + f (get_or ys k d)
  sum_by-but_one [] [] k others = refl
  sum_by-but_one [] (y ∷ ys) zero others =
      let more = sum_by-cons f y ys in
      let rest = sum_by-alike [] ys (λ j. others (suc j) (λ e. cc)) in
      omega (arith, more, none, rest)
  sum_by-but_one [] (y ∷ ys) (suc k) others =
      let more = sum_by-cons f y ys in
      let here : f y ≡ 0 = others 0 (λ e. cc) ∙ none in
      let rest = sum_by-but_one [] ys k (λ j ne. others (suc j) (λ e. ne (omega (arith, e)))) in
      omega (arith, more, here, rest)
  sum_by-but_one (x ∷ xs) [] zero others =
      let more = sum_by-cons f x xs in
      let rest = sum_by-alike xs [] (λ j. others (suc j) (λ e. cc)) in
      omega (arith, more, none, rest)
  sum_by-but_one (x ∷ xs) [] (suc k) others =
      let more = sum_by-cons f x xs in
      let here : f x ≡ 0 = sym (others 0 (λ e. cc)) ∙ none in
      let rest = sum_by-but_one xs [] k (λ j ne. others (suc j) (λ e. ne (omega (arith, e)))) in
      omega (arith, more, here, rest)
  sum_by-but_one (x ∷ xs) (y ∷ ys) zero others =
      let more = sum_by-cons f x xs in
      let more_y = sum_by-cons f y ys in
      let rest = sum_by-alike xs ys (λ j. others (suc j) (λ e. cc)) in
      omega (arith, more, more_y, rest)
  sum_by-but_one (x ∷ xs) (y ∷ ys) (suc k) others =
      let more = sum_by-cons f x xs in
      let more_y = sum_by-cons f y ys in
      let here : f y ≡ f x = others 0 (λ e. cc) in
      let rest = sum_by-but_one xs ys k (λ j ne. others (suc j) (λ e. ne (omega (arith, e)))) in
      omega (arith, more, more_y, here, rest)

  -- what one number adds is at most the sum
  pub part-le-sum_by : (xs : List X) (k : ℕ) → f (get_or xs k d) ≤ sum_by f xs
  part-le-sum_by [] k = omega (arith, none)
  part-le-sum_by (x ∷ xs) zero = let more = sum_by-cons f x xs in omega (arith, more)
  part-le-sum_by (x ∷ xs) (suc k) = let more = sum_by-cons f x xs in let rest = part-le-sum_by xs k in omega (arith, more, rest)

  -- and so is what two numbers add
  pub parts-le-sum_by : (xs : List X) (j k : ℕ) → j ≢ k → f (get_or xs j d) + f (get_or xs k d) ≤ sum_by f xs
  parts-le-sum_by [] j k other = omega (arith, none)
  parts-le-sum_by (x ∷ xs) zero zero other = absurd (other refl)
  parts-le-sum_by (x ∷ xs) zero (suc k) other = let more = sum_by-cons f x xs in let rest = part-le-sum_by xs k in omega (arith, more, rest)
  parts-le-sum_by (x ∷ xs) (suc j) zero other = let more = sum_by-cons f x xs in let rest = part-le-sum_by xs j in omega (arith, more, rest)
  parts-le-sum_by (x ∷ xs) (suc j) (suc k) other =
      let more = sum_by-cons f x xs in
      let rest = parts-le-sum_by xs j k (λ e. other (ap suc e)) in
      omega (arith, more, rest)

module _ {X : Type 0} (f : Option X → ℕ) (none : f None ≡ 0) where
  -- slots that read alike have the same sum, however many empty ones stand at the end
  pub sum_by-same_slots : (xs ys : List (Option X)) → ((j : ℕ) → get_or ys j None ≡ get_or xs j None) → sum_by f ys ≡ sum_by f xs
  sum_by-same_slots xs ys same = sum_by-alike f None none xs ys (λ j. ap f (same j))

  -- only one number changed
  pub sum_by-slots : (xs ys : List (Option X)) (k : ℕ) → ((j : ℕ) → j ≢ k → get_or ys j None ≡ get_or xs j None) → sum_by f ys + f (get_or xs k None) ≡ sum_by f xs + f (get_or ys k None)
  sum_by-slots xs ys k others = sum_by-but_one f None none xs ys k (λ j ne. ap f (others j ne))

  -- one slot's part is at most the sum
  pub slot-le-sum_by : (xs : List (Option X)) (k : ℕ) → f (get_or xs k None) ≤ sum_by f xs
  slot-le-sum_by xs k = part-le-sum_by f None none xs k

abbrev pub one_if : Bool → ℕ
one_if b = cond b 1 0

module _ {T : Type 0} (test : T → Bool) where
  -- a count over the first numbers, and one number more
  pub count_there-more : (xs : List (Option T)) (i : ℕ) → count_there test (take (suc i) xs) ≡ count_there test (take i xs) + one_if (there_and test (at xs i))
  count_there-more [] zero = refl
  count_there-more [] (suc i) = refl
  count_there-more (x ∷ xs) zero =
      let one = sum_by-cons (λ (slot : Option T). one_if (there_and test slot)) x [] in
      omega (arith, one)
  count_there-more (x ∷ xs) (suc i) =
      let f : Option T → ℕ = λ slot. one_if (there_and test slot) in
      let rest = count_there-more xs i in
      let more = sum_by-cons f x (take (suc i) xs) in
      let less = sum_by-cons f x (take i xs) in
      omega (arith, rest, more, less)

  -- no number passes where none is counted, and the other way round
  pub any_there-none : (xs : List (Option T)) → count_there test xs ≡ 0 → any_there test xs ≡ false
  any_there-none [] e = refl
  any_there-none (x ∷ xs) e =
      let f : Option T → ℕ = λ slot. one_if (there_and test slot) in
      let more = sum_by-cons f x xs in
      by_test (there_and test x) refl (any_there-none xs (omega (arith, e, more))) more
    where
      by_test : (b : Bool) → there_and test x ≡ b → any_there test xs ≡ false → count_there test (x ∷ xs) ≡ one_if (there_and test x) + count_there test xs → any_there test (x ∷ xs) ≡ false
      by_test true is rest more = absurd (let hit = ap one_if is in omega (arith, e, more, hit))
      by_test false is rest more = rw is rest

  -- where each number fails the test, none is counted and none passes
  pub count_there-none : (xs : List (Option T)) → ((n : ℕ) → there_and test (at xs n) ≡ false) → count_there test xs ≡ 0
  count_there-none [] none = refl
  count_there-none (x ∷ xs) none =
      let f : Option T → ℕ = λ slot. one_if (there_and test slot) in
      let more = sum_by-cons f x xs in
      let here : f x ≡ 0 = ap one_if (none 0) in
      let rest = count_there-none xs (λ n. none (suc n)) in
      omega (arith, more, here, rest)

  -- one number that passes is counted
  pub count_there-some : (xs : List (Option T)) (n : ℕ) → there_and test (at xs n) ≡ true → 1 ≤ count_there test xs
  count_there-some xs n passes =
      let here = slot-le-sum_by (λ slot. one_if (there_and test slot)) refl xs n in
      let one : one_if (there_and test (at xs n)) ≡ 1 = ap one_if passes in
      omega (arith, here, one)

  -- a change at one number changes the count by what stood and what stands there
  pub count_there-changes : (xs ys : List (Option T)) (n : ℕ) (to : Option T) → Changes xs ys n to
      → count_there test ys + one_if (there_and test (at xs n)) ≡ count_there test xs + one_if (there_and test to)
  count_there-changes xs ys n to changes =
      let both = sum_by-slots (λ slot. one_if (there_and test slot)) refl xs ys n changes.others in
      let now : one_if (there_and test (at ys n)) ≡ one_if (there_and test to) = ap (λ (slot : Option T). one_if (there_and test slot)) changes.changed in
      omega (arith, both, now)
