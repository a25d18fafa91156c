-- The nearest of known words, by one more.
use Rattle.std.proofs.Common.{◌≡◌, ℕ, ◌+◌, ◌<◌, ◌≤◌, Bool, true, false, cond, ltb, List, Option, Some, None, refl, sym, subst, ◌∙◌, arith, inl, inr}
use Rattle.std.proofs.lemmas.Bool.{cases_lt, ltb-true, ltb-false}
use Rattle.machine.proofs.Values.{some_inj}
use Rattle.scenarios.specs.Nearest.{edits_at, IsNearestOf, IsBestOf, nearer}

none_some : (n : ℕ) (o : Option ℕ) → o ≡ None → o ≡ Some n → ⊥
none_some n o e f = absurd cc

-- one of the first many and one more is among them, or the last
abbrev At : List ℕ → List (List ℕ) → ℕ → Option ℕ → Type 0
At word known place o = edits_at word known place ≡ o

kept : (word : List ℕ) (known : List (List ℕ)) (many : ℕ) (best : Option (ℕ × ℕ)) → At word known many None → IsBestOf word known many best → IsBestOf word known (many + 1) best
kept word known many None here so_far = λ k lt. elim (cases_lt k many) [ inl below ↦ so_far k below | inr le ↦ (let same : k ≡ many = omega arith in subst (λ (j : ℕ). edits_at word known j ≡ None) (sym same) here) ]
kept word known many (Some best) here so_far = record {
  within = omega (arith, so_far.within);
  near = so_far.near;
  least = λ k n lt e. elim (cases_lt k many) [ inl below ↦ so_far.least k n below e | inr le ↦ (let same : k ≡ many = omega arith in absurd (none_some n (edits_at word known many) here (subst (λ (j : ℕ). edits_at word known j ≡ Some n) same e))) ];
  first = so_far.first;
}

-- the last one has so many edits
last_is : (word : List ℕ) (known : List (List ℕ)) (many k count n : ℕ) → k < many + 1 → many ≤ k → At word known many (Some count) → At word known k (Some n) → count ≡ n
last_is word known many k count n lt le here e = (let same : k ≡ many = omega arith in some_inj (sym here ∙ subst (λ (j : ℕ). edits_at word known j ≡ Some n) same e))

first_found : (word : List ℕ) (known : List (List ℕ)) (many count : ℕ) → At word known many (Some count) → IsBestOf word known many None → IsNearestOf word known (many + 1) many count
first_found word known many count here none = record {
  within = omega arith;
  near = here;
  least = λ k n lt e. elim (cases_lt k many) [ inl below ↦ absurd (none_some n (edits_at word known k) (none k below) e) | inr le ↦ (let same = last_is word known many k count n lt le here e in omega arith) ];
  first = λ k n lt e. absurd (none_some n (edits_at word known k) (none k lt) e);
}

found_nearer : (word : List ℕ) (known : List (List ℕ)) (many place least count : ℕ) → At word known many (Some count) → count < least → IsNearestOf word known many place least → IsNearestOf word known (many + 1) many count
found_nearer word known many place least count here below_it so_far = record {
  within = omega arith;
  near = here;
  least = λ k n lt e. elim (cases_lt k many) [ inl below ↦ (let far = so_far.least k n below e in omega arith) | inr le ↦ (let same = last_is word known many k count n lt le here e in omega arith) ];
  first = λ k n lt e. (let far = so_far.least k n lt e in omega arith);
}

found_no_nearer : (word : List ℕ) (known : List (List ℕ)) (many place least count : ℕ) → At word known many (Some count) → least ≤ count → IsNearestOf word known many place least → IsNearestOf word known (many + 1) place least
found_no_nearer word known many place least count here not_below so_far = record {
  within = omega (arith, so_far.within);
  near = so_far.near;
  least = λ k n lt e. elim (cases_lt k many) [ inl below ↦ so_far.least k n below e | inr le ↦ (let same = last_is word known many k count n lt le here e in omega arith) ];
  first = so_far.first;
}

by_test : (word : List ℕ) (known : List (List ℕ)) (many : ℕ) (best : ℕ × ℕ) (count : ℕ) (t : Bool) → ltb count best.1 ≡ t → At word known many (Some count) → IsNearestOf word known many best.0 best.1
    → IsBestOf word known (many + 1) (cond t (Some (many, count)) (Some best))
by_test word known many best count true t here so_far = found_nearer word known many best.0 best.1 count here (ltb-true _ _ t) so_far
by_test word known many best count false t here so_far = found_no_nearer word known many best.0 best.1 count here (ltb-false _ _ t) so_far

pub one_more : (word : List ℕ) (known : List (List ℕ)) (many : ℕ) (best : Option (ℕ × ℕ)) (o : Option ℕ) → At word known many o → IsBestOf word known many best → IsBestOf word known (many + 1) (nearer best many o)
one_more word known many best None here so_far = kept word known many best here so_far
one_more word known many None (Some count) here so_far = first_found word known many count here so_far
one_more word known many (Some best) (Some count) here so_far = by_test word known many best count (ltb count best.1) refl here so_far
