-- Members of a list, and pairs of them in order, by recursion.
use Rattle.std.proofs.Common.{◌≡◌, ◌⊎◌, ℕ, zero, suc, ◌+◌, ◌<◌, List, [], ◌∷◌, ◌++◌, length, get_or, flat_map, inl, inr, refl, sym, subst, arith, All, AllPairs, Contains}
use Rattle.std.specs.List.Sorted.{IsStrictlyIncreasing}

abbrev pub In : {X : Type 0} → List X → X → Type 0
In [] x = ⊥
In (y ∷ ys) x = (y ≡ x) ⊎ In ys x

pub In-get_or : {X : Type 0} (xs : List X) (k : ℕ) (d : X) → k < length xs → In xs (get_or xs k d)
In-get_or [] k d lt = absurd (omega arith)
In-get_or (x ∷ xs) zero d lt = inl refl
In-get_or (x ∷ xs) (suc k) d lt = inr (In-get_or xs k d (omega arith))

pub In-Contains : {X : Type 0} (xs : List X) (x : X) → In xs x → Contains xs x
In-Contains [] x h = absurd h
In-Contains (y ∷ ys) x (inl e) = (zero, omega arith, e)
In-Contains (y ∷ ys) x (inr h) = let r : Contains ys x = In-Contains ys x h in (suc r.0, omega arith, r.2)

pub Contains-In : {X : Type 0} (xs : List X) (x : X) → Contains xs x → In xs x
Contains-In {X} xs x h = let P : X → Type 0 = λ (y : X). In xs y in subst P h.2 (In-get_or xs h.0 x h.1)

pub In-left : {X : Type 0} (xs ys : List X) (x : X) → In xs x → In (xs ++ ys) x
In-left [] ys x h = absurd h
In-left (z ∷ xs) ys x (inl e) = inl e
In-left (z ∷ xs) ys x (inr h) = inr (In-left xs ys x h)

pub In-right : {X : Type 0} (xs ys : List X) (x : X) → In ys x → In (xs ++ ys) x
In-right [] ys x h = h
In-right (z ∷ xs) ys x h = inr (In-right xs ys x h)

pub In-append : {X : Type 0} (xs ys : List X) (x : X) → In (xs ++ ys) x → In xs x ⊎ In ys x
In-append [] ys x h = inr h
In-append (z ∷ xs) ys x (inl e) = inl (inl e)
In-append (z ∷ xs) ys x (inr h) = elim (In-append xs ys x h) [ inl l ↦ inl (inr l) | inr r ↦ inr r ]

pub In-flat_map : {X Y : Type 0} (f : X → List Y) (xs : List X) (y : Y) → In (flat_map f xs) y → (x : X) × In xs x × In (f x) y
In-flat_map f [] y h = absurd h
In-flat_map f (x ∷ xs) y h =
    elim (In-append (f x) (flat_map f xs) y h) [
      | inl l ↦ (x, inl refl, l)
      | inr r ↦ let s : (z : _) × In xs z × In (f z) y = In-flat_map f xs y r in (s.0, inr s.1, s.2)
    ]

pub flat_map-In : {X Y : Type 0} (f : X → List Y) (xs : List X) (x : X) (y : Y) → In xs x → In (f x) y → In (flat_map f xs) y
flat_map-In f [] x y h g = absurd h
flat_map-In {X} f (z ∷ xs) x y (inl e) g = let P : X → Type 0 = λ (v : X). In (f v) y in In-left (f z) (flat_map f xs) y (subst P (sym e) g)
flat_map-In f (z ∷ xs) x y (inr h) g = In-right (f z) (flat_map f xs) y (flat_map-In f xs x y h g)

pub All-In : {X : Type 0} (P : X → Type 0) (xs : List X) → ((x : X) → In xs x → P x) → All P xs
All-In P xs h = λ k d lt. h (get_or xs k d) (In-get_or xs k d lt)

-- ---- pairs

-- the relation holds from the earlier to the later of any two
abbrev pub Pairs : {X : Type 0} → (X → X → Type 0) → List X → Type 0
Pairs R [] = Unit {0}
Pairs R (x ∷ xs) = ((y : _) → In xs y → R x y) × Pairs R xs

pub Pairs-append : {X : Type 0} (R : X → X → Type 0) (xs ys : List X) → Pairs R xs → Pairs R ys → ((x y : X) → In xs x → In ys y → R x y) → Pairs R (xs ++ ys)
Pairs-append R [] ys p q h = q
Pairs-append R (x ∷ xs) ys p q h =
    (λ y m. elim (In-append xs ys y m) [ inl l ↦ p.0 y l | inr r ↦ h x y (inl refl) r ], Pairs-append R xs ys p.1 q (λ v w a b. h v w (inr a) b))

at : {X : Type 0} (R : X → X → Type 0) (x : X) (xs : List X) → Pairs R (x ∷ xs) → AllPairs R xs → AllPairs R (x ∷ xs)
at R x xs p rest i zero d lt le = absurd (omega arith)
at R x xs p rest zero (suc j) d lt le = p.0 (get_or xs j d) (In-get_or xs j d (omega arith))
at R x xs p rest (suc i) (suc j) d lt le = rest i j d (omega arith) (omega arith)

pub AllPairs-Pairs : {X : Type 0} (R : X → X → Type 0) (xs : List X) → Pairs R xs → AllPairs R xs
AllPairs-Pairs R [] p = λ i j d lt le. absurd (omega arith)
AllPairs-Pairs R (x ∷ xs) p = at R x xs p (AllPairs-Pairs R xs p.1)

pub tail_increasing : (c : ℕ) (cs : List ℕ) → IsStrictlyIncreasing (c ∷ cs) → IsStrictlyIncreasing cs
tail_increasing c cs s = λ k lt.
    let h : get_or cs k 0 < get_or (c ∷ cs) (suc k + 1) 0 = s (suc k) (omega arith) in
    let P : ℕ → Type 0 = λ (n : ℕ). get_or cs k 0 < get_or (c ∷ cs) n 0 in
    let e : suc k + 1 ≡ suc (k + 1) = omega arith in
    subst P e h

-- the first is less than every other
pub first-below : (c : ℕ) (cs : List ℕ) → IsStrictlyIncreasing (c ∷ cs) → (d : ℕ) → In cs d → c < d
first-below c [] s d h = absurd h
first-below c (e ∷ cs) s d (inl q) = let lt : c < e = s 0 (omega arith) in omega arith
first-below c (e ∷ cs) s d (inr h) =
    let lt : c < e = s 0 (omega arith) in
    let le : e < d = first-below e cs (tail_increasing c (e ∷ cs) s) d h in
    omega arith
