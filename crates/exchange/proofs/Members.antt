-- Who is ready, by places.
use Rattle.std.proofs.Common.{◌≡◌, inl, inr, ℕ, zero, suc, ◌+◌, ◌<◌, ◌≤◌, Bool, true, false, cond, ltb, List, [], ◌∷◌, length, Some, None, refl, sym, ap, ◌∙◌, subst, arith, Contains, zero-add}
use Rattle.std.specs.Prelude.{◌⊎◌, not, slice_get, position, if◌then◌else◌}
use Rattle.std.specs.List.{position_or_len}
use Rattle.std.proofs.lemmas.Bool.{ltb-true}
use Rattle.machine.proofs.Values.{some_inj}
use Rattle.driver.specs.declared.seat.Seat.{Seat}
use Rattle.driver.specs.Schedule.{World}
use Rattle.explorer.specs.declared.parts.Row.{Row}
use Rattle.explorer.specs.Work.{is_ready, ready_from, ready_in}

-- ---- members

in_cons : (x y : ℕ) (xs : List ℕ) → Contains (x ∷ xs) y → (x ≡ y) ⊎ Contains xs y
in_cons x y xs (zero, lt, e) = inl e
in_cons x y xs (suc k, lt, e) = inr (k, omega arith, e)

first_in : (x y : ℕ) (xs : List ℕ) → x ≡ y → Contains (x ∷ xs) y
first_in x y xs e = (zero, omega arith, e)

later_in : (x y : ℕ) (xs : List ℕ) → Contains xs y → Contains (x ∷ xs) y
later_in x y xs (k, lt, e) = (suc k, omega arith, e)

pub alone_in : (x : ℕ) → Contains (x ∷ []) x
alone_in x = first_in x x [] refl

none_in : (y : ℕ) → Contains [] y → ⊥
none_in y (k, lt, e) = omega arith

-- ---- the ready places

below : (seats : List Seat) (rows : List Row) (place who : ℕ) → Contains (ready_from place seats rows) who → place ≤ who
below seats [] place who h = absurd (none_in who h)
below seats (row ∷ rows) place who h = at (is_ready seats row) h (below seats rows (place + 1) who)
  where
    at : (b : Bool) → Contains (if b then place ∷ ready_from (place + 1) seats rows else ready_from (place + 1) seats rows) who → (Contains (ready_from (place + 1) seats rows) who → place + 1 ≤ who) → place ≤ who
    at true k ih =
        elim (in_cons place who (ready_from (place + 1) seats rows) k) [
          | inl same ↦ omega (arith, same)
          | inr later ↦ (let le : place + 1 ≤ who = ih later in omega (arith, le))
        ]
    at false k ih = let le : place + 1 ≤ who = ih k in omega (arith, le)

-- the row of a ready place is ready
ready_at : (seats : List Seat) (rows : List Row) (place k : ℕ) (row : Row) → slice_get rows k ≡ Some row → Contains (ready_from place seats rows) (place + k) → is_ready seats row ≡ true
ready_at seats [] place k row there h = absurd (none_in (place + k) h)
ready_at seats (first ∷ rows) place zero row there h = at (is_ready seats first) refl h
  where
    same : first ≡ row
    same = some_inj there

    at : (b : Bool) → is_ready seats first ≡ b → Contains (if b then place ∷ ready_from (place + 1) seats rows else ready_from (place + 1) seats rows) (place + 0) → is_ready seats row ≡ true
    at true e m = ap (is_ready seats) (sym same) ∙ e
    at false e m = absurd (let le : place + 1 ≤ place + 0 = below seats rows (place + 1) (place + 0) m in omega (arith, le))
ready_at seats (first ∷ rows) place (suc k) row there h =
    let one : place + suc k ≡ place + 1 + k = omega arith in
    let P : ℕ → Type 0 = λ (n : ℕ). Contains (ready_from (place + 1) seats rows) n in
    at (is_ready seats first) h (λ m. ready_at seats rows (place + 1) k row there (subst P one m))
  where
    at : (b : Bool) → Contains (if b then place ∷ ready_from (place + 1) seats rows else ready_from (place + 1) seats rows) (place + suc k) → (Contains (ready_from (place + 1) seats rows) (place + suc k) → is_ready seats row ≡ true) → is_ready seats row ≡ true
    at true m on =
        elim (in_cons place (place + suc k) (ready_from (place + 1) seats rows) m) [
          | inl same ↦ absurd (omega (arith, same))
          | inr later ↦ on later
        ]
    at false m on = on m

-- the place of a ready row is ready
ready_has : (seats : List Seat) (rows : List Row) (place k : ℕ) (row : Row) → slice_get rows k ≡ Some row → is_ready seats row ≡ true → Contains (ready_from place seats rows) (place + k)
ready_has seats [] place k row there e = cc
ready_has seats (first ∷ rows) place zero row there e =
    let same : first ≡ row = some_inj there in
    let P : Bool → Type 0 = λ (b : Bool). Contains (if b then place ∷ ready_from (place + 1) seats rows else ready_from (place + 1) seats rows) (place + 0) in
    subst P (sym (ap (is_ready seats) same ∙ e)) (first_in place (place + 0) (ready_from (place + 1) seats rows) (omega arith))
ready_has seats (first ∷ rows) place (suc k) row there e =
    let one : place + 1 + k ≡ place + suc k = omega arith in
    let P : ℕ → Type 0 = λ (n : ℕ). Contains (ready_from (place + 1) seats rows) n in
    at (is_ready seats first) (subst P one (ready_has seats rows (place + 1) k row there e))
  where
    at : (b : Bool) → Contains (ready_from (place + 1) seats rows) (place + suc k) → Contains (if b then place ∷ ready_from (place + 1) seats rows else ready_from (place + 1) seats rows) (place + suc k)
    at true on = later_in place (place + suc k) (ready_from (place + 1) seats rows) on
    at false on = on

pub is_ready_at : (rows : List Row) (world : World) (place : ℕ) (row : Row) → slice_get rows place ≡ Some row → Contains (ready_in rows world) place → is_ready world.seats row ≡ true
is_ready_at rows world place row there h =
    let P : ℕ → Type 0 = λ (n : ℕ). Contains (ready_in rows world) n in
    ready_at world.seats rows 0 place row there (subst P (sym (zero-add place)) h)

pub has_ready : (rows : List Row) (world : World) (place : ℕ) (row : Row) → slice_get rows place ≡ Some row → is_ready world.seats row ≡ true → Contains (ready_in rows world) place
has_ready rows world place row there e =
    let P : ℕ → Type 0 = λ (n : ℕ). Contains (ready_in rows world) n in
    subst P (zero-add place) (ready_has world.seats rows 0 place row there e)

-- with no ready place no row is ready
pub none_ready : (rows : List Row) (world : World) (place : ℕ) (row : Row) → ready_in rows world ≡ [] → slice_get rows place ≡ Some row → is_ready world.seats row ≡ false
none_ready rows world place row none there = at (is_ready world.seats row) refl
  where
    at : (b : Bool) → is_ready world.seats row ≡ b → is_ready world.seats row ≡ false
    at true e =
        let P : List ℕ → Type 0 = λ (l : List ℕ). Contains l place in
        absurd (none_in place (subst P none (has_ready rows world place row there e)))
    at false e = e

-- ---- the first that passes

passes_by : {X : Type 0} (test : X → Bool) (xs : List X) (k : ℕ) → k ≡ position_or_len test xs → k < length xs → (x : X) × (slice_get xs k ≡ Some x) × (test x ≡ true)
passes_by test [] k e lt = absurd (omega arith)
passes_by {X} test (x ∷ xs) k e lt = at (test x) refl e (λ j f l. passes_by test xs j f l)
  where
    at : (b : Bool) → test x ≡ b → k ≡ cond (not b) (1 + position_or_len test xs) 0 → ((j : ℕ) → j ≡ position_or_len test xs → j < length xs → (y : X) × (slice_get xs j ≡ Some y) × (test y ≡ true)) → (y : X) × (slice_get (x ∷ xs) k ≡ Some y) × (test y ≡ true)
    at true p f ih =
        let P : ℕ → Type 0 = λ (n : ℕ). (y : X) × (slice_get (x ∷ xs) n ≡ Some y) × (test y ≡ true) in
        subst P (sym f) (x, refl, p)
    at false p f ih =
        let next : k ≡ suc (position_or_len test xs) = omega (arith, f) in
        let within : position_or_len test xs < length xs = omega (arith, lt, next) in
        let P : ℕ → Type 0 = λ (n : ℕ). (y : X) × (slice_get (x ∷ xs) n ≡ Some y) × (test y ≡ true) in
        subst P (sym next) (ih (position_or_len test xs) refl within)

pub found_passes : {X : Type 0} (test : X → Bool) (xs : List X) (k : ℕ) → position test xs ≡ Some k → (x : X) × (slice_get xs k ≡ Some x) × (test x ≡ true)
found_passes {X} test xs k e = at (ltb (position_or_len test xs) (length xs)) refl e
  where
    at : (t : Bool) → ltb (position_or_len test xs) (length xs) ≡ t → cond t (Some (position_or_len test xs)) None ≡ Some k → (x : X) × (slice_get xs k ≡ Some x) × (test x ≡ true)
    at true f h =
        let same : position_or_len test xs ≡ k = some_inj h in
        let P : ℕ → Type 0 = λ (n : ℕ). n < length xs in
        passes_by test xs k (sym same) (subst P same (ltb-true _ _ f))
    at false f h = cc
