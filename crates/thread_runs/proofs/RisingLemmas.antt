-- Rows whose numbers rise: none is of an actor before it.
use Rattle.std.proofs.Common.{◌≡◌, ℕ, zero, suc, ◌+◌, ◌-◌, ◌<◌, ◌≤◌, false, List, [], ◌∷◌, length, map, take, get_or, ne_eqb, refl, sym, ap, ◌∙◌, subst, arith}
use Rattle.std.specs.Prelude.{Vec, slice_index}
use Rattle.std.specs.declared.alloc.Global.{Global}
use Rattle.std.specs.List.Sorted.{IsStrictlyIncreasing}
use Rattle.machine.specs.declared.command.Actor.{Actor}
use Rattle.machine.specs.declared.command.Command.{Command}
use Rattle.live.specs.Crews.{WorkerOf}
use Rattle.scripts.specs.Work.{number_of, numbers_of, shown_rows}
use Rattle.thread_runs.specs.Crews.{is_at, place_of, jobs_of}

abbrev pub Row : Type 0
Row = Actor × Vec Command Global

abbrev row_numbers : List Row → List ℕ
row_numbers rows = numbers_of (shown_rows rows)

-- all of them are below the number
AllBelow : ℕ → List ℕ → Type 0
AllBelow n [] = Unit {0}
AllBelow n (m ∷ ms) = (m < n) × AllBelow n ms

rises : (ns : List ℕ) → IsStrictlyIncreasing ns → (i d : ℕ) → i + (d + 1) < length ns → slice_index ns i < slice_index ns (i + (d + 1))
rises ns h i zero within =
    let here = h i (omega (arith, within)) in
    let same : i + (0 + 1) ≡ i + 1 = omega arith in
    subst (λ (k : ℕ). slice_index ns i < slice_index ns k) (sym same) here
rises ns h i (suc d) within =
    let before = rises ns h i d (omega (arith, within)) in
    let here = h (i + (d + 1)) (omega (arith, within)) in
    let same : i + (suc d + 1) ≡ i + (d + 1) + 1 = omega arith in
    subst (λ (k : ℕ). slice_index ns i < slice_index ns k) (sym same) (omega (arith, before, here))

rises_to : (ns : List ℕ) → IsStrictlyIncreasing ns → (i k : ℕ) → i < k → k < length ns → slice_index ns i < slice_index ns k
rises_to ns h i k lower within =
    let d : ℕ = k - (i + 1) in
    let same : i + (d + 1) ≡ k = omega (arith, lower) in
    subst (λ (j : ℕ). slice_index ns i < slice_index ns j) same (rises ns h i d (omega (arith, same, within)))

below_take : (n : ℕ) (ns : List ℕ) (k : ℕ) → k ≤ length ns → ((j : ℕ) → j < k → slice_index ns j < n) → AllBelow n (take k ns)
unfolding AllBelow
below_take n [] zero within h = tt
below_take n [] (suc k) within h = absurd (omega arith)
below_take n (m ∷ ns) zero within h = tt
below_take n (m ∷ ns) (suc k) within h = (h 0 (omega arith), below_take n ns k (omega arith) (λ j lower. h (suc j) (omega arith)))

none_below : (who : Actor) (ws : List WorkerOf) → AllBelow (number_of who) (numbers_of (jobs_of ws)) → place_of who ws ≡ length ws
unfolding AllBelow
none_below who [] h = refl
none_below who (w ∷ ws) h =
    let lower = h.0 in
    let test : is_at who w ≡ false = ne_eqb (number_of w.actor) (number_of who) (λ same. omega (arith, lower, same)) in
    rw test (ap suc (none_below who ws h.1))

number_at : (rows : List Row) (k : ℕ) (row : Row) → k < length rows → slice_index (row_numbers rows) k ≡ number_of (get_or rows k row).0
number_at [] k row within = absurd (omega arith)
number_at (r ∷ rows) zero row within = refl
number_at (r ∷ rows) (suc k) row within = number_at rows k row (omega arith)

length-row_numbers : (rows : List Row) → length (row_numbers rows) ≡ length rows
length-row_numbers [] = refl
length-row_numbers (r ∷ rows) = ap suc (length-row_numbers rows)

take-row_numbers : (k : ℕ) (rows : List Row) → row_numbers (take k rows) ≡ take k (row_numbers rows)
take-row_numbers zero rows = refl
take-row_numbers (suc k) [] = refl
take-row_numbers (suc k) (r ∷ rows) = ap (λ (ns : List ℕ). number_of r.0 ∷ ns) (take-row_numbers k rows)

map-same : {A : Type 0} (xs : List A) → map (λ (x : A). x) xs ≡ xs
map-same [] = refl
map-same {A = A} (x ∷ xs) = ap (λ (ys : List A). x ∷ ys) (map-same xs)

pub rows_ended : (rows yielded : List Row) → map (λ (row : Row). row) yielded ≡ rows → shown_rows yielded ≡ shown_rows rows
rows_ended rows yielded all = ap (λ (rs : List Row). shown_rows rs) (sym (map-same yielded) ∙ all)

pub next_is_new : (rows yielded : List Row) (row : Row) (ws : List WorkerOf) → IsStrictlyIncreasing (row_numbers rows) → length yielded < length rows → row ≡ get_or rows (length yielded) row → map (λ (r : Row). r) yielded ≡ take (length yielded) rows
    → jobs_of ws ≡ shown_rows yielded → place_of row.0 ws ≡ length ws
next_is_new rows yielded row ws rising within is so_far jobs =
    let k : ℕ = length yielded in
    let size = length-row_numbers rows in
    let numbers : numbers_of (jobs_of ws) ≡ take k (row_numbers rows) =
    ap (λ (js : List (Actor × List Command)). numbers_of js) jobs ∙ ap (λ (rs : List Row). row_numbers rs) (sym (map-same yielded) ∙ so_far) ∙ take-row_numbers k rows in
    let own : slice_index (row_numbers rows) k ≡ number_of row.0 = number_at rows k row within ∙ ap (λ (r : Row). number_of r.0) (sym is) in
    let lower : (j : ℕ) → j < k → slice_index (row_numbers rows) j < number_of row.0 =
    λ j less. let below = rises_to (row_numbers rows) rising j k less (omega (arith, within, size)) in omega (arith, below, own) in
    none_below row.0 ws (subst (AllBelow (number_of row.0)) (sym numbers) (below_take (number_of row.0) (row_numbers rows) k (omega (arith, within, size)) lower))
