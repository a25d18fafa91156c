-- What workers were told, as a history goes on; and rows of it.
use Rattle.std.proofs.Common.{◌≡◌, ◌≢◌, ℕ, ◌+◌, ◌<◌, ◌≤◌, ◌==◌, Bool, cond, List, [], ◌∷◌, ◌++◌, sym, refl, ap, ◌∙◌, append-nil, append_assoc, eq-eqb, ne_eqb, arith, subst, ◌⊎◌, inl, inr}
use Rattle.std.specs.List.{sum_by}
use Rattle.std.proofs.lemmas.List.Sums.{sum_by-cons, sum_by-append}
use Rattle.std.proofs.lemmas.Bool.{cases_lt}
use Rattle.live.specs.declared.history.Exchange.{Exchange}
use Rattle.live.specs.declared.history.Told.{Told}
use Rattle.live.specs.declared.history.Row.{Row}
use Rattle.live.specs.Told.{told_to, told, telling}
use Rattle.live.specs.Rules.{AreRows, HavePasses, times_in, weight_in, weight_told}

-- ---- one thing more

pub told-own : (worker : ℕ) (what : Exchange) (log : List Told) → told_to worker (told worker what ∷ log) ≡ told_to worker log ++ what ∷ []
told-own worker what log = ap (λ (b : Bool). told_to worker log ++ cond b (what ∷ []) []) (eq-eqb worker worker refl)

pub told-other : (worker other : ℕ) (what : Exchange) (log : List Told) → worker ≢ other → told_to other (told worker what ∷ log) ≡ told_to other log
told-other worker other what log ne = ap (λ (b : Bool). told_to other log ++ cond b (what ∷ []) []) (ne_eqb worker other ne) ∙ append-nil (told_to other log)

-- ---- more things

pub telling-own : (worker : ℕ) (more : List Exchange) (log : List Told) → told_to worker (telling worker more log) ≡ told_to worker log ++ more
telling-own worker [] log = sym (append-nil (told_to worker log))
telling-own worker (what ∷ more) log =
    telling-own worker more (told worker what ∷ log)
    ∙ (ap (λ (l : List Exchange). l ++ more) (told-own worker what log) ∙ append_assoc (told_to worker log) (what ∷ []) more)

pub telling-other : (worker other : ℕ) (more : List Exchange) (log : List Told) → worker ≢ other → told_to other (telling worker more log) ≡ told_to other log
telling-other worker other [] log ne = refl
telling-other worker other (what ∷ more) log ne = telling-other worker other more (told worker what ∷ log) ne ∙ told-other worker other what log ne

-- what it weighs
pub telling-weight : (h : Exchange → ℕ) (worker : ℕ) (more : List Exchange) (log : List Told) → weight_told h (telling worker more log) ≡ weight_told h log + sum_by h more
telling-weight h worker [] log = omega arith
telling-weight h worker (what ∷ more) log =
    omega (arith, telling-weight h worker more (told worker what ∷ log), sum_by-cons (λ (t : Told). h t.what) (told worker what) log, sum_by-cons h what more)

-- ---- rows

pub rows-append : (log : List Told) (rows others : List Row) → AreRows log rows → AreRows log others → AreRows log (rows ++ others)
rows-append log [] others one two = two
rows-append log (row ∷ rows) others one two = (one.0, rows-append log rows others one.1 two)

abbrev one_if : Bool → ℕ
one_if b = cond b 1 0

times-cons : (worker : ℕ) (row : Row) (rows : List Row) → times_in worker (row ∷ rows) ≡ one_if (row.worker == worker) + times_in worker rows
times-cons worker row rows = sum_by-cons (λ (r : Row). cond (r.worker == worker) 1 0) row rows

pub times-append : (worker : ℕ) (rows others : List Row) → times_in worker (rows ++ others) ≡ times_in worker rows + times_in worker others
times-append worker rows others = sum_by-append (λ (r : Row). cond (r.worker == worker) 1 0) rows others

pub times-own : (row : Row) (rows : List Row) → times_in row.worker (row ∷ rows) ≡ 1 + times_in row.worker rows
times-own row rows = let one : one_if (row.worker == row.worker) ≡ 1 = ap one_if (eq-eqb row.worker row.worker refl) in omega (arith, times-cons row.worker row rows, one)

pub times-less : (worker : ℕ) (row : Row) (rows : List Row) → times_in worker rows ≤ times_in worker (row ∷ rows)
times-less worker row rows = omega (arith, times-cons worker row rows)

pub times-other : (worker : ℕ) (row : Row) (rows : List Row) → row.worker ≢ worker → times_in worker (row ∷ rows) ≡ times_in worker rows
times-other worker row rows ne = let none : one_if (row.worker == worker) ≡ 0 = ap one_if (ne_eqb row.worker worker ne) in omega (arith, times-cons worker row rows, none)

-- rows of others stay what they are, as a worker is told more
row-on : (worker : ℕ) (more : List Exchange) (log : List Told) (row : Row) (rows : List Row) → times_in worker (row ∷ rows) ≡ 0 → row.worker ≢ worker
row-on worker more log row rows none e = absurd (omega (arith, subst (λ (n : ℕ). times_in n (row ∷ rows) ≡ 1 + times_in n rows) e (times-own row rows), none))

pub rows-on : (worker : ℕ) (more : List Exchange) (log : List Told) (rows : List Row) → times_in worker rows ≡ 0 → AreRows log rows → AreRows (telling worker more log) rows
rows-on worker more log [] none are = tt
rows-on worker more log (row ∷ rows) none are =
    let ne = row-on worker more log row rows none in (
      are.0 ∙ sym (telling-other worker row.worker more log (λ (e : worker ≡ row.worker). ne (sym e))),
      rows-on worker more log rows (omega (arith, times-other worker row rows ne, none)) are.1,
    )

-- workers of whom there is a row at most where they were given a pass were given one
row-given : (given : ℕ) (row : Row) (rows : List Row) → ((worker : ℕ) → given ≤ worker → times_in worker (row ∷ rows) ≡ 0) → row.worker < given
row-given given row rows none = by (cases_lt row.worker given)
  where
    by : (row.worker < given) ⊎ (given ≤ row.worker) → row.worker < given
    by (inl lt) = lt
    by (inr le) = absurd (omega (arith, times-own row rows, none row.worker le))

pub rows-given : (given : ℕ) (rows : List Row) → ((worker : ℕ) → given ≤ worker → times_in worker rows ≡ 0) → HavePasses given rows
rows-given given [] none = tt
rows-given given (row ∷ rows) none = (
  row-given given row rows none,
  rows-given given rows (λ worker le. omega (arith, times-cons worker row rows, none worker le)),
)

pub weight-append : (h : Exchange → ℕ) (rows others : List Row) → weight_in h (rows ++ others) ≡ weight_in h rows + weight_in h others
weight-append h rows others = sum_by-append (λ (r : Row). sum_by h r.exchanges) rows others
