-- What the seats of all workers know of one history, and what holds of them between any two steps. No public clause cites this.
use Rattle.std.specs.Prelude.{◌≡◌, ℕ, ◌+◌, ◌<◌, ◌≤◌, ◌==◌, nat_lt, if◌then◌else◌, List, [], ◌∷◌, ◌++◌, length, drop, count_by}
use Rattle.std.specs.List.{sum_by}
use mathlib.Core.Option.{Option, none, some}
use lib.ListN.{get_elem?}
use Rattle.atomic_table.specs.Table.{State, Me, Step}
use Rattle.book.specs.Passes.{PassOf}
use Rattle.book.specs.declared.kept.Kept.{Kept}
use Rattle.book.specs.declared.kept.Kept.TheVariants.{Call as Kept_call, Find as Kept_find}
use Rattle.machine.specs.declared.event.Event.{Event}
use Rattle.live.specs.declared.history.Exchange.{Exchange}
use Rattle.live.specs.declared.history.Exchange.TheVariants.{Call, Find}
use Rattle.live.specs.declared.history.Told.{Told}
use Rattle.live.specs.declared.history.Row.{Row}
use Rattle.live.specs.declared.history.View.{View}
use Rattle.live.specs.Told.{told_to, telling}

abbrev pub Sitting : Type 0
Sitting = State PassOf View

abbrev pub Seated : Type 0
Seated = Me PassOf View

-- ---- views

abbrev pub row : ℕ → List Exchange → Row
row worker exchanges = record { worker = worker; exchanges = exchanges }

-- a seat that knows nothing
abbrev pub blank : View
blank = record { books = 0; rolls = 0; given = 0; rolled = 0; log = []; rows = [] }

-- a seat that knows what these workers were told
abbrev pub of_rows : List Row → View
of_rows rows = record { books = 0; rolls = 0; given = 0; rolled = 0; log = []; rows = rows }

abbrev pub of_worker : ℕ → List Exchange → View
of_worker worker exchanges = of_rows (row worker exchanges ∷ [])

-- a seat that knows how many passes were given out
abbrev pub of_roll : ℕ → View
of_roll given = record { books = 0; rolls = 1; given = 0; rolled = given; log = []; rows = [] }

-- the book's seat, which knows all
abbrev pub of_book : ℕ → List Told → View
of_book given log = record { books = 1; rolls = 0; given = given; rolled = 0; log = log; rows = [] }

abbrev pub first_view : View
first_view = record { books = 1; rolls = 1; given = 0; rolled = 0; log = []; rows = [] }

-- ---- cut and put together

abbrev pub without_rows : View → View
without_rows view = record view { rows = [] }

abbrev pub rows_alone : View → View
rows_alone view = of_rows view.rows

abbrev pub without_roll : View → View
without_roll view = record view { rolls = 0; rolled = 0 }

abbrev pub roll_alone : View → View
roll_alone view = record { books = 0; rolls = view.rolls; given = 0; rolled = view.rolled; log = []; rows = [] }

abbrev pub joined : View → View → View
joined view other = record { books = view.books + other.books; rolls = view.rolls + other.rolls; given = view.given; rolled = view.rolled + other.rolled; log = view.log; rows = other.rows ++ view.rows }

-- ---- what holds

-- each of these is what its worker was told
abbrev pub AreRows : List Told → List Row → Type 0
AreRows log [] = Unit {0}
AreRows log (row ∷ rows) = (row.exchanges ≡ told_to row.worker log) × AreRows log rows

-- what a seat knows is so
pub record Knows (log : List Told) (given : ℕ) (view : View) : Type 0 where
  pub book : 0 < view.books → (view.log ≡ log) × (view.given ≡ given)
  pub roll : 0 < view.rolls → view.rolled ≡ given
  -- a seat that is not the roll's has no count of its own
  pub none : view.rolls ≡ 0 → view.rolled ≡ 0
  pub rows : AreRows log view.rows

abbrev pub times_in : ℕ → List Row → ℕ
times_in worker rows = count_by (λ (r : Row). r.worker == worker) rows

abbrev pub times_of : ℕ → View → ℕ
times_of worker view = times_in worker view.rows

abbrev pub rows_of : View → ℕ
rows_of view = length view.rows

abbrev pub weight_in : (Exchange → ℕ) → List Row → ℕ
weight_in h rows = sum_by (λ (r : Row). sum_by h r.exchanges) rows

abbrev pub weight_of : (Exchange → ℕ) → View → ℕ
weight_of h view = weight_in h view.rows

abbrev pub weight_told : (Exchange → ℕ) → List Told → ℕ
weight_told h log = sum_by (λ (t : Told). h t.what) log

abbrev pub books_of : View → ℕ
books_of view = view.books

abbrev pub rolls_of : View → ℕ
rolls_of view = view.rolls

-- 1 where the worker was given a pass, and else 0
abbrev pub within : ℕ → ℕ → ℕ
within worker given = if nat_lt worker given then 1 else 0

-- There is one history, which the one seat of the book has whole. Each worker that was given a pass has one row, which has all that the history has of it
pub record IsKept (s : Sitting) : Type 0 where
  pub log : List Told
  pub given : ℕ
  pub books : sum_by books_of s.views ≡ 1
  pub rolls : sum_by rolls_of s.views ≡ 1
  pub each : (id : ℕ) (view : View) → get_elem? s.views id ≡ some view → Knows log given view
  pub once : (worker : ℕ) → sum_by (times_of worker) s.views ≡ within worker given
  pub fresh : (worker : ℕ) → given ≤ worker → told_to worker log ≡ []
  pub count : sum_by rows_of s.views ≡ given
  pub weight : (h : Exchange → ℕ) → sum_by (weight_of h) s.views ≡ weight_told h log

-- ---- what steps tell

-- these workers were given passes
abbrev pub HavePasses : ℕ → List Row → Type 0
HavePasses given [] = Unit {0}
HavePasses given (row ∷ rows) = (row.worker < given) × HavePasses given rows

abbrev pub exchanges_in : List Row → List Exchange
exchanges_in [] = []
exchanges_in (row ∷ rows) = row.exchanges

-- what a pass keeps, with the events that were asked, in order
abbrev pub exchanges_of : List Kept → List Event → List Exchange
exchanges_of [] asked = []
exchanges_of (Kept_find path found ∷ more) asked = Find path found ∷ exchanges_of more asked
exchanges_of (Kept_call _ said ∷ more) [] = exchanges_of more []
exchanges_of (Kept_call _ said ∷ more) (what ∷ asked) = Call what said ∷ exchanges_of more asked

-- what is new of it
abbrev pub new_of : List Event → List Exchange → List Kept → List Exchange
new_of asked known kept = exchanges_of (drop (length known) kept) asked

-- a worker was told more: this is its pass now, and these events were asked with it
abbrev pub noted : List Event → Option PassOf → View → View
noted asked none view = view
noted asked (some pass) view =
    let known = exchanges_in view.rows in
    let more = new_of asked known pass.kept in
    record view { log = telling pass.caller.worker more view.log; rows = row pass.caller.worker (known ++ more) ∷ [] }

abbrev pub Notes : List Event → Step PassOf → Seated → ℕ → Seated → Type 0
Notes asked st old n new = (new ≡ (noted asked st.said old.0, old.1)) × AreRows old.0.log old.0.rows × HavePasses old.0.given old.0.rows

-- a pass more was given out
abbrev pub one_more : View → View
one_more view = record view { given = view.given + 1; rolled = view.rolled + 1; rows = row view.given [] ∷ view.rows }

abbrev pub GivesOut : Step PassOf → Seated → ℕ → Seated → Type 0
GivesOut st old n new = (new ≡ (one_more old.0, old.1)) × (old.0.rolled ≡ old.0.given)

-- what is so of a seat that has the book's knowledge, the roll's, and these rows
pub record IsAll (view : View) : Type 0 where
  pub rows : AreRows view.log view.rows
  pub once : (worker : ℕ) → times_in worker view.rows ≤ 1
  pub few : length view.rows ≤ view.given
  pub rolled : view.rolled ≡ view.given
  pub weight : view.given ≤ length view.rows → (h : Exchange → ℕ) → weight_in h view.rows ≡ weight_told h view.log

abbrev pub Learns : Step PassOf → Seated → ℕ → Seated → Type 0
Learns st old n new = (new ≡ old) × IsAll old.0
