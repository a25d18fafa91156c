-- The list of outcomes that is printed.
use Rattle.std.specs.Prelude.{ℕ, ◌+◌, ◌==◌, nat_lt, Bool, List, [], ◌∷◌, ◌++◌, fold, length, codes, decimal, if◌then◌else◌}
use Rattle.std.specs.List.{sum_by}
use Rattle.machine.specs.Control.{line}
use Rattle.walks.specs.declared.Walk.{Walk}
use Rattle.walks.specs.declared.Walk.TheVariants.{All, Stopped, TooDeep, Sample}
use Rattle.explorer.specs.declared.choice.Choice.{Choice}
use Rattle.explorer.specs.declared.choice.Choice.TheVariants.{Any, DeviceFirst}
use Rattle.explorer.specs.Tally.{Counted, Findings}

-- a number of things
abbrev pub many : ℕ → List ℕ → List ℕ
many n what = if n == 1 then codes "1 " ++ what else decimal n ++ codes " " ++ what ++ codes "s"

-- ---- the first line

-- whether all orders were run
abbrev pub how_far : Walk → List ℕ
how_far (All count) = codes ""
how_far Stopped = codes "not all: "
how_far TooDeep = codes "not all: "
how_far (Sample count) = codes "a sample of "

-- which orders were run. (Excludes some orders that are taken for all.)
abbrev pub which : Choice → List ℕ
which Any = codes ""
which DeviceFirst = codes " (device calls first)"

-- how many turns the orders have
abbrev pub turns_text : ℕ → ℕ → List ℕ
turns_text shortest longest = (if nat_lt shortest longest then decimal shortest ++ codes " to " else []) ++ many longest (codes "turn")

abbrev pub has : ℕ → List ℕ
has orders = if orders == 1 then codes "has " else codes "have "

abbrev pub have : Walk → ℕ → List ℕ
have (All count) orders = has orders
have Stopped orders = has orders
have TooDeep orders = has orders
have (Sample count) orders = codes "shows "

-- orders outside of a sample may have other outcomes. (Excludes a sample that passes for all orders.)
abbrev pub doubt : Walk → List ℕ
doubt (All count) = []
doubt Stopped = []
doubt TooDeep = []
doubt (Sample count) = codes "; there may be others"

-- how many orders are counted
abbrev pub kept_in : List Counted → ℕ
kept_in rows = sum_by (λ (row : Counted). row.orders) rows

-- said of orders that have no answer `busy`
abbrev pub without_busy : ℕ → List ℕ
without_busy kept = if kept == 1 then codes " without `busy` has " else codes " without `busy` have "

-- of which orders the outcomes are: of those that were run, or, if commands wait, of those in which none was answered `busy`. (Excludes orders that are left out in silence.)
abbrev pub whose : Bool → Walk → ℕ → ℕ → List ℕ
whose waits walk orders kept = if waits then codes "; " ++ many kept (codes "order") ++ without_busy kept else codes ", " ++ have walk orders

-- how many orders were run, and which, how many turns the shortest and the longest of them have, and how many outcomes there are. (Excludes a number of turns that no order has.)
abbrev pub first_line : Choice → Bool → Walk → ℕ → ℕ → ℕ → ℕ → ℕ → List ℕ
first_line choice waits walk orders kept shortest longest outcomes =
    line (how_far walk ++ many orders (codes "order") ++ which choice ++ codes ", of " ++ turns_text shortest longest ++ whose waits walk orders kept ++ many outcomes (codes "outcome") ++ doubt walk)

-- ---- the outcomes

-- the row before those of which fewer orders are, behind those of which as many are
abbrev pub with_ranked : List Counted → Counted → List Counted
with_ranked [] row = row ∷ []
with_ranked (first ∷ rows) row = if nat_lt first.orders row.orders then row ∷ first ∷ rows else first ∷ with_ranked rows row

-- the rows by how many orders give the outcome, the most first; of two with as many orders the first remains first
abbrev pub ranked : List Counted → List Counted
ranked rows = fold with_ranked [] rows

-- an outcome with this number: how many orders give it, and its lines. (Excludes the count of another outcome.)
abbrev pub row_text : ℕ → Counted → List ℕ
row_text number row = line (codes "outcome " ++ decimal number ++ codes ": " ++ many row.orders (codes "order")) ++ row.outcome

-- outcomes, numbered from this number. (Excludes an outcome that is left out.)
abbrev pub rows_text : ℕ → List Counted → List ℕ
rows_text number [] = []
rows_text number (row ∷ rows) = row_text number row ++ rows_text (number + 1) rows

-- how many orders were run to their end
abbrev pub orders_in : Walk → ℕ → ℕ → ℕ → ℕ
orders_in (All count) most kept left_out = count
orders_in (Sample count) most kept left_out = count
orders_in Stopped most kept left_out = most
orders_in TooDeep most kept left_out = kept + left_out

abbrev pub list_text : Choice → Bool → Walk → ℕ → Findings → List ℕ
list_text choice waits walk orders found =
    if orders == 0 then line (codes "no order was run to its end")
    else first_line choice waits walk orders (kept_in found.rows) found.shortest found.longest (length found.rows) ++ rows_text 1 (ranked found.rows)
