-- Each step keeps what holds of all seats.
use Rattle.std.proofs.Common.{◌≡◌, ◌≢◌, ℕ, zero, suc, ◌+◌, ◌<◌, ◌≤◌, ◌==◌, ◌⊎◌, inl, inr, ⊎_elim, Bool, true, false, List, [], ◌∷◌, ◌++◌, length, set, sym, refl, ap, ◌∙◌, subst, arith, length-append}
use Rattle.std.specs.Prelude.{nat_lt, if◌then◌else◌}
use Rattle.std.specs.List.{sum_by}
use Rattle.std.proofs.lemmas.Bool.{cases_lt}
use Rattle.std.proofs.lemmas.Bool.Decides.{nat_tests}
use Rattle.std.proofs.lemmas.List.Sums.{sum_by-cons, sum_by-append}
use mathlib.Core.Option.{none, some, some-injective, some-ne-none}
use prog.Atomic.{either}
use lib.ListN.{get_elem?}
use Rattle.atomic_table.specs.Table.{opening, step, keeps, Allows, Splits, Joins}
use Rattle.atomic_table.proofs.Lists.{at_set, at_snoc, set_again}
use Rattle.book.specs.Passes.{PassOf}
use Rattle.live.specs.declared.history.Exchange.{Exchange}
use Rattle.machine.specs.declared.event.Event.{Event}
use Rattle.live.specs.declared.history.Told.{Told}
use Rattle.live.specs.declared.history.Row.{Row}
use Rattle.live.specs.declared.history.View.{View}
use Rattle.live.specs.Told.{told_to, telling}
use Rattle.live.specs.Rules.{Sitting, Seated, row, blank, of_worker, of_roll, of_book, first_view, without_rows, rows_alone, without_roll, roll_alone, joined, AreRows, HavePasses, Knows, times_in, times_of, rows_of, weight_in, weight_of, weight_told, books_of, rolls_of, within, IsKept, exchanges_in, new_of, noted, Notes, one_more, GivesOut, IsAll, Learns}
use Rattle.live.proofs.ViewLemmas.{sum_by-set, sum_by-split, sum_by-join, part_of, two_of, only_one}
use Rattle.live.proofs.ToldLemmas.{telling-own, telling-other, telling-weight, rows-append, times-append, times-own, times-other, rows-on, rows-given, weight-append}

-- ---- numbers

within-most : (worker given : ℕ) → within worker given ≤ 1
within-most worker given = by (nat_lt worker given)
  where
    by : (b : Bool) → (if b then 1 else 0) ≤ 1
    by true = omega arith
    by false = omega arith

abbrev one_if : Bool → ℕ
one_if b = if b then 1 else 0

within-none : (worker given : ℕ) → given ≤ worker → within worker given ≡ 0
within-none worker given le = ap one_if (let is : nat_lt worker given ≡ false = grind (arith, nat_tests) in is)

within-one : (worker given : ℕ) → worker < given → within worker given ≡ 1
within-one worker given lt = ap one_if (let is : nat_lt worker given ≡ true = grind (arith, nat_tests) in is)

-- ---- what all seats know, where one changes

each-set : (log : List Told) (given : ℕ) (views : List View) (id : ℕ) (new : View) → ((j : ℕ) (u : View) → j ≢ id → get_elem? views j ≡ some u → Knows log given u) → Knows log given new
    → (j : ℕ) (u : View) → get_elem? (set views id new) j ≡ some u → Knows log given u
each-set log given views id new others knows j u at =
    ⊎_elim
    (λ (h : (j ≡ id) × (new ≡ u)). subst (Knows log given) h.1 knows)
    (λ (h : (j ≢ id) × (get_elem? views j ≡ some u)). others j u h.0 h.1)
    (at_set views id j new u at)

each-split : (log : List Told) (given : ℕ) (views : List View) (id : ℕ) (left right : View) → ((j : ℕ) (u : View) → get_elem? views j ≡ some u → Knows log given u) → Knows log given left → Knows log given right
    → (j : ℕ) (u : View) → get_elem? (set views id left ++ right ∷ []) j ≡ some u → Knows log given u
each-split log given views id left right each one two j u at =
    ⊎_elim
    (λ (h : get_elem? (set views id left) j ≡ some u). each-set log given views id left (λ i w ne there. each i w there) one j u h)
    (λ (h : right ≡ u). subst (Knows log given) h two)
    (at_snoc (set views id left) right u j at)

-- ---- a seat is cut

pub splits_rows : (id : ℕ) (v : View) → Splits IsKept id v (without_rows v) (rows_alone v)
splits_rows id v s k at =
    let knows = k.each id v at in
    record {
      log = k.log;
      given = k.given;
      books = sum_by-split books_of s.views id v (without_rows v) (rows_alone v) at (omega arith) ∙ k.books;
      rolls = sum_by-split rolls_of s.views id v (without_rows v) (rows_alone v) at (omega arith) ∙ k.rolls;
      each = each-split k.log k.given s.views id (without_rows v) (rows_alone v) k.each
          (record { book = knows.book; roll = knows.roll; none = knows.none; rows = tt })
          (record { book = λ lt. absurd (omega arith); roll = λ lt. absurd (omega arith); none = λ z. refl; rows = knows.rows });
      once = λ worker. sum_by-split (times_of worker) s.views id v (without_rows v) (rows_alone v) at (omega arith) ∙ k.once worker;
      fresh = k.fresh;
      count = sum_by-split rows_of s.views id v (without_rows v) (rows_alone v) at (omega arith) ∙ k.count;
      weight = λ h. sum_by-split (weight_of h) s.views id v (without_rows v) (rows_alone v) at (omega arith) ∙ k.weight h;
    }

pub splits_roll : (id : ℕ) (v : View) → Splits IsKept id v (without_roll v) (roll_alone v)
splits_roll id v s k at =
    let knows = k.each id v at in
    record {
      log = k.log;
      given = k.given;
      books = sum_by-split books_of s.views id v (without_roll v) (roll_alone v) at (omega arith) ∙ k.books;
      rolls = sum_by-split rolls_of s.views id v (without_roll v) (roll_alone v) at (omega arith) ∙ k.rolls;
      each = each-split k.log k.given s.views id (without_roll v) (roll_alone v) k.each
          (record { book = knows.book; roll = λ lt. absurd (omega arith); none = λ z. refl; rows = knows.rows })
          (record { book = λ lt. absurd (omega arith); roll = knows.roll; none = knows.none; rows = tt });
      once = λ worker. sum_by-split (times_of worker) s.views id v (without_roll v) (roll_alone v) at (omega arith) ∙ k.once worker;
      fresh = k.fresh;
      count = sum_by-split rows_of s.views id v (without_roll v) (roll_alone v) at (omega arith) ∙ k.count;
      weight = λ h. sum_by-split (weight_of h) s.views id v (without_roll v) (roll_alone v) at (omega arith) ∙ k.weight h;
    }

-- ---- two seats are put together

both_rolled : (given : ℕ) (v w : View) → v.rolls + w.rolls ≤ 1 → (0 < v.rolls → v.rolled ≡ given) → (v.rolls ≡ 0 → v.rolled ≡ 0) → (0 < w.rolls → w.rolled ≡ given) → (w.rolls ≡ 0 → w.rolled ≡ 0) → 0 < v.rolls + w.rolls → v.rolled + w.rolled ≡ given
both_rolled given v w few one none-one two none-two some_roll = by (cases_lt 0 v.rolls)
  where
    by : (0 < v.rolls) ⊎ (v.rolls ≤ 0) → v.rolled + w.rolled ≡ given
    by (inl lt) = let a = one lt in let b = none-two (omega arith) in omega (arith, a, b)
    by (inr le) = let a = none-one (omega arith) in let b = two (omega arith) in omega (arith, a, b)

pub joins : (id : ℕ) (v : View) (other : ℕ) (w : View) → v.books ≡ 1 → Joins IsKept id v other w (joined v w) blank
joins id v other w one s k at apart at' =
    let there = ⊎_elim
    (λ (h : (other ≡ id) × (joined v w ≡ w)). absurd (apart h.0))
    (λ (h : (other ≢ id) × (get_elem? s.views other ≡ some w)). h.1)
    (at_set s.views id other (joined v w) w at') in
    let knows = k.each id v at in
    let knows' = k.each other w there in
    let few = two_of rolls_of s.views id other v w at there apart in
    let most : v.rolls + w.rolls ≤ 1 = omega (arith, few, k.rolls) in
    record {
      log = k.log;
      given = k.given;
      books = sum_by-join books_of s.views id other v w (joined v w) blank at at' (omega arith) ∙ k.books;
      rolls = sum_by-join rolls_of s.views id other v w (joined v w) blank at at' (omega arith) ∙ k.rolls;
      each = each-set k.log k.given (set s.views id (joined v w)) other blank
          (λ j u ne h. each-set k.log k.given s.views id (joined v w) (λ i x ne' h'. k.each i x h')
          (record {
            book = λ lt. knows.book (omega arith);
            roll = both_rolled k.given v w most knows.roll knows.none knows'.roll knows'.none;
            none = λ z. let a = knows.none (omega arith) in let b = knows'.none (omega arith) in omega (arith, a, b);
            rows = rows-append k.log w.rows v.rows knows'.rows knows.rows;
          }) j u h)
          (record { book = λ lt. absurd (omega arith); roll = λ lt. absurd (omega arith); none = λ z. refl; rows = tt });
      once = λ worker. sum_by-join (times_of worker) s.views id other v w (joined v w) blank at at' (omega (arith, times-append worker w.rows v.rows)) ∙ k.once worker;
      fresh = k.fresh;
      count = sum_by-join rows_of s.views id other v w (joined v w) blank at at' (omega (arith, length-append w.rows v.rows)) ∙ k.count;
      weight = λ h. sum_by-join (weight_of h) s.views id other v w (joined v w) blank at at' (omega (arith, weight-append h w.rows v.rows)) ∙ k.weight h;
    }

-- ---- the book's seat

module _ (s : Sitting) (k : IsKept s) (id : ℕ) (v : View) (at : get_elem? s.views id ≡ some v) (one : v.books ≡ 1) where
  its-log : v.log ≡ k.log
  its-log = ((k.each id v at).book (omega arith)).0

  its-given : v.given ≡ k.given
  its-given = ((k.each id v at).book (omega arith)).1

  -- no other seat is the book's
  no_book : (j : ℕ) (u : View) → j ≢ id → get_elem? s.views j ≡ some u → u.books ≡ 0
  no_book j u ne there = omega (arith, two_of books_of s.views id j v u at there ne, k.books, one)

  its-rows : AreRows v.log v.rows
  its-rows = subst (λ (l : List Told). AreRows l v.rows) (sym its-log) (k.each id v at).rows

  its-times : (worker : ℕ) → times_in worker v.rows ≤ within worker k.given
  its-times worker = omega (arith, part_of (times_of worker) s.views id v at, k.once worker)

  its-workers : HavePasses v.given v.rows
  its-workers = rows-given v.given v.rows (λ worker le. omega (arith, its-times worker, within-none worker k.given (omega (arith, le, its-given))))

-- ---- a worker was told more

module _ (s : Sitting) (k : IsKept s) (id : ℕ) (v : View) (at : get_elem? s.views id ≡ some v) (one : v.books ≡ 1) (worker : ℕ) (old more kept : List Exchange) (rows : v.rows ≡ row worker old ∷ []) (all : kept ≡ old ++ more) where
  abbrev after : View
  after = record v { log = telling worker more v.log; rows = row worker kept ∷ [] }

  was : old ≡ told_to worker k.log
  was = (subst (AreRows k.log) rows (k.each id v at).rows).0

  once-here : times_of worker v ≡ 1
  once-here = ap (times_in worker) rows ∙ times-own (row worker old) []

  none-there : (j : ℕ) (u : View) → j ≢ id → get_elem? s.views j ≡ some u → times_of worker u ≡ 0
  none-there j u ne there = omega (arith, two_of (times_of worker) s.views id j v u at there ne, k.once worker, within-most worker k.given, once-here)

  lt : worker < k.given
  lt = by (cases_lt worker k.given)
    where
      by : (worker < k.given) ⊎ (k.given ≤ worker) → worker < k.given
      by (inl is) = is
      by (inr le) = absurd (omega (arith, its-times s k id v at one worker, within-none worker k.given le, once-here))

  others : (j : ℕ) (u : View) → j ≢ id → get_elem? s.views j ≡ some u → Knows (telling worker more k.log) k.given u
  others j u ne there =
      let knows = k.each j u there in
      let no = no_book s k id v at one j u ne there in
      record {
        book = λ some_book. absurd (omega (arith, no, some_book));
        roll = knows.roll;
        none = knows.none;
        rows = rows-on worker more k.log u.rows (none-there j u ne there) knows.rows;
      }

  known : Knows (telling worker more k.log) k.given after
  known =
      let knows = k.each id v at in
      record {
        book = λ some_book. (ap (telling worker more) (its-log s k id v at one), its-given s k id v at one);
        roll = knows.roll;
        none = knows.none;
        rows = (all ∙ (ap (λ (l : List Exchange). l ++ more) was ∙ sym (telling-own worker more k.log)), tt);
      }

  -- the same workers
  same-times : (other : ℕ) → times_in other (row worker kept ∷ []) ≡ times_of other v
  same-times other = refl ∙ sym (ap (times_in other) rows)

  same-rows : rows_of v ≡ 1
  same-rows = ap length rows

  more-weight : (h : Exchange → ℕ) → weight_in h (row worker kept ∷ []) ≡ weight_of h v + sum_by h more
  more-weight h =
      let here = sum_by-cons (λ (r : Row). sum_by h r.exchanges) (row worker kept) [] in
      let there = sum_by-cons (λ (r : Row). sum_by h r.exchanges) (row worker old) [] in
      let sum = ap (sum_by h) all ∙ sum_by-append h old more in
      omega (arith, ap (weight_in h) rows, here, there, sum)

  keeps_rule : (words : List ℕ) → IsKept (record { words = words; homes = s.homes; views = set s.views id after })
  keeps_rule words = record {
    log = telling worker more k.log;
    given = k.given;
    books = omega (arith, sum_by-set books_of s.views id v after at, k.books);
    rolls = omega (arith, sum_by-set rolls_of s.views id v after at, k.rolls);
    each = each-set (telling worker more k.log) k.given s.views id after others known;
    once = λ other. omega (arith, sum_by-set (times_of other) s.views id v after at, k.once other, same-times other);
    fresh = λ other le. telling-other worker other more k.log (λ (e : worker ≡ other). absurd (omega (arith, e, lt, le))) ∙ k.fresh other le;
    count = omega (arith, sum_by-set rows_of s.views id v after at, k.count, same-rows);
    weight = λ h. omega (arith, sum_by-set (weight_of h) s.views id v after at, k.weight h, more-weight h, telling-weight h worker more k.log);
  }

-- what its pass says of it
noted-as : (asked : List Event) (pass : PassOf) (v : View) (old : List Exchange) → v.rows ≡ row pass.caller.worker old ∷ []
    → noted asked (some pass) v ≡ record v { log = telling pass.caller.worker (new_of asked old pass.kept) v.log; rows = row pass.caller.worker (old ++ new_of asked old pass.kept) ∷ [] }
noted-as asked pass v old rows =
    ap (λ (l : List Exchange). record v { log = telling pass.caller.worker (new_of asked l pass.kept) v.log; rows = row pass.caller.worker (l ++ new_of asked l pass.kept) ∷ [] }) (ap exchanges_in rows)

pub note_allowed : (slots id : ℕ) (me : Seated) (asked : List Event) (pass : PassOf) (old : List Exchange) → me.0.books ≡ 1 → me.0.rows ≡ row pass.caller.worker old ∷ []
    → Allows IsKept slots id me 0 (λ n. either (n == 0) 0 n) (Notes asked (step slots 0 0 0 (some pass)) me)
note_allowed slots id me asked pass old one rows s k _ at small =
    let more = new_of asked old pass.kept in
    let new = after s k id me.0 at one pass.caller.worker old more (old ++ more) rows refl in (
      new,
      keeps,
      tt,
      keeps_rule s k id me.0 at one pass.caller.worker old more (old ++ more) rows refl _,
      (
        ap (λ (x : View). (x, me.1)) (sym (noted-as asked pass me.0 old rows)),
        its-rows s k id me.0 at one,
        its-workers s k id me.0 at one,
      ),
    )

-- ---- a pass more is given out

times-row : (given worker : ℕ) (rows : List Row) → times_in worker (row given [] ∷ rows) + within worker given ≡ times_in worker rows + within worker (given + 1)
times-row given worker rows = by (cases_lt worker given)
  where
    here : (given ≡ worker) → times_in worker (row given [] ∷ rows) ≡ 1 + times_in worker rows
    here e = subst (λ (n : ℕ). times_in n (row given [] ∷ rows) ≡ 1 + times_in n rows) e (times-own (row given []) rows)

    by_more : (worker < given + 1) ⊎ (given + 1 ≤ worker) → given ≤ worker → times_in worker (row given [] ∷ rows) + within worker given ≡ times_in worker rows + within worker (given + 1)
    by_more (inl lt) le = omega (arith, here (omega arith), within-none worker given le, within-one worker (given + 1) lt)
    by_more (inr most) le = omega (arith, times-other worker (row given []) rows (λ (e : given ≡ worker). absurd (omega arith)), within-none worker given le, within-none worker (given + 1) most)

    by : (worker < given) ⊎ (given ≤ worker) → times_in worker (row given [] ∷ rows) + within worker given ≡ times_in worker rows + within worker (given + 1)
    by (inl lt) = omega (arith, times-other worker (row given []) rows (λ (e : given ≡ worker). absurd (omega arith)), within-one worker given lt, within-one worker (given + 1) (omega arith))
    by (inr le) = by_more (cases_lt worker (given + 1)) le

module _ (s : Sitting) (k : IsKept s) (id : ℕ) (v : View) (at : get_elem? s.views id ≡ some v) (one : v.books ≡ 1) (roll : v.rolls ≡ 1) where
  count-is : v.given ≡ k.given
  count-is = its-given s k id v at one

  rolled-is : v.rolled ≡ k.given
  rolled-is = (k.each id v at).roll (omega arith)

  others-know : (j : ℕ) (u : View) → j ≢ id → get_elem? s.views j ≡ some u → Knows k.log (k.given + 1) u
  others-know j u ne there =
      let knows = k.each j u there in
      let no = no_book s k id v at one j u ne there in
      let no' : u.rolls ≡ 0 = omega (arith, two_of rolls_of s.views id j v u at there ne, k.rolls, roll) in
      record { book = λ lt. absurd (omega (arith, no, lt)); roll = λ lt. absurd (omega (arith, no', lt)); none = knows.none; rows = knows.rows }

  more-known : Knows k.log (k.given + 1) (one_more v)
  more-known = record {
    book = λ lt. (its-log s k id v at one, ap (λ (n : ℕ). n + 1) count-is);
    roll = λ lt. ap (λ (n : ℕ). n + 1) rolled-is;
    none = λ z. absurd (omega (arith, z, roll));
    rows = (sym (k.fresh v.given (omega (arith, count-is))), (k.each id v at).rows);
  }

  times-on : (worker : ℕ) → times_of worker (one_more v) + within worker k.given ≡ times_of worker v + within worker (k.given + 1)
  times-on worker = subst (λ (n : ℕ). times_of worker (one_more v) + within worker n ≡ times_of worker v + within worker (n + 1)) count-is (times-row v.given worker v.rows)

  weight-same : (h : Exchange → ℕ) → weight_of h (one_more v) ≡ weight_of h v
  weight-same h = omega (arith, sum_by-cons (λ (r : Row). sum_by h r.exchanges) (row v.given []) v.rows)

  gives_rule : (words : List ℕ) → IsKept (record { words = words; homes = s.homes; views = set s.views id (one_more v) })
  gives_rule words = record {
    log = k.log;
    given = k.given + 1;
    books = omega (arith, sum_by-set books_of s.views id v (one_more v) at, k.books);
    rolls = omega (arith, sum_by-set rolls_of s.views id v (one_more v) at, k.rolls);
    each = each-set k.log (k.given + 1) s.views id (one_more v) others-know more-known;
    once = λ worker. omega (arith, sum_by-set (times_of worker) s.views id v (one_more v) at, k.once worker, times-on worker);
    fresh = λ worker le. k.fresh worker (omega arith);
    count = omega (arith, sum_by-set rows_of s.views id v (one_more v) at, k.count);
    weight = λ h. omega (arith, sum_by-set (weight_of h) s.views id v (one_more v) at, k.weight h, weight-same h);
  }

  no_rows : (h : Exchange → ℕ) (u : View) → rows_of u ≡ 0 → weight_of h u ≡ 0
  no_rows h u empty = by u.rows empty
    where
      by : (rows : List Row) → length rows ≡ 0 → weight_in h rows ≡ 0
      by [] e = refl
      by (r ∷ rows) e = absurd (omega arith)

  is_all : IsAll v
  is_all = record {
    rows = its-rows s k id v at one;
    once = λ worker. omega (arith, its-times s k id v at one worker, within-most worker k.given);
    few = omega (arith, part_of rows_of s.views id v at, k.count, count-is);
    rolled = rolled-is ∙ sym count-is;
    weight = λ most h. sym (only_one rows_of (weight_of h) (no_rows h) s.views id v at (omega (arith, most, k.count, count-is))) ∙ (k.weight h ∙ ap (weight_told h) (sym (its-log s k id v at one)));
  }

same-rule : (s : Sitting) → IsKept s → (id : ℕ) (v : View) → get_elem? s.views id ≡ some v → (words : List ℕ) → IsKept (record { words = words; homes = s.homes; views = set s.views id v })
same-rule s k id v at words =
    subst (λ (views : List View). IsKept (record { words = words; homes = s.homes; views = views })) (sym (set_again s.views id v at))
    (record { log = k.log; given = k.given; books = k.books; rolls = k.rolls; each = k.each; once = k.once; fresh = k.fresh; count = k.count; weight = k.weight })

pub give_allowed : (slots id : ℕ) (me : Seated) → me.0.books ≡ 1 → me.0.rolls ≡ 1 → Allows IsKept slots id me 0 (λ n. n) (GivesOut (step slots 0 0 0 none) me)
give_allowed slots id me one roll s k _ at small =
    (one_more me.0, keeps, tt, gives_rule s k id me.0 at one roll _, (refl, rolled-is s k id me.0 at one roll ∙ sym (count-is s k id me.0 at one roll)))

pub learn_allowed : (slots id : ℕ) (me : Seated) → me.0.books ≡ 1 → me.0.rolls ≡ 1 → Allows IsKept slots id me 0 (λ n. n) (Learns (step slots 0 0 0 none) me)
learn_allowed slots id me one roll s k _ at small = (me.0, keeps, tt, same-rule s k id me.0 at _, (refl, is_all s k id me.0 at one roll))

-- ---- the beginning

pub first_rule : IsKept (opening (0 ∷ []) [] first_view)
first_rule = record {
  log = [];
  given = 0;
  books = refl;
  rolls = refl;
  each = λ id u at. first-knows id u at;
  once = λ worker. sym (within-none worker 0 (omega arith));
  fresh = λ worker le. refl;
  count = refl;
  weight = λ h. refl;
}
  where
    first-knows : (id : ℕ) (u : View) → get_elem? (first_view ∷ []) id ≡ some u → Knows [] 0 u
    first-knows zero u at = subst (Knows [] 0) (some-injective first_view u at) (record { book = λ lt. (refl, refl); roll = λ lt. refl; none = λ z. refl; rows = tt })
    first-knows (suc id) u at = absurd (some-ne-none u (sym at))

-- ---- what seats are after they were cut and put together

-- the book's seat with the roll's
pub with_roll : (v r w : View) (given count : ℕ) (log : List Told) → v ≡ of_book given log → r ≡ of_roll count → w ≡ joined v (roll_alone r) → w ≡ joined (of_book given log) (of_roll count)
with_roll v r w given count log v-is r-is w-is = w-is ∙ (ap (λ (x : View). joined x (roll_alone r)) v-is ∙ ap (λ (x : View). joined (of_book given log) (roll_alone x)) r-is)

-- the book's seat with a worker's
pub with_worker : (v r w : View) (given worker : ℕ) (log : List Told) (kept : List Exchange) → v ≡ of_book given log → r ≡ of_worker worker kept → w ≡ joined v (rows_alone r) → w ≡ record { books = 1; rolls = 0; given = given; rolled = 0; log = log; rows = row worker kept ∷ [] }
with_worker v r w given worker log kept v-is r-is w-is = w-is ∙ (ap (λ (x : View). joined x (rows_alone r)) v-is ∙ ap (λ (x : View). joined (of_book given log) (rows_alone x)) r-is)
