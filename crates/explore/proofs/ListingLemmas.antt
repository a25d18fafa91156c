-- The list of outcomes.
use Rattle.std.proofs.Common.{◌≡◌, ℕ, zero, suc, ◌+◌, ◌<◌, ◌≤◌, Bool, true, false, cond, ltb, List, [], ◌∷◌, ◌++◌, length, take, get_or, Some, None, refl, sym, ap, ◌∙◌, append_assoc, append-nil, arith}
use Rattle.std.specs.Prelude.{not, nat_lt, position, slice_get, fold, if◌then◌else◌}
use Rattle.std.specs.List.{position_or_len, insert}
use Rattle.std.proofs.lemmas.Bool.{ltb-false}
use Rattle.std.proofs.Math.Seq.{take-suc}
use Rattle.std.proofs.lemmas.List.{length-take-le, length-map}
use Rattle.machine.proofs.Values.{some_inj}
use Rattle.explorer.specs.Tally.{Counted}
use Rattle.explore.specs.declared.listing.Listed.{Listed}
use Rattle.explore.specs.Listing.{with_ranked, ranked, row_text, rows_text}
use Rattle.explore.specs.Listed.{shown, shown_rows, is_fewer}

-- ---- the rows of a table

take_row : (table : List Counted) (k : ℕ) (row : Counted) → Some row ≡ slice_get table k → take (k + 1) table ≡ take k table ++ row ∷ []
take_row [] k row e = absurd cc
take_row (x ∷ table) zero row e = ap (λ (r : Counted). r ∷ []) (sym (some_inj e))
take_row (x ∷ table) (suc k) row e =
    let one : suc k + 1 ≡ suc (k + 1) = omega arith in
    rw one (ap (λ (l : List Counted). x ∷ l) (take_row table k row e))

no_row : (table : List Counted) (k : ℕ) → None ≡ slice_get table k → k < length table → ⊥
no_row [] k e lt = omega (arith, lt)
no_row (x ∷ table) zero e lt = absurd cc
no_row (x ∷ table) (suc k) e lt = no_row table k e (omega arith)

map_one : (rows : List Listed) (l : Listed) → shown_rows (rows ++ l ∷ []) ≡ shown_rows rows ++ shown l ∷ []
map_one [] l = refl
map_one (r ∷ rows) l = ap (λ (s : List Counted). shown r ∷ s) (map_one rows l)

pub next_row : (table : List Counted) (k : ℕ) (row : Counted) (l : Listed) (before after : List Listed) → Some row ≡ slice_get table k → shown l ≡ row → after ≡ before ++ l ∷ [] → shown_rows before ≡ take k table → shown_rows after ≡ take (k + 1) table
next_row table k row l before after e f g h =
    ap shown_rows g ∙ map_one before l ∙ ap (λ (s : List Counted). s ++ shown l ∷ []) h ∙ ap (λ (r : Counted). take k table ++ r ∷ []) f ∙ sym (take_row table k row e)

pub no_more : (table : List Counted) (k len : ℕ) → None ≡ slice_get table k → k < len → len ≡ length table → ⊥
no_more table k len e lt f = no_row table k e (omega arith)

-- ---- one row more among the ranked

rank_by : (r l : Listed) (rows : List Listed) (k : ℕ) (b : Bool) → shown_rows (insert rows k l) ≡ with_ranked (shown_rows rows) (shown l)
    → shown_rows (insert (r ∷ rows) (cond (not b) (1 + k) 0) l) ≡ (if b then shown l ∷ shown r ∷ shown_rows rows else shown r ∷ with_ranked (shown_rows rows) (shown l))
rank_by r l rows k true ih = refl
rank_by r l rows k false ih =
    let one : 1 + k ≡ suc k = omega arith in
    rw one (ap (λ (s : List Counted). shown r ∷ s) ih)

abbrev place_for : Listed → List Listed → ℕ
place_for l rows = position_or_len (λ (row : Listed). is_fewer l.orders (shown row)) rows

rank : (rows : List Listed) (l : Listed) → shown_rows (insert rows (place_for l rows) l) ≡ with_ranked (shown_rows rows) (shown l)
rank [] l = refl
rank (r ∷ rows) l = rank_by r l rows (place_for l rows) (is_fewer l.orders (shown r)) (rank rows l)

found_by : (at place len : ℕ) (t : Bool) → ltb place len ≡ t → cond t (Some place) None ≡ Some at → at ≡ place
found_by at place len true e h = sym (some_inj h)
found_by at place len false e h = absurd cc

pub ranked_at : (rows : List Listed) (l : Listed) (at : ℕ) → Some at ≡ position (λ (row : Listed). is_fewer l.orders (shown row)) rows → shown_rows (insert rows at l) ≡ with_ranked (shown_rows rows) (shown l)
ranked_at rows l at h =
    ap (λ (k : ℕ). shown_rows (insert rows k l)) (found_by at (place_for l rows) (length rows) (ltb (place_for l rows) (length rows)) refl (sym h)) ∙ rank rows l

last_by : (place len : ℕ) (t : Bool) → ltb place len ≡ t → cond t (Some place) None ≡ None → len ≤ place
last_by place len true e h = absurd cc
last_by place len false e h = ltb-false _ _ e

behind : (l : Listed) (rows : List Listed) (k : ℕ) → length rows ≤ k → insert rows k l ≡ rows ++ l ∷ []
behind l [] zero le = refl
behind l [] (suc k) le = refl
behind l (a ∷ rows) zero le = absurd (omega arith)
behind l (a ∷ rows) (suc k) le = ap (λ (s : List Listed). a ∷ s) (behind l rows k (omega arith))

pub ranked_last : (rows : List Listed) (l : Listed) → None ≡ position (λ (row : Listed). is_fewer l.orders (shown row)) rows → shown_rows (rows ++ l ∷ []) ≡ with_ranked (shown_rows rows) (shown l)
ranked_last rows l h =
    let le : length rows ≤ place_for l rows = last_by (place_for l rows) (length rows) (ltb (place_for l rows) (length rows)) refl (sym h) in
    sym (ap shown_rows (behind l rows (place_for l rows) le)) ∙ rank rows l

-- ---- their text

text_one : (n : ℕ) (rows : List Counted) (row : Counted) → rows_text n (rows ++ row ∷ []) ≡ rows_text n rows ++ row_text (n + length rows) row
text_one n [] row =
    let e : n + 0 ≡ n = omega arith in
    rw e (append-nil (row_text n row))
text_one n (r ∷ rows) row =
    let e : n + 1 + length rows ≡ n + suc (length rows) = omega arith in
    ap (λ (t : List ℕ). row_text n r ++ t) (text_one (n + 1) rows row ∙ ap (λ (m : ℕ). rows_text (n + 1) rows ++ row_text m row) e) ∙ sym (append_assoc (row_text n r) (rows_text (n + 1) rows) (row_text (n + suc (length rows)) row))

pub more_text : (rows : List Listed) (k : ℕ) (d : Listed) (start before after : List ℕ) → k < length rows → before ≡ start ++ rows_text 1 (shown_rows (take k rows)) → after ≡ before ++ row_text (k + 1) (shown (get_or rows k d))
    → after ≡ start ++ rows_text 1 (shown_rows (take (k + 1) rows))
more_text rows k d start before after lt e f =
    let one : k + 1 ≡ suc k = omega arith in
    let row = get_or rows k d in
    let next : take (k + 1) rows ≡ take k rows ++ row ∷ [] = ap (λ (n : ℕ). take n rows) one ∙ take-suc rows k d lt in
    let number : 1 + length (shown_rows (take k rows)) ≡ k + 1 = ap (λ (n : ℕ). 1 + n) (length-map (take k rows) shown ∙ length-take-le k rows (omega arith)) ∙ omega arith in
    let text : rows_text 1 (shown_rows (take (k + 1) rows)) ≡ rows_text 1 (shown_rows (take k rows)) ++ row_text (k + 1) (shown row) =
    ap (λ (s : List Listed). rows_text 1 (shown_rows s)) next ∙ ap (rows_text 1) (map_one (take k rows) row) ∙ text_one 1 (shown_rows (take k rows)) (shown row)
    ∙ ap (λ (n : ℕ). rows_text 1 (shown_rows (take k rows)) ++ row_text n (shown row)) number in
    f ∙ ap (λ (t : List ℕ). t ++ row_text (k + 1) (shown row)) e ∙ append_assoc start (rows_text 1 (shown_rows (take k rows))) (row_text (k + 1) (shown row)) ∙ ap (λ (t : List ℕ). start ++ t) (sym text)

pub many_rows : (rows : List Listed) → length (shown_rows rows) ≡ length rows
many_rows rows = length-map rows shown

-- ---- how many rows there are

len_if : (first row : Counted) (rows : List Counted) (b : Bool) → length (with_ranked rows row) ≡ suc (length rows) → length (if b then row ∷ first ∷ rows else first ∷ with_ranked rows row) ≡ suc (suc (length rows))
len_if first row rows true e = refl
len_if first row rows false e = ap suc e

len_more : (rows : List Counted) (row : Counted) → length (with_ranked rows row) ≡ suc (length rows)
len_more [] row = refl
len_more (first ∷ rows) row = len_if first row rows (nat_lt first.orders row.orders) (len_more rows row)

len_fold : (before rows : List Counted) → length (fold with_ranked before rows) ≡ length before + length rows
len_fold before [] = omega arith
len_fold before (row ∷ rows) = (let more = len_more before row in len_fold (with_ranked before row) rows ∙ omega (arith, more))

pub shown_len : (rows : List Listed) (table : List Counted) → shown_rows rows ≡ table → length rows ≡ length table
shown_len rows table e = sym (length-map rows shown) ∙ ap (λ (l : List Counted). length l) e

pub ranked_len : (rows found : List Listed) → shown_rows rows ≡ ranked (shown_rows found) → length rows ≡ length found
ranked_len rows found e =
    let all : length rows ≡ length (ranked (shown_rows found)) = shown_len rows (ranked (shown_rows found)) e in
    let each : length (ranked (shown_rows found)) ≡ 0 + length (shown_rows found) = len_fold [] (shown_rows found) in
    let same : length (shown_rows found) ≡ length found = length-map found shown in
    omega (arith, all, each, same)
