-- The rows of a text, one after the other.
use Rattle.std.proofs.Common.{◌≡◌, ℕ, suc, ◌+◌, ◌<◌, Bool, true, false, eqb, List, [], ◌∷◌, ◌++◌, length, take, drop, refl, sym, ap, ◌∙◌, append-nil, append_assoc, arith}
use Rattle.std.specs.List.{before_first, after_first, position_or_len}
use Rattle.printer.specs.declared.amounts.Amounts.{Amounts}
use Rattle.printer.specs.Amounts.{is_end, row_in, rows_in}

at_end : (b : ℕ) (bs : List ℕ) → eqb b 10 ≡ true → position_or_len is_end (b ∷ bs) ≡ 0
at_end b bs e = rw e refl

not_at_end : (b : ℕ) (bs : List ℕ) → eqb b 10 ≡ false → position_or_len is_end (b ∷ bs) ≡ 1 + position_or_len is_end bs
not_at_end b bs e = rw e refl

before-more : (b : ℕ) (bs : List ℕ) → eqb b 10 ≡ false → before_first is_end (b ∷ bs) ≡ b ∷ before_first is_end bs
before-more b bs e =
    let one : 1 + position_or_len is_end bs ≡ suc (position_or_len is_end bs) = omega arith in
    ap (λ (n : ℕ). take n (b ∷ bs)) (not_at_end b bs e ∙ one)

after-more : (b : ℕ) (bs : List ℕ) → eqb b 10 ≡ false → after_first is_end (b ∷ bs) ≡ after_first is_end bs
after-more b bs e =
    let one : 1 + position_or_len is_end bs + 1 ≡ suc (position_or_len is_end bs + 1) = omega arith in
    ap (λ (n : ℕ). drop (n + 1) (b ∷ bs)) (not_at_end b bs e) ∙ ap (λ (n : ℕ). drop n (b ∷ bs)) one

goes_on : (size : ℕ) (amounts : Amounts) (row bs : List ℕ) (b : ℕ) → eqb b 10 ≡ false → rows_in size amounts row (b ∷ bs) ≡ rows_in size amounts (row ++ b ∷ []) bs
goes_on size amounts row bs b e = rw e refl

-- a text with a line feed has a row up to it, and others behind it
abbrev Splits : ℕ → Amounts → List ℕ → List ℕ → Type 0
Splits size amounts row text = position_or_len is_end text < length text → rows_in size amounts row text ≡ row_in size amounts (row ++ before_first is_end text) ++ 10 ∷ rows_in size amounts [] (after_first is_end text)

splits-byte : (size : ℕ) (amounts : Amounts) (row bs : List ℕ) (b : ℕ) (t : Bool) → eqb b 10 ≡ t → Splits size amounts (row ++ b ∷ []) bs → Splits size amounts row (b ∷ bs)
splits-byte size amounts row bs b true e later h = rw e (ap (λ (r : List ℕ). row_in size amounts r ++ 10 ∷ rows_in size amounts [] bs) (sym (append-nil row)))
splits-byte size amounts row bs b false e later h =
    let further = not_at_end b bs e in
    goes_on size amounts row bs b e
    ∙ later (omega (arith, h, further))
    ∙ ap (λ (r : List ℕ). row_in size amounts r ++ 10 ∷ rows_in size amounts [] (after_first is_end bs)) (append_assoc row (b ∷ []) (before_first is_end bs) ∙ ap (λ (r : List ℕ). row ++ r) (sym (before-more b bs e)))
    ∙ ap (λ (r : List ℕ). row_in size amounts (row ++ before_first is_end (b ∷ bs)) ++ 10 ∷ rows_in size amounts [] r) (sym (after-more b bs e))

splits : (size : ℕ) (amounts : Amounts) (row text : List ℕ) → Splits size amounts row text
splits size amounts row [] h = absurd (omega (arith, h))
splits size amounts row (b ∷ bs) h = splits-byte size amounts row bs b (eqb b 10) refl (splits size amounts (row ++ b ∷ []) bs) h

-- a text without a line feed is one row
abbrev IsRow : ℕ → Amounts → List ℕ → List ℕ → Type 0
IsRow size amounts row text = position_or_len is_end text ≡ length text → rows_in size amounts row text ≡ row_in size amounts (row ++ text)

is_row-byte : (size : ℕ) (amounts : Amounts) (row bs : List ℕ) (b : ℕ) (t : Bool) → eqb b 10 ≡ t → IsRow size amounts (row ++ b ∷ []) bs → IsRow size amounts row (b ∷ bs)
is_row-byte size amounts row bs b true e later h =
    let here = at_end b bs e in
    absurd (omega (arith, h, here))
is_row-byte size amounts row bs b false e later h =
    let further = not_at_end b bs e in
    goes_on size amounts row bs b e ∙ later (omega (arith, h, further)) ∙ ap (row_in size amounts) (append_assoc row (b ∷ []) bs)

is_row : (size : ℕ) (amounts : Amounts) (row text : List ℕ) → IsRow size amounts row text
is_row size amounts row [] h = ap (row_in size amounts) (sym (append-nil row))
is_row size amounts row (b ∷ bs) h = is_row-byte size amounts row bs b (eqb b 10) refl (is_row size amounts (row ++ b ∷ []) bs) h

-- the first row was added: the others have to follow
pub one_row : (size : ℕ) (amounts : Amounts) (old new rest row behind all : List ℕ) → position_or_len is_end rest < length rest → row ≡ before_first is_end rest → behind ≡ after_first is_end rest
    → new ≡ old ++ (row_in size amounts row ++ 10 ∷ []) → old ++ rows_in size amounts [] rest ≡ all → new ++ rows_in size amounts [] behind ≡ all
one_row size amounts old new rest row behind all within is left added goal =
    ap (λ (bs : List ℕ). bs ++ rows_in size amounts [] behind) added
    ∙ append_assoc old (row_in size amounts row ++ 10 ∷ []) (rows_in size amounts [] behind)
    ∙ ap (λ (bs : List ℕ). old ++ bs) (append_assoc (row_in size amounts row) (10 ∷ []) (rows_in size amounts [] behind))
    ∙ ap (λ (r : List ℕ). old ++ (row_in size amounts r ++ 10 ∷ rows_in size amounts [] behind)) is
    ∙ ap (λ (r : List ℕ). old ++ (row_in size amounts (before_first is_end rest) ++ 10 ∷ rows_in size amounts [] r)) left
    ∙ ap (λ (bs : List ℕ). old ++ bs) (sym (splits size amounts [] rest within))
    ∙ goal

-- the last row was added
pub all_rows : (size : ℕ) (amounts : Amounts) (old new rest all : List ℕ) → position_or_len is_end rest ≡ length rest → new ≡ old ++ row_in size amounts rest → old ++ rows_in size amounts [] rest ≡ all → new ≡ all
all_rows size amounts old new rest all none added goal = added ∙ ap (λ (bs : List ℕ). old ++ bs) (sym (is_row size amounts [] rest none)) ∙ goal
