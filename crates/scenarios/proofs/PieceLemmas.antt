-- A word's pieces, brace by brace.
use Rattle.std.proofs.Common.{◌≡◌, ℕ, ◌+◌, ◌-◌, ◌<◌, ◌≤◌, Bool, true, false, cond, ltb, List, [], ◌∷◌, ◌++◌, length, take, drop, Option, Some, None, suc, get_or, append_assoc, append-nil, refl, sym, ap, ◌∙◌, arith}
use Rattle.std.specs.Prelude.{position, not}
use Rattle.std.specs.List.{position_or_len}
use Rattle.std.specs.Str.{IsUtf8, IsCharBoundary}
use Rattle.std.proofs.lemmas.Bool.{ltb-false, and_parts, eqb-true}
use Rattle.std.proofs.lemmas.Bool.Decides.{nat_tests}
use Rattle.std.proofs.lemmas.List.{drop_more, take-append-drop, get_or-take}
use Rattle.std.proofs.lemmas.List.Sums.{fails_before_first}
use Rattle.std.proofs.Math.ListN.{length-take}
use Rattle.std.proofs.lemmas.List.Quantifiers.{position-Some}
use Rattle.std.proofs.lemmas.Str.{IsCharBoundary-before_ascii, IsCharBoundary-after_ascii}
use Rattle.machine.proofs.Values.{some_inj}
use Rattle.scenarios.specs.Pieces.{TextPiece, some_text, as_written, all_written, opens, is_brace, piece_of, fits, onto_pieces, ended, pieces_from, pieces_of}

brace_is_ascii : (b : ℕ) → is_brace b ≡ true → b < 128
brace_is_ascii b h = grind (arith, nat_tests)

-- a text may be cut before a brace and behind it
pub around_brace : (bs : List ℕ) (at : ℕ) → IsUtf8 bs → position is_brace bs ≡ Some at → IsCharBoundary bs at × IsCharBoundary bs (at + 1)
around_brace bs at text h =
    let found = position-Some is_brace bs at 0 h in
    let ascii : get_or bs at 0 < 128 = brace_is_ascii (get_or bs at 0) found.1 in
    (IsCharBoundary-before_ascii bs at found.0 ascii, IsCharBoundary-after_ascii bs at text found.0 ascii)

-- what has no brace goes to what was there before
plain_run : (hole : Bool) (before xs ys : List ℕ) → ((k : ℕ) → k < length xs → is_brace (get_or xs k 0) ≡ false) → pieces_from hole before (xs ++ ys) ≡ pieces_from hole (before ++ xs) ys
plain_run hole before [] ys none = ap (λ (bs : List ℕ). pieces_from hole bs ys) (sym (append-nil before))
plain_run hole before (x ∷ xs) ys none =
    let here : is_brace x ≡ false = none 0 (omega arith) in
    let rest : (k : ℕ) → k < length xs → is_brace (get_or xs k 0) ≡ false = λ k lt. none (suc k) (omega arith) in
    rw here (plain_run hole (before ++ x ∷ []) xs ys rest ∙ ap (λ (bs : List ℕ). pieces_from hole bs ys) (append_assoc before (x ∷ []) xs))

-- up to a brace, and on behind it
abbrev pub behind : Bool → List ℕ → ℕ → List ℕ → Option (List TextPiece)
behind hole before b rest = cond (fits hole before b) (onto_pieces (piece_of hole before) (pieces_from (opens b) [] rest)) None

pub at_brace : (hole : Bool) (bs : List ℕ) (at : ℕ) → position is_brace bs ≡ Some at → pieces_from hole [] bs ≡ behind hole (take at bs) (get_or bs at 0) (drop (at + 1) bs)
at_brace hole bs at h =
    let found = position-Some is_brace bs at 0 h in
    let brace : is_brace (get_or bs at 0) ≡ true = found.1 in
    let cut : take at bs ++ (get_or bs at 0 ∷ drop (at + 1) bs) ≡ bs = ap (λ (xs : List ℕ). take at bs ++ xs) (sym (drop_more bs at 0 found.0)) ∙ take-append-drop at bs in
    let none : (k : ℕ) → k < length (take at bs) → is_brace (get_or (take at bs) k 0) ≡ false = λ k lt. (
    let below : k < at = omega (arith, length-take {A = ℕ}, found.0) in
    ap is_brace (get_or-take at bs k 0 below) ∙ found.2 k below
    ) in
    ap (pieces_from hole []) (sym cut) ∙ plain_run hole [] (take at bs) (get_or bs at 0 ∷ drop (at + 1) bs) none ∙ rw brace refl

by_none : (hole : Bool) (bs : List ℕ) (t : Bool) → ltb (position_or_len is_brace bs) (length bs) ≡ t → cond t (Some (position_or_len is_brace bs)) None ≡ None → pieces_from hole [] bs ≡ ended hole bs
by_none hole bs true e h = absurd cc
by_none hole bs false e h =
    let le : length bs ≤ position_or_len is_brace bs = ltb-false _ _ e in
    let none : (k : ℕ) → k < length bs → is_brace (get_or bs k 0) ≡ false = λ k lt. fails_before_first is_brace bs k 0 (omega arith) in
    ap (pieces_from hole []) (sym (append-nil bs)) ∙ plain_run hole [] bs [] none

pub no_brace : (hole : Bool) (bs : List ℕ) → position is_brace bs ≡ None → pieces_from hole [] bs ≡ ended hole bs
no_brace hole bs h = by_none hole bs (ltb (position_or_len is_brace bs) (length bs)) refl h

onto_twice : (ps qs : List TextPiece) (o : Option (List TextPiece)) → onto_pieces ps (onto_pieces qs o) ≡ onto_pieces (ps ++ qs) o
onto_twice ps qs None = refl
onto_twice ps qs (Some rs) = ap Some (sym (append_assoc ps qs rs))

-- up to here: the first at characters, as a range gives them
pub first_ones : (bs before : List ℕ) (at : ℕ) → before ≡ take (at - 0) bs → before ≡ take at bs
first_ones bs before at e = e ∙ ap (λ (n : ℕ). take n bs) (let same : at - 0 ≡ at = omega arith in same)

-- a brace that doesn't fit
pub misfit : (kept : List TextPiece) (hole : Bool) (word bs before : List ℕ) (at b : ℕ) → position is_brace bs ≡ Some at → before ≡ take at bs → b ≡ get_or bs at 0 → fits hole before b ≡ false
    → onto_pieces kept (pieces_from hole [] bs) ≡ pieces_of word → None ≡ pieces_of word
misfit kept hole word bs before at b h cut brace e so_far =
    let no : fits hole (take at bs) (get_or bs at 0) ≡ false = rw (← cut, ← brace) e in
    let here : None ≡ pieces_from hole [] bs = sym (at_brace hole bs at h ∙ rw no refl) in
    ap (onto_pieces kept) here ∙ so_far

-- a brace that fits
pub goes_on : (kept more : List TextPiece) (hole : Bool) (word bs before rest : List ℕ) (at b : ℕ) → position is_brace bs ≡ Some at → before ≡ take at bs → b ≡ get_or bs at 0 → rest ≡ drop (at + 1) bs
    → fits hole before b ≡ true → more ≡ kept ++ piece_of hole before → onto_pieces kept (pieces_from hole [] bs) ≡ pieces_of word
    → onto_pieces more (pieces_from (opens b) [] rest) ≡ pieces_of word
goes_on kept more hole word bs before rest at b h cut brace left e added so_far =
    let yes : fits hole (take at bs) (get_or bs at 0) ≡ true = rw (← cut, ← brace) e in
    let on = pieces_from (opens (get_or bs at 0)) [] (drop (at + 1) bs) in
    let here : pieces_from hole [] bs ≡ onto_pieces (piece_of hole (take at bs)) on = at_brace hole bs at h ∙ rw yes refl in
    rw (added, cut, brace, left) (sym (onto_twice kept (piece_of hole (take at bs)) on) ∙ ap (onto_pieces kept) (sym here) ∙ so_far)

-- the end of the word
pub ends : (kept : List TextPiece) (hole : Bool) (word bs : List ℕ) → position is_brace bs ≡ None → onto_pieces kept (pieces_from hole [] bs) ≡ pieces_of word → onto_pieces kept (ended hole bs) ≡ pieces_of word
ends kept hole word bs h so_far = ap (onto_pieces kept) (sym (no_brace hole bs h)) ∙ so_far

-- ---- pieces, written one after the other, are the word

written-append : (ps qs : List TextPiece) → all_written (ps ++ qs) ≡ all_written ps ++ all_written qs
written-append [] qs = refl
written-append (p ∷ ps) qs =
    ap (λ (bs : List ℕ). as_written p.kind p.text ++ bs) (written-append ps qs) ∙ sym (append_assoc (as_written p.kind p.text) (all_written ps) (all_written qs))

text_written : (text : List ℕ) → all_written (some_text text) ≡ text
text_written [] = refl
text_written (b ∷ bs) = append-nil (b ∷ bs)

-- what was read since the last piece, with the brace that began it
abbrev begun : Bool → List ℕ → List ℕ
begun true name = 123 ∷ name
begun false text = text

begun_more : (hole : Bool) (before : List ℕ) (b : ℕ) (bs : List ℕ) → begun hole (before ++ b ∷ []) ++ bs ≡ begun hole before ++ (b ∷ bs)
begun_more true before b bs = ap (λ (xs : List ℕ). 123 ∷ xs) (append_assoc before (b ∷ []) bs)
begun_more false before b bs = append_assoc before (b ∷ []) bs

-- pieces that follow others
record IsOnto (first : List TextPiece) (o : Option (List TextPiece)) (ps : List TextPiece) : Type 0 where
  more : List TextPiece
  read : o ≡ Some more
  all : ps ≡ first ++ more

onto_so : (first : List TextPiece) (o : Option (List TextPiece)) (ps : List TextPiece) → onto_pieces first o ≡ Some ps → IsOnto first o ps
onto_so first None ps e = absurd cc
onto_so first (Some qs) ps e = record { more = qs; read = refl; all = sym (some_inj e) }

not_true : (o : Bool) → not o ≡ true → o ≡ false
not_true true e = absurd cc
not_true false e = refl

closing : (b : ℕ) → is_brace b ≡ true → opens b ≡ false → b ≡ 125
closing b brace closes = grind (arith, nat_tests)

-- a brace that fits, behind what was read
brace_written : (hole : Bool) (before : List ℕ) (b : ℕ) (bs : List ℕ) (more : List TextPiece) → is_brace b ≡ true → fits hole before b ≡ true → all_written more ≡ begun (opens b) [] ++ bs
    → all_written (piece_of hole before) ++ all_written more ≡ begun hole before ++ (b ∷ bs)
brace_written true before b bs more brace fit rest =
    let parts = and_parts (not (opens b)) (ltb 0 (length before)) fit in
    let closes : opens b ≡ false = not_true (opens b) parts.0 in
    let same : b ≡ 125 = closing b brace closes in
    let later : all_written more ≡ bs = rest ∙ ap (λ (o : Bool). begun o [] ++ bs) closes in
    ap (λ (xs : List ℕ). all_written (piece_of true before) ++ xs) later
    ∙ ap (λ (xs : List ℕ). xs ++ bs) (append-nil (123 ∷ (before ++ 125 ∷ [])))
    ∙ ap (λ (xs : List ℕ). 123 ∷ xs) (append_assoc before (125 ∷ []) bs)
    ∙ ap (λ (c : ℕ). 123 ∷ (before ++ c ∷ bs)) (sym same)
brace_written false before b bs more brace fit rest =
    let same : b ≡ 123 = eqb-true b 123 fit in
    let later : all_written more ≡ 123 ∷ bs = rest ∙ ap (λ (o : Bool). begun o [] ++ bs) fit in
    ap (λ (xs : List ℕ). xs ++ all_written more) (text_written before) ∙ ap (λ (xs : List ℕ). before ++ xs) later ∙ ap (λ (c : ℕ). before ++ c ∷ bs) (sym same)

-- pieces are what follows a text or the beginning of a hole
abbrev Writes : List ℕ → Type 0
Writes bs = (hole : Bool) (before : List ℕ) (ps : List TextPiece) → pieces_from hole before bs ≡ Some ps → all_written ps ≡ begun hole before ++ bs

fitting : (hole : Bool) (before : List ℕ) (b : ℕ) (bs : List ℕ) (ps : List TextPiece) (fit : Bool) → is_brace b ≡ true → fits hole before b ≡ fit → Writes bs
    → cond fit (onto_pieces (piece_of hole before) (pieces_from (opens b) [] bs)) None ≡ Some ps → all_written ps ≡ begun hole before ++ (b ∷ bs)
fitting hole before b bs ps true brace f later e =
    let onto = onto_so (piece_of hole before) (pieces_from (opens b) [] bs) ps e in
    ap all_written onto.all ∙ written-append (piece_of hole before) onto.more ∙ brace_written hole before b bs onto.more brace f (later (opens b) [] onto.more onto.read)
fitting hole before b bs ps false brace f later e = absurd cc

by_brace : (hole : Bool) (before : List ℕ) (b : ℕ) (bs : List ℕ) (ps : List TextPiece) (brace : Bool) → is_brace b ≡ brace → Writes bs
    → (let more = pieces_from (cond brace (opens b) hole) (cond brace [] (before ++ b ∷ [])) bs in
    cond (not brace) more (cond (fits hole before b) (onto_pieces (piece_of hole before) more) None) ≡ Some ps)
    → all_written ps ≡ begun hole before ++ (b ∷ bs)
by_brace hole before b bs ps true e later h = fitting hole before b bs ps (fits hole before b) e refl later h
by_brace hole before b bs ps false e later h = later hole (before ++ b ∷ []) ps h ∙ begun_more hole before b bs

ended_writes : (hole : Bool) (before : List ℕ) (ps : List TextPiece) → ended hole before ≡ Some ps → all_written ps ≡ begun hole before ++ []
ended_writes true before ps e = absurd cc
ended_writes false before ps e = ap all_written (sym (some_inj e)) ∙ text_written before ∙ sym (append-nil before)

all_writes : (bs : List ℕ) → Writes bs
all_writes [] = λ hole before ps e. ended_writes hole before ps e
all_writes (b ∷ bs) = λ hole before ps e. by_brace hole before b bs ps (is_brace b) refl (all_writes bs) e

pub pieces_write : (word : List ℕ) (ps : List TextPiece) → pieces_of word ≡ Some ps → all_written ps ≡ word
pieces_write word ps e = all_writes word false [] ps e
