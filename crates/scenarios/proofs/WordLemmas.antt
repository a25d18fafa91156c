-- What is read of a line, character by character, is its words.
use Rattle.std.proofs.Common.{◌≡◌, ℕ, ◌+◌, ◌≤◌, Bool, true, false, cond, eqb, List, [], ◌∷◌, ◌++◌, length, map, filter, Option, Some, None, Result, Ok, Err, append_assoc, append-nil, refl, sym, ap, subst, ◌∙◌, arith}
use Rattle.std.specs.Prelude.{◌&&◌, ◌||◌, not, take_while, encode_utf8, encode_utf8_all}
use Rattle.std.specs.List.{slice_split, list_any, All}
use Rattle.std.proofs.lemmas.Bool.Decides.{nat_tests}
use Rattle.std.proofs.lemmas.List.{map-append, length-append}
use Rattle.std.proofs.lemmas.List.Elements.{All-push, filter-append}
use Rattle.std.proofs.lemmas.List.Folds.{list_any-append}
use Rattle.std.proofs.lemmas.List.Splits.{slice_split_at, slice_split_none}
use Rattle.std.proofs.lemmas.List.Sums.{take_while-cons}
use Rattle.std.proofs.lemmas.Str.{encodes-append, length-encode, len_utf8_bounds}
use Rattle.scripts.specs.Words.{is_blank}
use Rattle.scenarios.specs.declared.words.WordError.{WordError}
use Rattle.scenarios.specs.Pieces.{is_brace}
use Rattle.scenarios.specs.Words.{TextWord, Mark, is_quote, turned, marks, is_comment, is_gap, is_there, column_of, is_quoted, open_behind, has_brace, text_of, source_of, closed_word, word_of, before_words, first_word, words_in, words_of, Gives}
use Rattle.scenarios.specs.Reading.{PartRead, LineRead, longer, started, with_part, with_gap, word_read, with_character, words_at_end, words_read, rest_read, at_start}

-- ---- one character more in a part

open_push : (inside : Bool) (part : List Mark) (m : Mark) → open_behind inside (part ++ m ∷ []) ≡ turned (open_behind inside part) m.character
open_push inside [] m = refl
open_push inside (p ∷ part) m = open_push (turned inside p.character) part m

or_false : (b : Bool) → (b || false) ≡ b
or_false true = refl
or_false false = refl

any_push : (test : Mark → Bool) (part : List Mark) (m : Mark) → list_any test (part ++ m ∷ []) ≡ (list_any test part || test m)
any_push test part m = list_any-append test part (m ∷ []) ∙ ap (λ (b : Bool). list_any test part || b) (or_false (test m))

-- of a part's characters those that are no quotes
abbrev unquoted : List Mark → List ℕ
unquoted part = filter (λ c. not (is_quote c)) (map (λ m. m.character) part)

by_quote : (text : List ℕ) (c : ℕ) (quote : Bool) → is_quote c ≡ quote → text ++ encode_utf8_all (filter (λ d. not (is_quote d)) (c ∷ [])) ≡ cond quote text (text ++ encode_utf8 c)
by_quote text c true e = rw e (append-nil text)
by_quote text c false e = rw e (ap (λ (bs : List ℕ). text ++ bs) (append-nil (encode_utf8 c)))

text_push : (part : List Mark) (m : Mark) → text_of (part ++ m ∷ []) ≡ cond (is_quote m.character) (text_of part) (text_of part ++ encode_utf8 m.character)
text_push part m =
    let c = m.character in
    let split : unquoted (part ++ m ∷ []) ≡ unquoted part ++ filter (λ d. not (is_quote d)) (c ∷ []) =
    ap (filter (λ d. not (is_quote d))) (map-append (λ (n : Mark). n.character) part (m ∷ [])) ∙ filter-append (λ d. not (is_quote d)) (map (λ n. n.character) part) (c ∷ []) in
    ap encode_utf8_all split ∙ encodes-append (unquoted part) (filter (λ d. not (is_quote d)) (c ∷ [])) ∙ by_quote (text_of part) c (is_quote c) refl

source_push : (part : List Mark) (m : Mark) → source_of (part ++ m ∷ []) ≡ source_of part ++ encode_utf8 m.character
source_push part m =
    ap encode_utf8_all (map-append (λ (n : Mark). n.character) part (m ∷ [])) ∙ encodes-append (map (λ n. n.character) part) (m.character ∷ [])
    ∙ ap (λ (bs : List ℕ). source_of part ++ bs) (append-nil (encode_utf8 m.character))

-- what is read of a part
abbrev pub part_read_of : List Mark → PartRead
part_read_of part = record { column = column_of part; source = source_of part; text = text_of part; quoted = is_quoted part; braces = has_brace part }

abbrev pub part_of : List Mark → Option PartRead
part_of [] = None
part_of (m ∷ ms) = Some (part_read_of (m ∷ ms))

abbrev pub state_of : ℕ → List Mark → List TextWord → LineRead
state_of before part ws = record { before = before; inside = open_behind false part; part = part_of part; words = ws }

abbrev pub mark : ℕ → Bool → ℕ → Mark
mark before inside c = record { character = c; column = before + 1; inside = inside }

abbrev some_part : ℕ → List ℕ → List ℕ → Bool → Bool → Option PartRead
some_part column source text quoted braces = Some (record { column = column; source = source; text = text; quoted = quoted; braces = braces })

same_part : (column : ℕ) (source source' text text' : List ℕ) (quoted quoted' braces braces' : Bool) → source ≡ source' → text ≡ text' → quoted ≡ quoted' → braces ≡ braces'
    → some_part column source text quoted braces ≡ some_part column source' text' quoted' braces'
same_part column source source' text text' quoted quoted' braces braces' d e f g = cc

part_push : (before : ℕ) (inside : Bool) (part : List Mark) (c : ℕ) → part_of (part ++ mark before inside c ∷ []) ≡ Some (longer (started (part_of part) before) inside c)
part_push before inside [] c =
    let m = mark before inside c in
    same_part (before + 1) _ _ _ _ _ _ _ _ (source_push [] m) (text_push [] m) (or_false (is_quote c)) (or_false (not inside && is_brace c))
part_push before inside (p ∷ ps) c =
    let m = mark before inside c in
    same_part p.column _ _ _ _ _ _ _ _ (source_push (p ∷ ps) m) (text_push (p ∷ ps) m) (any_push (λ n. is_quote n.character) (p ∷ ps) m) (any_push (λ n. not n.inside && is_brace n.character) (p ∷ ps) m)

state_push : (before : ℕ) (part : List Mark) (ws : List TextWord) (c : ℕ) → with_part (state_of before part ws) c ≡ state_of (before + 1) (part ++ mark before (open_behind false part) c ∷ []) ws
state_push before part ws c = rw (part_push before (open_behind false part) part c, open_push false part (mark before (open_behind false part) c)) refl

-- ---- words behind others

abbrev pub onto_words : List TextWord → Result (List TextWord) ℕ → Result (List TextWord) ℕ
onto_words ws (Ok more) = Ok (ws ++ more)
onto_words ws (Err e) = Err e

onto_more : (ws : List TextWord) (w : TextWord) (r : Result (List TextWord) ℕ) → onto_words (ws ++ w ∷ []) r ≡ onto_words ws (before_words w r)
onto_more ws w (Ok more) = ap Ok (append_assoc ws (w ∷ []) more)
onto_more ws w (Err e) = refl

-- the words of what is still to come, behind a part
abbrev pub to_come : ℕ → List Mark → List ℕ → Result (List TextWord) ℕ
to_come before part cs = words_in (filter is_there (slice_split is_gap (part ++ take_while (λ m. not (is_comment m)) (marks before (open_behind false part) cs))))

-- a part with characters ends with the last one that was read
abbrev pub EndsHere : ℕ → List Mark → Type 0
EndsHere before [] = Unit {0}
EndsHere before (m ∷ ms) = m.column + length (m ∷ ms) ≡ before + 1

-- no gap is in a part
record IsPart (before : ℕ) (part : List Mark) : Type 0 where
  whole : All (λ m. is_gap m ≡ false) part
  here : EndsHere before part

no_part : (before : ℕ) → IsPart before []
no_part before = record { whole = λ k d lt. absurd (omega (arith, lt)); here = tt }

ends_behind : (before : ℕ) (inside : Bool) (part : List Mark) (c : ℕ) → EndsHere before part → EndsHere (before + 1) (part ++ mark before inside c ∷ [])
ends_behind before inside [] c h = refl
ends_behind before inside (m ∷ ms) c h = omega (arith, h, length-append ms (mark before inside c ∷ []))

part_goes_on : (before : ℕ) (inside : Bool) (part : List Mark) (c : ℕ) → is_gap (mark before inside c) ≡ false → IsPart before part → IsPart (before + 1) (part ++ mark before inside c ∷ [])
part_goes_on before inside part c e p =
    let m = mark before inside c in
    record { whole = All-push (λ n. is_gap n ≡ false) part m p.whole e; here = ends_behind before inside part c p.here }

-- ---- the end of a word

word_is : (part : List Mark) (still : Bool) → open_behind false part ≡ still → word_of part ≡ cond still (Err (column_of part)) (Ok (closed_word part))
word_is part still e = ap (λ (b : Bool). cond b (Err (column_of part)) (Ok (closed_word part))) e

closes : (before : ℕ) (m : Mark) (ms : List Mark) → EndsHere before (m ∷ ms) → word_read (part_read_of (m ∷ ms)) (before + 1) ≡ closed_word (m ∷ ms)
closes before m ms h = ap (word_read (part_read_of (m ∷ ms))) (sym h)

-- ---- the end of a line

line_ends : (before : ℕ) (part : List Mark) (ws : List TextWord) (still : Bool) → EndsHere before part → open_behind false part ≡ still
    → words_at_end still (part_of part) ws (before + 1) ≡ onto_words ws (words_in (filter is_there (part ∷ [])))
line_ends before [] ws true h e = absurd cc
line_ends before [] ws false h e = ap Ok (sym (append-nil ws))
line_ends before (m ∷ ms) ws true h e = ap (λ (r : Result TextWord ℕ). onto_words ws (first_word r (Ok []))) (sym (word_is (m ∷ ms) true e))
line_ends before (m ∷ ms) ws false h e =
    ap (λ (w : TextWord). onto_words ws (first_word (Ok w) (Ok []))) (closes before m ms h) ∙ ap (λ (r : Result TextWord ℕ). onto_words ws (first_word r (Ok []))) (sym (word_is (m ∷ ms) false e))

at_end : (before : ℕ) (part : List Mark) (ws : List TextWord) → IsPart before part → words_read (state_of before part ws) ≡ onto_words ws (words_in (filter is_there (slice_split is_gap (part ++ []))))
at_end before part ws p =
    let cut : slice_split is_gap (part ++ []) ≡ part ∷ [] = ap (slice_split is_gap) (append-nil part) ∙ slice_split_none is_gap part p.whole in
    rw cut (line_ends before part ws (open_behind false part) p.here refl)

-- ---- a gap

-- the words of the characters are read behind any part
abbrev Reads : List ℕ → Type 0
Reads cs = (before : ℕ) (part : List Mark) (ws : List TextWord) → IsPart before part → rest_read (state_of before part ws) cs ≡ onto_words ws (to_come before part cs)

gap_read : (cs : List ℕ) (before : ℕ) (part : List Mark) (ws : List TextWord) → EndsHere before part → open_behind false part ≡ false → Reads cs
    → rest_read (with_gap (state_of before part ws)) cs
    ≡ onto_words ws (words_in (filter is_there (part ∷ slice_split is_gap (take_while (λ m. not (is_comment m)) (marks (before + 1) false cs)))))
gap_read cs before [] ws h e later = later (before + 1) [] ws (no_part (before + 1))
gap_read cs before (p ∷ ps) ws h e later =
    let w = closed_word (p ∷ ps) in
    let gap : with_gap (state_of before (p ∷ ps) ws) ≡ state_of (before + 1) [] (ws ++ w ∷ []) = rw (e, closes before p ps h) refl in
    ap (λ (k : LineRead). rest_read k cs) gap ∙ later (before + 1) [] (ws ++ w ∷ []) (no_part (before + 1)) ∙ onto_more ws w (to_come (before + 1) [] cs)
    ∙ ap (λ (r : Result TextWord ℕ). onto_words ws (first_word r (to_come (before + 1) [] cs))) (sym (word_is (p ∷ ps) false e))

-- ---- one character

-- what is still to come of a line, up to a comment
abbrev pub left : ℕ → Bool → List ℕ → List Mark
left before inside cs = take_while (λ m. not (is_comment m)) (marks before inside cs)

left_at : (before : ℕ) (inside : Bool) (c : ℕ) (cs : List ℕ) (comment : Bool) → (not inside && eqb c 35) ≡ comment → left before inside (c ∷ cs) ≡ cond comment [] (mark before inside c ∷ left (before + 1) (turned inside c) cs)
left_at before inside c cs true e = take_while-cons (λ m. not (is_comment m)) (mark before inside c) (marks (before + 1) (turned inside c) cs) ∙ rw e refl
left_at before inside c cs false e = take_while-cons (λ m. not (is_comment m)) (mark before inside c) (marks (before + 1) (turned inside c) cs) ∙ rw e refl

blank_is_outside : (inside : Bool) (c : ℕ) → (not inside && is_blank c) ≡ true → inside ≡ false
blank_is_outside true c e = sym e
blank_is_outside false c e = refl

blank_turns_nothing : (c : ℕ) → is_blank c ≡ true → turned false c ≡ false
blank_turns_nothing c e = (let other : is_quote c ≡ false = grind (arith, nat_tests) in rw other refl)

blank_in : (inside : Bool) (c : ℕ) → (not inside && is_blank c) ≡ true → is_blank c ≡ true
blank_in true c e = absurd cc
blank_in false c e = e

word_or_gap : (c : ℕ) (cs : List ℕ) (before : ℕ) (part : List Mark) (ws : List TextWord) (gap : Bool) → IsPart before part → Reads cs → (not (open_behind false part) && is_blank c) ≡ gap
    → rest_read (cond gap (with_gap (state_of before part ws)) (with_part (state_of before part ws) c)) cs
    ≡ onto_words ws (words_in (filter is_there (slice_split is_gap (part ++ mark before (open_behind false part) c ∷ left (before + 1) (turned (open_behind false part) c) cs))))
word_or_gap c cs before part ws true p later e =
    let outside : open_behind false part ≡ false = blank_is_outside (open_behind false part) c e in
    let on : turned (open_behind false part) c ≡ false = ap (λ (b : Bool). turned b c) outside ∙ blank_turns_nothing c (blank_in (open_behind false part) c e) in
    let m = mark before (open_behind false part) c in
    let cut : slice_split is_gap (part ++ m ∷ left (before + 1) (turned (open_behind false part) c) cs) ≡ part ∷ slice_split is_gap (left (before + 1) (turned (open_behind false part) c) cs) =
    slice_split_at is_gap part m (left (before + 1) (turned (open_behind false part) c) cs) p.whole e in
    gap_read cs before part ws p.here outside later
    ∙ ap (λ (b : Bool). onto_words ws (words_in (filter is_there (part ∷ slice_split is_gap (left (before + 1) b cs))))) (sym on)
    ∙ ap (λ (ps : List (List Mark)). onto_words ws (words_in (filter is_there ps))) (sym cut)
word_or_gap c cs before part ws false p later e =
    let inside = open_behind false part in
    let m = mark before inside c in
    ap (λ (k : LineRead). rest_read k cs) (state_push before part ws c) ∙ later (before + 1) (part ++ m ∷ []) ws (part_goes_on before inside part c e p)
    ∙ ap (λ (b : Bool). onto_words ws (words_in (filter is_there (slice_split is_gap ((part ++ m ∷ []) ++ left (before + 1) b cs))))) (open_push false part m)
    ∙ ap (λ (ms : List Mark). onto_words ws (words_in (filter is_there (slice_split is_gap ms)))) (append_assoc part (m ∷ []) (left (before + 1) (turned inside c) cs))

one_read : (c : ℕ) (cs : List ℕ) (before : ℕ) (part : List Mark) (ws : List TextWord) (comment : Bool) → IsPart before part → Reads cs → (not (open_behind false part) && eqb c 35) ≡ comment
    → cond comment (words_read (state_of before part ws)) (rest_read (with_character (state_of before part ws) c) cs) ≡ onto_words ws (to_come before part (c ∷ cs))
one_read c cs before part ws true p later e =
    at_end before part ws p
    ∙ ap (λ (ms : List Mark). onto_words ws (words_in (filter is_there (slice_split is_gap (part ++ ms))))) (sym (left_at before (open_behind false part) c cs true e))
one_read c cs before part ws false p later e =
    word_or_gap c cs before part ws (not (open_behind false part) && is_blank c) p later refl
    ∙ ap (λ (ms : List Mark). onto_words ws (words_in (filter is_there (slice_split is_gap (part ++ ms))))) (sym (left_at before (open_behind false part) c cs false e))

-- ---- all characters

all_read : (cs : List ℕ) → Reads cs
all_read [] = λ before part ws p. at_end before part ws p
all_read (c ∷ cs) = λ before part ws p. one_read c cs before part ws (not (open_behind false part) && eqb c 35) p (all_read cs) refl

onto_none : (r : Result (List TextWord) ℕ) → onto_words [] r ≡ r
onto_none (Ok ws) = refl
onto_none (Err e) = refl

pub reads_words : (cs : List ℕ) → rest_read at_start cs ≡ words_of cs
reads_words cs = all_read cs 0 [] [] (no_part 0) ∙ onto_none (words_of cs)

-- ---- the loop

pub comment_ends : (k : LineRead) (c : ℕ) (cs rest line : List ℕ) → rest ≡ c ∷ cs → (not k.inside && eqb c 35) ≡ true → rest_read k rest ≡ rest_read at_start line → words_read k ≡ words_of line
comment_ends k c cs rest line e test so_far = ap (λ (b : Bool). cond b (words_read k) (rest_read (with_character k c) cs)) (sym test) ∙ ap (rest_read k) (sym e) ∙ so_far ∙ reads_words line

pub rest_ends : (k : LineRead) (rest line : List ℕ) → rest ≡ [] → rest_read k rest ≡ rest_read at_start line → words_read k ≡ words_of line
rest_ends k rest line e so_far = ap (rest_read k) (sym e) ∙ so_far ∙ reads_words line

pub read_goes_on : (k k' : LineRead) (c : ℕ) (cs rest line : List ℕ) → rest ≡ c ∷ cs → (not k.inside && eqb c 35) ≡ false → k' ≡ with_character k c → rest_read k rest ≡ rest_read at_start line
    → rest_read k' cs ≡ rest_read at_start line
read_goes_on k k' c cs rest line e test read so_far =
    let here : rest_read k (c ∷ cs) ≡ rest_read (with_character k c) cs = rw test refl in
    ap (λ (x : LineRead). rest_read x cs) read ∙ sym here ∙ ap (rest_read k) (sym e) ∙ so_far

-- ---- what a function gives

pub gives_same : {T : Type 0} {U : Type 0} (shown : T → U) (r : Result T WordError) (a b : Result U ℕ) → a ≡ b → Gives shown r a → Gives shown r b
gives_same {U = U} shown r a b e g = subst (λ (x : Result U ℕ). Gives shown r x) e g

-- ---- one character more is counted

counts_by : (k : LineRead) (c : ℕ) (gap : Bool) → (cond gap (with_gap k) (with_part k c)).before ≡ k.before + 1
counts_by k c true = refl
counts_by k c false = refl

-- so the characters read are no more than the line's bytes
pub counted : (k k' : LineRead) (c most : ℕ) (rest more : List ℕ) → k' ≡ with_character k c → rest ≡ encode_utf8 c ++ more → k.before + length rest ≤ most → k'.before + length more ≤ most
counted k k' c most rest more e cut le =
    let one : k'.before ≡ k.before + 1 = ap (λ (x : LineRead). x.before) e ∙ counts_by k c (not k.inside && is_blank c) in
    let long : length rest ≡ length (encode_utf8 c) + length more = ap length cut ∙ length-append (encode_utf8 c) more in
    let some : 1 ≤ length (encode_utf8 c) = omega (arith, length-encode c, len_utf8_bounds c) in
    omega arith
