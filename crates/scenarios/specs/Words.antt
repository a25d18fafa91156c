-- The words of a line.
use Rattle.std.specs.Prelude.{◌≡◌, ℕ, ◌+◌, Bool, true, false, ◌&&◌, not, ◌==◌, List, [], ◌∷◌, length, map, filter, take_while, encode_utf8_all, Option, Some, None, Result, Ok, Err, if◌then◌else◌}
use Rattle.std.specs.List.{slice_split, list_any}
use Rattle.scripts.specs.Words.{is_blank}
use Rattle.scenarios.specs.declared.pieces.Kind.TheVariants as kind
use Rattle.scenarios.specs.declared.words.WordError.{WordError}
use Rattle.scenarios.specs.declared.words.WordError.TheVariants as error
use Rattle.scenarios.specs.Pieces.{TextPiece, is_brace, pieces_of}

-- a word: the columns of its first character and right after its last one, from 1; how it is written, with quotes and holes; whether it has quotes; and what it is made of, unless a brace belongs to no `{NAME}`
pub record TextWord : Type 0 where
  pub column : ℕ
  pub end : ℕ
  pub source : List ℕ
  pub quoted : Bool
  pub pieces : Option (List TextPiece)

-- a character of a line, with its column, and whether it is between quotes
pub record Mark : Type 0 where
  pub character : ℕ
  pub column : ℕ
  pub inside : Bool

abbrev pub is_quote : ℕ → Bool
is_quote c = c == 34

-- whether the next character is between quotes
abbrev pub turned : Bool → ℕ → Bool
turned inside c = if is_quote c then not inside else inside

-- the characters of a line after so many others, which leave a quote open or not
abbrev pub marks : ℕ → Bool → List ℕ → List Mark
marks before inside [] = []
marks before inside (c ∷ cs) = record { character = c; column = before + 1; inside = inside } ∷ marks (before + 1) (turned inside c) cs

-- a `#`, with which a comment begins
abbrev pub is_comment : Mark → Bool
is_comment m = not m.inside && m.character == 35

-- a space or a tab between words
abbrev pub is_gap : Mark → Bool
is_gap m = not m.inside && is_blank m.character

abbrev pub is_there : List Mark → Bool
is_there [] = false
is_there (m ∷ ms) = true

-- the parts of a line that are words, as they are written
abbrev pub parts_of : List ℕ → List (List Mark)
parts_of line = filter is_there (slice_split is_gap (take_while (λ m. not (is_comment m)) (marks 0 false line)))

-- ---- a word by what is written

abbrev pub column_of : List Mark → ℕ
column_of [] = 0
column_of (m ∷ ms) = m.column

abbrev pub is_quoted : List Mark → Bool
is_quoted part = list_any (λ m. is_quote m.character) part

-- whether a quote is open after a part, by whether it is before the part
abbrev pub open_behind : Bool → List Mark → Bool
open_behind inside [] = inside
open_behind inside (m ∷ ms) = open_behind (turned inside m.character) ms

-- a brace that is not between quotes
abbrev pub has_brace : List Mark → Bool
has_brace part = list_any (λ m. not m.inside && is_brace m.character) part

-- the bytes of a part without its quotes
abbrev pub text_of : List Mark → List ℕ
text_of part = encode_utf8_all (filter (λ c. not (is_quote c)) (map (λ m. m.character) part))

-- the bytes of a part as it is written
abbrev pub source_of : List Mark → List ℕ
source_of part = encode_utf8_all (map (λ m. m.character) part)

-- what a word is made of that has quotes or not, and outside of them a brace or not; it has this text without its quotes
abbrev pub pieces_in : Bool → Bool → List ℕ → Option (List TextPiece)
pieces_in true true text = None
pieces_in true false text = Some (record { kind = kind.Text; text = text } ∷ [])
pieces_in false braces text = pieces_of text

-- the word of a part whose quotes are closed; it ends as many columns behind its first one as the part has characters
abbrev pub closed_word : List Mark → TextWord
closed_word part = record {
  column = column_of part;
  end = column_of part + length part;
  source = source_of part;
  quoted = is_quoted part;
  pieces = pieces_in (is_quoted part) (has_brace part) (text_of part);
}

-- the word of a part, or its column, if a quote in it is open
abbrev pub word_of : List Mark → Result TextWord ℕ
word_of part = if open_behind false part then Err (column_of part) else Ok (closed_word part)

abbrev pub before_words : TextWord → Result (List TextWord) ℕ → Result (List TextWord) ℕ
before_words w (Ok ws) = Ok (w ∷ ws)
before_words w (Err column) = Err column

abbrev pub first_word : Result TextWord ℕ → Result (List TextWord) ℕ → Result (List TextWord) ℕ
first_word (Ok w) more = before_words w more
first_word (Err column) more = Err column

-- the words of parts, or the column of the first with an open quote
abbrev pub words_in : List (List Mark) → Result (List TextWord) ℕ
words_in [] = Ok []
words_in (part ∷ parts) = first_word (word_of part) (words_in parts)

-- the words of a line of these characters, or the column of the one with an open quote
abbrev pub words_of : List ℕ → Result (List TextWord) ℕ
words_of line = words_in (parts_of line)

-- a function returned the expected, unless memory ran out
abbrev pub Gives : {T : Type 0} {U : Type 0} → (T → U) → Result T WordError → Result U ℕ → Type 0
Gives shown (Ok x) expected = expected ≡ Ok (shown x)
Gives shown (Err error.Memory) expected = Unit {0}
Gives shown (Err (error.OpenQuote column)) expected = expected ≡ Err column
