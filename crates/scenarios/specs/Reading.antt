-- What has been read of a line. No public clause cites it.
use Rattle.std.specs.Prelude.{ℕ, ◌+◌, Bool, true, false, ◌&&◌, ◌||◌, not, ◌==◌, List, [], ◌∷◌, ◌++◌, encode_utf8, Option, Some, None, Result, Ok, Err, if◌then◌else◌}
use Rattle.std.specs.String.{string_bytes}
use Rattle.scripts.specs.Words.{is_blank}
use Rattle.scenarios.specs.declared.words.Part.{Part}
use Rattle.scenarios.specs.declared.words.Reader.{Reader}
use Rattle.scenarios.specs.Pieces.{is_brace}
use Rattle.scenarios.specs.Words.{TextWord, is_quote, turned, pieces_in}

-- a word that is being read
pub record PartRead : Type 0 where
  pub column : ℕ
  pub source : List ℕ
  pub text : List ℕ
  pub quoted : Bool
  pub braces : Bool

abbrev pub part_read : Part → PartRead
part_read p = record { column = p.column; source = string_bytes p.source; text = string_bytes p.text; quoted = p.quoted; braces = p.braces }

abbrev pub option_part : Option Part → Option PartRead
option_part None = None
option_part (Some p) = Some (part_read p)

-- so many characters, the last of which are in a quote or not, with these words before the last, which may go on
pub record LineRead : Type 0 where
  pub before : ℕ
  pub inside : Bool
  pub part : Option PartRead
  pub words : List TextWord

abbrev pub line_read : Reader → LineRead
line_read r = record { before = r.before; inside = r.inside; part = option_part r.part; words = r.words.items }

-- a character at the end of a part, or a new part
abbrev pub longer : PartRead → Bool → ℕ → PartRead
longer p inside c = record {
  column = p.column;
  source = p.source ++ encode_utf8 c;
  text = if is_quote c then p.text else p.text ++ encode_utf8 c;
  quoted = p.quoted || is_quote c;
  braces = p.braces || (not inside && is_brace c);
}

abbrev pub started : Option PartRead → ℕ → PartRead
started None before = record { column = before + 1; source = []; text = []; quoted = false; braces = false }
started (Some p) before = p

-- the part with a character more, which is not counted yet
abbrev pub part_longer : LineRead → ℕ → LineRead
part_longer k c = record { before = k.before; inside = turned k.inside c; part = Some (longer (started k.part k.before) k.inside c); words = k.words }

abbrev pub with_part : LineRead → ℕ → LineRead
with_part k c = record { before = k.before + 1; inside = turned k.inside c; part = Some (longer (started k.part k.before) k.inside c); words = k.words }

-- the word of a part that ends before this column
abbrev pub word_read : PartRead → ℕ → TextWord
word_read p end = record { column = p.column; end = end; source = p.source; quoted = p.quoted; pieces = pieces_in p.quoted p.braces p.text }

-- the words, with the one that ends before this column, if there is one
abbrev pub words_with : List TextWord → Option PartRead → ℕ → List TextWord
words_with ws None end = ws
words_with ws (Some p) end = ws ++ word_read p end ∷ []

-- nothing goes on the last word
abbrev pub part_ended : LineRead → LineRead
part_ended k = record { before = k.before; inside = k.inside; part = None; words = words_with k.words k.part (k.before + 1) }

abbrev pub with_gap : LineRead → LineRead
with_gap k = record { before = k.before + 1; inside = k.inside; part = None; words = words_with k.words k.part (k.before + 1) }

-- a character that begins no comment
abbrev pub with_character : LineRead → ℕ → LineRead
with_character k c = if not k.inside && is_blank c then with_gap k else with_part k c

-- the words, when the line ends before this column with a quote open or not
abbrev pub words_at_end : Bool → Option PartRead → List TextWord → ℕ → Result (List TextWord) ℕ
words_at_end true None ws end = Ok ws
words_at_end true (Some p) ws end = Err p.column
words_at_end false part ws end = Ok (words_with ws part end)

abbrev pub words_read : LineRead → Result (List TextWord) ℕ
words_read k = words_at_end k.inside k.part k.words (k.before + 1)

-- the words of a line with these characters still to come
abbrev pub rest_read : LineRead → List ℕ → Result (List TextWord) ℕ
rest_read k [] = words_read k
rest_read k (c ∷ cs) = if not k.inside && c == 35 then words_read k else rest_read (with_character k c) cs

abbrev pub at_start : LineRead
at_start = record { before = 0; inside = false; part = None; words = [] }
