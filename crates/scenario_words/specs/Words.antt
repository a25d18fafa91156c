-- Words of a line, with their holes filled.
use Rattle.std.specs.Prelude.{ℕ, ◌-◌, Bool, false, ◌&&◌, ◌||◌, not, List, [], ◌∷◌, length, filter, encode_utf8_all, codes, Option, Some, None, Result, Ok, Err, slice_get, if◌then◌else◌}
use Rattle.std.specs.List.{list_any}
use Rattle.std.specs.Str.{bytes_eq, chars}
use Rattle.scenarios.specs.Holes.{NamedText, filled}
use Rattle.scenarios.specs.Lines.{is_header_word}
use Rattle.scenarios.specs.Pieces.{TextPiece}
use Rattle.scenarios.specs.Words.{TextWord, is_quote}
use Rattle.scenario_words.specs.declared.fault.Cause.{Cause}
use Rattle.scenario_words.specs.declared.fault.Cause.TheVariants as cause
use Rattle.scenario_words.specs.declared.fault.Fault.{Fault}
use Rattle.scenario_words.specs.Faults.{◌>>=◌}

-- a word: the number of its line; the columns of its first character and right after its last one, from 1; with its quotes, and without them; whether it has quotes
pub record FilledWord : Type 0 where
  pub line : ℕ
  pub column : ℕ
  pub end : ℕ
  pub source : List ℕ
  pub text : List ℕ
  pub quoted : Bool

-- ---- from the words of the text

abbrev pub has_quote : List ℕ → Bool
has_quote bytes = list_any is_quote bytes

-- the bytes of these characters without quotes
abbrev pub unquoted : List ℕ → List ℕ
unquoted cs = encode_utf8_all (filter (λ c. not (is_quote c)) cs)

abbrev pub without_quotes : List ℕ → List ℕ
without_quotes bytes = unquoted (chars bytes)

-- the source of pieces with these values; a hole whose name has no value is this fault
abbrev pub or_unknown : Fault → Result (List ℕ) ℕ → Result (List ℕ) Fault
or_unknown unknown (Ok source) = Ok source
or_unknown unknown (Err place) = Err unknown

abbrev pub fault_in : ℕ → TextWord → Cause → Fault
fault_in line w c = record { line = line; column = w.column; cause = c }

-- the source of a word of this line that is made of this: a word with quotes has no holes
abbrev pub source_of : ℕ → TextWord → List NamedText → Option (List TextPiece) → Result (List ℕ) Fault
source_of line w values None = Err (fault_in line w cause.Brace)
source_of line w values (Some pieces) = if w.quoted then Ok w.source else or_unknown (fault_in line w cause.Unknown) (filled values pieces)

-- the source of a word of this line, with its holes filled
abbrev pub filled_source : ℕ → TextWord → List NamedText → Result (List ℕ) Fault
filled_source line w values = source_of line w values w.pieces

-- a word of this line that has this source, once its holes are filled
abbrev pub with_source : ℕ → TextWord → List ℕ → FilledWord
with_source line w source = record { line = line; column = w.column; end = w.end; source = source; text = without_quotes source; quoted = has_quote source }

-- a word of this line, with its holes filled by the values of their names, the newest of which come first
abbrev pub filled_word : ℕ → TextWord → List NamedText → Result FilledWord Fault
filled_word line w values = do
  source ← filled_source line w values
  Ok (with_source line w source)

-- the words of this line, with their holes filled, or the first fault
abbrev pub filled_words : ℕ → List TextWord → List NamedText → Result (List FilledWord) Fault
filled_words line [] values = Ok []
filled_words line (w ∷ ws) values = do
  f ← filled_word line w values
  fs ← filled_words line ws values
  Ok (f ∷ fs)

-- ---- a word

-- this is wrong with the word
abbrev pub word_fault : FilledWord → Cause → Fault
word_fault w c = record { line = w.line; column = w.column; cause = c }

-- it is this word of the language; a name in quotes is none
abbrev pub is_word : FilledWord → List ℕ → Bool
is_word w word = not w.quoted && bytes_eq w.text word

-- ---- the words of a line, by their places, from 0

-- a word is missing after this one, or after none
abbrev pub missing_after : Option FilledWord → Fault
missing_after None = record { line = 0; column = 0; cause = cause.Missing }
missing_after (Some w) = record { line = w.line; column = w.end; cause = cause.Missing }

-- a word is missing after the last one
abbrev pub missing : List FilledWord → Fault
missing ws = missing_after (slice_get ws (length ws - 1))

abbrev pub or_missing : List FilledWord → Option FilledWord → Result FilledWord Fault
or_missing ws None = Err (missing ws)
or_missing ws (Some w) = Ok w

-- the word of this place; if there is none, it is missing
abbrev pub word_at : List FilledWord → ℕ → Result FilledWord Fault
word_at ws place = or_missing ws (slice_get ws place)

abbrev pub too_many : Option FilledWord → Result (Unit {0}) Fault
too_many None = Ok tt
too_many (Some w) = Err (word_fault w cause.TooMany)

-- the words end before this place; the word there is one too many
abbrev pub ends_at : List FilledWord → ℕ → Result (Unit {0}) Fault
ends_at ws place = too_many (slice_get ws place)

abbrev pub is_some_word : Option FilledWord → List ℕ → Bool
is_some_word None word = false
is_some_word (Some w) word = is_word w word

-- at this place is this word of the language
abbrev pub is_at : List FilledWord → ℕ → List ℕ → Bool
is_at ws place word = is_some_word (slice_get ws place) word

abbrev pub expected : List ℕ → Result FilledWord Fault → Result (Unit {0}) Fault
expected word (Ok w) = if is_word w word then Ok tt else Err (word_fault w cause.NotExpected)
expected word (Err f) = Err f

-- at this place is this word of the language; another one is not expected
abbrev pub expect_at : List FilledWord → ℕ → List ℕ → Result (Unit {0}) Fault
expect_at ws place word = expected word (word_at ws place)

-- ---- the words of the language

-- a key of a group; it may begin with `memory.`
abbrev pub is_key : List ℕ → Bool
is_key word =
    bytes_eq word (codes "max") || bytes_eq word (codes "min") || bytes_eq word (codes "low") || bytes_eq word (codes "oom.group")
    || bytes_eq word (codes "memory.max") || bytes_eq word (codes "memory.min") || bytes_eq word (codes "memory.low") || bytes_eq word (codes "memory.oom.group")

-- a number of events
abbrev pub is_event : List ℕ → Bool
is_event word =
    bytes_eq word (codes "events.low") || bytes_eq word (codes "events.max") || bytes_eq word (codes "events.oom") || bytes_eq word (codes "events.oom_kill")
    || bytes_eq word (codes "events.oom_group_kill")

-- what a task does, or how
abbrev pub is_act_word : List ℕ → Bool
is_act_word word =
    bytes_eq word (codes "read") || bytes_eq word (codes "write") || bytes_eq word (codes "free") || bytes_eq word (codes "fork")
    || bytes_eq word (codes "exit") || bytes_eq word (codes "fread") || bytes_eq word (codes "fwrite") || bytes_eq word (codes "next")
    || bytes_eq word (codes "random") || bytes_eq word (codes "seed")

-- the first word of a line of the shell's, or of a note
abbrev pub is_line_word : List ℕ → Bool
is_line_word word =
    bytes_eq word (codes "let") || bytes_eq word (codes "show") || bytes_eq word (codes "mark") || bytes_eq word (codes "expect")
    || bytes_eq word (codes "group") || bytes_eq word (codes "set") || bytes_eq word (codes "reclaim") || bytes_eq word (codes "rmdir")
    || bytes_eq word (codes "task") || bytes_eq word (codes "attach") || bytes_eq word (codes "daemon") || bytes_eq word (codes "raw")

-- all other words of the language
abbrev pub is_other_word : List ℕ → Bool
is_other_word word =
    bytes_eq word (codes "recursive") || bytes_eq word (codes "plain") || bytes_eq word (codes "linux") || bytes_eq word (codes "in")
    || bytes_eq word (codes "repeat") || bytes_eq word (codes "as") || bytes_eq word (codes "until") || bytes_eq word (codes "together")
    || bytes_eq word (codes "end") || bytes_eq word (codes "killed") || bytes_eq word (codes "current") || bytes_eq word (codes "anon")
    || bytes_eq word (codes "out") || bytes_eq word (codes "dropped") || bytes_eq word (codes "alive") || bytes_eq word (codes "nobody")
    || bytes_eq word (codes "refused") || bytes_eq word (codes "=") || bytes_eq word (codes ">=") || bytes_eq word (codes "<=")

-- a word of the language, which without quotes is the name of no task
abbrev pub is_language : List ℕ → Bool
is_language word = is_header_word word || is_key word || is_event word || is_act_word word || is_line_word word || is_other_word word
