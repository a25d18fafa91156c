-- What the text of a scenario says, or its first fault.
use Rattle.std.specs.Prelude.{◌≡◌, ℕ, ◌+◌, ◌-◌, Bool, ◌||◌, List, [], ◌∷◌, ◌++◌, length, take, count_by, nat_lt, nat_le, Option, Some, None, Result, Ok, Err, if◌then◌else◌}
use Rattle.std.specs.Str.{chars, is_utf8}
use Rattle.std.specs.Str.Lines.{lines}
use Rattle.std.specs.Str.Lossy.{utf8_valid_len}
use Rattle.scenarios.specs.declared.fault.Cause.{Cause}
use Rattle.scenarios.specs.declared.fault.Cause.TheVariants as cause
use Rattle.scenarios.specs.declared.fault.Fault.{Fault}
use Rattle.scenarios.specs.declared.fault.ReadError.{ReadError}
use Rattle.scenarios.specs.declared.fault.ReadError.TheVariants as error
use Rattle.scenarios.specs.declared.lines.LineKind.{LineKind}
use Rattle.scenarios.specs.declared.lines.LineKind.TheVariants as line
use Rattle.scenarios.specs.declared.scenario.Opened.{Opened}
use Rattle.scenarios.specs.Words.{TextWord, words_of}
use Rattle.scenarios.specs.Lines.{kind_of, WordLine, TextLine, tree_of, flat}

-- ---- what a line has to know of those before it

-- how many lines there are without those that end blocks; the blocks that are not ended, the outermost first
pub record Before : Type 0 where
  pub kept : ℕ
  pub opened : List Opened

abbrev pub at_start : Before
at_start = record { kept = 0; opened = [] }

abbrev pub column_at : List TextWord → ℕ → ℕ
column_at [] place = 1
column_at (w ∷ ws) place = w.column

abbrev pub first_column : List TextWord → ℕ
first_column ws = column_at ws 0

abbrev pub fault_in : ℕ → ℕ → Cause → Fault
fault_in number column c = record { line = number; column = column; cause = c }

-- `end` has to be its line's only word, and a block has to be open
abbrev pub end_fault : ℕ → List Opened → List TextWord → Option Fault
end_fault number [] ws = Some (fault_in number (first_column ws) cause.EndAlone)
end_fault number (o ∷ os) ws = behind_end number ws
  where
    behind_end : ℕ → List TextWord → Option Fault
    behind_end n [] = None
    behind_end n (v ∷ []) = None
    behind_end n (v ∷ w ∷ more) = Some (fault_in n w.column cause.BehindEnd)

-- what is wrong with the place of a line of this kind. A line of the header may be anywhere here: its holes are not filled yet, and below other lines an expander finds it
abbrev pub place_fault : ℕ → Before → LineKind → List TextWord → Option Fault
place_fault number before line.End ws = end_fault number before.opened ws
place_fault number before line.Header ws = None
place_fault number before line.Let ws = None
place_fault number before line.Repeat ws = None
place_fault number before line.Together ws = None
place_fault number before line.Other ws = None

abbrev pub with_block : ℕ → Before → List TextWord → Before
with_block number before ws =
    record { kept = before.kept + 1; opened = before.opened ++ record { place = before.kept; number = number; column = first_column ws } ∷ [] }

-- after a line of this kind
abbrev pub behind : ℕ → Before → LineKind → List TextWord → Before
behind number before line.Header ws = record { kept = before.kept + 1; opened = before.opened }
behind number before line.Let ws = record { kept = before.kept + 1; opened = before.opened }
behind number before line.Other ws = record { kept = before.kept + 1; opened = before.opened }
behind number before line.Repeat ws = with_block number before ws
behind number before line.Together ws = with_block number before ws
behind number before line.End ws = record { kept = before.kept; opened = take (length before.opened - 1) before.opened }

-- ---- the lines

abbrev pub quote_faulty : ℕ → Result (List TextWord) ℕ → Result (List TextWord) Fault
quote_faulty number (Ok ws) = Ok ws
quote_faulty number (Err column) = Err (fault_in number column cause.OpenQuote)

-- a byte with which a character begins
abbrev pub begins_character : ℕ → Bool
begins_character b = nat_lt b 128 || nat_le 192 b

-- the column of the first bytes that are no UTF-8
abbrev pub column_of_text : List ℕ → ℕ
column_of_text bytes = count_by begins_character (take (utf8_valid_len bytes) bytes) + 1

-- the words of a line of these bytes, or what is wrong with it as a text
abbrev pub line_words : ℕ → List ℕ → Result (List TextWord) Fault
line_words number bytes = if is_utf8 bytes then quote_faulty number (words_of (chars bytes)) else Err (fault_in number (column_of_text bytes) cause.NotText)

abbrev pub onto_lines : List WordLine → Result (List WordLine) Fault → Result (List WordLine) Fault
onto_lines ls (Ok more) = Ok (ls ++ more)
onto_lines ls (Err f) = Err f

abbrev pub unless_fault : Option Fault → Result (List WordLine) Fault → Result (List WordLine) Fault
unless_fault None more = more
unless_fault (Some f) more = Err f

-- a line with these words, and the lines after it
abbrev pub with_words : ℕ → Before → List TextWord → (Before → Result (List WordLine) Fault) → Result (List WordLine) Fault
with_words number before [] more = more before
with_words number before (w ∷ ws) more =
    unless_fault (place_fault number before (kind_of (w ∷ ws)) (w ∷ ws))
    (onto_lines (record { number = number; words = w ∷ ws } ∷ []) (more (behind number before (kind_of (w ∷ ws)) (w ∷ ws))))

abbrev pub with_line : ℕ → Before → Result (List TextWord) Fault → (Before → Result (List WordLine) Fault) → Result (List WordLine) Fault
with_line number before (Err f) more = Err f
with_line number before (Ok ws) more = with_words number before ws more

-- at the end of the text each block is ended
abbrev pub unended : List Opened → Result (List WordLine) Fault
unended [] = Ok []
unended (o ∷ os) = Err (fault_in o.number o.column cause.NoEnd)

-- the lines with words, of which the first has this number, or the first fault
abbrev pub lines_from : ℕ → Before → List (List ℕ) → Result (List WordLine) Fault
lines_from number before [] = unended before.opened
lines_from number before (bytes ∷ more) = with_line number before (line_words number bytes) (λ b. lines_from (number + 1) b more)

abbrev pub lines_of : List ℕ → Result (List WordLine) Fault
lines_of text = lines_from 1 at_start (lines text)

-- ---- the scenario

abbrev pub flat_lines : Result (List WordLine) Fault → Result (List TextLine) Fault
flat_lines (Ok ls) = Ok (flat (tree_of ls))
flat_lines (Err f) = Err f

-- the lines of the tree that a text's lines make, or the text's first fault
abbrev pub scenario_of : List ℕ → Result (List TextLine) Fault
scenario_of text = flat_lines (lines_of text)

-- a function returned the expected, unless memory ran out
abbrev pub Reads : {T : Type 0} {U : Type 0} → (T → U) → Result T ReadError → Result U Fault → Type 0
Reads shown (Ok x) expected = expected ≡ Ok (shown x)
Reads shown (Err error.Memory) expected = Unit {0}
Reads shown (Err (error.Faulty f)) expected = expected ≡ Err f
