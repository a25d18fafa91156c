-- The lines that a scenario begins with: its header, and `let`.
use Rattle.std.specs.Prelude.{ℕ, ◌+◌, Bool, true, false, ◌&&◌, not, List, [], ◌∷◌, ◌++◌, codes, fold, Result, Ok, if◌then◌else◌}
use Rattle.scenarios.specs.Lines.{TextLine, opens_block, is_header_word}
use Rattle.scenario_words.specs.declared.fault.Fault.{Fault}
use Rattle.scenario_words.specs.Faults.{◌>>=◌}
use Rattle.scenario_words.specs.Header.{State, header_said}
use Rattle.scenario_words.specs.Words.{FilledWord, is_word, word_at, is_at, filled_words}
use Rattle.scenario_lines.specs.declared.rounded.Rounded.{Rounded}
use Rattle.scenario_lines.specs.Rounding.{sizes_noted}
use Rattle.scenario_lines.specs.Scene.{SceneNow, let_line}

-- the words of lines of the header
abbrev pub Said : Type 0
Said = List (List FilledWord)

-- a `let`, and what is known after it
abbrev pub let_here : SceneNow → Said → List FilledWord → Result (Bool × Said × SceneNow) Fault
let_here s said ws = do
  next ← let_line s ws
  Ok (true, said, next)

abbrev pub here_by : SceneNow → Said → List FilledWord → FilledWord → Result (Bool × Said × SceneNow) Fault
here_by s said ws first =
    if is_word first (codes "let") then let_here s said ws
    else if not first.quoted && is_header_word first.text then Ok (true, said ++ ws ∷ [], s)
    else Ok (false, said, s)

abbrev pub words_here : SceneNow → Said → TextLine → Result (Bool × Said × SceneNow) Fault
words_here s said l = do
  ws ← filled_words l.number l.words s.values
  first ← word_at ws 0
  here_by s said ws first

-- whether a line after these is one of the first; then its words are said too, or it names a value
abbrev pub line_here : SceneNow → Said → TextLine → Result (Bool × Said × SceneNow) Fault
line_here s said l = if opens_block l.kind then Ok (false, said, s) else words_here s said l

abbrev pub and_line : Result (ℕ × Said × SceneNow) Fault → Result (ℕ × Said × SceneNow) Fault
and_line more = do
  q ← more
  Ok (q.0 + 1, q.1, q.2)

-- how many lines there are before the first other one; what they say of the machine, and what is known after them
abbrev pub lines_here : SceneNow → Said → List TextLine → Result (ℕ × Said × SceneNow) Fault
lines_here s said [] = Ok (0, said, s)
lines_here s said (l ∷ ls) = do
  p ← line_here s said l
  if p.0 then and_line (lines_here p.2 p.1 ls) else Ok (0, p.1, p.2)

abbrev pub with_machine : SceneNow → State → SceneNow
with_machine s m = record s { machine = m.0; names = m.1 }

-- the header has these lines
abbrev pub lines_said : SceneNow → Said → Result SceneNow Fault
lines_said s said = do
  m ← header_said (s.machine, s.names) said
  Ok (with_machine s m)

-- the sizes of a line, if it begins with this word
abbrev pub begun_noted : ℕ → List ℕ → List Rounded → List FilledWord → List Rounded
begun_noted page first rs ws = if is_at ws 0 first then sizes_noted page rs ws else rs

abbrev pub all_begun_noted : ℕ → List ℕ → List Rounded → Said → List Rounded
all_begun_noted page first rs said = fold (begun_noted page first) rs said

abbrev pub all_noted : ℕ → List Rounded → Said → List Rounded
all_noted page rs said = fold (sizes_noted page) rs said

-- the sizes of the header, in the order in which they count: memory and swap first
abbrev pub header_noted : ℕ → List Rounded → Said → List Rounded
header_noted page rs said = all_noted page (all_begun_noted page (codes "swap") (all_begun_noted page (codes "memory") rs said) said) said

abbrev pub with_noted : SceneNow → Said → SceneNow
with_noted s said = record s { rounded = header_noted s.machine.page s.rounded said }

-- the header is read: how many lines it has, and what is known after it
abbrev pub header_read : SceneNow → List TextLine → Result (ℕ × SceneNow) Fault
header_read s ls = do
  h ← lines_here s [] ls
  next ← lines_said h.2 h.1
  Ok (h.0, with_noted next h.1)
