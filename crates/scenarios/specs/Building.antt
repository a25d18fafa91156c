-- A scenario's lines, as they are kept while its text is read. No public clause cites it.
use Rattle.std.specs.Prelude.{◌≡◌, ℕ, ◌+◌, ◌-◌, ◌<◌, List, [], ◌∷◌, ◌++◌, length, map, reverse, slice_index_or, slice_set, Result, Ok, Err}
use Rattle.scenarios.specs.declared.fault.Fault.{Fault}
use Rattle.scenarios.specs.declared.fault.ReadError.{ReadError}
use Rattle.scenarios.specs.declared.fault.ReadError.TheVariants as error
use Rattle.scenarios.specs.declared.lines.LineKind.{LineKind}
use Rattle.scenarios.specs.declared.lines.LineKind.TheVariants as line
use Rattle.scenarios.specs.declared.scenario.Opened.{Opened}
use Rattle.scenarios.specs.declared.scenario.Reading.{Reading}
use Rattle.scenarios.specs.Lines.{WordLine, TextLine, Tree, text_line, first_tree, other_trees, trees_of, flat}
use Rattle.scenarios.specs.Scenario.{Before, lines_from}

-- what the next line has to know
abbrev pub before_of : Reading → Before
before_of r = record { kept = length r.lines.items; opened = r.opened.items }

-- where the open blocks begin, the innermost first
abbrev pub places_of : List Opened → List ℕ
places_of opened = reverse (map (λ o. o.place) opened)

-- each block begins before those in it, and the innermost before so many lines
abbrev pub AreOpen : List ℕ → ℕ → Type 0
AreOpen [] many = Unit {0}
AreOpen (place ∷ places) many = (place < many) × AreOpen places place

-- no line
abbrev pub no_line : TextLine
no_line = record { number = 0; kind = line.Other; words = []; inside = 0 }

-- all lines after that of this place are in its block
abbrev pub closed : List TextLine → ℕ → List TextLine
closed ls place = slice_set ls place (record (slice_index_or ls place no_line) { inside = length ls - (place + 1) })

-- the lines in the end: those kept, then the trees that still come; each of these but the last ends an open block
abbrev pub built : List TextLine → List ℕ → List Tree → List TextLine
built kept [] trees = kept ++ flat (first_tree trees)
built kept (place ∷ places) trees = built (closed (kept ++ flat (first_tree trees)) place) places (other_trees trees)

-- the innermost block is closed
abbrev pub first_closed : List TextLine → List ℕ → List TextLine
first_closed kept [] = kept
first_closed kept (place ∷ places) = closed kept place

-- the lines that are kept after a line of this kind
abbrev pub lines_behind : LineKind → WordLine → List TextLine → List ℕ → List TextLine
lines_behind line.End l kept places = first_closed kept places
lines_behind line.Repeat l kept places = kept ++ text_line l 0 ∷ []
lines_behind line.Together l kept places = kept ++ text_line l 0 ∷ []
lines_behind line.Header l kept places = kept ++ text_line l 0 ∷ []
lines_behind line.Let l kept places = kept ++ text_line l 0 ∷ []
lines_behind line.Other l kept places = kept ++ text_line l 0 ∷ []

abbrev pub all_built : List TextLine → List ℕ → Result (List WordLine) Fault → Result (List TextLine) Fault
all_built kept places (Ok ls) = Ok (built kept places (trees_of ls))
all_built kept places (Err f) = Err f

-- the scenario, if these lines are still to come and the first of them has this number
abbrev pub rest_of : Reading → ℕ → List (List ℕ) → Result (List TextLine) Fault
rest_of r number ls = all_built r.lines.items (places_of r.opened.items) (lines_from number (before_of r) ls)

-- a line was taken up, or is the first faulty one
abbrev pub Goes : Result (Unit {0}) ReadError → (List (List ℕ) → Result (List TextLine) Fault) → (List (List ℕ) → Result (List TextLine) Fault) → Type 0
Goes (Ok x) now later = (more : List (List ℕ)) → later more ≡ now more
Goes (Err error.Memory) now later = Unit {0}
Goes (Err (error.Faulty f)) now later = (more : List (List ℕ)) → now more ≡ Err f
