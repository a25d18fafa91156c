-- Phases of a script: comments that name them.
use Rattle.std.specs.Prelude.{ℕ, List, [], ◌∷◌, take, drop, codes, if◌then◌else◌, Bool}
use Rattle.std.specs.Str.{bytes_eq}
use Rattle.std.specs.Str.Lines.{lines}

-- the line is a comment that begins a phase
abbrev pub is_mark : List ℕ → Bool
is_mark l = bytes_eq (take 7 l) (codes "# mark ")

-- the phase of a line behind lines of this phase: what stands behind the mark, or the same
abbrev pub phase_after : List ℕ → List ℕ → List ℕ
phase_after phase l = if is_mark l then drop 7 l else phase

-- for each of these lines the name of its phase, behind lines of this phase. (Excludes a mark that is left out, and a phase that begins elsewhere than at its mark.)
abbrev pub phases_from : List ℕ → List (List ℕ) → List (List ℕ)
phases_from phase [] = []
phases_from phase (l ∷ ls) = phase_after phase l ∷ phases_from (phase_after phase l) ls

-- for each line of a script the name of its phase: that of the last mark at or before it, and no name before the first
abbrev pub phases_in : List ℕ → List (List ℕ)
phases_in script = phases_from [] (lines script)
