-- What a script expects of its run.
use Rattle.std.specs.Prelude.{◌≡◌, ◌⊎◌, ℕ, ◌+◌, ◌<◌, ◌≤◌, Bool, true, false, ◌==◌, ◌&&◌, not, nat_lt, if◌then◌else◌, List, [], ◌∷◌, ◌++◌, take, drop, codes, find, position}
use Rattle.std.specs.List.{before_first}
use Rattle.std.specs.Option.{option_map_or}
use Rattle.std.specs.Str.{bytes_eq}
use Rattle.std.specs.Str.Lines.{lines}
use Rattle.machine.specs.Control.{line}
use Rattle.scripts.specs.Words.{is_blank}
use Rattle.expectations.specs.declared.difference.Difference.{Difference}
use Rattle.expectations.specs.declared.difference.Difference.TheVariants as difference

-- ---- the output

-- the line expects its text behind `#> ` as a line of output
abbrev pub is_expected : List ℕ → Bool
is_expected l = bytes_eq (take 3 l) (codes "#> ")

-- the line is a comment that looks as if it expected a text, and expects none: its first word begins with `#>`
abbrev pub looks_expected : List ℕ → Bool
looks_expected l = not (is_expected l) && option_map_or (λ at. bytes_eq (take 2 (drop at l)) (codes "#>")) (position (λ b. not (is_blank b)) l) false

-- the output that these lines expect: their texts, in their order
abbrev pub expected_in : List (List ℕ) → List ℕ
expected_in [] = []
expected_in (l ∷ ls) = (if is_expected l then line (drop 3 l) else []) ++ expected_in ls

-- the output that a script expects
abbrev pub expected_of : List ℕ → List ℕ
expected_of script = expected_in (lines script)

-- ---- the lines that it comes from

-- the line asks for nothing: it has no word, or the first begins with '#'
abbrev pub is_skipped : List ℕ → Bool
is_skipped l = option_map_or (λ b. b == 35) (find (λ b. not (is_blank b)) l) true

-- a text that a line expects. It has to come from a line before that one, whose number is `before`, and behind the one of the number `after`
pub record Expectation : Type 0 where
  pub text : List ℕ
  pub after : ℕ
  pub before : ℕ

-- what these lines expect, the first of which has this number. A text may come from any line behind the expected lines before; those with no line
-- between that asks for anything count as one. Of the lines before these, `last` is the last expected one, and `after` the last one behind which a
-- line asked for something
abbrev pub expectations_from : ℕ → ℕ → ℕ → List (List ℕ) → List Expectation
expectations_from number after last [] = []
expectations_from number after last (l ∷ ls) =
    if is_expected l then record { text = drop 3 l; after = after; before = number } ∷ expectations_from (number + 1) after number ls
    else if is_skipped l then expectations_from (number + 1) after last ls
    else expectations_from (number + 1) last last ls

-- what a script expects
abbrev pub expectations_of : List ℕ → List Expectation
expectations_of script = expectations_from 1 0 0 (lines script)

-- there is one number for each text, and it is that of a line from which the text may come
abbrev pub fit : List Expectation → List ℕ → Bool
fit [] [] = true
fit [] (n ∷ ns) = false
fit (e ∷ es) [] = false
fit (e ∷ es) (n ∷ ns) = (nat_lt e.after n && nat_lt n e.before) && fit es ns

-- the output is what the script expects, and came from lines of these numbers, each in its place. (Excludes a text too few or too many, another one,
-- another order; and a text that is printed by a line behind the one that expects it, or that the expected lines before it have left out.)
pub record Meets (script output numbers : List ℕ) : Type 0 where
  pub bytes : output ≡ expected_of script
  pub places : fit (expectations_of script) numbers ≡ true

-- ---- what is told of other output

-- the next line of output is the text that is expected, and came from where it has to; so much is left of the output and of the numbers
pub record MeetsNext (expected : Expectation) (output numbers output' numbers' : List ℕ) : Type 0 where
  pub bytes : output ≡ line expected.text ++ output'
  pub number : ℕ
  pub next : numbers ≡ number ∷ numbers'
  pub behind : expected.after < number
  pub before : number < expected.before

-- the text up to the first line feed
abbrev pub first_text : List ℕ → List ℕ
first_text output = before_first (λ b. b == 10) output

-- the difference is between the text that is expected next and this output, from lines of these numbers: another text came from where it has to, from the line of that number; or none
-- is left, or the next came from a line behind the one that expects it; or the next came from a line before all from which it may
abbrev pub IsNext : Expectation → List ℕ → List ℕ → Difference → Type 0
IsNext expected output numbers (difference.Other number from wanted got) =
    (number ≡ expected.before) × (wanted.now ≡ expected.text) × (got.now ≡ first_text output)
    × ((rest : List ℕ) → output ≡ line expected.text ++ rest → ⊥)
    × ((ns : List ℕ) × (numbers ≡ from ∷ ns)) × (expected.after < from) × (from < expected.before)
IsNext expected output numbers (difference.Nothing number wanted) =
    (number ≡ expected.before) × (wanted.now ≡ expected.text) × ((n : ℕ) (ns : List ℕ) → numbers ≡ n ∷ ns → expected.before ≤ n)
IsNext expected output numbers (difference.Unexpected number got) =
    (number ≤ expected.after) × (got.now ≡ first_text output) × ((ns : List ℕ) × (numbers ≡ number ∷ ns))

-- all that was expected was met, and the difference is of the text that is left
abbrev pub IsLeft : List ℕ → List ℕ → Difference → Type 0
IsLeft output numbers (difference.Other number from wanted got) = ⊥
IsLeft output numbers (difference.Nothing number wanted) = ⊥
IsLeft output numbers (difference.Unexpected number got) = (got.now ≡ first_text output) × ((n : ℕ) (ns : List ℕ) → numbers ≡ n ∷ ns → number ≡ n)

-- the difference is the first one between what is expected and this output, from lines of these numbers. (Excludes a later one, another line, and a text
-- that is not the one that is expected, or that was printed, there.)
abbrev pub IsFirstOf : List Expectation → List ℕ → List ℕ → Difference → Type 0
IsFirstOf [] output numbers told = IsLeft output numbers told
IsFirstOf (e ∷ es) output numbers told =
    ((output' numbers' : List ℕ) × MeetsNext e output numbers output' numbers' × IsFirstOf es output' numbers' told) ⊎ IsNext e output numbers told
