-- The first line, and those after it.
use Rattle.std.proofs.Common.{◌≡◌, ℕ, ◌+◌, ◌<◌, Bool, false, eqb, List, [], ◌∷◌, length, take, drop, Some, None, refl, ap, ◌∙◌, arith}
use Rattle.std.specs.Prelude.{position}
use Rattle.std.specs.List.{slice_split}
use Rattle.std.specs.Str.Lines.{lines, lines_of_parts, strip_carriage_return}
use Rattle.std.proofs.lemmas.Bool.Decides.{nat_tests}
use Rattle.scripts.proofs.Splits.{HasPart, split-part, Parts, first_cut, no_cut}

abbrev newline : ℕ → Bool
newline b = eqb b 10

-- a part with more after it ends in a line feed
before_more : (line : List ℕ) (ps : Parts) → HasPart ps → lines_of_parts (line ∷ ps) ≡ strip_carriage_return line ∷ lines_of_parts ps
before_more line ps h = rw h.2 refl

-- the last part is a line, where it is not empty
alone : (bs : List ℕ) → 0 < length bs → lines_of_parts (bs ∷ []) ≡ bs ∷ []
alone bs h =
    let e : eqb (length bs) 0 ≡ false = grind (arith, nat_tests) in
    rw e refl

-- the text up to its first line feed is its first line, and what follows has the others
pub cut : (bs : List ℕ) (at : ℕ) → position newline bs ≡ Some at → lines bs ≡ strip_carriage_return (take at bs) ∷ lines (drop (at + 1) bs)
cut bs at h = ap lines_of_parts (first_cut newline bs at h) ∙ before_more (take at bs) (slice_split newline (drop (at + 1) bs)) (split-part newline (drop (at + 1) bs))

-- a text without a line feed is one line
pub whole : (bs : List ℕ) → position newline bs ≡ None → 0 < length bs → lines bs ≡ bs ∷ []
whole bs h some = ap lines_of_parts (no_cut newline bs h) ∙ alone bs some
