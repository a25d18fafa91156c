-- Holes of words, filled.
use Rattle.std.specs.Prelude.{◌≡◌, ℕ, ◌+◌, List, [], ◌∷◌, ◌++◌, map, Option, Some, None, Result, Ok, Err, String, if◌then◌else◌}
use Rattle.std.specs.Str.{bytes_eq}
use Rattle.std.specs.Global.{Global}
use Rattle.std.specs.String.{string_bytes}
use Rattle.scenarios.specs.declared.holes.FillError.{FillError}
use Rattle.scenarios.specs.declared.holes.FillError.TheVariants as error
use Rattle.scenarios.specs.declared.pieces.Kind.{Kind}
use Rattle.scenarios.specs.declared.pieces.Kind.TheVariants as kind
use Rattle.scenarios.specs.Pieces.{TextPiece}

-- a name with the text that it has
pub record NamedText : Type 0 where
  pub name : List ℕ
  pub text : List ℕ

-- the text of this name: the first one's, which is the newest
abbrev pub value_of : List NamedText → List ℕ → Option (List ℕ)
value_of [] name = None
value_of (v ∷ vs) name = if bytes_eq v.name name then Some v.text else value_of vs name

-- what a piece is with these values
abbrev pub piece_text : List NamedText → Kind → List ℕ → Option (List ℕ)
piece_text values kind.Text text = Some text
piece_text values kind.Hole name = value_of values name

abbrev pub onto_text : List ℕ → Result (List ℕ) ℕ → Result (List ℕ) ℕ
onto_text text (Ok more) = Ok (text ++ more)
onto_text text (Err place) = Err place

abbrev pub with_text : ℕ → Option (List ℕ) → Result (List ℕ) ℕ → Result (List ℕ) ℕ
with_text place None more = Err place
with_text place (Some text) more = onto_text text more

-- pieces, the first of which has this place: their text, or the place of the first hole whose name has no value
abbrev pub filled_from : List NamedText → ℕ → List TextPiece → Result (List ℕ) ℕ
filled_from values place [] = Ok []
filled_from values place (p ∷ ps) = with_text place (piece_text values p.kind p.text) (filled_from values (place + 1) ps)

abbrev pub filled : List NamedText → List TextPiece → Result (List ℕ) ℕ
filled values pieces = filled_from values 0 pieces

-- a function returned this text, or this place, unless memory ran out
abbrev pub Fills : Result (String Global) FillError → Result (List ℕ) ℕ → Type 0
Fills (Ok text) expected = expected ≡ Ok (string_bytes text)
Fills (Err error.Memory) expected = Unit {0}
Fills (Err (error.Unknown place)) expected = expected ≡ Err place

abbrev pub names_of : List NamedText → List (List ℕ)
names_of values = map (λ v. v.name) values
