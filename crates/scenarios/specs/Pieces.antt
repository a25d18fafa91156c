-- The pieces of a word without quotes: what is taken as it is, and the names in braces.
use Rattle.std.specs.Prelude.{ℕ, Bool, true, false, ◌&&◌, ◌||◌, not, ◌==◌, List, [], ◌∷◌, ◌++◌, length, Option, Some, None, nat_lt, if◌then◌else◌}
use Rattle.scenarios.specs.declared.pieces.Kind.{Kind}
use Rattle.scenarios.specs.declared.pieces.Kind.TheVariants as kind

-- a piece: a text, or a hole with this name
pub record TextPiece : Type 0 where
  pub kind : Kind
  pub text : List ℕ

abbrev pub opens : ℕ → Bool
opens b = b == 123

abbrev pub is_brace : ℕ → Bool
is_brace b = b == 123 || b == 125

abbrev pub some_text : List ℕ → List TextPiece
some_text [] = []
some_text (b ∷ bs) = record { kind = kind.Text; text = b ∷ bs } ∷ []

-- what is between two braces, or before the first
abbrev pub piece_of : Bool → List ℕ → List TextPiece
piece_of true name = record { kind = kind.Hole; text = name } ∷ []
piece_of false text = some_text text

-- a brace opens outside of a hole, or closes one that has a name
abbrev pub fits : Bool → List ℕ → ℕ → Bool
fits true name b = not (opens b) && nat_lt 0 (length name)
fits false text b = opens b

abbrev pub onto_pieces : List TextPiece → Option (List TextPiece) → Option (List TextPiece)
onto_pieces ps None = None
onto_pieces ps (Some qs) = Some (ps ++ qs)

-- at the end of a word, in a hole or outside
abbrev pub ended : Bool → List ℕ → Option (List TextPiece)
ended true name = None
ended false text = Some (some_text text)

-- in a hole or outside, after this text since the last brace; none, if a brace doesn't fit
abbrev pub pieces_from : Bool → List ℕ → List ℕ → Option (List TextPiece)
pieces_from hole before [] = ended hole before
pieces_from hole before (b ∷ bs) =
    let more = pieces_from (if is_brace b then opens b else hole) (if is_brace b then [] else before ++ b ∷ []) bs in
    if not (is_brace b) then more else if fits hole before b then onto_pieces (piece_of hole before) more else None

abbrev pub pieces_of : List ℕ → Option (List TextPiece)
pieces_of word = pieces_from false [] word

-- ---- the word again

-- a piece, as a word has it
abbrev pub as_written : Kind → List ℕ → List ℕ
as_written kind.Text text = text
as_written kind.Hole name = 123 ∷ (name ++ 125 ∷ [])

abbrev pub all_written : List TextPiece → List ℕ
all_written [] = []
all_written (p ∷ ps) = as_written p.kind p.text ++ all_written ps
