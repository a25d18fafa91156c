use Rattle.std.proofs.Common.{◌≡◌, [], length}
use denote.Shadow.{shadow}
use denote.Text.{Utf8}
use Rattle.scenarios.specs.Pieces.{onto_pieces, pieces_from, pieces_of}
use Rattle.scenarios.proofs.pieces.pieces_of.Given as goal

abbrev pub invariant-loop-at : goal.invariant-loop-at
invariant-loop-at l = (onto_pieces l.pieces.items (pieces_from l.hole [] l.rest) ≡ pieces_of l.word) × shadow (Utf8 l.rest)

abbrev pub decreases-loop-at : goal.decreases-loop-at
decreases-loop-at l = length l.rest
