use Rattle.std.proofs.Common.{◌≡◌, drop}
use Rattle.std.specs.String.{string_bytes}
use Rattle.scenarios.specs.Holes.{onto_text, filled_from, filled}
use Rattle.scenarios.proofs.holes.fill.Given as goal

abbrev pub invariant-loop-place : goal.invariant-loop-place
invariant-loop-place l = onto_text (string_bytes l.text) (filled_from l.values l.place (drop l.place l.pieces)) ≡ filled l.values l.pieces
