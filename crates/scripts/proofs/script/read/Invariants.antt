use Rattle.std.proofs.Common.{◌+◌, ◌≤◌, length}
use Rattle.std.specs.Str.Lines.{lines}
use Rattle.scripts.specs.Reading.{known_by}
use Rattle.scripts.proofs.Loop.{SoFar}
use Rattle.scripts.proofs.script.read.Given as goal

abbrev pub invariant-loop-rest : goal.invariant-loop-rest
invariant-loop-rest l = SoFar l.fn.mode (lines l.text) (lines l.rest) l.number (known_by l.reading) × (l.number + length l.rest ≤ length l.text)

abbrev pub decreases-loop-rest : goal.decreases-loop-rest
decreases-loop-rest l = length l.rest
