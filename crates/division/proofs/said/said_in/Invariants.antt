use Rattle.std.proofs.Common.{◌+◌, ◌≤◌, List, length}
use Rattle.std.specs.Str.Lines.{lines}
use Rattle.scripts.specs.declared.meaning.Item.{Item}
use Rattle.division.specs.Said.{IsRead}
use Rattle.division.proofs.SaidLemmas.{SoFar}
use Rattle.division.proofs.said.said_in.Given as goal

abbrev pub invariant-loop-steps : goal.invariant-loop-steps
invariant-loop-steps l =
    ((is : List Item) → IsRead is (lines l.fn.script) l.fn.schedule → SoFar is l.said.items l.steps l.numbers l.number (lines l.rest))
    × (l.number + length l.rest ≤ length l.fn.script + 1)

abbrev pub decreases-loop-steps : goal.decreases-loop-steps
decreases-loop-steps l = length l.rest
