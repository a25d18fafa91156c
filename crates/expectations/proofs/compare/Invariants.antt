use Rattle.std.proofs.Common.{◌↔◌, ◌+◌, ◌≤◌, length}
use Rattle.std.specs.Str.Lines.{lines}
use Rattle.expectations.specs.declared.difference.Difference.{Difference}
use Rattle.expectations.specs.Expected.{expectations_from, expectations_of, IsFirstOf, Meets}
use Rattle.expectations.specs.Steps.{IsMet}
use Rattle.expectations.proofs.compare.Given as goal

abbrev pub invariant-loop-rest : goal.invariant-loop-rest
invariant-loop-rest l =
    (Meets l.fn.script l.fn.output l.fn.numbers ↔ IsMet (l.number + 1) l.walk.after l.walk.last (lines l.rest) l.walk.output.now l.walk.numbers.now)
    × ((told : Difference) → IsFirstOf (expectations_from (l.number + 1) l.walk.after l.walk.last (lines l.rest)) l.walk.output.now l.walk.numbers.now told →
    IsFirstOf (expectations_of l.fn.script) l.fn.output l.fn.numbers told)
    × (l.number + length l.rest ≤ length l.script)

abbrev pub decreases-loop-rest : goal.decreases-loop-rest
decreases-loop-rest l = length l.rest
