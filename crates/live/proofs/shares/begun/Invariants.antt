use Rattle.std.proofs.Common.{◌≡◌, ◌≤◌, take}
use Rattle.live.specs.Matching.{begun}
use Rattle.live.proofs.shares.begun.Given as goal

abbrev pub invariant-loop-one : goal.invariant-loop-one
invariant-loop-one l = (l.count ≡ begun (take l.one-index l.kept)) × (l.count ≤ l.one-index)
