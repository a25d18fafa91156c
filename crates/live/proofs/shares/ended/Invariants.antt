use Rattle.std.proofs.Common.{◌≡◌, ◌≤◌, take}
use Rattle.live.specs.Matching.{ended}
use Rattle.live.proofs.shares.ended.Given as goal

abbrev pub invariant-loop-one : goal.invariant-loop-one
invariant-loop-one l = (l.count ≡ ended (take l.one-index l.kept)) × (l.count ≤ l.one-index)
