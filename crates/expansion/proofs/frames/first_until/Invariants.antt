use Rattle.std.proofs.Common.{◌≡◌, drop}
use Rattle.expansion.specs.Frames.{first_until, until_among}
use Rattle.expansion.proofs.frames.first_until.Given as goal

-- the first one is behind the words so far
abbrev pub invariant-loop-at : goal.invariant-loop-at
invariant-loop-at l = until_among (drop l.at l.words) l.at ≡ first_until l.words l.place
