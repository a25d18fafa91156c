use Rattle.std.proofs.Common.{arith}
use Rattle.expansion.proofs.expansion.place_behind.Goals as goal

pub returns : goal.returns
returns c = record { behind = λ below. omega arith; within = λ below. omega arith }
