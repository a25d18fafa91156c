use Rattle.std.proofs.Common.{arith}
use Rattle.files.proofs.Files.are_numbered.Goals as goal

pub returns : goal.returns
returns c =
    let last = c.self.invariant.last in
    let numbered = c.self.invariant.numbered in
    rw (← c.self.view_is) (omega (arith, last, numbered))
