use Rattle.std.proofs.KnownBytes.{Appends-kept}
use Rattle.printer.proofs.ByteLemmas.{written-within, written-more}
use Rattle.printer.proofs.output.write_bytes.Goals as goal
use Rattle.printer.proofs.output.write_bytes.Goals.{in-Ok, in-Err}

pub loop-preserved : goal.loop-preserved
loop-preserved g c =
    let bs = c.args.bytes.now in
    let here = c.loop.invariant in
    elim c.match-write.branch [
      | in-Ok w ↦ rw w.at-is (written-within bs c.loop.at w.in-Ok.n here.0 w.in-Ok.ensures.bound, written-more bs c.loop.at _ _ _ w.in-Ok.n here.1 w.in-Ok.ensures.bytes)
      | in-Err w ↦ rw w.at-is (here.0, Appends-kept _ _ _ _ here.1 w.in-Err.ensures.bytes)
    ]
