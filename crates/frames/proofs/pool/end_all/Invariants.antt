use Rattle.std.proofs.Common.{vec_len}
use Rattle.frames.proofs.pool.end_all.Given as goal

abbrev pub decreases-loop-frame : goal.decreases-loop-frame
decreases-loop-frame l = vec_len l.free
