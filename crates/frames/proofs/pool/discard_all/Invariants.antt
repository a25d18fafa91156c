use Rattle.std.proofs.Common.{vec_len}
use Rattle.frames.proofs.pool.discard_all.Given as goal

abbrev pub decreases-loop-spare : goal.decreases-loop-spare
decreases-loop-spare l = vec_len l.spares
