use Rattle.std.proofs.Common.{◌≡◌, ◌<◌, ℕ, get_or, false}
use Rattle.live.specs.Passes.{PassOf}
use Rattle.live.specs.Matching.{has_share}
use Rattle.live.proofs.RestLemmas.{IsWhole}
use Rattle.live.proofs.live.has_out.Given as goal

abbrev pub invariant-loop-pass : goal.invariant-loop-pass
invariant-loop-pass g l = record {
  none : (k : ℕ) (other : PassOf) → k < l.pass-index → has_share (get_or l.passes k other).kept ≡ false;
  whole : (k : ℕ) (other : PassOf) → k < l.pass-index → IsWhole (get_or l.passes k other);
}
