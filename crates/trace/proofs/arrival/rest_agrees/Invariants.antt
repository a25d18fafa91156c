use Rattle.std.proofs.Common.{◌≡◌, ℕ, ◌<◌, false}
use Rattle.std.specs.Prelude.{MatchBool, slice_index}
use Rattle.trace.specs.Settled.{is_settled, RestIs}
use Rattle.trace.proofs.arrival.rest_agrees.Given as goal

abbrev pub invariant-loop-at : goal.invariant-loop-at
invariant-loop-at l =
    MatchBool l.agree ((o : ℕ) → o < l.at → is_settled l.settled o ≡ false → slice_index l.bytes o ≡ slice_index l.other o) (RestIs l.bytes l.settled (slice_index l.other) → ⊥)
