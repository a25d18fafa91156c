-- What the end of a run says.
use Rattle.std.specs.Prelude.{◌≡◌, ◌⊎◌, ◌<◌, ℕ, true, List, length, slice_index_or}
use Rattle.machine.specs.declared.entry.Entry.{Entry}
use Rattle.machine.specs.State.{Opening, State}
use Rattle.machine.specs.Legal.{Legal}
use Rattle.live.specs.declared.report.Unfinished.{Unfinished}
use Rattle.live.specs.declared.report.Unfinished.TheVariants.{PassMissing}
use Rattle.live.specs.Passes.{PassOf}
use Rattle.live.specs.Matching.{has_share}

-- the history leads by steps of the plain machine from the opening to a state, newest entry first. (Excludes the trace of another machine.)
pub record IsLegal (opening : Opening) (history : List Entry) : Type 0 where
  pub state : State
  pub legal : Legal opening history state

-- one of the passes began a transfer that it did not end
pub record HasOut (passes : List PassOf) : Type 0 where
  pub place : ℕ
  pub other : PassOf
  pub within : place < length passes
  pub has : has_share (slice_index_or passes place other).kept ≡ true

-- why a run is not finished: so many passes were given out, and fewer were handed in, or one of these has a ticket out
abbrev pub IsMissing : List PassOf → Unfinished → Type 0
IsMissing passes (PassMissing given) = (length passes < given) ⊎ HasOut passes
