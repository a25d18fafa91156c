-- What contracts see of the pool of page frames, and of a frame.
use Rattle.std.specs.Prelude.{ℕ, ◌≤◌, List, map}

-- a frame: its number, and its 4,096 bytes
pub record FrameOf : Type 0 where
  pub number : ℕ
  pub bytes : List ℕ

-- the numbers of the free frames, how many frames there are, how many spares are in, and how many were made
pub record PoolOf : Type 0 where
  pub free : List ℕ
  pub frames : ℕ
  pub spares : ℕ
  pub most_spares : ℕ

abbrev pub numbers_of : List FrameOf → List ℕ
numbers_of frames = map (λ f. f.number) frames

-- what always holds of the spares of a pool: no more are in than were made, and there is room for so many
pub record AreSpares (spares most room : ℕ) : Type 0 where
  pub within : spares ≤ most
  pub all_fit : most ≤ room
