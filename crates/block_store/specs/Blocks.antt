-- How a device in memory keeps its blocks. No public clause cites this.
use Rattle.std.specs.Prelude.{◌≡◌, ◌≢◌, ℕ, ◌+◌, ◌<◌, ◌≤◌, List, length, map, replicate, slice_index, slice_index_or}
use Rattle.machine.specs.Access.{page_size}
use Rattle.counts.specs.Numbers.{times}

-- the place of a block that was never written: no list of written blocks is as long
abbrev pub nowhere : ℕ
nowhere = 4294967295

-- the bytes at a place of the written blocks; past the last one a block has zeros
abbrev pub held_at : List (List ℕ) → ℕ → List ℕ
held_at written place = slice_index_or written place (replicate page_size 0)

-- the bytes of each block
abbrev pub contents_of : List (List ℕ) → List ℕ → List (List ℕ)
contents_of written places = map (held_at written) places

-- what always holds of the places of the blocks, of which so many were written: a block is at a place that was written or nowhere, no two are
-- at one place, all others are nowhere, and there is room for all
pub record ArePlaces (places : List ℕ) (written room : ℕ) : Type 0 where
  pub known : (i : ℕ) → i < length places → slice_index places i ≢ nowhere → slice_index places i < written
  pub apart : (i j : ℕ) → i < length places → j < length places → slice_index places i ≢ nowhere → slice_index places i ≡ slice_index places j → i ≡ j
  pub counted : times places nowhere + written ≡ length places
  pub all_fit : length places ≤ room
  pub countable : length places < 4294967296
