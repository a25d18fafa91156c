-- Room for a page: a charge and a frame, taken together.
use Rattle.std.specs.Prelude.{◌≡◌, ℕ, ◌+◌, ◌<◌, ◌==◌, if◌then◌else◌, List, ◌∷◌, length, Option, Some, None}
use Rattle.counts.specs.Numbers.{times}
use Rattle.frames.specs.Pool.{PoolOf}
use Rattle.block_store.specs.Slots.{SlotsOf}
use Rattle.pages.specs.declared.way.WayOut.{WayOut}
use Rattle.pages.specs.declared.way.WayOut.TheVariants as way
use Rattle.page_counter.specs.Counts.{Counts, AreCounts, Charges, over_in}

-- new lacks this frame, which old has free
pub record LacksFrame (old new : PoolOf) (f : ℕ) : Type 0 where
  pub counts : (n : ℕ) → times old.free n ≡ times new.free n + (if f == n then 1 else 0)
  pub fewer : length old.free ≡ length new.free + 1
  pub frames : new.frames ≡ old.frames
  pub spares : new.spares ≡ old.spares
  pub most_spares : new.most_spares ≡ old.most_spares
  pub out : times new.free f ≡ 0
  pub in_range : f < old.frames

-- new lacks this swap block, which old has free
pub record LacksBlock (old new : SlotsOf) (b : ℕ) : Type 0 where
  pub counts : (n : ℕ) → times old.free n ≡ times new.free n + (if b == n then 1 else 0)
  pub fewer : length old.free ≡ length new.free + 1
  pub blocks : new.blocks ≡ old.blocks

-- memory leaves its frame by a swap slot that was free, a page of a file by none
abbrev pub TakesSlot : WayOut → SlotsOf → SlotsOf → Option ℕ → Type 0
TakesSlot way.ToSwap old new (Some b) = LacksBlock old new b
TakesSlot way.ToHome old new None = new ≡ old
TakesSlot way old new slot = ⊥

-- a page is charged to g, and a frame was taken
pub record TakesRoom (counts counts' : Counts) (pool pool' : PoolOf) (g f charge : ℕ) : Type 0 where
  pub under : over_in counts g ≡ None
  pub group : charge ≡ g
  pub charged : Charges counts counts' g
  pub counted : (charges : List ℕ) → AreCounts counts charges → AreCounts counts' (charge ∷ charges)
  pub frame : LacksFrame pool pool' f
