-- A charge and a frame that were granted, taken back, or used for a page.
use Rattle.std.proofs.Common.{◌≡◌, ℕ, ◌<◌, true, false, length, Option, None, sym, ap, subst, ◌∙◌, arith}
use Rattle.std.specs.Prelude.{IfSome}
use Rattle.machine.specs.Slots.{there_and}
use Rattle.machine.specs.Tree.{is_live}
use Rattle.machine.specs.Pages.{Residence, Held, Pages, has_frame, has_this_frame, is_held, used_frames, used_swap, is_frame_taken}
use Rattle.machine.proofs.SlotLemmas.{count_there-some}
use Rattle.group_tree.specs.Lineages.{IsLineage}
use Rattle.group_tree.proofs.LineageLemmas.{live-within}
use Rattle.frames.specs.Pool.{PoolOf}
use Rattle.page_counter.specs.Counts.{Counts, usage_of, over_in}
use Rattle.pages.specs.PagesOf.{Label, HasResidence, pages_there, AreFiled}
use Rattle.page_state.specs.declared.parts.Parts.{Parts}
use Rattle.page_state.specs.Room.{TakesRoom}
use Rattle.page_state.specs.Parts.{over_of, IsGranted}
use Rattle.page_state.specs.Owned.{PartsAgree, IsCounted}
use Rattle.page_state.proofs.BalanceLemmas.{taken-in}
use Rattle.page_state.proofs.CountLemmas.{root-small, over-counted}
use Rattle.page_state.proofs.PartsLemmas.{there-owned, used-split}

-- the group of a page is there
pub stands-live : (c : Counts) (pages : Pages) (p : ℕ) (label : Label) (r : Residence) → HasResidence pages p label r → IsCounted c pages → is_live c.tree label.group ≡ true
stands-live c pages p label r stood counted = subst (λ slot. IfSome slot (λ page. is_live c.tree page.group ≡ true)) stood (counted.live p)

module _ (h : Parts) (is : PartsAgree h) where
  -- where a frame is free, a page more may come to be in transfer
  pub room-free : 0 < length h.pool.free → (length h.moving.numbers < h.moving.room) × (0 < h.pages.tickets)
  room-free some =
      let split = used-split h.pages.pages in
      let all = is.kept.frames.all in
      let moving = is.moving.len in
      let moving_room = is.moving_room in
      let tickets = is.tickets in
      (omega arith, omega arith)

  -- and a number is free for one
  pub number-free : AreFiled h.pages.files h.pages.pages → 0 < length h.pool.free → pages_there h.pages.pages < h.pages.numbers
  number-free are some =
      let owned = there-owned h.pages.files h.pages.pages are.filed in
      let frames = is.kept.frames.all in
      let blocks = is.kept.blocks.all in
      let numbers = is.numbers in
      omega (arith, owned, frames, blocks, numbers, some)

  -- a page in a frame may come to be in transfer
  pub room-held : (p : ℕ) (label : Label) (f : ℕ) → HasResidence h.pages.pages p label (Held f) → (length h.moving.numbers < h.moving.room) × (0 < h.pages.tickets)
  room-held p label f stood =
      let split = used-split h.pages.pages in
      let all = is.kept.frames.all in
      let moving = is.moving.len in
      let moving_room = is.moving_room in
      let tickets = is.tickets in
      let one = count_there-some is_held h.pages.pages p (ap (there_and is_held) stood) in
      (omega arith, omega arith)

  -- where a swap block is left, a slot is free
  pub swap-left : used_swap h.pages.pages < h.slots.blocks → 0 < length h.slots.free
  swap-left left = let all = is.kept.blocks.all in omega (arith, left, all)

  -- a group that is there has its lists
  pub group-listed : (g : ℕ) → is_live h.counters.tree g ≡ true → g < length h.held.lists.groups
  group-listed g live = let within = live-within h.counters.tree g live in let all = is.held_groups in omega (arith, within, all)

  -- the root counts few pages
  pub few-charged : IsLineage h.counters.tree → usage_of h.counters 0 < 18446744073709551615
  few-charged lineage = root-small h.counters h.pages.pages h.pool.frames (length h.pool.free) lineage is.kept.counted is.kept.frames.all is.few

  pub over-granted : (g : ℕ) (o : Option ℕ) → IsLineage h.counters.tree → is_live h.counters.tree g ≡ true → over_in h.counters g ≡ o → over_of h g ≡ o
  over-granted g o lineage live over = over-counted h.counters h.pages.pages g lineage is.kept.counted live ∙ over

  pub none-free : length h.pool.free ≡ 0 → used_frames h.pages.pages ≡ h.pool.frames
  none-free none = let all = is.kept.frames.all in omega (arith, all, none)

  -- where a charge is granted, no max is in its way and a frame is free
  pub granted-over : (g : ℕ) → IsLineage h.counters.tree → is_live h.counters.tree g ≡ true → IsGranted h g → over_in h.counters g ≡ None
  granted-over g lineage live granted = sym (over-counted h.counters h.pages.pages g lineage is.kept.counted live) ∙ granted.under

  pub granted-some : (g : ℕ) → IsGranted h g → 0 < length h.pool.free
  granted-some g granted = let all = is.kept.frames.all in let free = granted.free in omega (arith, all, free)

  module _ (counters' : Counts) (pool' : PoolOf) (g f charge : ℕ) (room : TakesRoom h.counters counters' h.pool pool' g f charge) where
    pub granted-frame : (f < h.pool.frames) × (is_frame_taken h.pages.pages f ≡ false)
    granted-frame = taken-in has_this_frame has_frame h.pool.frames h.pool.free pool'.free h.pages.pages f room.frame.counts is.kept.frames

    -- and a page can be told by it
    pub granted-framed : f < h.pages.frames
    granted-framed = let within = granted-frame.0 in let same = is.page_frames in omega (arith, within, same)
