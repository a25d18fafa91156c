-- How a page in a frame leaves it: by a slot, or home.
use Rattle.std.proofs.Common.{◌≡◌, ℕ, Bool, true, false, Option, Some, None, refl, ap, arith}
use Rattle.machine.specs.Pages.{Content, Memory, OfFile, Held, Going, has_swap, home_block, is_anon}
use Rattle.block_store.specs.Slots.{SlotsOf}
use Rattle.pages.specs.declared.way.WayOut.TheVariants as way
use Rattle.pages.specs.PagesOf.{Label, labelled, way_of}
use Rattle.pages.specs.Transfers.{LeavesBy, block_for}
use Rattle.page_state.specs.declared.parts.Parts.{Parts}
use Rattle.page_state.specs.Room.{TakesSlot}
use Rattle.page_state.specs.Parts.{GoesTo}
use Rattle.page_state.specs.Owned.{has_this_block, PartsAgree}
use Rattle.page_state.proofs.BalanceLemmas.{Trades, taken-in}

-- memory goes to swap
pub swap-memory : (content : Content) (dirty : Bool) → way_of content dirty ≡ way.ToSwap → is_anon content ≡ true
swap-memory Memory dirty goes = refl
swap-memory (OfFile file q) true goes = absurd cc
swap-memory (OfFile file q) false goes = absurd cc

-- how a page leaves by what was taken for it
module _ (h : Parts) (is : PartsAgree h) (slots' : SlotsOf) where
  pub record Leaving (label : Label) (slot : Option ℕ) : Type 0 where
    pub by : LeavesBy label.content label.dirty slot
    pub to : GoesTo h label.content label.dirty (block_for h.pages.files label.content slot)
    pub blocks : slots'.blocks ≡ h.slots.blocks
    pub trades : (f n : ℕ) → Trades has_this_block has_swap h.slots.free slots'.free (Some (labelled label (Held f))) (Some (labelled label (Going f (block_for h.pages.files label.content slot) n)))

  pub leaving : (label : Label) (slot : Option ℕ) → TakesSlot (way_of label.content label.dirty) h.slots slots' slot → Leaving label slot
  leaving label slot takes = by_content label.content label.group label.dirty slot takes
    where
      by_content : (content : Content) (g : ℕ) (dirty : Bool) (s : Option ℕ) → TakesSlot (way_of content dirty) h.slots slots' s → Leaving (record { content = content; group = g; dirty = dirty }) s
      by_content Memory g dirty None takes = absurd takes
      by_content Memory g dirty (Some b) takes =
          record {
            by = tt;
            to = taken-in has_this_block has_swap h.slots.blocks h.slots.free slots'.free h.pages.pages b takes.counts is.kept.blocks;
            blocks = takes.blocks;
            trades = λ f n. record { counts = λ m. (let k = takes.counts m in omega (arith, k)); len = (let k = takes.fewer in omega (arith, k)) };
          }
      by_content (OfFile file q) g true None same =
          record {
            by = refl;
            to = (refl, ap (λ (first : ℕ). home_block first h.pages.files.sizes file q) is.homes);
            blocks = ap (λ (s : SlotsOf). s.blocks) same;
            trades = λ f n. rw same (record { counts = λ m. refl; len = refl });
          }
      by_content (OfFile file q) g true (Some b) takes = absurd takes
      by_content (OfFile file q) g false s takes = absurd (dropped s takes)
        where
          dropped : (s : Option ℕ) → TakesSlot way.Dropped h.slots slots' s → ⊥
          dropped None takes = takes
          dropped (Some b) takes = takes
